-- The laws of the engine of this crate's tests.
use Rattle.std.proofs.Common.{ℕ, ◌<◌, ◌≤◌, length, Option, Some, None, arith}
use Rattle.std.proofs.lemmas.List.Elements.{All-nil}
use Rattle.sv_model.specs.Attributes.{Attribute}
use Rattle.sv_model.specs.declared.key.Key.{Key}
use Rattle.sv_model.specs.declared.key.Secret.{Secret}
use Rattle.sv_model.specs.Limits.{KeepsLimits, IsWithinLimits}
use Rattle.sv_model.proofs.AttributesLemmas.{attributes_size-nil}
use Rattle.test_requests.specs.Turns.{turns, made_at}

-- a session without attributes is within the limits
made_within : (now : ℕ) (fresh : Key × Secret) → IsWithinLimits (made_at now fresh)
made_within now fresh = record {
  context = omega arith;
  count = omega arith;
  named = All-nil (λ (a : Attribute). 0 < length a.0);
  names = All-nil (λ (a : Attribute). length a.0 ≤ 128);
  values = All-nil (λ (a : Attribute). length a.1 ≤ 65_536);
  size = omega (arith, attributes_size-nil);
}

pub turns_within : (named : Option (Key × Secret)) → KeepsLimits (turns named)
turns_within named r None now fresh within = (tt, made_within now fresh)
turns_within named r (Some held) now fresh within = (tt, tt)
