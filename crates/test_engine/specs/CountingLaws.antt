-- The laws of the engine of tests.
use Rattle.std.proofs.Common.{◌≡◌, ℕ, suc, ◌<◌, ◌≤◌, true, false, length, Option, Some, None, List, [], ◌∷◌, arith, refl, ⊎_elim}
use Rattle.std.specs.Prelude.{IfSome, ◌&&◌, nat_lt}
use Rattle.std.proofs.lemmas.Bool.{cond_both}
use Rattle.std.proofs.lemmas.Bool.Decides.{leb_tells}
use Rattle.std.proofs.lemmas.List.Elements.{All-nil}
use Rattle.sv_model.specs.Attributes.{Attribute}
use Rattle.sv_model.specs.declared.key.Key.{Key}
use Rattle.sv_model.specs.declared.key.Secret.{Secret}
use Rattle.sv_model.specs.declared.session.Session.{Session}
use Rattle.sv_model.specs.declared.outcome.Outcome.{Outcome}
use Rattle.sv_model.specs.declared.outcome.Fate.TheVariants.{Untouched}
use Rattle.sv_model.specs.Keys.{IsKey}
use Rattle.sv_model.specs.declared.event.Told.{Told}
use Rattle.sv_model.specs.Engine.{heard_all, TouchesOnlyHanded}
use Rattle.sv_model.specs.Limits.{KeepsLimits, KeepsWithin, BringsWithin, NamesKeys, IsWithinLimits}
use Rattle.sv_model.specs.Method.{is_head}
use Rattle.sv_model.specs.Session.{is_expired}
use Rattle.sv_model.proofs.AttributesLemmas.{attributes_size-nil}
use Rattle.test_engine.specs.Counting.{named_by, first_at, again_at, counts_at, counts}

first_within : (now : ℕ) (fresh : Key × Secret) → IsWithinLimits (first_at now fresh)
first_within now fresh = record {
  context = omega arith;
  count = omega arith;
  named = All-nil (λ (a : Attribute). 0 < length a.0);
  names = All-nil (λ (a : Attribute). length a.0 ≤ 128);
  values = All-nil (λ (a : Attribute). length a.1 ≤ 65_536);
  size = omega (arith, attributes_size-nil);
}

again_within : (now : ℕ) (s : Session) → IsWithinLimits s → IsWithinLimits (again_at now s)
again_within now s is = record { context = is.context; count = is.count; named = is.named; names = is.names; values = is.values; size = is.size }

abbrev IsWithin : Outcome → Type 0
IsWithin o = KeepsWithin o.fate × BringsWithin o.birth

counts_within : (held : Option (Key × Session)) (now : ℕ) (fresh : Key × Secret) → IfSome held (λ h. IsWithinLimits h.1) → IsWithin (counts_at held now fresh)
counts_within None now fresh within = (tt, first_within now fresh)
counts_within (Some (k, s)) now fresh within =
    cond_both (is_expired s now) _ _ (λ o. IsWithin o) (λ _. (tt, first_within now fresh)) (λ _. (again_within now s within, tt))

pub keeps_limits : (secret : Secret) → KeepsLimits (counts secret)
keeps_limits secret r held now fresh within = cond_both (is_head r.method) _ _ (λ o. IsWithin o) (λ _. (tt, tt)) (λ _. counts_within held now fresh within)

pub touches_only_handed : (secret : Secret) → TouchesOnlyHanded (counts secret)
touches_only_handed secret r now fresh = cond_both (is_head r.method) _ _ (λ (o : Outcome). o.fate ≡ Untouched) (λ _. refl) (λ _. refl)

both : (home serial : ℕ) → (nat_lt home 8 && nat_lt 0 serial) ≡ true → (home < 8) × (0 < serial)
both home serial is = ⊎_elim
    (λ (a : (nat_lt home 8 ≡ true) × (suc home ≤ 8)). ⊎_elim
    (λ (b : (nat_lt 0 serial ≡ true) × (1 ≤ serial)). (a.1, b.1))
    (λ (b : (nat_lt 0 serial ≡ false) × (serial < 1)). absurd (let h = a.0 in let k = b.0 in cc))
    (leb_tells 1 serial))
    (λ (a : (nat_lt home 8 ≡ false) × (8 < suc home)). absurd (let h = a.0 in cc))
    (leb_tells (suc home) 8)

named_keys : (secret : Secret) (body : List ℕ) → IfSome (named_by secret body) (λ n. IsKey n.0)
named_keys secret [] = tt
named_keys secret (home ∷ []) = tt
named_keys secret (home ∷ serial ∷ []) = cond_both (nat_lt home 8 && nat_lt 0 serial) _ _ (λ o. IfSome o (λ n. IsKey n.0)) (λ is. both home serial is) (λ _. tt)
named_keys secret (home ∷ serial ∷ more ∷ rest) = tt

pub names_keys : (secret : Secret) → NamesKeys (counts secret)
names_keys secret r = named_keys secret r.body

-- its listeners note nothing
pub hears_nothing : (secret : Secret) (told : List Told) → heard_all (counts secret) [] told ≡ []
hears_nothing secret [] = refl
hears_nothing secret (t ∷ ts) = hears_nothing secret ts
