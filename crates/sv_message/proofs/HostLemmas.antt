-- The bytes of a host, as the table has them.
use Rattle.sv_message.proofs.Prelude.{refl, ◌≡◌, ℕ, zero, suc, ◌<◌, Bool, true, false, get_or, inl, inr, arith, if◌then◌else◌}
use Rattle.std.proofs.Common.{◌&&◌}
use Rattle.std.specs.Prelude.{not}
use Rattle.std.proofs.lemmas.Bool.{and_parts, cases_lt}
use Rattle.sv_message.specs.Host.{is_host_byte}
use Rattle.sv_message.specs.declared.host.TheConstants.{HOST_BYTES}

-- a test of the numbers below n, which computes
unfoldable all_below : ℕ → (ℕ → Bool) → Bool
all_below zero test = true
all_below (suc n) test = test n && all_below n test

below_all : (n : ℕ) (test : ℕ → Bool) (k : ℕ) → all_below n test ≡ true → k < n → test k ≡ true
unfolding all_below
below_all zero test k all below = absurd (omega arith)
below_all (suc n) test k all below =
    let parts = and_parts (test n) (all_below n test) all in
    elim (cases_lt k n) [
      | inl less ↦ below_all n test k parts.1 less
      | inr top ↦ let same : k ≡ n = omega arith in rw same parts.0
    ]

abbrev same : Bool → Bool → Bool
same a b = if a then b else not b

same_bools : (a b : Bool) → same a b ≡ true → a ≡ b
same_bools true true is = refl
same_bools true false is = cc
same_bools false true is = cc
same_bools false false is = refl

pub host_byte_at : (b : ℕ) → b < 256 → get_or HOST_BYTES b false ≡ is_host_byte b
unfolding all_below is_host_byte
host_byte_at b below = same_bools _ _ (below_all 256 (λ b. same (get_or HOST_BYTES b false) (is_host_byte b)) b refl below)
