-- One input more in a group, or one less.
use Rattle.sv_host.proofs.Prelude.{◌≡◌, ◌≤◌, ℕ, zero, suc, List, [], ◌∷◌, ◌++◌, length, get_or, ◌<◌, refl, ap, subst, sym, arith, remove, AllByRecursion, Input}
use Rattle.sv_host.proofs.Prelude.{Moment, IsInput, all_given, IsAbove, number_in, RiseIn, numbers_in}
use Rattle.sv_model.specs.declared.input.Input.TheVariants as input
use Rattle.sv_node.proofs.HistoryLemmas.{lower_all, lower_numbers}

pub all_within : (is : List (Moment × Input)) (i : Moment × Input) → AllByRecursion (λ x. IsInput x.1) is → IsInput i.1 → AllByRecursion (λ x. IsInput x.1) (is ++ i ∷ [])
all_within [] i all one = (one, tt)
all_within (x ∷ is) i all one = (all.0, all_within is i all.1 one)

pub rises_on : (low : ℕ) (is : List (Moment × Input)) (i : Moment × Input) → RiseIn low (all_given is) → IsAbove (numbers_in low (all_given is)) i.1 → RiseIn low (all_given (is ++ i ∷ []))
rises_on low [] i rise above = (above, tt)
rises_on low (x ∷ is) i rise above = (rise.0, rises_on (number_in low x.1) is i rise.1 above)

pub number_on : (low : ℕ) (is : List (Moment × Input)) (i : Moment × Input) → numbers_in low (all_given (is ++ i ∷ [])) ≡ number_in (numbers_in low (all_given is)) i.1
number_on low [] i = refl
number_on low (x ∷ is) i = number_on (number_in low x.1) is i

-- the one at a place
pub within_at : (is : List (Moment × Input)) (at : ℕ) (i : Moment × Input) → AllByRecursion (λ x. IsInput x.1) is → at < length is → i ≡ get_or is at i → IsInput i.1
within_at [] at i all within is = absurd (omega (arith, within))
within_at (x ∷ rest) zero i all within is = subst (λ (j : Moment × Input). IsInput j.1) (sym is) all.0
within_at (x ∷ rest) (suc at) i all within is = within_at rest at i all.1 (omega (arith, within)) is

-- ---- one less

-- there is none at a place
pub nothing_there : {A : Type 0} (xs : List A) (at : ℕ) → length xs ≤ at → remove xs at ≡ xs
nothing_there [] zero past = refl
nothing_there [] (suc at) past = refl
nothing_there (x ∷ xs) zero past = absurd (omega (arith, past))
nothing_there (x ∷ xs) (suc at) past = ap (λ rest. x ∷ rest) (nothing_there xs at (omega (arith, past)))

pub within_less : (is : List (Moment × Input)) (at : ℕ) → AllByRecursion (λ x. IsInput x.1) is → AllByRecursion (λ x. IsInput x.1) (remove is at)
within_less [] zero all = tt
within_less [] (suc at) all = tt
within_less (x ∷ is) zero all = all.1
within_less (x ∷ is) (suc at) all = (all.0, within_less is at all.1)

-- an input that may come doesn't lower the number
pub not_lower : (low : ℕ) (i : Input) → IsAbove low i → low ≤ number_in low i
not_lower low (input.Ask number r) above = omega (arith, above)
not_lower low (input.Packet p) above = omega arith
not_lower low input.Poke above = omega arith
not_lower low input.Tick above = omega arith
not_lower low (input.Move k to) above = omega arith

pub rises_less : (low : ℕ) (is : List (Moment × Input)) (at : ℕ) → RiseIn low (all_given is) → RiseIn low (all_given (remove is at))
rises_less low [] zero rise = tt
rises_less low [] (suc at) rise = tt
rises_less low (x ∷ is) zero rise = lower_all low (number_in low x.1) (all_given is) (not_lower low x.1 rise.0) rise.1
rises_less low (x ∷ is) (suc at) rise = (rise.0, rises_less (number_in low x.1) is at rise.1)

pub number_less : (low : ℕ) (is : List (Moment × Input)) (at : ℕ) → RiseIn low (all_given is) → numbers_in low (all_given (remove is at)) ≤ numbers_in low (all_given is)
number_less low [] zero rise = omega arith
number_less low [] (suc at) rise = omega arith
number_less low (x ∷ is) zero rise = lower_numbers low (number_in low x.1) (all_given is) (not_lower low x.1 rise.0)
number_less low (x ∷ is) (suc at) rise = number_less (number_in low x.1) is at rise.1
