-- What is told without a commit: its last is a mark.
use Rattle.sv_world.proofs.Prelude.{◌≡◌, ◌++◌, ℕ, ◌∷◌, [], List, Option, Some, None, false, arith, refl, sym, ap, ◌∙◌, subst, append-nil, option_to_list, Told}
use Rattle.sv_world.proofs.Prelude.{parted}
use Rattle.std.proofs.Common.{length}
use Rattle.std.specs.Prelude.{MatchOption}
use Rattle.sv_core.specs.Decision.{but_last, last_of}

but_last_snoc : (t : Told) (xs : List Told) (x : Told) → but_last t (xs ++ x ∷ []) ≡ t ∷ xs
but_last_snoc t [] x = refl
but_last_snoc t (y ∷ ys) x = ap (λ ts. t ∷ ts) (but_last_snoc y ys x)

last_snoc : (t : Told) (xs : List Told) (x : Told) → last_of t (xs ++ x ∷ []) ≡ x
last_snoc t [] x = refl
last_snoc t (y ∷ ys) x = last_snoc y ys x

parted_snoc : (xs : List Told) (x : Told) → (xs, Some x) ≡ parted false (xs ++ x ∷ [])
parted_snoc [] x = refl
parted_snoc (y ∷ ys) x = λ i. (sym (but_last_snoc y ys x) i, Some (sym (last_snoc y ys x) i))

parted_none : (told rest : List Told) → told ≡ rest ++ [] → length told ≡ 0 → (rest, None) ≡ parted false told
parted_none [] rest is none = λ i. ((sym (append-nil rest) ∙ sym is) i, None)
parted_none (t ∷ ts) rest is none = absurd (omega (arith, none))

pub parted_is : (told rest : List Told) (o : Option Told) (n : ℕ) (A : Type 0) (B : Told → Type 0) → told ≡ rest ++ option_to_list o → length told ≡ n → MatchOption o ((n ≡ 0) × A) B → (rest, o) ≡ parted false told
parted_is told rest None n A B is len none = parted_none told rest is (len ∙ none.0)
parted_is told rest (Some x) n A B is len none = subst (λ ts. (rest, Some x) ≡ parted false ts) (sym is) (parted_snoc rest x)
