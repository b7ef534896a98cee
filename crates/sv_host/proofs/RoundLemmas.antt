-- The packets of a tick, counted one by one.
use Rattle.sv_host.proofs.Prelude.{◌≡◌, ◌<◌, ℕ, ◌+◌, List, ◌∷◌, length, get_or, drop, ap, sym, ◌∙◌, add-one, drop-cons, sum_by-cons, sum_by, Output}

-- the one at a place, and those after it
pub sum_on : (f : Output → ℕ) (os : List Output) (i : ℕ) (o : Output) → i < length os → o ≡ get_or os i o
    → sum_by f (drop i os) ≡ f o + sum_by f (drop (i + 1) os)
sum_on f os i o within is =
    let front : drop i os ≡ o ∷ drop (i + 1) os = drop-cons os i o within ∙ (λ j. sym is j ∷ drop (sym (add-one i) j) os) in
    ap (λ xs. sum_by f xs) front ∙ sum_by-cons f o (drop (i + 1) os)
