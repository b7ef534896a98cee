-- A part of a Cookie field, cut at its first `=`, and the parts of a field's value.
use Rattle.sv_target.proofs.Prelude.{◌≡◌, ℕ, suc, ◌+◌, ◌≤◌, Bool, true, false, cond, Some, None, List, [], ◌∷◌, map, length, refl, ap, arith, is_some, nat_lt}
use Rattle.sv_target.proofs.Prelude.{list_any, position_or_len, nat_tests, cond_some}
use Rattle.std.proofs.Common.{◌||◌, not, take_all}
use Rattle.std.specs.Prelude.{position}
use Rattle.std.specs.List.{before_first}

-- a place one further on in a list that is one longer
next_place : (t u : Bool) (n m : ℕ) → is_some (cond (nat_lt n m) (Some n) None) ≡ u
    → is_some (cond (nat_lt (cond (not t) (1 + n) 0) (suc m)) (Some (cond (not t) (1 + n) 0)) None) ≡ (t || u)
next_place true u n m e = grind (arith, nat_tests)
next_place false u n m e = grind (arith, nat_tests)

-- an element passes exactly where the first that does has a place
pub is_some-position : {X : Type 0} (p : X → Bool) (xs : List X) → is_some (position p xs) ≡ list_any p xs
is_some-position p [] = refl
is_some-position p (x ∷ xs) = next_place (p x) (list_any p xs) (position_or_len p xs) (length xs) (is_some-position p xs)

-- the place that is found is that of the first
pub position_or_len-position : {X : Type 0} (p : X → Bool) (xs : List X) (i : ℕ) → position p xs ≡ Some i → position_or_len p xs ≡ i
position_or_len-position p xs i found = (cond_some _ _ _ found).1

pub map-map : {X Y Z : Type 0} (f : Y → Z) (g : X → Y) (xs : List X) → map f (map g xs) ≡ map (λ x. f (g x)) xs
map-map f g [] = refl
map-map f g (x ∷ xs) = ap (λ ys. f (g x) ∷ ys) (map-map f g xs)

cond_none : (a b : ℕ) → cond (nat_lt a b) (Some a) None ≡ None → b ≤ a
cond_none a b none = grind (arith, nat_tests)

-- where none passes, all of the list stands before it
pub before_none : {X : Type 0} (p : X → Bool) (xs : List X) → position p xs ≡ None → before_first p xs ≡ xs
before_none p xs none = take_all (position_or_len p xs) xs (cond_none _ _ none)
