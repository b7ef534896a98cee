-- Tests that are joined.
use Rattle.sv_mapping.proofs.Prelude.{◌≡◌, ◌&&◌, Bool, true, false, List, [], ◌∷◌, map, refl, ap, sym, subst, list_any}
use Rattle.std.specs.Prelude.{T, ◌||◌}

pub true_test : (b : Bool) → T b → b ≡ true
true_test true h = refl
true_test false h = absurd h

pub test_true : (b : Bool) → b ≡ true → T b
test_true b e = subst T (sym e) tt

pub list_any_map : {A B : Type 0} (p : B → Bool) (f : A → B) (xs : List A) → list_any (λ x. p (f x)) xs ≡ list_any p (map f xs)
list_any_map p f [] = refl
list_any_map p f (x ∷ xs) = ap (λ b. p (f x) || b) (list_any_map p f xs)
