-- Attributes that are equal.
use Rattle.std.proofs.Common.{◌≡◌, ℕ, Bool, List, [], ◌∷◌, refl, ap, ◌∙◌}
use Rattle.std.specs.Prelude.{◌&&◌, nat_eq, map}
use Rattle.std.specs.Cmp.Lexicographic.{pointwise}
use Rattle.std.specs.Bool.{Decides}
use Rattle.std.proofs.lemmas.Bool.Decides.{Decides-and, Decides-eqb, Decides-like}
use Rattle.std.proofs.lemmas.Slice.Eq.{slice_eq-Decides}
use Rattle.sv_model.specs.Attributes.{Attribute}

abbrev pub same_parts : Attribute → Attribute → Bool
same_parts a b = pointwise nat_eq a.0 b.0 && pointwise nat_eq a.1 b.1

decides_bytes : (a b : List ℕ) → Decides (pointwise nat_eq a b) (a ≡ b)
decides_bytes a b = slice_eq-Decides Decides-eqb a b (pointwise nat_eq a b) refl

decides_parts : (a b : Attribute) → Decides (same_parts a b) (a ≡ b)
decides_parts a b =
    Decides-like (same_parts a b) (λ (p : (a.0 ≡ b.0) × (a.1 ≡ b.1)) i. (p.0 i, p.1 i)) (λ (is : a ≡ b). (ap (λ (x : Attribute). x.0) is, ap (λ (x : Attribute). x.1) is))
    (Decides-and (pointwise nat_eq a.0 b.0) (pointwise nat_eq a.1 b.1) (decides_bytes a.0 b.0) (decides_bytes a.1 b.1))

mapped : {X : Type 0} (f : X → Attribute) (xs ys : List X) → pointwise (λ x y. same_parts (f x) (f y)) xs ys ≡ pointwise same_parts (map f xs) (map f ys)
mapped f [] [] = refl
mapped f [] (y ∷ ys) = refl
mapped f (x ∷ xs) [] = refl
mapped f (x ∷ xs) (y ∷ ys) = ap (λ b. same_parts (f x) (f y) && b) (mapped f xs ys)

pub decides_map : {X : Type 0} (f : X → Attribute) (xs ys : List X) (r : Bool) → r ≡ pointwise (λ x y. same_parts (f x) (f y)) xs ys → Decides r (map f xs ≡ map f ys)
decides_map f xs ys r is = slice_eq-Decides decides_parts (map f xs) (map f ys) r (is ∙ mapped f xs ys)
