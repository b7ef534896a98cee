-- What stands in a list, and a list with one more.
use Rattle.std.specs.Prelude.{◌≡◌, ◌⊎◌, Option, Some, None, List, [], ◌∷◌, ◌++◌}

abbrev pub In : {A : Type 0} → A → List A → Type 0
In x [] = ⊥
In x (y ∷ ys) = (y ≡ x) ⊎ In x ys

-- a list with one more, where there is one
abbrev pub with_last : {A : Type 0} → List A → Option A → List A
with_last xs None = xs
with_last xs (Some x) = xs ++ x ∷ []
