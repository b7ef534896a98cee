-- Words of a command line, by how many they are.
use Rattle.std.proofs.Common.{◌≡◌, ℕ, ◌≤◌, List, [], ◌∷◌, length, map, arith, refl}
use Rattle.sv_launch.specs.Words.{command_in, of_more}

-- four words and more are a node's, after its options
pub four_and_more : {A : Type 0} (view : A → List ℕ) (words : List A) → 4 ≤ length words → of_more (map view words) ≡ command_in (map view words)
four_and_more view [] many = absurd (omega (arith, many))
four_and_more view (first ∷ []) many = absurd (omega (arith, many))
four_and_more view (first ∷ second ∷ []) many = absurd (omega (arith, many))
four_and_more view (first ∷ second ∷ third ∷ []) many = absurd (omega (arith, many))
four_and_more view (first ∷ second ∷ third ∷ fourth ∷ more) many = refl
