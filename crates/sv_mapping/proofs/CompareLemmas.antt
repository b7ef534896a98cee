-- Two texts that are compared byte by byte.
use Rattle.sv_mapping.proofs.Prelude.{◌≡◌, ℕ, ◌<◌, ◌≤◌, [], ◌∷◌, length, arith, refl, Greater, Text, text_cmp}

-- a text that goes on after the end of another
pub compared_longer : (t u : Text) → 1 ≤ length t → length u < 1 → Greater ≡ text_cmp t u
compared_longer [] u some none = absurd (omega arith)
compared_longer (a ∷ t) [] some none = refl
compared_longer (a ∷ t) (b ∷ u) some none = absurd (omega arith)
