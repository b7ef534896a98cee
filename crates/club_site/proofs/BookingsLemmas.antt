-- The list of bookings as JSON.
use Rattle.std.proofs.Common.{◌≡◌, ℕ, false, List, [], ◌∷◌, refl}
use Rattle.serde_json.specs.Written.{has_float}
use Rattle.club_site.specs.Bookings.{list_data}

-- no number of it is a fraction
pub no_floats : (slots : List ℕ) → has_float (list_data slots) ≡ false
no_floats [] = refl
no_floats (slot ∷ slots) = no_floats slots
