-- How many fields there are once one is set.
use Rattle.std.proofs.Common.{◌≡◌, ℕ, ◌≤◌, ◌<◌, List, [], ◌∷◌, length, Option, Some, None, arith, length-append}
use Rattle.std.specs.Prelude.{is_none, nat_le, ◌&&◌, false}
use Rattle.std.proofs.lemmas.Bool.Decides.{nat_tests}
use Rattle.std.proofs.Math.ListN.{length-set}
use Rattle.sv_model.specs.declared.field.Field.{Field}
use Rattle.sv_model.specs.Field.{put_field, with_field, place_of_field}

below : (n m : ℕ) → nat_le n m ≡ false → m < n
below n m under = grind (arith, nat_tests)

length_put : (p : Option ℕ) (fields : List Field) (f : Field) (n : ℕ) → length fields ≤ n → is_none p && nat_le n (length fields) ≡ false
    → length (put_field p fields f) ≤ n
length_put (Some at) fields f n short room = omega (arith, length-set {A = Field})
length_put None fields f n short room = omega (arith, below n (length fields) room, length-append fields (f ∷ []))

-- fields within a limit stay within it, where the name has a place or there is room
pub length_with_field : (fields : List Field) (f : Field) (n : ℕ) → length fields ≤ n → is_none (place_of_field fields f.name) && nat_le n (length fields) ≡ false
    → length (with_field fields f) ≤ n
unfolding with_field
length_with_field fields f n short room = length_put (place_of_field fields f.name) fields f n short room
