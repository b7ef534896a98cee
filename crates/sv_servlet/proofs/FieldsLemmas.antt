-- The fields once one is set, and how many there are.
use Rattle.std.proofs.Common.{◌≡◌, ◌∙◌, ap, sym, subst, refl, ℕ, ◌≤◌, ◌<◌, false, List, [], ◌∷◌, length, get_or, Option, Some, None, arith, length-append}
use Rattle.std.specs.Prelude.{◌+◌, ◌++◌, ◌&&◌, take, drop, is_none, nat_le, slice_set}
use Rattle.std.specs.List.{filter}
use Rattle.std.specs.Str.{bytes_eq}
use Rattle.std.proofs.lemmas.Bool.Decides.{nat_tests}
use Rattle.std.proofs.lemmas.List.{append_assoc, length-take, length-drop, set_at, take_more}
use Rattle.std.proofs.lemmas.List.Quantifiers.{position-Some}
use Rattle.std.proofs.lemmas.List.Sums.{length-filter, count_by-le-length}
use Rattle.sv_model.specs.declared.field.Field.{Field}
use Rattle.sv_model.specs.Field.{place_of_field}
use Rattle.sv_servlet.specs.Fields.{has_other_name, put_only, with_only}

module _ (old new : List Field) (at : ℕ) (f : Field) (within : at < length old) (cleared : new ≡ take (at + 1) old ++ filter (has_other_name f.name) (drop (at + 1) old)) where
  abbrev rest : List Field
  rest = filter (has_other_name f.name) (drop (at + 1) old)

  front : length (take at old) ≡ at
  front = omega (arith, within, length-take at old)

  split : new ≡ take at old ++ get_or old at f ∷ rest
  split = cleared ∙ (ap (λ (l : List Field). l ++ rest) (take_more old at f within) ∙ append_assoc (take at old) (get_or old at f ∷ []) rest)

  put_there : slice_set new at f ≡ put_only (Some at) old f
  put_there = ap (λ (l : List Field). slice_set l at f) split ∙ set_at (take at old) (get_or old at f) rest f at front

  put_with : place_of_field old f.name ≡ Some at → slice_set new at f ≡ with_only old f
  unfolding with_only
  put_with place = put_there ∙ ap (λ (p : Option ℕ). put_only p old f) (sym place)

-- the field is put at the place where one of its name was found, once those after it are taken away
pub with_only_at : (old seen new : List Field) (at : ℕ) (f : Field) (name : List ℕ) → seen ≡ old → name ≡ f.name → Some at ≡ place_of_field seen f.name → at < length seen
    → new ≡ take (at + 1) old ++ filter (has_other_name name) (drop (at + 1) old) → slice_set new at f ≡ with_only old f
with_only_at old seen new at f name same named place within cleared =
    put_with old new at f (subst (λ (l : List Field). at < length l) same within)
    (cleared ∙ ap (λ (n : List ℕ). take (at + 1) old ++ filter (has_other_name n) (drop (at + 1) old)) named)
    (sym (place ∙ ap (λ (l : List Field). place_of_field l f.name) same))

below : (n m : ℕ) → nat_le n m ≡ false → m < n
below n m under = grind (arith, nat_tests)

length_put : (place : Option ℕ) (fields : List Field) (f : Field) (n : ℕ) → place_of_field fields f.name ≡ place → length fields ≤ n
    → is_none place && nat_le n (length fields) ≡ false → length (put_only place fields f) ≤ n
length_put (Some at) fields f n is short room =
    let inside = (position-Some (λ (g : Field). bytes_eq g.name f.name) fields at f is).0 in
    let behind = drop (at + 1) fields in
    omega (
      arith,
      inside,
      length-append (take at fields) (f ∷ filter (has_other_name f.name) behind),
      length-take at fields,
      length-drop (at + 1) fields,
      length-filter (has_other_name f.name) behind,
      count_by-le-length (has_other_name f.name) behind,
    )
length_put None fields f n is short room = omega (arith, below n (length fields) room, length-append fields (f ∷ []))

-- fields within a limit stay within it, where the name has a place or there is room
pub length_with_only : (fields : List Field) (f : Field) (n : ℕ) → length fields ≤ n → is_none (place_of_field fields f.name) && nat_le n (length fields) ≡ false
    → length (with_only fields f) ≤ n
unfolding with_only
length_with_only fields f n short room = length_put (place_of_field fields f.name) fields f n refl short room
