-- When a segment is good.
use Rattle.sv_target.proofs.Prelude.{refl, ◌≡◌, ℕ, List, [], true, false, inl, inr, IsUtf8, cases_Bool, percent_decode, are_escapes, has_good_escapes}
use Rattle.sv_target.proofs.Prelude.{hides_dots, is_dots, is_good_segment}
use Rattle.std.specs.Str.{is_utf8}
use Rattle.std.proofs.lemmas.Str.{is_utf8-from_IsUtf8, IsUtf8-from_is_utf8}

pub good : (s : List ℕ) → has_good_escapes s ≡ true → IsUtf8 (percent_decode s) → hides_dots (percent_decode s) s ≡ false
    → is_good_segment s ≡ true
unfolding is_good_segment
good s escapes text shown = rw (escapes, is_utf8-from_IsUtf8 (percent_decode s) text, shown)

pub no_text : (s : List ℕ) → (IsUtf8 (percent_decode s) → ⊥) → is_good_segment s ≡ false
unfolding is_good_segment
no_text s none =
    elim (cases_Bool (is_utf8 (percent_decode s))) [
      | inl text ↦ absurd (none (IsUtf8-from_is_utf8 (percent_decode s) text))
      | inr other ↦ elim (cases_Bool (has_good_escapes s)) [
        | inl escapes ↦ rw (escapes, other)
        | inr bad ↦ rw bad
      ]
    ]

pub good_empty : is_good_segment [] ≡ true
unfolding has_good_escapes are_escapes is_dots percent_decode
good_empty = good [] refl ([], (refl, refl)) refl
