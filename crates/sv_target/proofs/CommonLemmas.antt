-- The target of most requests.
use Rattle.sv_target.proofs.Prelude.{refl, sym, ◌∙◌, ap, subst, ◌≡◌, ℕ, ◌<◌, ◌≤◌, List, [], ◌∷◌, get_or, length, take, Some, None, true, false, inl, inr, arith}
use Rattle.sv_target.proofs.Prelude.{◌&&◌, ◌||◌, IsUtf8, not, nat_le, nat_lt, if◌then◌else◌, list_all, list_any, onto_first, slice_split, take-length}
use Rattle.sv_target.proofs.Prelude.{and_parts, cases_Bool, eqb-true, ltb-true, not-true, index_of, is_path_byte, query_of, Target, canonical_path}
use Rattle.sv_target.proofs.Prelude.{is_plain_byte, is_plain_segment, is_slash, IsTarget, common_from, is_origin_form, is_refused_byte, target_at}
use Rattle.sv_target.proofs.Prelude.{target_within}
use Rattle.std.specs.Prelude.{Bool, ◌==◌}
use Rattle.std.proofs.lemmas.Bool.{and_right, le-leb, le-ltb}
use Rattle.sv_target.specs.declared.target.TheConstants.{COMMON_BYTES}
use Rattle.sv_target.specs.Target.{IsCommon, is_common_byte}
use Rattle.sv_target.proofs.DigitLemmas.{all_below, below_all}
use Rattle.sv_target.proofs.OriginLemmas.{read_within}
use Rattle.sv_target.proofs.PlainLemmas.{canonical_plain}

-- a byte of a path that no target refuses, and that ends none
abbrev is_served : ℕ → Bool
is_served b = is_path_byte b && (not (is_refused_byte b) && not (b == 63))

abbrev serves_common : ℕ → Bool
serves_common b = not (is_common_byte b) || is_served b

or_left : (a b : Bool) → (not a || b) ≡ true → a ≡ true → b ≡ true
or_left true b is holds = is
or_left false b is holds = cc

served : (b : ℕ) → is_common_byte b ≡ true → is_served b ≡ true
unfolding all_below
served b common =
    let below : b < 128 = ltb-true b 128 (and_parts _ _ common).0 in
    or_left (is_common_byte b) (is_served b) (below_all 128 serves_common b refl below) common

path_bytes : (text : List ℕ) → list_all is_common_byte text ≡ true → list_all is_path_byte text ≡ true
path_bytes [] common = refl
path_bytes (b ∷ text) common =
    let p = and_parts (is_common_byte b) (list_all is_common_byte text) common in
    let here : is_path_byte b ≡ true = (and_parts (is_path_byte b) _ (served b p.0)).0 in
    rw (here, path_bytes text p.1) refl

clean : (text : List ℕ) → list_all is_common_byte text ≡ true → list_any is_refused_byte text ≡ false
clean [] common = refl
clean (b ∷ text) common =
    let p = and_parts (is_common_byte b) (list_all is_common_byte text) common in
    let parts = and_parts (is_path_byte b) (not (is_refused_byte b) && not (b == 63)) (served b p.0) in
    let here : is_refused_byte b ≡ false = not-true _ (and_parts (not (is_refused_byte b)) (not (b == 63)) parts.1).0 in
    rw (here, clean text p.1) refl

unasked : (text : List ℕ) → list_all is_common_byte text ≡ true → index_of 63 text ≡ length text
unasked [] common = refl
unasked (b ∷ text) common =
    let p = and_parts (is_common_byte b) (list_all is_common_byte text) common in
    let parts = and_parts (is_path_byte b) (not (is_refused_byte b) && not (b == 63)) (served b p.0) in
    let here : (b == 63) ≡ false = not-true _ (and_parts (not (is_refused_byte b)) (not (b == 63)) parts.1).1 in
    let others : index_of 63 text ≡ length text = unasked text p.1 in
    rw here (omega (arith, others))

whole_path : (text : List ℕ) → list_all is_common_byte text ≡ true → take (index_of 63 text) text ≡ text
whole_path text common = ap (λ (n : ℕ). take n text) (unasked text common) ∙ take-length text

no_query : (text : List ℕ) → list_all is_common_byte text ≡ true → query_of text ≡ None
no_query text common =
    let none : nat_lt (index_of 63 text) (length text) ≡ false = le-ltb (index_of 63 text) (length text) (omega (arith, unasked text common)) in
    rw none

abbrev pub common : List ℕ → Target
common text = record { raw_path = text; path = text; query = None }

found_within : (rest : List ℕ) → length (47 ∷ rest) ≤ 65534 → list_all is_common_byte rest ≡ true → canonical_path (47 ∷ rest) ≡ Some (47 ∷ rest)
    → target_within (47 ∷ rest) ≡ Some (common (47 ∷ rest))
unfolding target_within is_origin_form target_at
found_within rest short bytes canonical =
    let text = 47 ∷ rest in
    let all : list_all is_common_byte text ≡ true = bytes in
    let fits : nat_le (length text) 65534 ≡ true = le-leb (length text) 65534 short in
    let some : (length text == 0) ≡ false = elim (cases_Bool (length text == 0)) [ inl none ↦ absurd (omega (arith, eqb-true (length text) 0 none)) | inr other ↦ other ] in
    rw (clean text all, whole_path text all, no_query text all, path_bytes text all, fits, some, canonical)

pub common_is_target : (text : List ℕ) → IsUtf8 text → IsCommon text → IsTarget text (common text)
common_is_target text utf8 is =
    let at : IsUtf8 (47 ∷ is.rest) = subst IsUtf8 is.rooted utf8 in
    let short : length (47 ∷ is.rest) ≤ 65534 = subst (λ (t : List ℕ). length t ≤ 65534) is.rooted is.short in
    let found = found_within is.rest short is.bytes (canonical_plain is.rest is.segments) in
    subst (λ (t : List ℕ). IsTarget t (common t)) (sym is.rooted) ((read_within is.rest at).2 (common (47 ∷ is.rest)) found)

-- ---- the table of such bytes

abbrev same : Bool → Bool → Bool
same a b = if a then b else not b

same_bools : (a b : Bool) → same a b ≡ true → a ≡ b
same_bools true true is = refl
same_bools true false is = cc
same_bools false true is = cc
same_bools false false is = refl

pub common_byte_at : (b : ℕ) → b < 256 → get_or COMMON_BYTES b false ≡ is_common_byte b
unfolding all_below
common_byte_at b below = same_bools _ _ (below_all 256 (λ b. same (get_or COMMON_BYTES b false) (is_common_byte b)) b refl below)

-- ---- what one look at the bytes tells

abbrev plain_by_common : ℕ → Bool
plain_by_common b = not (is_common_byte b) || is_plain_byte b

plain_byte : (b : ℕ) → is_common_byte b ≡ true → is_plain_byte b ≡ true
unfolding all_below
plain_byte b common =
    let below : b < 128 = ltb-true b 128 (and_parts _ _ common).0 in
    or_left (is_common_byte b) (is_plain_byte b) (below_all 128 plain_by_common b refl below) common

pub common_bytes : (begins : Bool) (text : List ℕ) → common_from begins text ≡ true → list_all is_common_byte text ≡ true
common_bytes begins [] is = refl
common_bytes begins (b ∷ text) is =
    let p = and_parts (is_common_byte b && not (begins && b == 46)) (common_from (b == 47) text) is in
    let here = and_parts (is_common_byte b) (not (begins && b == 46)) p.0 in
    rw (here.0, common_bytes (b == 47) text p.1) refl

-- segments, the first of which may go on from bytes before it
abbrev are_plain : Bool → List (List ℕ) → Bool
are_plain true ss = list_all is_plain_segment ss
are_plain false [] = true
are_plain false (s ∷ ss) = list_all is_plain_byte s && list_all is_plain_segment ss

plain_onto : (begins : Bool) (b : ℕ) (ss : List (List ℕ)) → is_plain_byte b ≡ true → not (begins && b == 46) ≡ true
    → are_plain false ss ≡ true → are_plain begins (onto_first b ss) ≡ true
plain_onto true b [] plain undotted rest = rw (plain, not-true (b == 46) undotted) refl
plain_onto false b [] plain undotted rest = rw plain refl
plain_onto true b (s ∷ ss) plain undotted rest =
    let p = and_parts (list_all is_plain_byte s) (list_all is_plain_segment ss) rest in
    rw (plain, not-true (b == 46) undotted, and_right (nat_lt 0 (length (b ∷ s))) false refl, p.0, p.1) refl
plain_onto false b (s ∷ ss) plain undotted rest =
    let p = and_parts (list_all is_plain_byte s) (list_all is_plain_segment ss) rest in
    rw (plain, p.0, p.1) refl

plain_after : (begins : Bool) (ss : List (List ℕ)) → are_plain true ss ≡ true → are_plain begins ([] ∷ ss) ≡ true
plain_after true ss plain = plain
plain_after false ss plain = plain

pub common_segments : (begins : Bool) (text : List ℕ) → common_from begins text ≡ true → are_plain begins (slice_split is_slash text) ≡ true
common_segments true [] is = refl
common_segments false [] is = refl
common_segments begins (b ∷ text) is =
    let p = and_parts (is_common_byte b && not (begins && b == 46)) (common_from (b == 47) text) is in
    let here = and_parts (is_common_byte b) (not (begins && b == 46)) p.0 in
    elim (cases_Bool (b == 47)) [
      | inl slash ↦
          let more : common_from true text ≡ true = rw slash at p.1 in
          rw slash (plain_after begins (slice_split is_slash text) (common_segments true text more))
      | inr other ↦
          let more : common_from false text ≡ true = rw other at p.1 in
          rw other (plain_onto begins b (slice_split is_slash text) (plain_byte b here.0) here.1 (common_segments false text more))
    ]
