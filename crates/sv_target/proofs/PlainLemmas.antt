-- A path whose segments stand for themselves is its own canonical one.
use Rattle.sv_target.proofs.Prelude.{refl, sym, ◌∙◌, ap, ◌≡◌, ℕ, zero, suc, List, [], ◌∷◌, ◌++◌, length, map, take, Some, true, false, inl, inr, arith, ◌&&◌}
use Rattle.sv_target.proofs.Prelude.{◌||◌, bytes_eq, codes, not, nat_lt, fold, position_or_len, list_all, list_any, onto_first, slice_split, cases_Bool}
use Rattle.sv_target.proofs.Prelude.{eqb-true, ltb-true, or_parts, and_parts, not-true, take-length, append_assoc, append-nil, percent_decode, cut}
use Rattle.sv_target.proofs.Prelude.{has_good_escapes, hides_dots, is_dots, is_good_segment, is_percent, canonical_path, ends_in_dots, is_plain_byte}
use Rattle.sv_target.proofs.Prelude.{is_plain_segment, is_slash, resolved, segments, step}
use Rattle.std.specs.Prelude.{Bool, ◌==◌}
use Rattle.std.specs.Str.{IsAscii}
use native.Mathlib.Numerals.{unary_clauses}
use Rattle.std.proofs.lemmas.Bool.{lt-ltb}
use Rattle.std.proofs.lemmas.Str.{IsUtf8-from_ascii}
use Rattle.sv_target.specs.Segment.{is_semicolon}
use Rattle.sv_target.specs.Path.{begins_with_dot, path_text}
use Rattle.sv_target.proofs.PathLemmas.{resolved_open}
use Rattle.sv_target.proofs.SegmentLemmas.{good}

-- of each byte
no_percent : (b : ℕ) → is_plain_byte b ≡ true → (b == 37) ≡ false
no_percent b plain = not-true (b == 37) (and_parts _ _ (and_parts _ _ plain).1).0

no_semicolon : (b : ℕ) → is_plain_byte b ≡ true → (b == 59) ≡ false
no_semicolon b plain = not-true (b == 59) (and_parts _ _ (and_parts _ _ plain).1).1

-- nothing of it is cut off
uncut : (s : List ℕ) → list_all is_plain_byte s ≡ true → position_or_len is_semicolon s ≡ length s
uncut [] plain = refl
uncut (b ∷ s) plain =
    let p = and_parts _ _ plain in
    let others : position_or_len is_semicolon s ≡ length s = uncut s p.1 in
    rw (no_semicolon b p.0) (omega arith)

cut_plain : (s : List ℕ) → list_all is_plain_byte s ≡ true → cut s ≡ s
cut_plain s plain = ap (λ (n : ℕ). take n s) (uncut s plain) ∙ take-length s

-- it has no escape
unescaped : (s : List ℕ) → list_all is_plain_byte s ≡ true → list_any is_percent s ≡ false
unescaped [] plain = refl
unescaped (b ∷ s) plain =
    let p = and_parts _ _ plain in
    rw (no_percent b p.0) (unescaped s p.1)

decode_plain : (s : List ℕ) → list_all is_plain_byte s ≡ true → percent_decode s ≡ s
unfolding percent_decode
decode_plain [] plain = refl
decode_plain (b ∷ []) plain = refl
decode_plain (b ∷ c ∷ []) plain = refl
decode_plain (b ∷ high ∷ low ∷ rest) plain =
    let p = and_parts _ _ plain in
    rw (no_percent b p.0) (ap (λ (t : List ℕ). b ∷ t) (decode_plain (high ∷ low ∷ rest) p.1))

ascii_plain : (s : List ℕ) → list_all is_plain_byte s ≡ true → IsAscii s
ascii_plain [] plain i = omega arith
ascii_plain (b ∷ s) plain zero = ltb-true b 128 (and_parts _ _ (and_parts _ _ plain).0).0
ascii_plain (b ∷ s) plain (suc i) = ascii_plain s (and_parts _ _ plain).1 i

-- it is or_parts `.` nor `..`
no_dots : (s : List ℕ) → begins_with_dot s ≡ false → is_dots s ≡ false
unfolding is_dots
no_dots [] starts = refl
no_dots (b ∷ s) starts =
    let some : nat_lt 0 (length (b ∷ s)) ≡ true = lt-ltb 0 (length (b ∷ s)) (omega arith) in
    elim (cases_Bool (b == 46)) [
      | inl dot ↦ cc (rw (some, dot) at starts)
      | inr other ↦ rw other
    ]

good_plain : (s : List ℕ) → is_plain_segment s ≡ true → is_good_segment s ≡ true
unfolding has_good_escapes
good_plain s plain =
    let p = and_parts _ _ plain in
    let decoded = decode_plain s p.1 in
    let escapes : has_good_escapes s ≡ true = rw (unescaped s p.1) in
    let shown : hides_dots (percent_decode s) s ≡ false = rw (decoded, no_dots s (not-true _ p.0)) in
    good s escapes (rw decoded (IsUtf8-from_ascii s (ascii_plain s p.1))) shown

-- it stays as it is
step_plain : (kept : List (List ℕ)) (s : List ℕ) → is_plain_segment s ≡ true → step (Some kept) s ≡ Some (kept ++ s ∷ [])
unfolding is_dots
step_plain kept s plain =
    let p = and_parts _ _ plain in
    let dots : (bytes_eq s (codes ".") ≡ false) × (bytes_eq s (codes "..") ≡ false) = or_parts _ _ (no_dots s (not-true _ p.0)) in
    rw (good_plain s plain, dots.0, dots.1, decode_plain s p.1)

fold_plain : (ss kept : List (List ℕ)) → list_all is_plain_segment ss ≡ true → fold step (Some kept) ss ≡ Some (kept ++ ss)
fold_plain [] kept plain = ap Some (sym (append-nil kept))
fold_plain (s ∷ ss) kept plain =
    let p = and_parts _ _ plain in
    rw (step_plain kept s p.0) (fold_plain ss (kept ++ s ∷ []) p.1 ∙ ap Some (append_assoc kept (s ∷ []) ss))

map_plain : (ss : List (List ℕ)) → list_all is_plain_segment ss ≡ true → map cut ss ≡ ss
map_plain [] plain = refl
map_plain (s ∷ ss) plain =
    let p : (is_plain_segment s ≡ true) × (list_all is_plain_segment ss ≡ true) = and_parts _ _ plain in
    let here : cut s ≡ s = cut_plain s (and_parts _ _ p.0).1 in
    let others : map cut ss ≡ ss = map_plain ss p.1 in
    cc

last_plain : (ss : List (List ℕ)) → list_all is_plain_segment ss ≡ true → ends_in_dots ss ≡ false
unfolding is_dots
last_plain [] plain = refl
last_plain (s ∷ []) plain = no_dots s (not-true _ (and_parts _ _ (and_parts _ _ plain).0).0)
last_plain (s ∷ t ∷ ss) plain = simp unary_clauses (simp unary_clauses at (last_plain (t ∷ ss) (and_parts _ _ plain).1))

onto : (b : ℕ) (rest : List ℕ) (ss : List (List ℕ)) → path_text ss ≡ 47 ∷ rest → path_text (onto_first b ss) ≡ 47 ∷ b ∷ rest
onto b rest [] is = cc
onto b rest (s ∷ ss) is =
    let tail : s ++ path_text ss ≡ rest = cc in
    ap (λ (t : List ℕ). 47 ∷ b ∷ t) tail

-- the parts after a slash each are the text that was cut
joined : (rest : List ℕ) → path_text (slice_split is_slash rest) ≡ 47 ∷ rest
joined [] = refl
joined (b ∷ rest) =
    elim (cases_Bool (is_slash b)) [
      | inl slash ↦ rw slash (ap (λ (t : List ℕ). 47 ∷ t) (joined rest ∙ ap (λ (n : ℕ). n ∷ rest) (sym (eqb-true b 47 slash))))
      | inr other ↦ rw other (onto b rest (slice_split is_slash rest) (joined rest))
    ]

pub canonical_plain : (rest : List ℕ) → list_all is_plain_segment (slice_split is_slash rest) ≡ true → canonical_path (47 ∷ rest) ≡ Some (47 ∷ rest)
unfolding canonical_path segments
canonical_plain rest plain =
    let ss = slice_split is_slash rest in
    let same : segments rest ≡ ss = map_plain ss plain in
    let kept : resolved ss ≡ Some ss = resolved_open ss ss (last_plain ss plain) (fold_plain ss [] plain) in
    rw (same, kept) (ap Some (joined rest))
