-- Entries that are gathered from a piece: of the piece a rest is left, and of whatever stands on the disk as much.
use Rattle.std.proofs.Common.{◌≡◌, ℕ, ◌+◌, ◌-◌, ◌≤◌, min, List, [], ◌∷◌, ◌++◌, length, take, drop, sym, ◌∙◌, ap, subst, arith, length-append, length-drop, take-append-drop}
use Rattle.std.proofs.lemmas.List.{append_assoc, drop-append-le, drop-drop}
use Rattle.std.proofs.Math.Seq.{take-append_seam, take-length}
use Rattle.sv_journal.specs.Format.{entry, Begins, HasEntries, HasNoEntries, IsShut, IsHead, IsStuck, IsPayload}
use Rattle.sv_journal.proofs.EntryLemmas.{begins_join, begins_entry, begins_stuck, stuck_none, head_entry, shut_front, ends}

module _ (piece rest : List ℕ) (left remaining : ℕ) (before after : List (List ℕ)) (same : remaining + length piece ≡ left + length rest)
    (begins : (bytes more : List ℕ) → Begins bytes before (piece ++ more) → Begins bytes after (rest ++ more)) where
  front : (more : List ℕ) → rest ≡ take (length rest) (rest ++ more)
  front more = sym (take-append_seam rest more)

  pub piece_stuck : IsStuck rest remaining → min 5 remaining ≤ length rest → (bytes more : List ℕ) → length (piece ++ more) ≡ left → Begins bytes before (piece ++ more) → HasNoEntries bytes
  piece_stuck stuck enough bytes more size b =
      let here : length (rest ++ more) ≡ remaining = omega (arith, same, size, length-append rest more, length-append piece more) in
      begins_stuck bytes after (rest ++ more) (begins bytes more b)
      (stuck_none rest (rest ++ more) (subst (IsStuck rest) (sym here) stuck) (subst (λ (n : ℕ). min 5 n ≤ length rest) (sym here) enough) (front more))

  pub piece_shut : IsShut rest → (bytes more : List ℕ) → Begins bytes before (piece ++ more) → HasEntries bytes after
  piece_shut shut bytes more b = ends bytes after (rest ++ more) (begins bytes more b) (shut_front rest (rest ++ more) shut (front more))

  pub piece_on : (n : ℕ) (p next : List ℕ) (grown : List (List ℕ)) → IsHead rest n → n ≤ 524288 → 5 + n ≤ length rest → p ≡ take n (drop 5 rest) → next ≡ drop n (drop 5 rest) → grown ≡ after ++ p ∷ []
      → (bytes more : List ℕ) → Begins bytes before (piece ++ more) → Begins bytes grown (next ++ more)
  piece_on n p next grown head fits room p_is next_is grown_is bytes more b =
      let e = head_entry rest rest n head (sym (take-length rest)) room in
      let small : IsPayload p = omega (arith, ap length p_is, e.0, fits) in
      let whole : rest ≡ entry p ++ next = e.1 ∙ ap (λ (l : List ℕ). entry l ++ drop n (drop 5 rest)) (sym p_is) ∙ ap (λ (l : List ℕ). entry p ++ l) (sym next_is) in
      let here : rest ++ more ≡ entry p ++ (next ++ more) = ap (λ (l : List ℕ). l ++ more) whole ∙ append_assoc (entry p) next more in
      subst (λ (es : List (List ℕ)). Begins bytes es (next ++ more)) (sym grown_is) (begins_join bytes after (p ∷ []) (rest ++ more) (next ++ more) (begins bytes more b) (begins_entry (rest ++ more) p (next ++ more) small here))

  pub piece_left : rest ≡ drop (length piece - length rest) piece → (bytes more : List ℕ) → Begins bytes before (piece ++ more) → Begins bytes after (drop (length piece - length rest) piece ++ more)
  piece_left part bytes more b = subst (λ (l : List ℕ). Begins bytes after (l ++ more)) part (begins bytes more b)

pub whole_part : (piece : List ℕ) → piece ≡ drop (length piece - length piece) piece
whole_part piece = let none : 0 ≡ length piece - length piece = omega arith in ap (λ (n : ℕ). drop n piece) none

-- a later rest of the piece
pub rest_of_rest : (piece rest next : List ℕ) (n : ℕ) → length rest ≤ length piece → 5 + n ≤ length rest → rest ≡ drop (length piece - length rest) piece → next ≡ drop n (drop 5 rest)
    → next ≡ drop (length piece - length next) piece
rest_of_rest piece rest next n within room part is =
    let size : length next ≡ length rest - (5 + n) = omega (arith, ap length is, length-drop n (drop 5 rest), length-drop 5 rest) in
    let at = length piece - length rest in
    let whole : at + (5 + n) ≡ length piece - length next = omega (arith, size, within, room) in
    let twice : drop n (drop 5 rest) ≡ drop (5 + n) rest = drop-drop n 5 rest in
    is ∙ twice ∙ ap (λ (l : List ℕ). drop (5 + n) l) part ∙ drop-drop (5 + n) at piece ∙ ap (λ (k : ℕ). drop k piece) whole

-- what was read into the buffer is a piece of the disk as it was at first
pub piece_is : (piece buffer seen now : List ℕ) (k at : ℕ) → piece ≡ buffer → buffer ≡ take k (drop at now) → now ≡ seen → piece ≡ take k (drop at seen)
piece_is piece buffer seen now k at here is same = here ∙ is ∙ ap (λ (l : List ℕ). take k (drop at l)) same

-- from piece to piece of a disk
module _ (seen piece bytes : List ℕ) (before : List (List ℕ)) (len at k : ℕ) (size : len ≡ length seen) (is : piece ≡ take k (drop at seen)) (begins : Begins bytes before (drop at seen)) where
  abbrev behind : List ℕ
  behind = drop k (drop at seen)

  whole : piece ++ behind ≡ drop at seen
  whole = ap (λ (l : List ℕ). l ++ behind) is ∙ take-append-drop k (drop at seen)

  here : Begins bytes before (piece ++ behind)
  here = subst (Begins bytes before) (sym whole) begins

  pub disk_stuck : ((all more : List ℕ) → length (piece ++ more) ≡ len - at → Begins all before (piece ++ more) → HasNoEntries all) → HasNoEntries bytes
  disk_stuck stuck = let left : length (piece ++ behind) ≡ len - at = omega (arith, ap length whole, length-drop at seen, size) in stuck bytes behind left here

  pub disk_ends : (after : List (List ℕ)) → ((all more : List ℕ) → Begins all before (piece ++ more) → HasEntries all after) → HasEntries bytes after
  disk_ends after shut = shut bytes behind here

  pub disk_on : (after : List (List ℕ)) (n : ℕ) → n ≤ length piece → ((all more : List ℕ) → Begins all before (piece ++ more) → Begins all after (drop n piece ++ more)) → Begins bytes after (drop (at + n) seen)
  disk_on after n within on =
      let there : drop n piece ++ behind ≡ drop (at + n) seen = sym (drop-append-le n piece behind within) ∙ ap (λ (l : List ℕ). drop n l) whole ∙ drop-drop n at seen in
      subst (Begins bytes after) there (on bytes behind here)
