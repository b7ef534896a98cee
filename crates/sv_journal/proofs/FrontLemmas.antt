-- A write at the end of a file that fails behind a front of its bytes.
use Rattle.std.proofs.Common.{◌≡◌, ◌+◌, ◌-◌, ◌++◌, ℕ, List, [], length, take, drop, min, max, sym, ap, ◌∙◌, arith, length-append, length-take-le, take_all, take-append-drop}
use Rattle.std.proofs.lemmas.List.{append-nil, drop_all}
use Rattle.sv_journal.specs.Disk.{written}
use Rattle.sv_journal.specs.RawFile.{HasWrittenFront}

-- a write that didn't begin has written none of its bytes
pub nothing_written : (at : ℕ) (bytes old new : List ℕ) → new ≡ old → HasWrittenFront at bytes old new
nothing_written at bytes old new same = record {
  count = 0;
  within = omega arith;
  front = same ∙ sym (take-append-drop at old) ∙ ap (λ (l : List ℕ). l ++ drop at old) (sym (append-nil (take at old))) ∙ ap (λ (k : ℕ). take at old ++ [] ++ drop k old) here;
}
  where
    here : at ≡ at + 0
    here = omega arith

-- what is written at the end comes after what is there
pub behind : (at : ℕ) (bytes old : List ℕ) → at ≡ length old → written at bytes old ≡ old ++ bytes
behind at bytes old end =
    ap (λ (l : List ℕ). l ++ bytes ++ drop (at + length bytes) old) (take_all at old (omega (arith, end)))
    ∙ ap (λ (l : List ℕ). old ++ bytes ++ l) (drop_all (at + length bytes) old (omega (arith, end)))
    ∙ append-nil (old ++ bytes)

-- all of it was written
pub whole_extends : (at : ℕ) (bytes old new : List ℕ) → at ≡ length old → new ≡ written at bytes old → new ≡ old ++ take (at + length bytes - at) bytes
whole_extends at bytes old new end is = is ∙ behind at bytes old end ∙ ap (λ (l : List ℕ). old ++ l) (sym (take_all (at + length bytes - at) bytes (omega arith)))

-- the front that was written is what the length says
pub front_extends : (at n : ℕ) (bytes old new : List ℕ) → at ≡ length old → HasWrittenFront at bytes old new → n ≡ length new
    → new ≡ old ++ take (min (max n at) (at + length bytes) - at) bytes
front_extends at n bytes old new end f len = is ∙ ap (λ (k : ℕ). old ++ take k bytes) count
  where
    is : new ≡ old ++ take f.count bytes
    is = f.front ∙ behind at (take f.count bytes) old end

    length_front : length (old ++ take f.count bytes) ≡ length old + f.count
    length_front = length-append old (take f.count bytes) ∙ ap (λ (k : ℕ). length old + k) (length-take-le f.count bytes f.within)

    whole : length new ≡ length old + f.count
    whole = ap length is ∙ length_front

    count : f.count ≡ min (max n at) (at + length bytes) - at
    count = omega (arith, end, len, whole, f.within)
