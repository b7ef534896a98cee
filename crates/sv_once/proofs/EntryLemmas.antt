-- What is remembered is read as it was written, and what is read can be written.
use Rattle.std.proofs.Common.{◌≡◌, refl, sym, ap, ◌∙◌, ℕ, zero, suc, ◌-◌, ◌<◌, ◌≤◌, Bool, true, false, cond, List, [], ◌∷◌, ◌++◌, length, append_assoc, All, arith}
use Rattle.std.specs.Prelude.{min, ◌==◌}
use Rattle.std.specs.List.{flat_map}
use Rattle.std.proofs.lemmas.List.{append-nil}
use Rattle.std.proofs.lemmas.List.Elements.{All-cons, All-head, All-nil, All-tail, All-take}
use Rattle.sv_once.specs.Entries.{IsSmall, beyond, entries_in, entry_at, entry_bytes, entry_of, memory_bytes, memory_in, remembered}
use Rattle.sv_once.specs.Parts.{long_first, long_part, long_rest, short_first, short_part, short_rest}
use Rattle.sv_once.specs.declared.entry.Entry.{Entry}
use Rattle.sv_once.proofs.PartsLemmas.{long_first_read, long_rest_read, long_small, short_first_read, short_rest_read, short_small}

four_parts : (a b c d rest : List ℕ) → (((a ++ b) ++ c) ++ d) ++ rest ≡ a ++ (b ++ (c ++ (d ++ rest)))
four_parts a b c d rest = simp append_assoc

-- an entry by its four parts
module _ (key mark old answer b0 b1 b2 b3 : List ℕ) (first : short_first b0 ≡ key) (then_1 : short_rest b0 ≡ b1) (second : short_first b1 ≡ mark)
    (then_2 : short_rest b1 ≡ b2) (third : short_first b2 ≡ old) (then_3 : short_rest b2 ≡ b3) (fourth : long_first b3 ≡ answer) where
  at_1 : short_first (short_rest b0) ≡ mark
  at_1 = ap short_first then_1 ∙ second

  at_2 : short_rest (short_rest b0) ≡ b2
  at_2 = ap short_rest then_1 ∙ then_2

  at_3 : short_rest (short_rest (short_rest b0)) ≡ b3
  at_3 = ap short_rest at_2 ∙ then_3

  by_parts : entry_at b0 ≡ entry_of key mark old answer
  unfolding entry_at
  by_parts =
      ap (λ (x : List ℕ). entry_of x (short_first (short_rest b0)) (short_first (short_rest (short_rest b0))) (long_first (short_rest (short_rest (short_rest b0))))) first
      ∙ ap (λ (x : List ℕ). entry_of key x (short_first (short_rest (short_rest b0))) (long_first (short_rest (short_rest (short_rest b0))))) at_1
      ∙ ap (λ (x : List ℕ). entry_of key mark x (long_first (short_rest (short_rest (short_rest b0))))) (ap short_first at_2 ∙ third)
      ∙ ap (λ (x : List ℕ). entry_of key mark old x) (ap long_first at_3 ∙ fourth)

  past_parts : (rest : List ℕ) → long_rest b3 ≡ rest → beyond b0 ≡ rest
  unfolding beyond
  past_parts rest then_4 = ap long_rest at_3 ∙ then_4

module _ (e : Entry) (rest : List ℕ) (small : IsSmall e) where
  abbrev parted : List ℕ
  parted = short_part e.key ++ (short_part e.mark ++ (short_part e.old ++ (long_part e.answer ++ rest)))

  as_parts : entry_bytes e ++ rest ≡ parted
  unfolding entry_bytes
  as_parts = four_parts (short_part e.key) (short_part e.mark) (short_part e.old) (long_part e.answer) rest

  abbrev b1 : List ℕ
  b1 = short_part e.mark ++ (short_part e.old ++ (long_part e.answer ++ rest))

  abbrev b2 : List ℕ
  b2 = short_part e.old ++ (long_part e.answer ++ rest)

  abbrev b3 : List ℕ
  b3 = long_part e.answer ++ rest

  pub entry_read : entry_at (entry_bytes e ++ rest) ≡ e
  entry_read =
      ap entry_at as_parts
      ∙ by_parts e.key e.mark e.old e.answer parted b1 b2 b3 (short_first_read e.key b1 small.key) (short_rest_read e.key b1 small.key)
      (short_first_read e.mark b2 small.mark) (short_rest_read e.mark b2 small.mark) (short_first_read e.old b3 small.old)
      (short_rest_read e.old b3 small.old) (long_first_read e.answer rest small.answer)

  pub beyond_read : beyond (entry_bytes e ++ rest) ≡ rest
  beyond_read =
      ap beyond as_parts
      ∙ past_parts e.key e.mark e.old e.answer parted b1 b2 b3 (short_first_read e.key b1 small.key) (short_rest_read e.key b1 small.key)
      (short_first_read e.mark b2 small.mark) (short_rest_read e.mark b2 small.mark) (short_first_read e.old b3 small.old)
      (short_rest_read e.old b3 small.old) (long_first_read e.answer rest small.answer) rest (long_rest_read e.answer rest small.answer)

-- one entry more
more_read : (n : ℕ) (e : Entry) (rest : List ℕ) → IsSmall e → entries_in (suc n) (entry_bytes e ++ rest) ≡ e ∷ entries_in n rest
unfolding entries_in entry_bytes
more_read n e rest small =
    ap (λ (f : Entry). f ∷ entries_in n (beyond (entry_bytes e ++ rest))) (entry_read e rest small)
    ∙ ap (λ (b : List ℕ). e ∷ entries_in n b) (beyond_read e rest small)

pub entries_read : (n : ℕ) (es : List Entry) → length es ≤ n → All IsSmall es → entries_in n (flat_map entry_bytes es) ≡ es
unfolding entries_in
entries_read zero [] few small = refl
entries_read zero (e ∷ es) few small = absurd (omega (arith, few))
entries_read (suc n) [] few small = refl
entries_read (suc n) (e ∷ es) few small =
    more_read n e (flat_map entry_bytes es) (All-head IsSmall e es small)
    ∙ ap (λ (fs : List Entry). e ∷ fs) (entries_read n es (omega (arith, few)) (All-tail IsSmall e es small))

pub memory_read : (es : List Entry) → length es ≤ 16 → All IsSmall es → memory_in (memory_bytes es) ≡ es
unfolding memory_in
memory_read [] few small = refl
memory_read (e ∷ es) few small = entries_read 16 (e ∷ es) few small

-- ---- what is read can be written

entry_small : (bytes : List ℕ) → IsSmall (entry_at bytes)
unfolding entry_at
entry_small bytes = record {
  key = short_small bytes;
  mark = short_small (short_rest bytes);
  old = short_small (short_rest (short_rest bytes));
  answer = long_small (short_rest (short_rest (short_rest bytes)));
}

pub entries_small : (n : ℕ) (bytes : List ℕ) → All IsSmall (entries_in n bytes)
unfolding entries_in
entries_small zero bytes = All-nil IsSmall
entries_small (suc n) [] = All-nil IsSmall
entries_small (suc n) (b ∷ bytes) =
    All-cons IsSmall (entry_at (b ∷ bytes)) (entries_in n (beyond (b ∷ bytes))) (entry_small (b ∷ bytes)) (entries_small n (beyond (b ∷ bytes)))

small_if : (is : Bool) (bytes : List ℕ) → All IsSmall (cond is (entries_in 16 bytes) [])
small_if true bytes = entries_small 16 bytes
small_if false bytes = All-nil IsSmall

pub memory_small : (bytes : List ℕ) → All IsSmall (memory_in bytes)
unfolding memory_in
memory_small [] = All-nil IsSmall
memory_small (v ∷ bytes) = small_if (v == 1) bytes

pub remembered_small : (answers : ℕ) (e : Entry) (es : List Entry) → IsSmall e → All IsSmall es → All IsSmall (remembered answers e es)
remembered_small answers e es one all = All-take IsSmall (min answers 16) (e ∷ es) (All-cons IsSmall e es one all)

-- ---- one entry more

pub entries_step : (n : ℕ) (bytes : List ℕ) → 0 < n → 0 < length bytes → entries_in n bytes ≡ entry_at bytes ∷ entries_in (n - 1) (beyond bytes)
unfolding entries_in
entries_step zero bytes some more = absurd (omega (arith, some))
entries_step (suc n) [] some more = absurd (omega (arith, more))
entries_step (suc n) (b ∷ bytes) some more =
    let less : n ≡ suc n - 1 = omega arith in
    ap (λ (m : ℕ). entry_at (b ∷ bytes) ∷ entries_in m (beyond (b ∷ bytes))) less

pub entries_end : (n : ℕ) (bytes : List ℕ) → length bytes ≡ 0 → entries_in n bytes ≡ []
unfolding entries_in
entries_end zero bytes none = refl
entries_end (suc n) [] none = refl
entries_end (suc n) (b ∷ bytes) none = absurd (omega (arith, none))

pub no_entries : (bytes : List ℕ) → entries_in 0 bytes ≡ []
unfolding entries_in
no_entries bytes = refl

-- ---- a loop over entries

pub one_more : (done : List Entry) (n : ℕ) (rest more : List ℕ) (e : Entry) → 0 < n → 0 < length rest → e ≡ entry_at rest → more ≡ beyond rest
    → (done ++ e ∷ []) ++ entries_in (n - 1) more ≡ done ++ entries_in n rest
one_more done n rest more e some bytes e_is more_is =
    append_assoc done (e ∷ []) (entries_in (n - 1) more)
    ∙ ap (λ (x : Entry). done ++ x ∷ entries_in (n - 1) more) e_is
    ∙ ap (λ (x : List ℕ). done ++ entry_at rest ∷ entries_in (n - 1) x) more_is
    ∙ ap (λ (x : List Entry). done ++ x) (sym (entries_step n rest some bytes))

pub none_more : (done : List Entry) (n : ℕ) (rest : List ℕ) → n ≡ 0 → done ++ entries_in n rest ≡ done
none_more done n rest none = ap (λ (m : ℕ). done ++ entries_in m rest) none ∙ ap (λ (x : List Entry). done ++ x) (no_entries rest) ∙ append-nil done

pub none_left : (done : List Entry) (n : ℕ) (rest : List ℕ) → length rest ≡ 0 → done ++ entries_in n rest ≡ done
none_left done n rest none = ap (λ (x : List Entry). done ++ x) (entries_end n rest none) ∙ append-nil done
