-- Reading items one after the other, as a loop does.
use Rattle.std.proofs.Common.{◌≡◌, ℕ, suc, ◌-◌, ◌+◌, ◌≤◌, ◌<◌, List, [], ◌∷◌, ◌++◌, Ok, Err, refl, sym, ap, ◌∙◌, append_assoc, arith}
use Rattle.std.proofs.lemmas.List.{append-nil}
use Rattle.sv_record.proofs.Prelude.{RecordFault, ◌>>=◌, Reading, Fails, Format, reads}
use Rattle.sv_record.specs.declared.fault.RecordFault.TheVariants.{Truncated, BadVersion, Foreign, BadField, Memory}

module _ {S A : Type 0} (item : S → Format A) (next : S → A → S) where
  -- what was read before, and what is still read
  abbrev pub with_front : List A → Reading (List A) → Reading (List A)
  with_front front read = read >>= λ x. Ok (front ++ x.0, x.1)

  regroup : (front : List A) (a : A) (read : Reading (List A)) → with_front front (read >>= λ x. Ok (a ∷ x.0, x.1)) ≡ with_front (front ++ a ∷ []) read
  regroup front a (Ok x) = ap (λ (xs : List A). Ok (xs, x.1)) (simp append_assoc)
  regroup front a (Err f) = refl

  pub goes_on : (front : List A) (count i : ℕ) (s : S) (bytes : List ℕ) (a : A) (rest : List ℕ) (total : Reading (List A)) → i < count → (item s).read bytes ≡ Ok (a, rest)
      → with_front front (reads item next (count - i) s bytes) ≡ total → with_front (front ++ a ∷ []) (reads item next (count - (i + 1)) (next s a) rest) ≡ total
  goes_on front count i s bytes a rest total lt h so_far =
      let k : count - i ≡ suc (count - (i + 1)) = omega arith in
      let one : with_front front (reads item next (count - i) s bytes) ≡ with_front (front ++ a ∷ []) (reads item next (count - (i + 1)) (next s a) rest) = rw (k, h) (regroup front a (reads item next (count - (i + 1)) (next s a) rest)) in
      sym one ∙ so_far

  failed : (e : RecordFault) (front : List A) (count i : ℕ) (s : S) (bytes : List ℕ) (total : Reading (List A)) → i < count → (item s).read bytes ≡ Err e
      → with_front front (reads item next (count - i) s bytes) ≡ total → total ≡ Err e
  failed e front count i s bytes total lt h so_far =
      let k : count - i ≡ suc (count - (i + 1)) = omega arith in
      let one : with_front front (reads item next (count - i) s bytes) ≡ Err e = rw (k, h) refl in
      sym so_far ∙ one

  pub ends : (e : RecordFault) (front : List A) (count i : ℕ) (s : S) (bytes : List ℕ) (total : Reading (List A)) → i < count → Fails e ((item s).read bytes)
      → with_front front (reads item next (count - i) s bytes) ≡ total → Fails e total
  ends Memory front count i s bytes total lt h so_far = tt
  ends Truncated front count i s bytes total lt h so_far = failed Truncated front count i s bytes total lt h so_far
  ends BadVersion front count i s bytes total lt h so_far = failed BadVersion front count i s bytes total lt h so_far
  ends Foreign front count i s bytes total lt h so_far = failed Foreign front count i s bytes total lt h so_far
  ends BadField front count i s bytes total lt h so_far = failed BadField front count i s bytes total lt h so_far

  pub is_done : (front : List A) (count i : ℕ) (s : S) (bytes : List ℕ) (total : Reading (List A)) → count ≤ i → with_front front (reads item next (count - i) s bytes) ≡ total → total ≡ Ok (front, bytes)
  is_done front count i s bytes total le so_far =
      let k : count - i ≡ 0 = omega arith in
      let one : with_front front (reads item next (count - i) s bytes) ≡ Ok (front, bytes) = rw k (ap (λ (xs : List A). Ok (xs, bytes)) (append-nil front)) in
      sym so_far ∙ one

  nothing_before : (read : Reading (List A)) → with_front [] read ≡ read
  nothing_before (Ok x) = refl
  nothing_before (Err fault) = refl

  pub starts : (count : ℕ) (s : S) (bytes : List ℕ) → with_front [] (reads item next (count - 0) s bytes) ≡ reads item next count s bytes
  starts count s bytes =
      let all : count - 0 ≡ count = omega arith in
      rw all (nothing_before (reads item next count s bytes))
