-- Objects that are initialised and destroyed one by one.
use Rattle.sv_container.proofs.Prelude.{◌≡◌, ℕ, ◌≢◌, ◌<◌, ◌≤◌, ◌+◌, ◌-◌, zero, suc, List, [], ◌∷◌, length, get_or, set, take, map, arith, sym, ◌∙◌, ap, refl}
use Rattle.sv_container.proofs.Prelude.{Bool, true, false, All, subst, Option, Some, None, IfSome, nat_tests, get_or-map, get_or-set_other, length-map}
use Rattle.sv_container.proofs.Prelude.{take_all, All-map, get_or_from_slice_get, Phase, row, rows, Hosted, IsLaunched, identity_of, IsInitialised, IsLive}
use Rattle.sv_container.proofs.Prelude.{ready_count, Pairwise, is_sendable}
use Rattle.std.proofs.Common.{slice_get}
use Rattle.std.specs.Prelude.{◌&&◌, if◌then◌else◌, nat_lt}
use Rattle.std.specs.List.{list_all}
use Rattle.std.proofs.lemmas.List.Folds.{list_all-map}
use Rattle.std.proofs.lemmas.List.Sums.{AllPass-from_list_all}
use Rattle.sv_mapping.specs.declared.filter.FilterMapping.{FilterMapping}
use Rattle.sv_servlet.specs.declared.servlet.Phase.TheVariants.{Ready}
use Rattle.sv_dispatch.specs.Rows.{IsReadyAt, Row}
use Rattle.sv_container.specs.Application.{can_serve, names_filter, phase_of_mark}
use Rattle.sv_container.proofs.LoopLemmas.{head_pair, tail_pairs}

-- ---- counting

module _ {O M : Type 0} (meaning : O → M) (phase : O → Phase) where
  pub same_length : (hs : List (Hosted O)) → length (rows meaning phase hs) ≡ length hs
  unfolding rows
  same_length hs = length-map hs (row meaning phase)

module _ {M : Type 0} where
  count_more : (rs : List (Row M)) (k : ℕ) (d : Row M) → k < length rs
      → ready_count (take (suc k) rs) ≡ (if (get_or rs k d).is_ready then 1 else 0) + ready_count (take k rs)
  unfolding ready_count
  count_more [] k d h = absurd (omega (arith, h))
  count_more (r ∷ rs) zero d h = refl
  count_more (r ∷ rs) (suc k) d h =
      let u : ready_count (take (suc k) rs) ≡ (if (get_or rs k d).is_ready then 1 else 0) + ready_count (take k rs) = count_more rs k d (omega (arith, h)) in
      omega (arith, u)

  pub count_within : (rs : List (Row M)) → ready_count rs ≤ length rs
  unfolding ready_count
  count_within [] = omega arith
  count_within (r ∷ rs) = within r.is_ready (count_within rs)
    where
      within : {n m : ℕ} (b : Bool) → n ≤ m → (if b then 1 else 0) + n ≤ suc m
      within true h = omega (arith, h)
      within false h = omega (arith, h)

  count_before : (rs : List (Row M)) (at k count one : ℕ) (d : Row M) → at ≡ suc k → k < length rs
      → one ≡ (if (get_or rs k d).is_ready then 1 else 0) → count + ready_count (take at rs) ≡ ready_count rs
      → (count + one) + ready_count (take k rs) ≡ ready_count rs
  count_before rs at k count one d next h e c =
      let u : ready_count (take (suc k) rs) ≡ (if (get_or rs k d).is_ready then 1 else 0) + ready_count (take k rs) = count_more rs k d h in
      let v : count + ready_count (take (suc k) rs) ≡ ready_count rs = subst (λ (n : ℕ). count + ready_count (take n rs) ≡ ready_count rs) next c in
      omega (arith, u, v, e)

-- where a loop from the back stands that has counted the objects from a place on
module _ {O M : Type 0} (meaning : O → M) (phase : O → Phase) (xs ys : List (Hosted O)) where
  pub none_counted : (at : ℕ) → at ≡ length xs → 0 + ready_count (take at (rows meaning phase xs)) ≡ ready_count (rows meaning phase xs)
  none_counted at all =
      let h : length (rows meaning phase xs) ≤ at = omega (arith, same_length meaning phase xs, all) in
      let u : ready_count (take at (rows meaning phase xs)) ≡ ready_count (rows meaning phase xs) = ap ready_count (take_all at (rows meaning phase xs) h) in
      omega (arith, u)

  pub all_counted : (at count : ℕ) → at ≡ 0 → count + ready_count (take at (rows meaning phase xs)) ≡ ready_count (rows meaning phase xs)
      → count ≡ ready_count (rows meaning phase xs)
  unfolding ready_count
  all_counted at count done c =
      let v : count + ready_count (take 0 (rows meaning phase xs)) ≡ ready_count (rows meaning phase xs) = subst (λ (n : ℕ). count + ready_count (take n (rows meaning phase xs)) ≡ ready_count (rows meaning phase xs)) done c in
      omega (arith, v)

  module _ (at count one : ℕ) (n : Hosted O) (some : 0 < at) (within : at ≤ length xs) (long : length ys ≡ length xs) (there : n ≡ get_or ys (at - 1) n)
      (counts : one ≡ (if n.is_ready then 1 else 0)) (rest : (k : ℕ) (d : Hosted O) → k < at → get_or ys k d ≡ get_or xs k d)
      (counted : count + ready_count (take at (rows meaning phase xs)) ≡ ready_count (rows meaning phase xs)) where
    the_same : (row meaning phase n).is_ready ≡ (get_or (rows meaning phase xs) (at - 1) (row meaning phase n)).is_ready
    unfolding rows
    the_same =
        let h : at - 1 < length xs = omega (arith, some, within) in
        let l : at - 1 < at = omega (arith, some) in
        ap (λ (o : Hosted O). (row meaning phase o).is_ready) (there ∙ rest (at - 1) n l)
        ∙ ap (λ (r : Row M). r.is_ready) (sym (get_or-map (row meaning phase) xs (at - 1) n (row meaning phase n) h))

    pub one_more_counted : (count + one) + ready_count (take (at - 1) (rows meaning phase xs)) ≡ ready_count (rows meaning phase xs)
    one_more_counted =
        let next : at ≡ suc (at - 1) = omega (arith, some) in
        let h : at - 1 < length (rows meaning phase xs) = rw (same_length meaning phase xs) (omega (arith, some, within)) in
        count_before (rows meaning phase xs) at (at - 1) count one (row meaning phase n) next h (counts ∙ ap (λ (b : Bool). if b then 1 else 0) the_same) counted

    pub count_fits : count + one ≤ length xs
    count_fits =
        let w : ready_count (rows meaning phase xs) ≤ length xs = subst (λ (l : ℕ). ready_count (rows meaning phase xs) ≤ l) (same_length meaning phase xs) (count_within (rows meaning phase xs)) in
        let c : (count + one) + ready_count (take (at - 1) (rows meaning phase xs)) ≡ ready_count (rows meaning phase xs) = one_more_counted in
        omega (arith, w, c)

    pub rest_as_before : (m : Hosted O) (k : ℕ) (d : Hosted O) → k < at - 1 → get_or (set ys (at - 1) m) k d ≡ get_or xs k d
    rest_as_before m k d l =
        let other : k ≢ at - 1 = λ q. omega (arith, q, l) in
        let before : k < at = omega (arith, l) in
        get_or-set_other ys (at - 1) k m d other ∙ rest k d before

-- ---- initialisation

module _ {O M : Type 0} (meaning : O → M) (phase : O → Phase) (Keeps : M → Type 0) where
  pub same_identities : (xs ys : List (Hosted O)) → Pairwise (IsInitialised meaning phase Keeps) xs ys
      → map identity_of (rows meaning phase ys) ≡ map identity_of (rows meaning phase xs)
  unfolding rows
  same_identities [] [] p = refl
  same_identities [] (y ∷ ys) p = absurd (omega (arith, p.long))
  same_identities (x ∷ xs) [] p = absurd (omega (arith, p.long))
  same_identities (x ∷ xs) (y ∷ ys) p =
      let h = head_pair (IsInitialised meaning phase Keeps) x y xs ys p in
      let t = same_identities xs ys (tail_pairs (IsInitialised meaning phase Keeps) x y xs ys p) in
      rw (h.name, h.same, t) refl

  pub all_live : (xs ys : List (Hosted O)) → Pairwise (IsInitialised meaning phase Keeps) xs ys → All (IsLive phase) ys
  all_live xs ys p = λ k d h. (p.each k d (rw p.long at h)).marked

  pub all_launched : (xs ys : List (Hosted O)) → Pairwise (IsInitialised meaning phase Keeps) xs ys → All IsLaunched (rows meaning phase ys)
  unfolding rows
  all_launched xs ys p = All-map IsLaunched (row meaning phase) ys (all_live xs ys p)

  pub all_keep : (xs ys : List (Hosted O)) → Pairwise (IsInitialised meaning phase Keeps) xs ys → All (λ r. Keeps r.meaning) (rows meaning phase ys)
  unfolding rows
  all_keep xs ys p = All-map (λ r. Keeps r.meaning) (row meaning phase) ys (λ k d h. (p.each k d (rw p.long at h)).keeps)

-- ---- service

module _ {O M : Type 0} (meaning : O → M) (phase : O → Phase) where
  pub same_marks : (hs : List (Hosted O)) → list_all (λ r. r.is_ready) (rows meaning phase hs) ≡ list_all (λ h. h.is_ready) hs
  unfolding rows
  same_marks hs = list_all-map (λ r. r.is_ready) (row meaning phase) hs

first_of : (a b : Bool) → a && b ≡ true → a ≡ true
first_of true b h = refl
first_of false b h = h

second_of : (a b : Bool) → a && b ≡ true → b ≡ true
second_of true b h = h
second_of false b h = absurd cc

pub record Serving (number : ℕ) (path name : List ℕ) (are_ready : Bool) (count : ℕ) (chains : List FilterMapping) : Type 0 where
  pub numbered : number < 16
  pub sendable : is_sendable path ≡ true
  pub nameable : is_sendable name ≡ true
  pub ready : are_ready ≡ true
  pub named : list_all (names_filter count) chains ≡ true

below : (m n : ℕ) → nat_lt m n ≡ true → m < n
below m n h = grind (arith, nat_tests)

pub serving_of : (number : ℕ) (path name : List ℕ) (are_ready : Bool) (count : ℕ) (chains : List FilterMapping) → can_serve number path name are_ready count chains ≡ true
    → Serving number path name are_ready count chains
unfolding can_serve
serving_of number path name are_ready count chains h =
    let more = second_of (nat_lt number 16) _ h in
    let names = second_of (is_sendable path) _ more in
    let rest = second_of (is_sendable name) _ names in
    record {
      numbered = below number 16 (first_of (nat_lt number 16) _ h);
      sendable = first_of (is_sendable path) _ more;
      nameable = first_of (is_sendable name) _ names;
      ready = first_of are_ready _ rest;
      named = second_of are_ready _ rest;
    }

ready_row : {M : Type 0} (r : Row M) → IsLaunched r → r.is_ready ≡ true → r.phase ≡ Ready
ready_row r launched mark = launched ∙ ap phase_of_mark mark

-- where all filters are ready, each that is named may be called
pub named_ready : {M : Type 0} (rs : List (Row M)) (chains : List FilterMapping) → All IsLaunched rs → list_all (λ r. r.is_ready) rs ≡ true
    → list_all (names_filter (length rs)) chains ≡ true → All (λ m. IsReadyAt rs m.filter) chains
named_ready {M} rs chains launched marks named k d h =
    let m = get_or chains k d in
    let within : m.filter < length rs = below m.filter (length rs) (AllPass-from_list_all (names_filter (length rs)) chains named k d h) in
    record { within = within; ready = there m.filter within }
  where
    there : (at : ℕ) → at < length rs → IfSome (slice_get rs at) (λ r. r.phase ≡ Ready)
    there at within = at_row (slice_get rs at) refl
      where
        at_row : (found : Option (Row M)) → slice_get rs at ≡ found → IfSome found (λ r. r.phase ≡ Ready)
        at_row None is = tt
        at_row (Some r) is =
            let e : get_or rs at r ≡ r = get_or_from_slice_get rs at r r is in
            ready_row r (subst IsLaunched e (launched at r within)) (subst (λ (o : Row M). o.is_ready ≡ true) e (AllPass-from_list_all (λ r. r.is_ready) rs marks at r within))

module _ {O M : Type 0} (meaning : O → M) (phase : O → Phase) (hs : List (Hosted O)) (number : ℕ) (path name : List ℕ) (chains : List FilterMapping) where
  -- the marks of the objects are those of their rows
  pub able_by_rows : can_serve number path name (list_all (λ h. h.is_ready) hs) (length hs) chains
      ≡ can_serve number path name (list_all (λ r. r.is_ready) (rows meaning phase hs)) (length (rows meaning phase hs)) chains
  able_by_rows = rw (same_marks meaning phase hs, same_length meaning phase hs) refl

  pub filters_serving : All IsLaunched (rows meaning phase hs) → can_serve number path name (list_all (λ h. h.is_ready) hs) (length hs) chains ≡ true
      → All (λ m. IsReadyAt (rows meaning phase hs) m.filter) chains
  filters_serving launched able =
      let s = serving_of number path name (list_all (λ h. h.is_ready) hs) (length hs) chains able in
      named_ready (rows meaning phase hs) chains launched (same_marks meaning phase hs ∙ s.ready)
      (subst (λ (n : ℕ). list_all (names_filter n) chains ≡ true) (sym (same_length meaning phase hs)) s.named)
