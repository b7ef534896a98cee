-- Wants in their order, and where one stands.
use Rattle.sv_core.proofs.Prelude.{◌≡◌, ◌≢◌, ℕ, zero, suc, ◌+◌, ◌<◌, ◌≤◌, Bool, true, false, cond, Option, Some, None, Result, Ok, Err, IfOk, IfErr, List, []}
use Rattle.sv_core.proofs.Prelude.{◌∷◌, ◌++◌, length, get_or, take, drop, arith, refl, sym, ap, ◌∙◌, subst, inl, inr, ⊎_elim, T, ◌&&◌, ◌||◌, ◌==◌, not, nat_le}
use Rattle.sv_core.proofs.Prelude.{position, slice_get, list_any, AllWithin, filter, position_from, IsSearchInRange, IsBinarySearchResult, IsSortedBy, is_lt}
use Rattle.sv_core.proofs.Prelude.{nat_cmp, Less, Equal, Greater, nat_tests, position_from-zero, searchable_from_sorted, Parked, Key, same_key, is_wanted, Rise}
use Rattle.sv_core.proofs.Prelude.{IsLine, keys_in, wants_in, with_key, wants_where, around}
use Rattle.std.proofs.Common.{append_assoc, take-append-drop, ◌⊎◌}
use Rattle.std.proofs.lemmas.List.{length-map, map_push}
use Rattle.std.specs.Prelude.{remove}
use Rattle.std.specs.Result.{result_ok}
use Rattle.std.specs.List as list
use Rattle.std.proofs.lemmas.Bool.{cases_lt}
use Rattle.std.proofs.lemmas.Cmp.{nat_cmp_total}
use Rattle.sv_core.specs.Wants.{rise_from, Stands, Lacks, IsAround}
use Rattle.sv_core.proofs.OrderLemmas.{first, second, both}
use Rattle.sv_core.proofs.KeptLemmas.{left}

-- ---- numbers

at_least : (low n : ℕ) → T (nat_le low n) → low ≤ n
at_least low n is = grind (arith, nat_tests)

is_least : (low n : ℕ) → low ≤ n → T (nat_le low n)
is_least low n is = grind (arith, nat_tests)

equal_is : (m n : ℕ) → nat_cmp m n ≡ Equal → m ≡ n
equal_is m n is = grind (arith, nat_tests)

less_is : (m n : ℕ) → nat_cmp m n ≡ Less → m < n
less_is m n is = grind (arith, nat_tests)

greater_is : (m n : ℕ) → nat_cmp m n ≡ Greater → n < m
greater_is m n is = grind (arith, nat_tests)

not_less : (m n : ℕ) → n < m → is_lt (nat_cmp m n) ≡ false
not_less m n is = grind (arith, nat_tests)

never : (b : Bool) → (b ≡ true → ⊥) → b ≡ false
never true fails = absurd (fails refl)
never false fails = refl

same_number : (m n : ℕ) → (m == n) ≡ true → m ≡ n
same_number m n is = grind (arith, nat_tests)

same_test : (m n : ℕ) → m ≡ n → (m == n) ≡ true
same_test m n is = grind (arith, nat_tests)

-- ---- numbers that rise

head : (low n : ℕ) (ns : List ℕ) → T (rise_from low (n ∷ ns)) → low ≤ n
head low n ns rise = at_least low n (first (nat_le low n) (rise_from (n + 1) ns) rise)

tail : (low n : ℕ) (ns : List ℕ) → T (rise_from low (n ∷ ns)) → T (rise_from (n + 1) ns)
tail low n ns rise = second (nat_le low n) (rise_from (n + 1) ns) rise

onto : (low n : ℕ) (ns : List ℕ) → low ≤ n → T (rise_from (n + 1) ns) → T (rise_from low (n ∷ ns))
onto low n ns is rise = both (nat_le low n) (rise_from (n + 1) ns) (is_least low n is) rise

lower : (low high : ℕ) (ns : List ℕ) → low ≤ high → T (rise_from high ns) → T (rise_from low ns)
lower low high [] less rise = tt
lower low high (n ∷ ns) less rise = let here = head high n ns rise in onto low n ns (omega (arith, less, here)) (tail high n ns rise)

above : (low : ℕ) (ns : List ℕ) (i d : ℕ) → T (rise_from low ns) → i < length ns → low ≤ get_or ns i d
above low [] i d rise is = absurd (omega (arith, is))
above low (n ∷ ns) zero d rise is = head low n ns rise
above low (n ∷ ns) (suc i) d rise is =
    let here = head low n ns rise in
    let rest = above (n + 1) ns i d (tail low n ns rise) (omega (arith, is)) in
    omega (arith, here, rest)

front : (low : ℕ) (ns : List ℕ) (high : ℕ) → T (rise_from low (ns ++ high ∷ [])) → T (rise_from low ns)
front low [] high rise = tt
front low (n ∷ ns) high rise = onto low n ns (head low n (ns ++ high ∷ []) rise) (front (n + 1) ns high (tail low n (ns ++ high ∷ []) rise))

-- those before a number that rises with them
low_mid : (low : ℕ) (before : List ℕ) (want : ℕ) (behind : List ℕ) → T (rise_from low (before ++ want ∷ behind)) → low ≤ want
low_mid low [] want behind rise = head low want behind rise
low_mid low (b ∷ bs) want behind rise =
    let here = head low b (bs ++ want ∷ behind) rise in
    let rest = low_mid (b + 1) bs want behind (tail low b (bs ++ want ∷ behind) rise) in
    omega (arith, here, rest)

next_above : (low : ℕ) (ns : List ℕ) (i d : ℕ) → T (rise_from low ns) → i + 1 < length ns → get_or ns i d < get_or ns (suc i) d
next_above low [] i d rise is = absurd (omega (arith, is))
next_above low (n ∷ ns) zero d rise is = let next = above (n + 1) ns 0 d (tail low n ns rise) (omega (arith, is)) in omega (arith, next)
next_above low (n ∷ ns) (suc i) d rise is = next_above (n + 1) ns i d (tail low n ns rise) (omega (arith, is))

numbers_sorted : (ns : List ℕ) → Rise ns → IsSortedBy (λ a b. is_lt (nat_cmp a b)) ns
numbers_sorted ns rise at d from to = subst (λ m. is_lt (nat_cmp (get_or ns m d) (get_or ns at d)) ≡ false) {x = suc at} (omega arith) (not_less _ _ (next_above 0 ns at d rise to))

-- ---- a want among others

pub record IsThere (before : List ℕ) (want : ℕ) (behind ws : List ℕ) (at : ℕ) : Type 0 where
  pub stays : ws ≡ before ++ want ∷ behind
  pub removed : remove ws at ≡ before ++ behind

pub record IsMissing (before : List ℕ) (want : ℕ) (behind ws : List ℕ) (at : ℕ) : Type 0 where
  pub stays : ws ≡ before ++ behind
  pub added : list.insert ws at want ≡ before ++ want ∷ behind

there_at : (low : ℕ) (before : List ℕ) (want : ℕ) (was : Bool) (behind : List ℕ) (at : ℕ) → T (rise_from low (before ++ want ∷ behind)) → at < length (around before want was behind)
    → ((d : ℕ) → nat_cmp (get_or (around before want was behind) at d) want ≡ Equal) → IsThere before want behind (around before want was behind) at
there_at low [] want true behind zero rise within equal = record { stays = refl; removed = refl }
there_at low [] want true behind (suc at) rise within equal =
    let same : get_or behind at 0 ≡ want = equal_is (get_or behind at 0) want (equal 0) in
    let more : want + 1 ≤ get_or behind at 0 = above (want + 1) behind at 0 (tail low want behind rise) (omega (arith, within)) in
    absurd (omega (arith, same, more))
there_at low [] want false behind at rise within equal =
    let same : get_or behind at 0 ≡ want = equal_is (get_or behind at 0) want (equal 0) in
    let more : want + 1 ≤ get_or behind at 0 = above (want + 1) behind at 0 (tail low want behind rise) within in
    absurd (omega (arith, same, more))
there_at low (b ∷ bs) want was behind zero rise within equal =
    let same : b ≡ want = equal_is b want (equal 0) in
    let more : b + 1 ≤ want = low_mid (b + 1) bs want behind (tail low b (bs ++ want ∷ behind) rise) in
    absurd (omega (arith, same, more))
there_at low (b ∷ bs) want was behind (suc at) rise within equal =
    let rest = there_at (b + 1) bs want was behind at (tail low b (bs ++ want ∷ behind) rise) (omega (arith, within)) equal in
    record { stays = ap (λ l. b ∷ l) rest.stays; removed = ap (λ l. b ∷ l) rest.removed }

missing_at : (low : ℕ) (before : List ℕ) (want : ℕ) (was : Bool) (behind : List ℕ) (at : ℕ) → T (rise_from low (before ++ want ∷ behind)) → at ≤ length (around before want was behind)
    → AllWithin (λ n. nat_cmp n want ≡ Less) (around before want was behind) 0 at → AllWithin (λ n. nat_cmp n want ≡ Greater) (around before want was behind) at (length (around before want was behind))
    → IsMissing before want behind (around before want was behind) at
missing_at low [] want true behind zero rise within below beyond =
    let more : want < want = greater_is want want (beyond 0 0 (omega arith) (omega arith)) in
    absurd (omega (arith, more))
missing_at low [] want true behind (suc at) rise within below beyond =
    let less : want < want = less_is want want (below 0 0 (omega arith) (omega arith)) in
    absurd (omega (arith, less))
missing_at low [] want false behind zero rise within below beyond = record { stays = refl; added = refl }
missing_at low [] want false behind (suc at) rise within below beyond =
    let less : get_or behind 0 0 < want = less_is (get_or behind 0 0) want (below 0 0 (omega arith) (omega arith)) in
    let more : want + 1 ≤ get_or behind 0 0 = above (want + 1) behind 0 0 (tail low want behind rise) (omega (arith, within)) in
    absurd (omega (arith, less, more))
missing_at low (b ∷ bs) want was behind zero rise within below beyond =
    let more : want < b = greater_is b want (beyond 0 0 (omega arith) (omega arith)) in
    let less : b + 1 ≤ want = low_mid (b + 1) bs want behind (tail low b (bs ++ want ∷ behind) rise) in
    absurd (omega (arith, less, more))
missing_at low (b ∷ bs) want was behind (suc at) rise within below beyond =
    let rest = missing_at (b + 1) bs want was behind at (tail low b (bs ++ want ∷ behind) rise) (omega (arith, within)) (λ n d from to. below (suc n) d (omega arith) (omega arith)) (λ n d from to. beyond (suc n) d (omega arith) (omega arith)) in
    record { stays = ap (λ l. b ∷ l) rest.stays; added = ap (λ l. b ∷ l) rest.added }

-- what a binary search for it answers
pub record IsSearched (before : List ℕ) (want : ℕ) (behind ws : List ℕ) (r : Result ℕ ℕ) : Type 0 where
  pub found : IfOk r (IsThere before want behind ws)
  pub absent : IfErr r (IsMissing before want behind ws)

without : (low : ℕ) (before : List ℕ) (want : ℕ) (was : Bool) (behind : List ℕ) → T (rise_from low (before ++ want ∷ behind)) → T (rise_from low (around before want was behind))
without low [] want true behind rise = rise
without low [] want false behind rise = let here = head low want behind rise in lower low (want + 1) behind (omega (arith, here)) (tail low want behind rise)
without low (b ∷ bs) want was behind rise =
    onto low b (around bs want was behind) (head low b (bs ++ want ∷ behind) rise) (without (b + 1) bs want was behind (tail low b (bs ++ want ∷ behind) rise))

searched_by : (before : List ℕ) (want : ℕ) (was : Bool) (behind : List ℕ) → Rise (before ++ want ∷ behind) → (r : Result ℕ ℕ) → IsSearchInRange r (length (around before want was behind))
    → IsBinarySearchResult (λ n. nat_cmp n want) (around before want was behind) r → IsSearched before want behind (around before want was behind) r
searched_by before want was behind rise (Ok at) within equal = record { found = there_at 0 before want was behind at rise within equal; absent = tt }
searched_by before want was behind rise (Err at) within parted =
    let ws = around before want was behind in
    let parts = parted (searchable_from_sorted nat_cmp_total (λ n. n) ws want (numbers_sorted ws (without 0 before want was behind rise))) in
    record { found = tt; absent = missing_at 0 before want was behind at rise within parts.0 parts.1 }

pub searched : (before : List ℕ) (want : ℕ) (was : Bool) (behind ws read : List ℕ) → IsAround before want was behind ws → read ≡ ws → (r : Result ℕ ℕ) → IsSearchInRange r (length read)
    → IsBinarySearchResult (λ n. nat_cmp n want) read r → IsSearched before want behind ws r
searched before want was behind ws read is same r within answer =
    subst (λ l. IsSearched before want behind l r) (sym is.are)
    (searched_by before want was behind is.rise r (subst (λ l. IsSearchInRange r (length l)) (same ∙ is.are) within) (subst (λ l. IsBinarySearchResult (λ n. nat_cmp n want) l r) (same ∙ is.are) answer))

-- ---- the requests that wait

want_above : (low : ℕ) (ps : List Parked) (i : ℕ) (d : Parked) → T (rise_from low (wants_in ps)) → i < length ps → low ≤ (get_or ps i d).want
want_above low [] i d rise is = absurd (omega (arith, is))
want_above low (p ∷ ps) zero d rise is = head low p.want (wants_in ps) rise
want_above low (p ∷ ps) (suc i) d rise is =
    let here = head low p.want (wants_in ps) rise in
    let rest = want_above (p.want + 1) ps i d (tail low p.want (wants_in ps) rise) (omega (arith, is)) in
    omega (arith, here, rest)

want_next : (low : ℕ) (ps : List Parked) (i : ℕ) (d : Parked) → T (rise_from low (wants_in ps)) → i + 1 < length ps → (get_or ps i d).want < (get_or ps (suc i) d).want
want_next low [] i d rise is = absurd (omega (arith, is))
want_next low (p ∷ ps) zero d rise is = let next = want_above (p.want + 1) ps 0 d (tail low p.want (wants_in ps) rise) (omega (arith, is)) in omega (arith, next)
want_next low (p ∷ ps) (suc i) d rise is = want_next (p.want + 1) ps i d (tail low p.want (wants_in ps) rise) (omega (arith, is))

sorted : (ps : List Parked) → Rise (wants_in ps) → IsSortedBy (λ (a b : Parked). is_lt (nat_cmp a.want b.want)) ps
sorted ps rise at d from to = subst (λ m. is_lt (nat_cmp (get_or ps m d).want (get_or ps at d).want) ≡ false) {x = suc at} (omega arith) (not_less _ _ (want_next 0 ps at d rise to))

where_by : (low want : ℕ) (b : Bool) (ns : List ℕ) → low ≤ want → T (rise_from (want + 1) ns) → T (rise_from low (cond b (want ∷ ns) ns))
where_by low want true ns is rise = onto low want ns is rise
where_by low want false ns is rise = lower low (want + 1) ns (omega (arith, is)) rise

where_rise : (test : Parked → Bool) (low : ℕ) (ps : List Parked) → T (rise_from low (wants_in ps)) → T (rise_from low (wants_where test ps))
where_rise test low [] rise = tt
where_rise test low (p ∷ ps) rise =
    where_by low p.want (test p) (wants_where test ps) (head low p.want (wants_in ps) rise) (where_rise test (p.want + 1) ps (tail low p.want (wants_in ps) rise))

where_above : (test : Parked → Bool) (low : ℕ) (ps : List Parked) (want : ℕ) (rest : List ℕ) → T (rise_from low (wants_in ps)) → wants_where test ps ≡ want ∷ rest → low ≤ want
where_above test low ps want rest rise is = head low want rest (subst (λ l. T (rise_from low l)) is (where_rise test low ps rise))

-- a test that passes a request with the want at most
abbrev IsOnly : ℕ → (Parked → Bool) → Type 0
IsOnly want test = (p : Parked) → test p ≡ true → p.want ≡ want

none_above : (test : Parked → Bool) (want low m : ℕ) (ps : List Parked) → IsOnly want test → T (rise_from low (wants_in ps)) → want < low → position_from test m ps ≡ None
none_above test want low m [] only rise less = refl
none_above test want low m (p ∷ ps) only rise less =
    let here = head low p.want (wants_in ps) rise in
    ap (λ b. cond b (Some m) (position_from test (m + 1) ps)) (never (test p) (λ is. let same : p.want ≡ want = only p is in omega (arith, here, less, same)))
    ∙ none_above test want (p.want + 1) (m + 1) ps only (tail low p.want (wants_in ps) rise) (omega (arith, here, less))

only_at : (test : Parked → Bool) (want low m : ℕ) (ps : List Parked) (at : ℕ) (d : Parked) → IsOnly want test → T (rise_from low (wants_in ps)) → at < length ps → (get_or ps at d).want ≡ want
    → position_from test m ps ≡ cond (test (get_or ps at d)) (Some (m + at)) None
only_at test want low m [] at d only rise within is = absurd (omega (arith, within))
only_at test want low m (p ∷ ps) zero d only rise within is =
    let none = none_above test want (p.want + 1) (m + 1) ps only (tail low p.want (wants_in ps) rise) (omega (arith, is)) in
    elim (test p) as (λ b. cond b (Some m) (position_from test (m + 1) ps) ≡ cond b (Some (m + 0)) None) [ true ↦ ap Some (omega arith) | false ↦ none ]
only_at test want low m (p ∷ ps) (suc at) d only rise within is =
    let less = want_above (p.want + 1) ps at d (tail low p.want (wants_in ps) rise) (omega (arith, within)) in
    ap (λ b. cond b (Some m) (position_from test (m + 1) ps)) (never (test p) (λ passes. let same : p.want ≡ want = only p passes in omega (arith, less, is, same)))
    ∙ only_at test want (p.want + 1) (m + 1) ps at d only (tail low p.want (wants_in ps) rise) (omega (arith, within)) is
    ∙ ap (λ k. cond (test (get_or ps at d)) (Some k) None) (omega arith)

first_by : (b : Bool) (m n want low : ℕ) (ws rest : List ℕ) (o : Option ℕ) → cond b (low ∷ ws) ws ≡ want ∷ rest → (low ≡ want → m ≡ n) → (ws ≡ want ∷ rest → o ≡ Some n) → cond b (Some m) o ≡ Some n
first_by true m n want low ws rest o is here later = let same : low ≡ want = cc in ap Some (here same)
first_by false m n want low ws rest o is here later = later is

first_at : (test : Parked → Bool) (want low m : ℕ) (ps : List Parked) (at : ℕ) (d : Parked) (rest : List ℕ) → T (rise_from low (wants_in ps)) → at < length ps → (get_or ps at d).want ≡ want
    → wants_where test ps ≡ want ∷ rest → position_from test m ps ≡ Some (m + at)
first_at test want low m [] at d rest rise within is heads = absurd (omega (arith, within))
first_at test want low m (p ∷ ps) zero d rest rise within is heads =
    first_by (test p) m (m + 0) want p.want (wants_where test ps) rest (position_from test (m + 1) ps) heads (λ same. omega arith)
    (λ later. let less = where_above test (p.want + 1) ps want rest (tail low p.want (wants_in ps) rise) later in absurd (omega (arith, less, is)))
first_at test want low m (p ∷ ps) (suc at) d rest rise within is heads =
    let less = want_above (p.want + 1) ps at d (tail low p.want (wants_in ps) rise) (omega (arith, within)) in
    first_by (test p) m (m + suc at) want p.want (wants_where test ps) rest (position_from test (m + 1) ps) heads (λ same. absurd (omega (arith, less, is, same)))
    (λ later. first_at test want (p.want + 1) (m + 1) ps at d rest (tail low p.want (wants_in ps) rise) (omega (arith, within)) is later ∙ ap Some (omega arith))

-- a place has a request to read where nothing has been read yet
first_anyhow : (test : Parked → Bool) (want : ℕ) (ps : List Parked) (at : ℕ) (rest : List ℕ) → Rise (wants_in ps) → at < length ps → ((d : Parked) → (get_or ps at d).want ≡ want)
    → wants_where test ps ≡ want ∷ rest → position_from test 0 ps ≡ Some at
first_anyhow test want [] at rest rise within is heads = absurd (omega (arith, within))
first_anyhow test want (p ∷ ps) at rest rise within is heads = first_at test want 0 0 (p ∷ ps) at p rest rise within (is p) heads ∙ ap Some (omega arith)

stands_at : (want : ℕ) (ps : List Parked) (at : ℕ) → Rise (wants_in ps) → at < length ps → ((d : Parked) → nat_cmp (get_or ps at d).want want ≡ Equal) → Stands want ps at
stands_at want ps at rise within equal =
    record {
      within = within;
      is = λ d. equal_is (get_or ps at d).want want (equal d);
      only = λ test only d. position_from-zero test ps ∙ only_at test want 0 0 ps at d only rise within (equal_is (get_or ps at d).want want (equal d)) ∙ ap (λ k. cond (test (get_or ps at d)) (Some k) None) (omega arith);
      first = λ test rest heads. position_from-zero test ps ∙ first_anyhow test want ps at rest rise within (λ d. equal_is (get_or ps at d).want want (equal d)) heads;
    }

-- ---- no request has the want

abbrev Avoids : ℕ → List Parked → Type 0
Avoids want ps = (i : ℕ) (d : Parked) → i < length ps → (get_or ps i d).want ≢ want

avoids_only : (test : Parked → Bool) (want m : ℕ) (ps : List Parked) → IsOnly want test → Avoids want ps → position_from test m ps ≡ None
avoids_only test want m [] only avoids = refl
avoids_only test want m (p ∷ ps) only avoids =
    ap (λ b. cond b (Some m) (position_from test (m + 1) ps)) (never (test p) (λ is. avoids 0 p (omega arith) (only p is)))
    ∙ avoids_only test want (m + 1) ps only (λ i d is. avoids (suc i) d (omega (arith, is)))

heads_by : (b : Bool) (want low : ℕ) (ws rest : List ℕ) → cond b (low ∷ ws) ws ≡ want ∷ rest → (low ≡ want) ⊎ (ws ≡ want ∷ rest)
heads_by true want low ws rest is = let same : low ≡ want = cc in inl same
heads_by false want low ws rest is = inr is

avoids_first : (test : Parked → Bool) (want : ℕ) (ps : List Parked) (rest : List ℕ) → Avoids want ps → wants_where test ps ≡ want ∷ rest → ⊥
avoids_first test want [] rest avoids is = let no : [] ≡ want ∷ rest = is in cc
avoids_first test want (p ∷ ps) rest avoids is =
    ⊎_elim (λ same. avoids 0 p (omega arith) same) (λ later. avoids_first test want ps rest (λ i d within. avoids (suc i) d (omega (arith, within))) later)
    (heads_by (test p) want p.want (wants_where test ps) rest is)

lacks_at : (want : ℕ) (ps : List Parked) (at : ℕ) → AllWithin (λ (p : Parked). nat_cmp p.want want ≡ Less) ps 0 at → AllWithin (λ (p : Parked). nat_cmp p.want want ≡ Greater) ps at (length ps) → Lacks want ps
lacks_at want ps at below beyond =
    let avoids : Avoids want ps = λ i d is. ⊎_elim
    (λ (t : i < at). λ same. let less : (get_or ps i d).want < want = less_is (get_or ps i d).want want (below i d (omega arith) t) in omega (arith, less, same))
    (λ (t : at ≤ i). λ same. let more : want < (get_or ps i d).want = greater_is (get_or ps i d).want want (beyond i d t is) in omega (arith, more, same))
    (cases_lt i at) in
    record { only = λ test only. position_from-zero test ps ∙ avoids_only test want 0 ps only avoids; first = λ test rest is. avoids_first test want ps rest avoids is }

-- what a binary search for the request with a want answers
pub record IsAnswered (want : ℕ) (ps : List Parked) (r : Result ℕ ℕ) : Type 0 where
  pub found : IfOk r (Stands want ps)
  pub absent : IfErr r (λ at. Lacks want ps)

pub answered : (want : ℕ) (ps : List Parked) → Rise (wants_in ps) → (r : Result ℕ ℕ) → IsSearchInRange r (length ps) → IsBinarySearchResult (λ (p : Parked). nat_cmp p.want want) ps r → IsAnswered want ps r
answered want ps rise (Ok at) within equal = record { found = stands_at want ps at rise within equal; absent = tt }
answered want ps rise (Err at) within parted =
    let parts = parted (searchable_from_sorted nat_cmp_total (λ (p : Parked). p.want) ps want (sorted ps rise)) in
    record { found = tt; absent = lacks_at want ps at parts.0 parts.1 }

-- ---- the one that is served

-- the first of those that pass has the first of their wants
heads : (ws : List ℕ) (want : ℕ) → Some want ≡ slice_get ws 0 → (rest : List ℕ) × (ws ≡ want ∷ rest)
heads [] want is = absurd (let no : Some want ≡ None = is in cc)
heads (w ∷ ws) want is = (ws, let same : w ≡ want = cc in ap (λ n. n ∷ ws) same)

pub serves_want : (test : Parked → Bool) (ps read : List Parked) (ws : List ℕ) (want : ℕ) (r : Result ℕ ℕ) → ws ≡ wants_where test ps → Some want ≡ slice_get ws 0 → read ≡ ps → IfOk r (Stands want read) → IfErr r (λ at. Lacks want read)
    → result_ok r ≡ position test ps
serves_want test ps read ws want (Ok at) are is same found absent =
    let h = heads ws want is in
    sym (ap (position test) (sym same) ∙ found.first test h.0 (ap (wants_where test) same ∙ sym are ∙ h.1))
serves_want test ps read ws want (Err at) are is same found absent =
    let h = heads ws want is in
    absurd (absent.first test h.0 (ap (wants_where test) same ∙ sym are ∙ h.1))

none_by : (b : Bool) (m want : ℕ) (ws : List ℕ) (o : Option ℕ) → [] ≡ cond b (want ∷ ws) ws → ([] ≡ ws → o ≡ None) → cond b (Some m) o ≡ None
none_by true m want ws o is rest = absurd (let no : [] ≡ want ∷ ws = is in cc)
none_by false m want ws o is rest = rest is

none_from : (test : Parked → Bool) (m : ℕ) (ps : List Parked) → [] ≡ wants_where test ps → position_from test m ps ≡ None
none_from test m [] is = refl
none_from test m (p ∷ ps) is = none_by (test p) m p.want (wants_where test ps) (position_from test (m + 1) ps) is (none_from test (m + 1) ps)

empty : (ws : List ℕ) → None ≡ slice_get ws 0 → [] ≡ ws
empty [] is = refl
empty (w ∷ ws) is = absurd (let no : None ≡ Some w = is in cc)

pub serves_nobody : (test : Parked → Bool) (ps : List Parked) (ws : List ℕ) → ws ≡ wants_where test ps → None ≡ slice_get ws 0 → None ≡ position test ps
serves_nobody test ps ws are is = sym (position_from-zero test ps ∙ none_from test 0 ps (empty ws is ∙ are))

-- the one with a key and a want
of_want : (k : Key) (want : ℕ) → IsOnly want (is_wanted k want)
of_want k want p is = same_number p.want want (left (p.want == want) (same_key p.key k) is)

pub wanted_none : (k : Key) (want : ℕ) (ps read : List Parked) (r : Result ℕ ℕ) → result_ok r ≡ None → read ≡ ps → IfErr r (λ at. Lacks want read) → None ≡ position (is_wanted k want) ps
wanted_none k want ps read (Ok at) is same absent = absurd (let no : Some at ≡ None = is in cc)
wanted_none k want ps read (Err at) is same absent = sym (ap (position (is_wanted k want)) (sym same) ∙ absent.only (is_wanted k want) (of_want k want))

wanted_by : (k : Key) (want : ℕ) (p : Parked) → p.want ≡ want → is_wanted k want p ≡ same_key p.key k
wanted_by k want p is = ap (λ b. b && same_key p.key k) (same_test p.want want is)

pub wanted_at : (k : Key) (want : ℕ) (ps read : List Parked) (r : Result ℕ ℕ) (at : ℕ) (p : Parked) (b : Bool) → result_ok r ≡ Some at → read ≡ ps → IfOk r (Stands want read) → p ≡ get_or ps at p → b ≡ same_key p.key k
    → cond b (Some at) None ≡ position (is_wanted k want) ps
wanted_at k want ps read (Err n) at p b is same found there tests = absurd (let no : None ≡ Some at = is in cc)
wanted_at k want ps read (Ok n) at p b is same found there tests =
    let one : n ≡ at = cc in
    let stands : Stands want ps at = subst (λ l. Stands want l at) same (subst (Stands want read) one found) in
    let is_same : b ≡ is_wanted k want (get_or ps at p) = tests ∙ sym (wanted_by k want p (ap (λ (q : Parked). q.want) there ∙ stands.is p)) ∙ ap (is_wanted k want) there in
    ap (λ b. cond b (Some at) None) is_same ∙ sym (stands.only (is_wanted k want) (of_want k want) p)

pub stands_within : (want : ℕ) (ps read : List Parked) (r : Result ℕ ℕ) (at : ℕ) → result_ok r ≡ Some at → read ≡ ps → IfOk r (Stands want read) → at < length ps
stands_within want ps read (Err n) at is same found = absurd (let no : None ≡ Some at = is in cc)
stands_within want ps read (Ok n) at is same found =
    let one : n ≡ at = cc in
    subst (λ l. at < length l) same (subst (λ m. m < length read) one found.within)

-- ---- a walk over those that wait

where_append : (test : Parked → Bool) (ps qs : List Parked) → wants_where test (ps ++ qs) ≡ wants_where test ps ++ wants_where test qs
where_append test [] qs = refl
where_append test (p ∷ ps) qs =
    elim (test p) as (λ b. cond b (p.want ∷ wants_where test (ps ++ qs)) (wants_where test (ps ++ qs)) ≡ cond b (p.want ∷ wants_where test ps) (wants_where test ps) ++ wants_where test qs) [
      | true ↦ ap (λ l. p.want ∷ l) (where_append test ps qs)
      | false ↦ where_append test ps qs
    ]

-- the same pass
pub same_where : (one other : Parked → Bool) (ps : List Parked) → ((p : Parked) → one p ≡ other p) → wants_where one ps ≡ wants_where other ps
same_where one other ps same = ap (λ test. wants_where test ps) (λ i p. same p i)

take_next : (ps : List Parked) (i : ℕ) (d : Parked) → i < length ps → take (suc i) ps ≡ take i ps ++ get_or ps i d ∷ []
take_next [] i d is = absurd (omega (arith, is))
take_next (p ∷ ps) zero d is = refl
take_next (p ∷ ps) (suc i) d is = ap (λ l. p ∷ l) (take_next ps i d (omega (arith, is)))

module _ (new old : Parked → Bool) where
  -- a walk has come so far
  abbrev pub walked : ℕ → List Parked → List ℕ
  walked i ps = wants_where new (take i ps) ++ wants_where old (drop i ps)

  mix_by : (low : ℕ) (b : Bool) (want : ℕ) (xs ys : List ℕ) → low ≤ want → T (rise_from (want + 1) (xs ++ ys)) → T (rise_from low (cond b (want ∷ xs) xs ++ ys))
  mix_by low true want xs ys less rest = onto low want (xs ++ ys) less rest
  mix_by low false want xs ys less rest = lower low (want + 1) (xs ++ ys) (omega (arith, less)) rest

  mix : (low : ℕ) (ps : List Parked) (i : ℕ) (d : Parked) → T (rise_from low (wants_in ps)) → i < length ps
      → T (rise_from low (wants_where new (take i ps) ++ (get_or ps i d).want ∷ wants_where old (drop (suc i) ps)))
  mix low [] i d rise is = absurd (omega (arith, is))
  mix low (p ∷ ps) zero d rise is =
      onto low p.want (wants_where old ps) (head low p.want (wants_in ps) rise) (where_rise old (p.want + 1) ps (tail low p.want (wants_in ps) rise))
  mix low (p ∷ ps) (suc i) d rise is =
      mix_by low (new p) p.want (wants_where new (take i ps)) ((get_or ps i d).want ∷ wants_where old (drop (suc i) ps))
      (head low p.want (wants_in ps) rise) (mix (p.want + 1) ps i d (tail low p.want (wants_in ps) rise) (omega (arith, is)))

  drop_at : (ps : List Parked) (i : ℕ) (d : Parked) → i < length ps → drop i ps ≡ get_or ps i d ∷ drop (suc i) ps
  drop_at [] i d is = absurd (omega (arith, is))
  drop_at (p ∷ ps) zero d is = refl
  drop_at (p ∷ ps) (suc i) d is = drop_at ps i d (omega (arith, is))

  -- the next one stands among the others
  pub is_around : (ps : List Parked) (i : ℕ) (p : Parked) (ws : List ℕ) → Rise (wants_in ps) → i < length ps → p ≡ get_or ps i p → ws ≡ walked i ps
      → IsAround (wants_where new (take i ps)) p.want (old p) (wants_where old (drop (suc i) ps)) ws
  is_around ps i p ws rise is read are =
      record {
        rise = subst (λ (q : Parked). Rise (wants_where new (take i ps) ++ q.want ∷ wants_where old (drop (suc i) ps))) (sym read) (mix 0 ps i p rise is);
        are = are ∙ ap (λ l. wants_where new (take i ps) ++ wants_where old l) (drop_at ps i p is)
            ∙ ap (λ (q : Parked). wants_where new (take i ps) ++ wants_where old (q ∷ drop (suc i) ps)) (sym read);
      }

  one_more : (b : Bool) (want : ℕ) (xs ys : List ℕ) → xs ++ cond b (want ∷ ys) ys ≡ (xs ++ cond b (want ∷ []) []) ++ ys
  one_more true want xs ys = sym (append_assoc xs (want ∷ []) ys)
  one_more false want xs ys = sym (append_assoc xs [] ys)

  pub walked_more : (ps : List Parked) (i : ℕ) (p : Parked) → i < length ps → p ≡ get_or ps i p
      → around (wants_where new (take i ps)) p.want (new p) (wants_where old (drop (suc i) ps)) ≡ walked (i + 1) ps
  walked_more ps i p is read =
      one_more (new p) p.want (wants_where new (take i ps)) (wants_where old (drop (suc i) ps))
      ∙ ap (λ l. l ++ wants_where old (drop (suc i) ps)) (sym (where_append new (take i ps) (p ∷ [])))
      ∙ ap (λ (q : Parked). wants_where new (take i ps ++ q ∷ []) ++ wants_where old (drop (suc i) ps)) read
      ∙ ap (λ l. wants_where new l ++ wants_where old (drop (suc i) ps)) (sym (take_next ps i p is))
      ∙ ap (λ n. walked n ps) {x = suc i} (omega arith)

  pub all_walked : (ps : List Parked) (i : ℕ) → length ps ≤ i → walked i ps ≡ wants_where new ps
  all_walked [] zero is = refl
  all_walked [] (suc i) is = refl
  all_walked (p ∷ ps) zero is = absurd (omega (arith, is))
  all_walked (p ∷ ps) (suc i) is =
      elim (new p) as (λ b. cond b (p.want ∷ wants_where new (take i ps)) (wants_where new (take i ps)) ++ wants_where old (drop i ps) ≡ cond b (p.want ∷ wants_where new ps) (wants_where new ps)) [
        | true ↦ ap (λ l. p.want ∷ l) (all_walked ps i (omega (arith, is)))
        | false ↦ all_walked ps i (omega (arith, is))
      ]

-- one leaves
pub leaves_around : (test : Parked → Bool) (ps : List Parked) (at : ℕ) (p : Parked) (ws : List ℕ) → Rise (wants_in ps) → at < length ps → p ≡ get_or ps at p → ws ≡ wants_where test ps
    → IsAround (wants_where test (take at ps)) p.want (test p) (wants_where test (drop (suc at) ps)) ws
leaves_around test ps at p ws rise is read are =
    is_around test test ps at p ws rise is read (are ∙ ap (wants_where test) (sym (take-append-drop at ps)) ∙ where_append test (take at ps) (drop at ps))

pub where_without : (test : Parked → Bool) (ps : List Parked) (at : ℕ) → wants_where test (take at ps) ++ wants_where test (drop (suc at) ps) ≡ wants_where test (remove ps at)
where_without test ps at = sym (where_append test (take at ps) (drop (suc at) ps))

-- those leave that pass another test
pub where_filter : (leaves test : Parked → Bool) (ps : List Parked) → wants_where (λ p. cond (leaves p) false (test p)) ps ≡ wants_where test (filter (λ p. not (leaves p)) ps)
where_filter leaves test [] = refl
where_filter leaves test (p ∷ ps) =
    elim (leaves p) as (λ b. cond (cond b false (test p)) (p.want ∷ wants_where (λ q. cond (leaves q) false (test q)) ps) (wants_where (λ q. cond (leaves q) false (test q)) ps)
    ≡ wants_where test (cond (not b) (p ∷ filter (λ q. not (leaves q)) ps) (filter (λ q. not (leaves q)) ps))) [
      | true ↦ where_filter leaves test ps
      | false ↦ ap (λ l. cond (test p) (p.want ∷ l) l) (where_filter leaves test ps)
    ]

-- one joins
pub where_push : (test : Parked → Bool) (ps : List Parked) (p : Parked) (ws : List ℕ) → ws ≡ wants_where test ps → ws ++ cond (test p) (p.want ∷ []) [] ≡ wants_where test (ps ++ p ∷ [])
where_push test ps p ws are = ap (λ l. l ++ cond (test p) (p.want ∷ []) []) are ∙ sym (where_append test ps (p ∷ []))

length_where : (test : Parked → Bool) (ps : List Parked) → length (wants_where test ps) ≤ length ps
length_where test [] = omega arith
length_where test (p ∷ ps) =
    let rest = length_where test ps in
    elim (test p) as (λ b. length (cond b (p.want ∷ wants_where test ps) (wants_where test ps)) ≤ suc (length ps)) [ true ↦ omega (arith, rest) | false ↦ omega (arith, rest) ]

-- they are no more than those that wait
pub where_fits : (test : Parked → Bool) (ps : List Parked) (ws : List ℕ) → ws ≡ wants_where test ps → length ws ≤ length ps
where_fits test ps ws are = subst (λ l. length l ≤ length ps) (sym are) (length_where test ps)

-- ---- the line

pub line_rises : (next : ℕ) (ps : List Parked) → IsLine next ps → Rise (wants_in ps)
line_rises next ps line = front 0 (wants_in ps) next line

line_without : (low high : ℕ) (ps : List Parked) (at : ℕ) → T (rise_from low (wants_in ps ++ high ∷ [])) → T (rise_from low (wants_in (remove ps at) ++ high ∷ []))
line_without low high [] zero rise = rise
line_without low high [] (suc at) rise = rise
line_without low high (p ∷ ps) zero rise =
    let here = head low p.want (wants_in ps ++ high ∷ []) rise in
    lower low (p.want + 1) (wants_in ps ++ high ∷ []) (omega (arith, here)) (tail low p.want (wants_in ps ++ high ∷ []) rise)
line_without low high (p ∷ ps) (suc at) rise =
    onto low p.want (wants_in (remove ps at) ++ high ∷ []) (head low p.want (wants_in ps ++ high ∷ []) rise) (line_without (p.want + 1) high ps at (tail low p.want (wants_in ps ++ high ∷ []) rise))

pub line_left : (next : ℕ) (ps : List Parked) (at : ℕ) → IsLine next ps → IsLine next (remove ps at)
line_left next ps at line = line_without 0 next ps at line

filter_by : (low high : ℕ) (b : Bool) (p : Parked) (ps : List Parked) → low ≤ p.want → T (rise_from (p.want + 1) (wants_in ps ++ high ∷ [])) → T (rise_from low (wants_in (cond b (p ∷ ps) ps) ++ high ∷ []))
filter_by low high true p ps is rise = onto low p.want (wants_in ps ++ high ∷ []) is rise
filter_by low high false p ps is rise = lower low (p.want + 1) (wants_in ps ++ high ∷ []) (omega (arith, is)) rise

line_filter : (test : Parked → Bool) (low high : ℕ) (ps : List Parked) → T (rise_from low (wants_in ps ++ high ∷ [])) → T (rise_from low (wants_in (filter test ps) ++ high ∷ []))
line_filter test low high [] rise = rise
line_filter test low high (p ∷ ps) rise =
    filter_by low high (test p) p (filter test ps) (head low p.want (wants_in ps ++ high ∷ []) rise) (line_filter test (p.want + 1) high ps (tail low p.want (wants_in ps ++ high ∷ []) rise))

pub line_passing : (test : Parked → Bool) (next : ℕ) (ps : List Parked) → IsLine next ps → IsLine next (filter test ps)
line_passing test next ps line = line_filter test 0 next ps line

line_push : (low : ℕ) (ps : List Parked) (p : Parked) → T (rise_from low (wants_in ps ++ p.want ∷ [])) → T (rise_from low (wants_in (ps ++ p ∷ []) ++ (p.want + 1) ∷ []))
line_push low [] p rise = onto low p.want ((p.want + 1) ∷ []) (head low p.want [] rise) (onto (p.want + 1) (p.want + 1) [] (omega arith) tt)
line_push low (q ∷ ps) p rise =
    onto low q.want (wants_in (ps ++ p ∷ []) ++ (p.want + 1) ∷ []) (head low q.want (wants_in ps ++ p.want ∷ []) rise) (line_push (q.want + 1) ps p (tail low q.want (wants_in ps ++ p.want ∷ []) rise))

pub line_joined : (ps : List Parked) (p : Parked) → IsLine p.want ps → IsLine (p.want + 1) (ps ++ p ∷ [])
line_joined ps p line = line_push 0 ps p line

-- ---- the keys that they wait for

neither : (a b : Bool) → (a || b) ≡ false → (a ≡ false) × (b ≡ false)
neither true b is = absurd (let no : true ≡ false = is in cc)
neither false b is = (refl, is)

nobody_among : (k : Key) (b : Bool) (test : Parked → Bool) (ps : List Parked) → list_any (λ q. same_key q k) (keys_in ps) ≡ false → wants_where test ps ≡ wants_where (with_key k b test) ps
nobody_among k b test [] none = refl
nobody_among k b test (p ∷ ps) none =
    let parts = neither (same_key p.key k) (list_any (λ q. same_key q k) (keys_in ps)) none in
    ap (λ l. cond (test p) (p.want ∷ l) l) (nobody_among k b test ps parts.1)
    ∙ ap (λ c. cond (cond c b (test p)) (p.want ∷ wants_where (with_key k b test) ps) (wants_where (with_key k b test) ps)) (sym parts.0)

-- nobody waits for the key
pub nobody_waits : (k : Key) (b : Bool) (test : Parked → Bool) (ps : List Parked) (read : List Key) → read ≡ keys_in ps → list_any (λ q. same_key q k) read ≡ false → wants_where test ps ≡ wants_where (with_key k b test) ps
nobody_waits k b test ps read same none = nobody_among k b test ps (ap (list_any (λ q. same_key q k)) (sym same) ∙ none)

pub keys_left : (ps : List Parked) (at : ℕ) → remove (keys_in ps) at ≡ keys_in (remove ps at)
keys_left [] zero = refl
keys_left [] (suc at) = refl
keys_left (p ∷ ps) zero = refl
keys_left (p ∷ ps) (suc at) = ap (λ l. p.key ∷ l) (keys_left ps at)

pub keys_more : (ps : List Parked) (i : ℕ) (p : Parked) → i < length ps → p ≡ get_or ps i p → keys_in (take i ps) ++ p.key ∷ [] ≡ keys_in (take (i + 1) ps)
keys_more ps i p is read =
    ap (λ (q : Parked). keys_in (take i ps) ++ q.key ∷ []) read ∙ sym (ap keys_in (take_next ps i p is) ∙ map_push (λ (q : Parked). q.key) (take i ps) (get_or ps i p))
    ∙ ap (λ n. keys_in (take n ps)) {x = suc i} (omega arith)

pub keys_all : (ps : List Parked) (i : ℕ) → length ps ≤ i → keys_in (take i ps) ≡ keys_in ps
keys_all [] zero is = refl
keys_all [] (suc i) is = refl
keys_all (p ∷ ps) zero is = absurd (omega (arith, is))
keys_all (p ∷ ps) (suc i) is = ap (λ l. p.key ∷ l) (keys_all ps i (omega (arith, is)))

pub keys_joined : (ps : List Parked) (p : Parked) → keys_in ps ++ p.key ∷ [] ≡ keys_in (ps ++ p ∷ [])
keys_joined ps p = sym (map_push (λ (q : Parked). q.key) ps p)

length_passing : (test : Parked → Bool) (ps : List Parked) → length (filter test ps) ≤ length ps
length_passing test [] = omega arith
length_passing test (p ∷ ps) =
    let rest = length_passing test ps in
    elim (test p) as (λ b. length (cond b (p ∷ filter test ps) (filter test ps)) ≤ suc (length ps)) [ true ↦ omega (arith, rest) | false ↦ omega (arith, rest) ]

pub passing_fits : (test : Parked → Bool) (ps left : List Parked) (keys : List Key) → keys ≡ keys_in ps → left ≡ filter test ps → length left ≤ length keys
passing_fits test ps left keys same is =
    let fewer = length_passing test ps in
    subst (λ l. length l ≤ length keys) (sym is) (omega (arith, fewer, ap length same, length-map ps (λ (p : Parked). p.key)))

-- ---- a walk over those that wait, anew

pub where_more : (test : Parked → Bool) (ps : List Parked) (i : ℕ) (p : Parked) (ws : List ℕ) → i < length ps → p ≡ get_or ps i p → ws ≡ wants_where test (take i ps)
    → ws ++ cond (test p) (p.want ∷ []) [] ≡ wants_where test (take (i + 1) ps)
where_more test ps i p ws is read are =
    where_push test (take i ps) p ws are ∙ ap (λ (q : Parked). wants_where test (take i ps ++ q ∷ [])) read ∙ sym (ap (wants_where test) (take_next ps i p is))
    ∙ ap (λ n. wants_where test (take n ps)) {x = suc i} (omega arith)

pub where_all : (test : Parked → Bool) (ps : List Parked) (i : ℕ) → length ps ≤ i → wants_where test (take i ps) ≡ wants_where test ps
where_all test [] zero is = refl
where_all test [] (suc i) is = refl
where_all test (p ∷ ps) zero is = absurd (omega (arith, is))
where_all test (p ∷ ps) (suc i) is = ap (λ l. cond (test p) (p.want ∷ l) l) (where_all test ps i (omega (arith, is)))
