-- Keys in their order, each with the place of what is known of it.
use Rattle.sv_core.proofs.Prelude.{◌≡◌, ◌≢◌, ℕ, zero, suc, ◌+◌, ◌<◌, ◌≤◌, Bool, true, false, cond, Option, Some, None, Result, Ok, Err, IfOk, IfErr, List, []}
use Rattle.sv_core.proofs.Prelude.{◌∷◌, ◌++◌, ◌-◌, inl, inr, length, get_or, take, drop, set, arith, refl, sym, ap, ◌∙◌, subst, T, ◌&&◌, ◌==◌, not, nat_lt}
use Rattle.sv_core.proofs.Prelude.{option_map, unwrap_or, AllWithin, IsSearchInRange, IsBinarySearchResult, IsSortedBy, find, put, is_sorted, below_all}
use Rattle.sv_core.proofs.Prelude.{by_order, is_sorted-put, is_lt, is_eq, Ordering, Less, Equal, Greater, searchable_from_sorted, nat_tests, Key, KeyState}
use Rattle.sv_core.proofs.Prelude.{key_cmp, same_key, is_over, first_over, Place, Rises, are_within, AreWithin, is_free, are_apart, state_at, seen, erase}
use Rattle.sv_core.proofs.Prelude.{IsFound, IsGap, keys_total, exact_keys}
use Rattle.std.specs.Prelude.{⊤, IsOk, is_ok}
use Rattle.std.specs.FinMap.Entries.{find-put, same_entries}
use Rattle.std.proofs.lemmas.Bool.{cases_eq}
use Rattle.sv_core.proofs.OrderLemmas.{first, second, both, less, reversed, one_key}

-- ---- where a key stands

below_at : (x : Key) (ps : List Place) (at : ℕ) (d : Place) → T (below_all key_cmp x ps) → at < length ps → key_cmp x (get_or ps at d).0 ≡ Less
below_at x [] at d below is = absurd (omega (arith, is))
below_at x (p ∷ ps) zero d below is = less _ (first _ _ below)
below_at x (p ∷ ps) (suc at) d below is = below_at x ps at d (second _ _ below) (omega (arith, is))

-- the key before another one is below it
adjacent : (ps : List Place) (at : ℕ) (d : Place) → Rises ps → at + 1 < length ps → is_lt (key_cmp (get_or ps (suc at) d).0 (get_or ps at d).0) ≡ false
adjacent [] at d rises is = absurd (omega (arith, is))
adjacent (p ∷ ps) zero d rises is = ap is_lt (reversed p.0 (get_or ps 0 d).0 Less (below_at p.0 ps 0 d (first _ _ rises) (omega (arith, is))))
adjacent (p ∷ ps) (suc at) d rises is = adjacent ps at d (second _ _ rises) (omega (arith, is))

sorted : (ps : List Place) → Rises ps → IsSortedBy (λ a b. is_lt (key_cmp a.0 b.0)) ps
sorted ps rises at d from to = subst (λ n. is_lt (key_cmp (get_or ps n d).0 (get_or ps at d).0) ≡ false) {x = suc at} (omega arith) (adjacent ps at d rises to)

found_at : (k : Key) (ps : List Place) (at : ℕ) → Rises ps → at < length ps → ((d : Place) → key_cmp (get_or ps at d).0 k ≡ Equal) → IsFound k ps at
found_at k [] at rises within equal = absurd (omega (arith, within))
found_at k (p ∷ ps) zero rises within equal =
    let is : key_cmp k p.0 ≡ Equal = reversed p.0 k Equal (equal p) in
    record {
      within = within;
      value = ap (λ o. cond (is_eq o) (Some p.1) (find key_cmp k ps)) is;
      puts = λ place. ap (λ o. by_order o ((k, place) ∷ p ∷ ps) ((p.0, place) ∷ ps) (p ∷ put key_cmp k place ps)) is ∙ ap (λ (q : Key). (q, place) ∷ ps) (exact_keys p.0 k (equal p));
      erased = ap (λ o. cond (is_eq o) ps (p ∷ erase k ps)) is;
    }
found_at k (p ∷ ps) (suc at) rises within equal =
    let here : at < length ps = omega (arith, within) in
    let rest : IsFound k ps at = found_at k ps at (second _ _ rises) here equal in
    let same : (get_or ps at p).0 ≡ k = exact_keys _ _ (equal p) in
    let is : key_cmp k p.0 ≡ Greater = reversed p.0 k Less (subst (λ (q : Key). key_cmp p.0 q ≡ Less) same (below_at p.0 ps at p (first _ _ rises) here)) in
    record {
      within = within;
      value = ap (λ o. cond (is_eq o) (Some p.1) (find key_cmp k ps)) is ∙ rest.value;
      puts = λ place. ap (λ o. by_order o ((k, place) ∷ p ∷ ps) ((p.0, place) ∷ ps) (p ∷ put key_cmp k place ps)) is ∙ ap (λ l. p ∷ l) (rest.puts place);
      erased = ap (λ o. cond (is_eq o) ps (p ∷ erase k ps)) is ∙ ap (λ l. p ∷ l) rest.erased;
    }

gap_at : (k : Key) (ps : List Place) (at : ℕ) → at ≤ length ps → AllWithin (λ p. key_cmp p.0 k ≡ Less) ps 0 at → AllWithin (λ p. key_cmp p.0 k ≡ Greater) ps at (length ps) → IsGap k ps at
gap_at k [] zero within below above = record { within = within; unknown = refl; puts = λ place. refl; erased = refl }
gap_at k [] (suc at) within below above = absurd (omega (arith, within))
gap_at k (p ∷ ps) zero within below above =
    let is : key_cmp k p.0 ≡ Less = reversed p.0 k Greater (above 0 p (omega arith) (omega arith)) in
    let rest : IsGap k ps 0 = gap_at k ps 0 (omega arith) (λ n d from to. absurd (omega arith)) (λ n d from to. above (suc n) d (omega arith) (omega arith)) in
    record {
      within = within;
      unknown = ap (λ o. cond (is_eq o) (Some p.1) (find key_cmp k ps)) is ∙ rest.unknown;
      puts = λ place. ap (λ o. by_order o ((k, place) ∷ p ∷ ps) ((p.0, place) ∷ ps) (p ∷ put key_cmp k place ps)) is;
      erased = ap (λ o. cond (is_eq o) ps (p ∷ erase k ps)) is ∙ ap (λ l. p ∷ l) rest.erased;
    }
gap_at k (p ∷ ps) (suc at) within below above =
    let is : key_cmp k p.0 ≡ Greater = reversed p.0 k Less (below 0 p (omega arith) (omega arith)) in
    let rest : IsGap k ps at = gap_at k ps at (omega (arith, within)) (λ n d from to. below (suc n) d (omega arith) (omega arith)) (λ n d from to. above (suc n) d (omega arith) (omega arith)) in
    record {
      within = within;
      unknown = ap (λ o. cond (is_eq o) (Some p.1) (find key_cmp k ps)) is ∙ rest.unknown;
      puts = λ place. ap (λ o. by_order o ((k, place) ∷ p ∷ ps) ((p.0, place) ∷ ps) (p ∷ put key_cmp k place ps)) is ∙ ap (λ l. p ∷ l) (rest.puts place);
      erased = ap (λ o. cond (is_eq o) ps (p ∷ erase k ps)) is ∙ ap (λ l. p ∷ l) rest.erased;
    }

rises_between : (ps : List Place) (n m : ℕ) (d : Place) → Rises ps → n < m → m < length ps → key_cmp (get_or ps n d).0 (get_or ps m d).0 ≡ Less
rises_between [] n m d rises less is = absurd (omega (arith, is))
rises_between (p ∷ ps) n zero d rises less is = absurd (omega (arith, less))
rises_between (p ∷ ps) zero (suc m) d rises less is = below_at p.0 ps m d (first _ _ rises) (omega (arith, is))
rises_between (p ∷ ps) (suc n) (suc m) d rises less is = rises_between ps n m d (second _ _ rises) (omega (arith, less)) (omega (arith, is))

behind_at : (k : Key) (ps : List Place) (m : ℕ) → Rises ps → m + 1 ≡ length ps → ((d : Place) → key_cmp (get_or ps m d).0 k ≡ Less) → IsGap k ps (length ps)
behind_at k ps m rises last above =
    gap_at k ps (length ps) (omega arith)
    (λ n d from to.
    elim (cases_eq n m) [
      | inl same ↦ subst (λ i. key_cmp (get_or ps i d).0 k ≡ Less) (sym same) (above d)
      | inr other ↦ keys_total.trans (get_or ps n d).0 (get_or ps m d).0 k (rises_between ps n m d rises (omega (arith, to, last, other)) (omega (arith, last))) (above d)
    ])
    (λ n d from to. absurd (omega (arith, from, to)))

lt_less : (o : Ordering) → is_lt o ≡ true → o ≡ Less
lt_less Less is = refl
lt_less Equal is = absurd (cc)
lt_less Greater is = absurd (cc)

eq_equal : (o : Ordering) → is_eq o ≡ true → o ≡ Equal
eq_equal Less is = absurd (cc)
eq_equal Equal is = refl
eq_equal Greater is = absurd (cc)

-- a key above the last one stands after all
pub behind_last : (k : Key) (ps : List Place) (last : Place) → Rises ps → 0 < length ps → ((d : Place) → get_or ps (length ps - 1) d ≡ last) → is_lt (key_cmp last.0 k) ≡ true → IsGap k ps (length ps)
behind_last k ps last rises some at above =
    behind_at k ps (length ps - 1) rises (omega (arith, some)) (λ d. subst (λ (p : Place). key_cmp p.0 k ≡ Less) (sym (at d)) (lt_less _ above))

-- it stands where it is met
pub met_at : (k : Key) (ps : List Place) (at : ℕ) (place : Place) → Rises ps → at < length ps → ((d : Place) → get_or ps at d ≡ place) → is_eq (key_cmp place.0 k) ≡ true → IsFound k ps at
met_at k ps at place rises within is equal =
    found_at k ps at rises within (λ d. subst (λ (p : Place). key_cmp p.0 k ≡ Equal) (sym (is d)) (eq_equal _ equal))

-- what a binary search answers
pub record IsSearched (k : Key) (ps : List Place) (r : Result ℕ ℕ) : Type 0 where
  pub found : IfOk r (IsFound k ps)
  pub absent : IfErr r (IsGap k ps)

pub searched : (k : Key) (ps : List Place) → Rises ps → (r : Result ℕ ℕ) → IsSearchInRange r (length ps) → IsBinarySearchResult (λ p. key_cmp p.0 k) ps r → IsSearched k ps r
searched k ps rises (Ok at) within equal = record { found = found_at k ps at rises within equal; absent = tt }
searched k ps rises (Err at) within parted =
    let parts = parted (searchable_from_sorted keys_total (λ p. p.0) ps k (sorted ps rises)) in
    record { found = tt; absent = gap_at k ps at within parts.0 parts.1 }

-- ---- a key is put among them

by_key : (q k : Key) (at : ℕ) (ps : List Place) (b : Bool) → same_key q k ≡ b → find key_cmp k ps ≡ Some at → cond b (Some at) (find key_cmp q ps) ≡ find key_cmp q ps
by_key q k at ps true same is = sym (ap (λ (x : Key). find key_cmp x ps) (one_key q k same) ∙ is)
by_key q k at ps false same is = refl

-- one that is there with its place stays
pub put_same : (k : Key) (at : ℕ) (ps : List Place) → Rises ps → find key_cmp k ps ≡ Some at → put key_cmp k at ps ≡ ps
put_same k at ps rises is =
    same_entries key_cmp keys_total exact_keys (put key_cmp k at ps) ps (is_sorted-put key_cmp keys_total k at ps rises) rises
    (λ q. find-put key_cmp keys_total q k at ps ∙ by_key q k at ps (same_key q k) refl is)

-- where there is room nothing is refused
pub not_refused : {X R E : Type 0} (r : Result R E) (xs old ys : List X) → ys ≡ cond (is_ok r) xs old → IsOk r → ys ≡ xs
not_refused (Ok x) xs old ys is ok = is
not_refused (Err e) xs old ys is ok = absurd (let no : false ≡ true = ok in cc)

pub put_rises : (k : Key) (place : ℕ) (ps : List Place) → Rises ps → Rises (put key_cmp k place ps)
put_rises k place ps rises = is_sorted-put key_cmp keys_total k place ps rises

-- ---- the places

pub is_below : (m n : ℕ) → m < n → T (nat_lt m n)
is_below m n is = grind (arith, nat_tests)

pub below_is : (m n : ℕ) → T (nat_lt m n) → m < n
below_is m n is = grind (arith, nat_tests)

pub within_more : (n m : ℕ) (ps : List Place) → n ≤ m → T (are_within n ps) → T (are_within m ps)
within_more n m [] up within = tt
within_more n m (p ∷ ps) up within =
    let less : p.1 < n = below_is p.1 n (first _ _ within) in
    both _ _ (is_below p.1 m (omega (arith, less, up))) (within_more n m ps up (second _ _ within))

pub within_put : (k : Key) (at n : ℕ) (ps : List Place) → at < n → T (are_within n ps) → T (are_within n (put key_cmp k at ps))
within_put k at n [] less within = both _ _ (is_below at n less) tt
within_put k at n (p ∷ ps) less within =
    elim (key_cmp k p.0) as (λ o. T (are_within n (by_order o ((k, at) ∷ p ∷ ps) ((p.0, at) ∷ ps) (p ∷ put key_cmp k at ps)))) [
      | Less ↦ both _ _ (is_below at n less) within
      | Equal ↦ both _ _ (is_below at n less) (second _ _ within)
      | Greater ↦ both _ _ (first _ _ within) (within_put k at n ps less (second _ _ within))
    ]

pub apart_is : (m n : ℕ) → T (not (m == n)) → m ≢ n
apart_is m n is = grind (arith, nat_tests)

pub is_apart : (m n : ℕ) → m ≢ n → T (not (m == n))
is_apart m n is = grind (arith, nat_tests)

pub free_within : (n : ℕ) (ps : List Place) → T (are_within n ps) → T (is_free n ps)
free_within n [] within = tt
free_within n (p ∷ ps) within =
    let less : p.1 < n = below_is p.1 n (first _ _ within) in
    both _ _ (is_apart p.1 n (λ same. omega (arith, less, same))) (free_within n ps (second _ _ within))

pub free_put : (k : Key) (at n : ℕ) (ps : List Place) → at ≢ n → T (is_free n ps) → T (is_free n (put key_cmp k at ps))
free_put k at n [] other free = both _ _ (is_apart at n other) tt
free_put k at n (p ∷ ps) other free =
    elim (key_cmp k p.0) as (λ o. T (is_free n (by_order o ((k, at) ∷ p ∷ ps) ((p.0, at) ∷ ps) (p ∷ put key_cmp k at ps)))) [
      | Less ↦ both _ _ (is_apart at n other) free
      | Equal ↦ both _ _ (is_apart at n other) (second _ _ free)
      | Greater ↦ both _ _ (first _ _ free) (free_put k at n ps other (second _ _ free))
    ]

pub apart_put : (k : Key) (at : ℕ) (ps : List Place) → T (is_free at ps) → T (are_apart ps) → T (are_apart (put key_cmp k at ps))
apart_put k at [] free apart = tt
apart_put k at (p ∷ ps) free apart =
    elim (key_cmp k p.0) as (λ o. T (are_apart (by_order o ((k, at) ∷ p ∷ ps) ((p.0, at) ∷ ps) (p ∷ put key_cmp k at ps)))) [
      | Less ↦ both _ _ free apart
      | Equal ↦ both (is_free at ps) (are_apart ps) (second (not (p.1 == at)) (is_free at ps) free) (second (is_free p.1 ps) (are_apart ps) apart)
      | Greater ↦ both _ _ (free_put k at p.1 ps (λ same. apart_is p.1 at (first _ _ free) (sym same)) (first _ _ apart)) (apart_put k at ps (second _ _ free) (second _ _ apart))
    ]

found_by : (k : Key) (at n : ℕ) (p : Place) (ps : List Place) (b : Bool) → cond b (Some p.1) (find key_cmp k ps) ≡ Some at → p.1 < n → (find key_cmp k ps ≡ Some at → at < n) → at < n
found_by k at n p ps true is less rest = subst (λ m. m < n) (ap (λ (o : Option ℕ). unwrap_or o at) is) less
found_by k at n p ps false is less rest = rest is

pub found_within : (k : Key) (at n : ℕ) (ps : List Place) → find key_cmp k ps ≡ Some at → T (are_within n ps) → at < n
found_within k at n [] is within = absurd (let no : None ≡ Some at = is in cc)
found_within k at n (p ∷ ps) is within = found_by k at n p ps (same_key k p.0) is (below_is p.1 n (first _ _ within)) (λ there. found_within k at n ps there (second _ _ within))

pub within_at : (n : ℕ) (ps : List Place) (i : ℕ) (d : Place) → T (are_within n ps) → i < length ps → (get_or ps i d).1 < n
within_at n [] i d within is = absurd (omega (arith, is))
within_at n (p ∷ ps) zero d within is = below_is p.1 n (first _ _ within)
within_at n (p ∷ ps) (suc i) d within is = within_at n ps i d (second _ _ within) (omega (arith, is))

-- ---- what is known of the keys

pub find_seen : (k : Key) (states : List KeyState) (ps : List Place) → find key_cmp k (seen states ps) ≡ option_map (state_at states) (find key_cmp k ps)
find_seen k states [] = refl
find_seen k states (p ∷ ps) =
    elim (same_key k p.0) as (λ b. cond b (Some (state_at states p.1)) (find key_cmp k (seen states ps)) ≡ option_map (state_at states) (cond b (Some p.1) (find key_cmp k ps))) [ true ↦ refl | false ↦ find_seen k states ps ]

below_seen : (x : Key) (states : List KeyState) (ps : List Place) → below_all key_cmp x (seen states ps) ≡ below_all key_cmp x ps
below_seen x states [] = refl
below_seen x states (p ∷ ps) = ap (λ b. is_lt (key_cmp x p.0) && b) (below_seen x states ps)

sorted_seen : (states : List KeyState) (ps : List Place) → is_sorted key_cmp (seen states ps) ≡ is_sorted key_cmp ps
sorted_seen states [] = refl
sorted_seen states (p ∷ ps) = λ i. below_seen p.0 states ps i && sorted_seen states ps i

pub seen_rises : (states : List KeyState) (ps : List Place) → Rises ps → Rises (seen states ps)
seen_rises states ps rises = subst T (sym (sorted_seen states ps)) rises

pub length_seen : (states : List KeyState) (ps : List Place) → length (seen states ps) ≡ length ps
length_seen states [] = refl
length_seen states (p ∷ ps) = ap suc (length_seen states ps)

-- of each key but one the same is known
abbrev pub AreSame : Key → List KeyState → List KeyState → List Place → Type 0
AreSame k old new [] = ⊤
AreSame k old new (p ∷ ps) = (same_key k p.0 ≡ false → state_at new p.1 ≡ state_at old p.1) × AreSame k old new ps

-- the key is below all of them
seen_above : (k x : Key) (old new : List KeyState) (ps : List Place) → key_cmp k x ≡ Less → T (below_all key_cmp x ps) → AreSame k old new ps → seen new ps ≡ seen old ps
seen_above k x old new [] low above same = refl
seen_above k x old new (p ∷ ps) low above same =
    let lower : key_cmp k p.0 ≡ Less = keys_total.trans k x p.0 low (less _ (first _ _ above)) in
    λ i. (p.0, same.0 (ap is_eq lower) i) ∷ seen_above k x old new ps low (second _ _ above) same.1 i

seen_over : (k : Key) (old new : List KeyState) (ps : List Place) → T (below_all key_cmp k ps) → AreSame k old new ps → seen new ps ≡ seen old ps
seen_over k old new [] above same = refl
seen_over k old new (p ∷ ps) above same = λ i. (p.0, same.0 (ap is_eq (less _ (first _ _ above))) i) ∷ seen_over k old new ps (second _ _ above) same.1 i

seen_by : (k : Key) (at : ℕ) (st : KeyState) (old new : List KeyState) (p : Place) (ps : List Place) (o : Ordering) → key_cmp k p.0 ≡ o → T (below_all key_cmp p.0 ps) → state_at new at ≡ st → AreSame k old new (p ∷ ps)
    → seen new (put key_cmp k at ps) ≡ put key_cmp k st (seen old ps)
    → seen new (by_order o ((k, at) ∷ p ∷ ps) ((p.0, at) ∷ ps) (p ∷ put key_cmp k at ps)) ≡ by_order o ((k, st) ∷ seen old (p ∷ ps)) ((p.0, st) ∷ seen old ps) ((p.0, state_at old p.1) ∷ put key_cmp k st (seen old ps))
seen_by k at st old new p ps Less is above there same rest = λ i. (k, there i) ∷ (p.0, same.0 (ap is_eq is) i) ∷ seen_above k p.0 old new ps is above same.1 i
seen_by k at st old new p ps Equal is above there same rest =
    λ i. (p.0, there i) ∷ seen_over k old new ps (subst (λ (q : Key). T (below_all key_cmp q ps)) (sym (exact_keys k p.0 is)) above) same.1 i
seen_by k at st old new p ps Greater is above there same rest = λ i. (p.0, same.0 (ap is_eq is) i) ∷ rest i

pub seen_put : (k : Key) (at : ℕ) (st : KeyState) (old new : List KeyState) (ps : List Place) → Rises ps → state_at new at ≡ st → AreSame k old new ps → seen new (put key_cmp k at ps) ≡ put key_cmp k st (seen old ps)
seen_put k at st old new [] rises there same = ap (λ (s : KeyState). (k, s) ∷ []) there
seen_put k at st old new (p ∷ ps) rises there same = seen_by k at st old new p ps (key_cmp k p.0) refl (first _ _ rises) there same (seen_put k at st old new ps (second _ _ rises) there same.1)

-- ---- a walk over them

-- those before a place have not expired
abbrev pub NoneOver : ℕ → List KeyState → List Place → ℕ → Type 0
NoneOver now states ps i = first_over now (seen states (drop i ps)) ≡ first_over now (seen states ps)

drop_at : (ps : List Place) (i : ℕ) (d : Place) → i < length ps → drop i ps ≡ get_or ps i d ∷ drop (suc i) ps
drop_at [] i d is = absurd (omega (arith, is))
drop_at (p ∷ ps) zero d is = refl
drop_at (p ∷ ps) (suc i) d is = drop_at ps i d (omega (arith, is))

next_is : (now : ℕ) (states : List KeyState) (ps : List Place) (i : ℕ) (d : Place) (b : Bool) → i < length ps → is_over now (state_at states (get_or ps i d).1) ≡ b → NoneOver now states ps i
    → first_over now (seen states ps) ≡ cond b (Some ((get_or ps i d).0, state_at states (get_or ps i d).1)) (first_over now (seen states (drop (suc i) ps)))
next_is now states ps i d b is over none =
    sym none ∙ ap (λ l. first_over now (seen states l)) (drop_at ps i d is)
    ∙ ap (λ b. cond b (Some ((get_or ps i d).0, state_at states (get_or ps i d).1)) (first_over now (seen states (drop (suc i) ps)))) over

pub over_is : (now : ℕ) (states : List KeyState) (ps qs : List Place) (i : ℕ) (d : Place) (st : KeyState) → qs ≡ ps → i < length qs → st ≡ state_at states (get_or qs i d).1 → is_over now st ≡ true → NoneOver now states ps i
    → Some ((get_or qs i d).0, st) ≡ first_over now (seen states ps)
over_is now states ps qs i d st same is there over none =
    ap (λ (s : KeyState). Some ((get_or qs i d).0, s)) there
    ∙ sym (next_is now states qs i d true is (ap (is_over now) (sym there) ∙ over) (subst (λ l. NoneOver now states l i) (sym same) none))
    ∙ ap (λ l. first_over now (seen states l)) same

pub over_next : (now : ℕ) (states : List KeyState) (ps qs : List Place) (i : ℕ) (d : Place) (st : KeyState) → qs ≡ ps → i < length qs → st ≡ state_at states (get_or qs i d).1 → is_over now st ≡ false → NoneOver now states ps i
    → NoneOver now states ps (i + 1)
over_next now states ps qs i d st same is there over none =
    subst (NoneOver now states ps) {x = suc i} (omega arith)
    (subst (λ l. NoneOver now states l (suc i)) same (sym (next_is now states qs i d false is (ap (is_over now) (sym there) ∙ over) (subst (λ l. NoneOver now states l i) (sym same) none))))

drop_all : (ps : List Place) (i : ℕ) → length ps ≤ i → drop i ps ≡ []
drop_all [] zero is = refl
drop_all [] (suc i) is = refl
drop_all (p ∷ ps) zero is = absurd (omega (arith, is))
drop_all (p ∷ ps) (suc i) is = drop_all ps i (omega (arith, is))

pub none_is : (now : ℕ) (states : List KeyState) (ps : List Place) (i : ℕ) → length ps ≤ i → NoneOver now states ps i → None ≡ first_over now (seen states ps)
none_is now states ps i is none = sym (ap (λ l. first_over now (seen states l)) (drop_all ps i is)) ∙ none

pub take_all : (ps : List Place) (i : ℕ) → length ps ≤ i → take i ps ≡ ps
take_all [] zero is = refl
take_all [] (suc i) is = refl
take_all (p ∷ ps) zero is = absurd (omega (arith, is))
take_all (p ∷ ps) (suc i) is = ap (λ l. p ∷ l) (take_all ps i (omega (arith, is)))

seen_take : (states : List KeyState) (ps : List Place) (i : ℕ) (d : Place) → i < length ps → seen states (take (suc i) ps) ≡ seen states (take i ps) ++ ((get_or ps i d).0, state_at states (get_or ps i d).1) ∷ []
seen_take states [] i d is = absurd (omega (arith, is))
seen_take states (p ∷ ps) zero d is = refl
seen_take states (p ∷ ps) (suc i) d is = ap (λ l. (p.0, state_at states p.1) ∷ l) (seen_take states ps i d (omega (arith, is)))

-- one more of them is seen
pub seen_more : (states : List KeyState) (ps qs : List Place) (i : ℕ) (d : Place) (st : KeyState) → qs ≡ ps → i < length qs → st ≡ state_at states (get_or qs i d).1
    → seen states (take (i + 1) ps) ≡ seen states (take i ps) ++ ((get_or qs i d).0, st) ∷ []
seen_more states ps qs i d st same is there =
    subst (λ n. seen states (take n ps) ≡ seen states (take i ps) ++ ((get_or qs i d).0, st) ∷ []) {x = suc i} (omega arith)
    (ap (λ l. seen states (take (suc i) l)) (sym same) ∙ seen_take states qs i d is ∙ (λ j. seen states (take i (same j)) ++ ((get_or qs i d).0, sym there j) ∷ []))

-- ---- a state is replaced, or one more is put down

pub set_there : (states : List KeyState) (at : ℕ) (st : KeyState) → at < length states → state_at (set states at st) at ≡ st
set_there [] at st is = absurd (omega (arith, is))
set_there (s ∷ states) zero st is = refl
set_there (s ∷ states) (suc at) st is = set_there states at st (omega (arith, is))

pub set_apart : (states : List KeyState) (at n : ℕ) (st : KeyState) → n ≢ at → state_at (set states at st) n ≡ state_at states n
set_apart [] at n st other = refl
set_apart (s ∷ states) zero zero st other = absurd (other refl)
set_apart (s ∷ states) zero (suc n) st other = refl
set_apart (s ∷ states) (suc at) zero st other = refl
set_apart (s ∷ states) (suc at) (suc n) st other = set_apart states at n st (λ same. other (ap suc same))

pub push_there : (states : List KeyState) (st : KeyState) → state_at (states ++ st ∷ []) (length states) ≡ st
push_there [] st = refl
push_there (s ∷ states) st = push_there states st

push_apart : (states : List KeyState) (n : ℕ) (st : KeyState) → n < length states → state_at (states ++ st ∷ []) n ≡ state_at states n
push_apart [] n st is = absurd (omega (arith, is))
push_apart (s ∷ states) zero st is = refl
push_apart (s ∷ states) (suc n) st is = push_apart states n st (omega (arith, is))

pub same_free : (k : Key) (at : ℕ) (st : KeyState) (states : List KeyState) (ps : List Place) → T (is_free at ps) → AreSame k states (set states at st) ps
same_free k at st states [] free = tt
same_free k at st states (p ∷ ps) free = (λ other. set_apart states at p.1 st (apart_is p.1 at (first _ _ free)), same_free k at st states ps (second _ _ free))

free_by : (k : Key) (n at : ℕ) (p : Place) (ps : List Place) (b : Bool) → cond b (Some p.1) (find key_cmp k ps) ≡ Some at → p.1 ≢ n → (find key_cmp k ps ≡ Some at → n ≢ at) → n ≢ at
free_by k n at p ps true is other rest = λ same. other (ap (λ (o : Option ℕ). unwrap_or o at) is ∙ sym same)
free_by k n at p ps false is other rest = rest is

pub free_found : (k : Key) (n at : ℕ) (ps : List Place) → find key_cmp k ps ≡ Some at → T (is_free n ps) → n ≢ at
free_found k n at [] is free = absurd (let no : None ≡ Some at = is in cc)
free_found k n at (p ∷ ps) is free = free_by k n at p ps (same_key k p.0) is (apart_is p.1 n (first _ _ free)) (λ there. free_found k n at ps there (second _ _ free))

same_by : (k : Key) (at : ℕ) (st : KeyState) (states : List KeyState) (p : Place) (ps : List Place) (b : Bool) → same_key k p.0 ≡ b → cond b (Some p.1) (find key_cmp k ps) ≡ Some at → T (is_free p.1 ps)
    → (find key_cmp k ps ≡ Some at → AreSame k states (set states at st) ps) → AreSame k states (set states at st) (p ∷ ps)
same_by k at st states p ps true here is free rest =
    let there : p.1 ≡ at = ap (λ (o : Option ℕ). unwrap_or o at) is in
    (λ other. absurd (let no : true ≡ false = sym here ∙ other in cc), same_free k at st states ps (subst (λ n. T (is_free n ps)) there free))
same_by k at st states p ps false here is free rest = (λ _. set_apart states at p.1 st (free_found k p.1 at ps is free), rest is)

pub same_set : (k : Key) (at : ℕ) (st : KeyState) (states : List KeyState) (ps : List Place) → find key_cmp k ps ≡ Some at → T (are_apart ps) → AreSame k states (set states at st) ps
same_set k at st states [] is apart = tt
same_set k at st states (p ∷ ps) is apart = same_by k at st states p ps (same_key k p.0) refl is (first _ _ apart) (λ there. same_set k at st states ps there (second _ _ apart))

pub same_push : (k : Key) (st : KeyState) (states : List KeyState) (ps : List Place) → T (are_within (length states) ps) → AreSame k states (states ++ st ∷ []) ps
same_push k st states [] within = tt
same_push k st states (p ∷ ps) within = (λ other. push_apart states p.1 st (below_is p.1 (length states) (first _ _ within)), same_push k st states ps (second _ _ within))

-- the place of one of them is that of a state
pub place_within : (n : ℕ) (ps qs : List Place) (i : ℕ) (d : Place) → qs ≡ ps → AreWithin n ps → i < length qs → (get_or qs i d).1 < n
place_within n ps qs i d same within is = within_at n qs i d (subst (AreWithin n) (sym same) within) is
