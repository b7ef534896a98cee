-- A key that is taken out of keys in their order.
use Rattle.sv_core.proofs.Prelude.{◌≡◌, ◌≢◌, ℕ, Bool, true, false, cond, Option, Some, None, List, [], ◌∷◌, refl, sym, ap, ◌∙◌, subst, ⊎_elim, T, ◌==◌, not}
use Rattle.sv_core.proofs.Prelude.{nat_lt, unwrap_or, from_entries, remove, entries, find, is_sorted, get-remove, get-entries, get-from_entries, entries_sorted}
use Rattle.sv_core.proofs.Prelude.{same_map, below_all, is_lt, is_eq, Key, KeyState, key_cmp, same_key, Keys, Entry, Place, Rises, are_within, is_free}
use Rattle.sv_core.proofs.Prelude.{are_apart, is_handed_over, state_at, seen, erase, sent_among, keys_total, exact_keys, keys_tell}
use Rattle.sv_core.proofs.OrderLemmas.{first, second, both, less}
use Rattle.sv_core.proofs.PlaceLemmas.{is_apart, free_found, apart_is}

-- ---- what is found

-- a key below all of them isn't among them
absent : {V : Type 0} (k : Key) (ps : List (Key × V)) → T (below_all key_cmp k ps) → find key_cmp k ps ≡ None
absent k [] above = refl
absent k (p ∷ ps) above = ap (λ o. cond (is_eq o) (Some p.1) (find key_cmp k ps)) (less _ (first _ _ above)) ∙ absent k ps (second _ _ above)

none_by : {V : Type 0} (b : Bool) (o : Option V) → o ≡ None → o ≡ cond b None o
none_by true o is = is
none_by false o is = refl

-- the first is the one that is taken out
first_erased : {V : Type 0} (k q : Key) (x : V) (ps : List (Key × V)) (b : Bool) → T (below_all key_cmp k ps) → ((b ≡ true) → q ≡ k) → find key_cmp q ps ≡ cond b None (cond b (Some x) (find key_cmp q ps))
first_erased k q x ps true above is = ap (λ y. find key_cmp y ps) (is refl) ∙ absent k ps above
first_erased k q x ps false above is = refl

same_here : (k q x : Key) → k ≡ x → same_key q x ≡ same_key q k
same_here k q x is = ap (same_key q) (sym is)

later_by : {V : Type 0} (b c : Bool) (x : V) (rest old : Option V) → rest ≡ cond b None old → (c ≡ true → b ≡ false) → cond c (Some x) rest ≡ cond b None (cond c (Some x) old)
later_by b true x rest old is apart = sym (ap (λ y. cond y None (Some x)) (apart refl))
later_by true false x rest old is apart = is
later_by false false x rest old is apart = is

pub erased : {V : Type 0} (k q : Key) (ps : List (Key × V)) → Rises ps → find key_cmp q (erase k ps) ≡ cond (same_key q k) None (find key_cmp q ps)
erased k q [] rises = none_by (same_key q k) (find key_cmp q []) refl
erased k q (p ∷ ps) rises = ⊎_elim
    (λ (t : (k ≡ p.0) × (same_key k p.0 ≡ true)).
    ap (λ b. find key_cmp q (cond b ps (p ∷ erase k ps))) t.1
    ∙ first_erased k q p.1 ps (same_key q k) (subst (λ x. T (below_all key_cmp x ps)) (sym t.0) (first _ _ rises)) (λ is. ⊎_elim (λ (u : (q ≡ k) × (same_key q k ≡ true)). u.0) (λ (u : (q ≢ k) × (same_key q k ≡ false)). absurd (let no : true ≡ false = sym is ∙ u.1 in cc)) (keys_tell q k))
    ∙ ap (λ b. cond (same_key q k) None (cond b (Some p.1) (find key_cmp q ps))) (sym (same_here k q p.0 t.0)))
    (λ (t : (k ≢ p.0) × (same_key k p.0 ≡ false)).
    ap (λ b. find key_cmp q (cond b ps (p ∷ erase k ps))) t.1
    ∙ later_by (same_key q k) (same_key q p.0) p.1 (find key_cmp q (erase k ps)) (find key_cmp q ps) (erased k q ps (second _ _ rises))
    (λ is. ⊎_elim (λ (u : (q ≡ p.0) × (same_key q p.0 ≡ true)). ⊎_elim (λ (v : (q ≡ k) × (same_key q k ≡ true)). absurd (t.0 (sym v.0 ∙ u.0))) (λ (v : (q ≢ k) × (same_key q k ≡ false)). v.1) (keys_tell q k)) (λ (u : (q ≢ p.0) × (same_key q p.0 ≡ false)). absurd (let no : true ≡ false = sym is ∙ u.1 in cc)) (keys_tell q p.0)))
    (keys_tell k p.0)

-- ---- their order

below_erased : {V : Type 0} (x k : Key) (ps : List (Key × V)) → T (below_all key_cmp x ps) → T (below_all key_cmp x (erase k ps))
below_erased x k [] above = tt
below_erased x k (p ∷ ps) above = elim (same_key k p.0) as (λ b. T (below_all key_cmp x (cond b ps (p ∷ erase k ps)))) [
  | true ↦ second (is_lt (key_cmp x p.0)) (below_all key_cmp x ps) above
  | false ↦ both (is_lt (key_cmp x p.0)) (below_all key_cmp x (erase k ps)) (first (is_lt (key_cmp x p.0)) (below_all key_cmp x ps) above) (below_erased x k ps (second (is_lt (key_cmp x p.0)) (below_all key_cmp x ps) above))
]

pub erase_rises : {V : Type 0} (k : Key) (ps : List (Key × V)) → Rises ps → Rises (erase k ps)
erase_rises k [] rises = tt
erase_rises k (p ∷ ps) rises = elim (same_key k p.0) as (λ b. T (is_sorted key_cmp (cond b ps (p ∷ erase k ps)))) [
  | true ↦ second (below_all key_cmp p.0 ps) (is_sorted key_cmp ps) rises
  | false ↦ both (below_all key_cmp p.0 (erase k ps)) (is_sorted key_cmp (erase k ps)) (below_erased p.0 k ps (first (below_all key_cmp p.0 ps) (is_sorted key_cmp ps) rises)) (erase_rises k ps (second (below_all key_cmp p.0 ps) (is_sorted key_cmp ps) rises))
]

-- ---- a map without the key

pub entries_removed : (keys : Keys) (k : Key) → ◌≡◌ {A = Keys} (remove keys k) (from_entries (erase k (entries keys)))
entries_removed keys k = same_map keys_total exact_keys _ _ (λ q.
    get-remove keys_total keys k q ∙ ap (cond (same_key q k) None) (get-entries keys q)
    ∙ sym (get-from_entries keys_total (erase k (entries keys)) q ∙ erased k q (entries keys) (entries_sorted keys)))

pub removed : (k : Key) (es : List Entry) → Rises es → ◌≡◌ {A = Keys} (from_entries (erase k es)) (remove (from_entries es) k)
removed k es rises = same_map keys_total exact_keys _ _ (λ q.
    get-from_entries keys_total (erase k es) q ∙ erased k q es rises
    ∙ ap (cond (same_key q k) None) (sym (get-from_entries keys_total es q))
    ∙ sym (get-remove keys_total (from_entries es) k q))

-- ---- places

pub within_erased : (n : ℕ) (k : Key) (ps : List Place) → T (are_within n ps) → T (are_within n (erase k ps))
within_erased n k [] within = tt
within_erased n k (p ∷ ps) within = elim (same_key k p.0) as (λ b. T (are_within n (cond b ps (p ∷ erase k ps)))) [
  | true ↦ second (nat_lt p.1 n) (are_within n ps) within
  | false ↦ both (nat_lt p.1 n) (are_within n (erase k ps)) (first (nat_lt p.1 n) (are_within n ps) within) (within_erased n k ps (second (nat_lt p.1 n) (are_within n ps) within))
]

pub free_erased : (n : ℕ) (k : Key) (ps : List Place) → T (is_free n ps) → T (is_free n (erase k ps))
free_erased n k [] free = tt
free_erased n k (p ∷ ps) free = elim (same_key k p.0) as (λ b. T (is_free n (cond b ps (p ∷ erase k ps)))) [
  | true ↦ second (not (p.1 == n)) (is_free n ps) free
  | false ↦ both (not (p.1 == n)) (is_free n (erase k ps)) (first (not (p.1 == n)) (is_free n ps) free) (free_erased n k ps (second (not (p.1 == n)) (is_free n ps) free))
]

pub apart_erased : (k : Key) (ps : List Place) → T (are_apart ps) → T (are_apart (erase k ps))
apart_erased k [] apart = tt
apart_erased k (p ∷ ps) apart = elim (same_key k p.0) as (λ b. T (are_apart (cond b ps (p ∷ erase k ps)))) [
  | true ↦ second (is_free p.1 ps) (are_apart ps) apart
  | false ↦ both (is_free p.1 (erase k ps)) (are_apart (erase k ps)) (free_erased p.1 k ps (first (is_free p.1 ps) (are_apart ps) apart)) (apart_erased k ps (second (is_free p.1 ps) (are_apart ps) apart))
]

-- its place is free
freed_by : (k : Key) (at : ℕ) (p : Place) (ps : List Place) (b : Bool) → cond b (Some p.1) (find key_cmp k ps) ≡ Some at → T (is_free p.1 ps) → (find key_cmp k ps ≡ Some at → T (is_free at (erase k ps)))
    → T (is_free at (cond b ps (p ∷ erase k ps)))
freed_by k at p ps true is free rest = subst (λ n. T (is_free n ps)) (ap (λ (o : Option ℕ). unwrap_or o at) is) free
freed_by k at p ps false is free rest = both (not (p.1 == at)) (is_free at (erase k ps)) (is_apart p.1 at (free_found k p.1 at ps is free)) (rest is)

pub freed : (k : Key) (at : ℕ) (ps : List Place) → find key_cmp k ps ≡ Some at → T (are_apart ps) → T (is_free at (erase k ps))
freed k at [] is apart = tt
freed k at (p ∷ ps) is apart = freed_by k at p ps (same_key k p.0) is (first (is_free p.1 ps) (are_apart ps) apart) (λ there. freed k at ps there (second (is_free p.1 ps) (are_apart ps) apart))

-- ---- what is known of the others

seen_erased : (states : List KeyState) (k : Key) (ps : List Place) → seen states (erase k ps) ≡ erase k (seen states ps)
seen_erased states k [] = refl
seen_erased states k (p ∷ ps) = elim (same_key k p.0) as (λ b. seen states (cond b ps (p ∷ erase k ps)) ≡ cond b (seen states ps) ((p.0, state_at states p.1) ∷ erase k (seen states ps))) [
  | true ↦ refl
  | false ↦ ap (λ l. (p.0, state_at states p.1) ∷ l) (seen_erased states k ps)
]

seen_free : (at : ℕ) (old new : List KeyState) (ps : List Place) → ((n : ℕ) → n ≢ at → state_at new n ≡ state_at old n) → T (is_free at ps) → seen new ps ≡ seen old ps
seen_free at old new [] same free = refl
seen_free at old new (p ∷ ps) same free =
    λ i. (p.0, same p.1 (apart_is p.1 at (first (not (p.1 == at)) (is_free at ps) free)) i) ∷ seen_free at old new ps same (second (not (p.1 == at)) (is_free at ps) free) i

pub seen_freed : (k : Key) (at : ℕ) (old new : List KeyState) (ps : List Place) → find key_cmp k ps ≡ Some at → T (are_apart ps) → ((n : ℕ) → n ≢ at → state_at new n ≡ state_at old n) → seen new (erase k ps) ≡ erase k (seen old ps)
seen_freed k at old new ps is apart same = seen_free at old new (erase k ps) same (freed k at ps is apart) ∙ seen_erased old k ps

sent_by : (k : Key) (at : ℕ) (new : List KeyState) (p : Place) (ps : List Place) (b : Bool) → cond b (Some p.1) (find key_cmp k ps) ≡ Some at → is_handed_over (state_at new at) ≡ false
    → (find key_cmp k ps ≡ Some at → sent_among new ps ≡ sent_among new (erase k ps))
    → cond (is_handed_over (state_at new p.1)) (p ∷ sent_among new ps) (sent_among new ps) ≡ sent_among new (cond b ps (p ∷ erase k ps))
sent_by k at new p ps true is gone rest =
    let there : p.1 ≡ at = ap (λ (o : Option ℕ). unwrap_or o at) is in
    ap (λ b. cond b (p ∷ sent_among new ps) (sent_among new ps)) (ap (λ n. is_handed_over (state_at new n)) there ∙ gone)
sent_by k at new p ps false is gone rest = ap (λ l. cond (is_handed_over (state_at new p.1)) (p ∷ l) l) (rest is)

-- one whose session isn't handed over is not among those whose session is
pub sent_erased : (k : Key) (at : ℕ) (new : List KeyState) (ps : List Place) → find key_cmp k ps ≡ Some at → is_handed_over (state_at new at) ≡ false → sent_among new ps ≡ sent_among new (erase k ps)
sent_erased k at new [] is gone = refl
sent_erased k at new (p ∷ ps) is gone = sent_by k at new p ps (same_key k p.0) is gone (λ there. sent_erased k at new ps there gone)
