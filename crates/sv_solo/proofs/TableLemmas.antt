-- The sessions of a node alone, seen by key.
use Rattle.std.proofs.Common.{◌≡◌, ◌≢◌, ◌⊎◌, ℕ, zero, suc, ◌+◌, ◌<◌, ◌≤◌, Bool, true, false, cond, Option, Some, None, List, [], ◌∷◌, ◌++◌, length, arith, refl, sym, ap, ◌∙◌, subst, inl, inr, ⊎_elim}
use Rattle.std.specs.Prelude.{slice_get, slice_set, get_or, T, ◌&&◌, ◌||◌, nat_le, IfSome}
use Rattle.std.specs.declared.cmp.Ordering.TheVariants.{Less}
use Rattle.std.specs.Option.{option_map}
use Rattle.std.specs.FinMap.Entries.{below_all}
use Rattle.std.specs.FinMap.{get, insert, len, entries, find, is_sorted, same_map, get-insert, get-from_sorted, entries-from_sorted, len-entries}
use Rattle.std.specs.Ordering.{is_lt}
use Rattle.std.specs.Cmp.{nat_cmp_is}
use Rattle.std.proofs.lemmas.Bool.{cases_eq, ne_eqb, le-leb, leb-false, or_right}
use Rattle.std.proofs.lemmas.Bool.Decides.{leb_tells}
use Rattle.std.proofs.lemmas.List.{length-append, length-set}
use Rattle.std.proofs.lemmas.Option.{slice_get_past, slice_get_cases}
use Rattle.sv_solo.proofs.Prelude.{Key, Session, KeyState, Secret, Moment, Request, Active, Sent, Gone, Ended, Outcome, Fate, Birth, Cause, EngineMeaning}
use Rattle.sv_solo.proofs.Prelude.{first_over, grant_again, is_expired}
use Rattle.sv_model.specs.Keys.{key_cmp, same_key}
use Rattle.sv_model.specs.declared.outcome.Fate.TheVariants.{Untouched, Kept, Ended as FateEnded}
use Rattle.sv_model.specs.declared.outcome.Birth.TheVariants.{Absent, Alive, Ended as BirthEnded}
use Rattle.sv_model.specs.declared.output.Cause.TheVariants.{TableFull, SerialsSpent}
use Rattle.sv_model.specs.NodeState.{known, Keys, session_in, is_settled, is_dead, is_unmade, last_number}
use Rattle.sv_model.proofs.KnownLemmas.{plainly_known}
use Rattle.sv_model.specs.Serving.{held_in, kept_at, ended_at, fated_keys, born_keys, next_with, kept_with, is_birth, no_birth, fresh_of, served}
use Rattle.sv_model.specs.Waiting.{on_ask, waits}
use Rattle.std.specs.List.{filter_map, position_from}
use Rattle.sv_model.proofs.KeyLemmas.{keys_total, exact_keys, keys_tell}
use Rattle.sv_solo.specs.Table.{own_key, state_of, numbered, keys_of, IsMade, IsPlace, IsAt, active_in, if_active, fated_at, born_behind, is_past, alone, node_of}

apart : (a b : ℕ) → a ≢ b → own_key a ≢ own_key b
apart a b ne same = ne (ap (λ (k : Key). k.serial) same)

-- what stands at a serial
find_own : (first i : ℕ) (xs : List (Option Session)) → find key_cmp (own_key (first + i)) (numbered first xs) ≡ option_map state_of (slice_get xs i)
find_own first i [] = refl
find_own first zero (x ∷ xs) = ⊎_elim
    (λ (t : (own_key (first + zero) ≡ own_key first) × (same_key (own_key (first + zero)) (own_key first) ≡ true)). ap (λ b. cond b (Some (state_of x)) (find key_cmp (own_key (first + zero)) (numbered (first + 1) xs))) t.1)
    (λ (t : (own_key (first + zero) ≢ own_key first) × (same_key (own_key (first + zero)) (own_key first) ≡ false)). absurd (t.0 (ap own_key (omega arith))))
    (keys_tell (own_key (first + zero)) (own_key first))
find_own first (suc i) (x ∷ xs) = ⊎_elim
    (λ (t : (own_key (first + suc i) ≡ own_key first) × (same_key (own_key (first + suc i)) (own_key first) ≡ true)). absurd (let same : first + suc i ≡ first = ap (λ (k : Key). k.serial) t.0 in omega arith))
    (λ (t : (own_key (first + suc i) ≢ own_key first) × (same_key (own_key (first + suc i)) (own_key first) ≡ false)).
    ap (λ b. cond b (Some (state_of x)) (find key_cmp (own_key (first + suc i)) (numbered (first + 1) xs))) t.1
    ∙ ap (λ n. find key_cmp (own_key n) (numbered (first + 1) xs)) (let same : first + suc i ≡ (first + 1) + i = omega arith in same)
    ∙ find_own (first + 1) i xs)
    (keys_tell (own_key (first + suc i)) (own_key first))

-- no other key is there
find_other : (first : ℕ) (q : Key) (xs : List (Option Session)) → ((i : ℕ) → q ≢ own_key (first + i)) → find key_cmp q (numbered first xs) ≡ None
find_other first q [] other = refl
find_other first q (x ∷ xs) other = ⊎_elim
    (λ (t : (q ≡ own_key first) × (same_key q (own_key first) ≡ true)). absurd (other 0 (t.0 ∙ ap own_key (let same : first ≡ first + 0 = omega arith in same))))
    (λ (t : (q ≢ own_key first) × (same_key q (own_key first) ≡ false)).
    ap (λ b. cond b (Some (state_of x)) (find key_cmp q (numbered (first + 1) xs))) t.1
    ∙ find_other (first + 1) q xs (λ i is. other (i + 1) (is ∙ ap own_key (let same : (first + 1) + i ≡ first + (i + 1) = omega arith in same))))
    (keys_tell q (own_key first))

-- ---- the keys rise, so that the map's entries are these

pair : (a b : Bool) → T a → T b → T (a && b)
pair true b p q = q
pair false b p q = p

below : (a first : ℕ) (xs : List (Option Session)) → a < first → T (below_all key_cmp (own_key a) (numbered first xs))
below a first [] less = tt
below a first (x ∷ xs) less = pair _ _ (subst (λ o. T (is_lt o)) (nat_cmp_is a first Less less) tt) (below a (first + 1) xs (omega arith))

sorted : (first : ℕ) (xs : List (Option Session)) → T (is_sorted key_cmp (numbered first xs))
sorted first [] = tt
sorted first (x ∷ xs) = pair _ _ (below first (first + 1) xs (omega arith)) (sorted (first + 1) xs)

pub entries_are : (xs : List (Option Session)) → entries (keys_of xs) ≡ numbered 1 xs
entries_are xs = entries-from_sorted key_cmp (numbered 1 xs) (sorted 1 xs)

length_numbered : (first : ℕ) (xs : List (Option Session)) → length (numbered first xs) ≡ length xs
length_numbered first [] = refl
length_numbered first (x ∷ xs) = ap suc (length_numbered (first + 1) xs)

pub len_is : (xs : List (Option Session)) → len (keys_of xs) ≡ length xs
len_is xs = len-entries (keys_of xs) ∙ ap length (entries_are xs) ∙ length_numbered 1 xs

-- ---- what is kept at a key

pub get_own : (i : ℕ) (xs : List (Option Session)) → get (keys_of xs) (own_key (i + 1)) ≡ option_map state_of (slice_get xs i)
get_own i xs =
    ap (λ n. get (keys_of xs) (own_key n)) (let same : i + 1 ≡ 1 + i = omega arith in same)
    ∙ get-from_sorted key_cmp (numbered 1 xs) (own_key (1 + i)) (sorted 1 xs) ∙ find_own 1 i xs

-- a key that no node alone makes
abbrev pub IsForeign : Key → Type 0
IsForeign q = (i : ℕ) → q ≢ own_key (i + 1)

pub get_foreign : (q : Key) (xs : List (Option Session)) → IsForeign q → get (keys_of xs) q ≡ None
get_foreign q xs foreign =
    get-from_sorted key_cmp (numbered 1 xs) q (sorted 1 xs)
    ∙ find_other 1 q xs (λ i is. foreign i (is ∙ ap own_key (let same : 1 + i ≡ i + 1 = omega arith in same)))

-- nothing is known at the beginning
pub get_nothing : (q : Key) → get (keys_of []) q ≡ None
get_nothing q = get-from_sorted key_cmp [] q tt

serial_cases : (s : ℕ) → (s ≡ 0) ⊎ ((i : ℕ) × (s ≡ i + 1))
serial_cases zero = inl refl
serial_cases (suc i) = inr (i, omega arith)

pub key_cases : (q : Key) → ((i : ℕ) × (q ≡ own_key (i + 1))) ⊎ IsForeign q
key_cases q = ⊎_elim
    (λ (h : q.home ≡ 0). ⊎_elim
    (λ (z : q.serial ≡ 0). inr (λ i is. let never : 0 ≡ i + 1 = sym z ∙ ap (λ (k : Key). k.serial) is in omega arith))
    (λ (p : (i : ℕ) × (q.serial ≡ i + 1)). inl (p.0, λ j. record { home = h j; serial = p.1 j }))
    (serial_cases q.serial))
    (λ (h : q.home ≢ 0). inr (λ i is. h (ap (λ (k : Key). k.home) is)))
    (cases_eq q.home 0)

-- maps that agree at the keys of one node, and at all others, are one
one_map : (m n : Keys) → ((i : ℕ) → get m (own_key (i + 1)) ≡ get n (own_key (i + 1))) → ((q : Key) → IsForeign q → get m q ≡ get n q) → m ≡ n
one_map m n own foreign = same_map keys_total exact_keys m n (λ q. ⊎_elim
    (λ (p : (i : ℕ) × (q ≡ own_key (i + 1))). subst (λ (k : Key). get m k ≡ get n k) (sym p.1) (own p.0))
    (λ (f : IsForeign q). foreign q f)
    (key_cases q))

insert_foreign : (m : Keys) (i : ℕ) (st : KeyState) (q : Key) → IsForeign q → get (insert m (own_key (i + 1)) st) q ≡ get m q
insert_foreign m i st q foreign = get-insert keys_total m (own_key (i + 1)) st q ∙ ⊎_elim
    (λ (t : (q ≡ own_key (i + 1)) × (same_key q (own_key (i + 1)) ≡ true)). absurd (foreign i t.0))
    (λ (t : (q ≢ own_key (i + 1)) × (same_key q (own_key (i + 1)) ≡ false)). ap (λ b. cond b (Some st) (get m q)) t.1)
    (keys_tell q (own_key (i + 1)))

insert_own : (m : Keys) (i j : ℕ) (st : KeyState) (found : Option KeyState) → (j ≡ i → found ≡ Some st) → (j ≢ i → found ≡ get m (own_key (j + 1)))
    → found ≡ get (insert m (own_key (i + 1)) st) (own_key (j + 1))
insert_own m i j st found here there = ⊎_elim
    (λ (t : (own_key (j + 1) ≡ own_key (i + 1)) × (same_key (own_key (j + 1)) (own_key (i + 1)) ≡ true)).
    here (let same : j + 1 ≡ i + 1 = ap (λ (k : Key). k.serial) t.0 in omega arith) ∙ sym (ap (λ b. cond b (Some st) (get m (own_key (j + 1)))) t.1))
    (λ (t : (own_key (j + 1) ≢ own_key (i + 1)) × (same_key (own_key (j + 1)) (own_key (i + 1)) ≡ false)).
    there (λ same. t.0 (ap (λ n. own_key (n + 1)) same)) ∙ sym (ap (λ b. cond b (Some st) (get m (own_key (j + 1)))) t.1))
    (keys_tell (own_key (j + 1)) (own_key (i + 1)))
    ∙ sym (get-insert keys_total m (own_key (i + 1)) st (own_key (j + 1)))

-- ---- elements of lists

module _ {A : Type 0} where
  set_here : (xs : List A) (i : ℕ) (x : A) → i < length xs → slice_get (slice_set xs i x) i ≡ Some x
  set_here [] i x less = absurd (omega arith)
  set_here (y ∷ ys) zero x less = refl
  set_here (y ∷ ys) (suc i) x less = set_here ys i x (omega arith)

  set_there : (xs : List A) (i j : ℕ) (x : A) → j ≢ i → slice_get (slice_set xs i x) j ≡ slice_get xs j
  set_there [] i j x ne = refl
  set_there (y ∷ ys) zero zero x ne = absurd (ne refl)
  set_there (y ∷ ys) zero (suc j) x ne = refl
  set_there (y ∷ ys) (suc i) zero x ne = refl
  set_there (y ∷ ys) (suc i) (suc j) x ne = set_there ys i j x (λ same. ne (ap suc same))

  last_here : (xs : List A) (x : A) → slice_get (xs ++ x ∷ []) (length xs) ≡ Some x
  last_here [] x = refl
  last_here (y ∷ ys) x = last_here ys x

  last_there : (xs : List A) (x : A) (j : ℕ) → j ≢ length xs → slice_get (xs ++ x ∷ []) j ≡ slice_get xs j
  last_there [] x zero ne = absurd (ne refl)
  last_there [] x (suc j) ne = refl
  last_there (y ∷ ys) x zero ne = refl
  last_there (y ∷ ys) x (suc j) ne = last_there ys x j (λ same. ne (ap suc same))

-- ---- changes

pub put_own : (xs : List (Option Session)) (i : ℕ) (x : Option Session) → i < length xs → keys_of (slice_set xs i x) ≡ insert (keys_of xs) (own_key (i + 1)) (state_of x)
put_own xs i x less = one_map _ _
    (λ j. get_own j (slice_set xs i x) ∙ insert_own (keys_of xs) i j (state_of x) (option_map state_of (slice_get (slice_set xs i x) j))
    (λ same. ap (λ n. option_map state_of (slice_get (slice_set xs i x) n)) same ∙ ap (option_map state_of) (set_here xs i x less))
    (λ ne. ap (option_map state_of) (set_there xs i j x ne) ∙ sym (get_own j xs)))
    (λ q foreign. get_foreign q (slice_set xs i x) foreign ∙ sym (insert_foreign (keys_of xs) i (state_of x) q foreign ∙ get_foreign q xs foreign))

pub push_own : (xs : List (Option Session)) (x : Option Session) → keys_of (xs ++ x ∷ []) ≡ insert (keys_of xs) (own_key (length xs + 1)) (state_of x)
push_own xs x = one_map _ _
    (λ j. get_own j (xs ++ x ∷ []) ∙ insert_own (keys_of xs) (length xs) j (state_of x) (option_map state_of (slice_get (xs ++ x ∷ []) j))
    (λ same. ap (λ n. option_map state_of (slice_get (xs ++ x ∷ []) n)) same ∙ ap (option_map state_of) (last_here xs x))
    (λ ne. ap (option_map state_of) (last_there xs x j ne) ∙ sym (get_own j xs)))
    (λ q foreign. get_foreign q (xs ++ x ∷ []) foreign ∙ sym (insert_foreign (keys_of xs) (length xs) (state_of x) q foreign ∙ get_foreign q xs foreign))

-- ---- what the code finds

pub get_made : (xs : List (Option Session)) (k : Key) (place : ℕ) → k ≡ own_key (place + 1) → get (keys_of xs) k ≡ option_map state_of (slice_get xs place)
get_made xs k place is = ap (get (keys_of xs)) is ∙ get_own place xs

pub get_unmade : (xs : List (Option Session)) (k : Key) → IsMade k (length xs) None → get (keys_of xs) k ≡ None
get_unmade xs k none = ⊎_elim
    (λ (p : (i : ℕ) × (k ≡ own_key (i + 1))). get_made xs k p.0 p.1 ∙ ap (option_map state_of) (slice_get_past xs p.0 (none p.0 p.1)))
    (λ (f : IsForeign k). get_foreign k xs f)
    (key_cases k)

-- the session of a state, as what is there
session_there : (o : Option (Option Session)) → session_in (option_map state_of o) ≡ active_in o
session_there None = refl
session_there (Some None) = refl
session_there (Some (Some s)) = refl

pub held_made : (xs : List (Option Session)) (k : Key) (secret : Secret) (place : ℕ) → k ≡ own_key (place + 1)
    → held_in (keys_of xs) (Some (k, secret)) ≡ option_map (λ s. (k, s)) (active_in (slice_get xs place))
held_made xs k secret place is = ap (λ st. option_map (λ s. (k, s)) (session_in st)) (get_made xs k place is) ∙ ap (option_map (λ s. (k, s))) (session_there (slice_get xs place))

pub held_unmade : (xs : List (Option Session)) (k : Key) (secret : Secret) → IsMade k (length xs) None → held_in (keys_of xs) (Some (k, secret)) ≡ None
held_unmade xs k secret none = ap (λ st. option_map (λ s. (k, s)) (session_in st)) (get_unmade xs k none)

-- the place that is answered for a key
place_found : (xs : List (Option Session)) (k : Key) (secret : Secret) (place : ℕ) (o : Option (Option Session)) → k ≡ own_key (place + 1) → place < length xs → slice_get xs place ≡ o
    → IsPlace xs (Some (k, secret)) (if_active o place)
place_found xs k secret place None is less at = held_made xs k secret place is ∙ ap (λ x. option_map (λ s. (k, s)) (active_in x)) at
place_found xs k secret place (Some None) is less at = held_made xs k secret place is ∙ ap (λ x. option_map (λ s. (k, s)) (active_in x)) at
place_found xs k secret place (Some (Some s)) is less at = record { session = s; within = less; key = is; there = at }

pub is_place : (xs : List (Option Session)) (k : Key) (secret : Secret) (place : ℕ) (result : Option ℕ) → IsMade k (length xs) (Some place) → result ≡ if_active (slice_get xs place) place
    → IsPlace xs (Some (k, secret)) result
is_place xs k secret place result made is = subst (IsPlace xs (Some (k, secret))) (sym is) (place_found xs k secret place (slice_get xs place) made.0 made.1 refl)

-- the session at the place that was found
pub held_at : (xs : List (Option Session)) (k : Key) (secret : Secret) (place : ℕ) (found : Option Session) → IsAt xs k place → found ≡ active_in (slice_get xs place)
    → option_map (λ s. (k, s)) found ≡ held_in (keys_of xs) (Some (k, secret))
held_at xs k secret place found at is = ap (option_map (λ s. (k, s))) is ∙ sym (held_made xs k secret place at.key)

-- ---- what becomes of the keys

-- what nobody holds stays as it is
kept_none : (k : Key) (s : Session) (st : Option KeyState) (keys : Keys) → option_map {U = Key × Session} (λ u. (k, u)) (session_in st) ≡ None → kept_at k s st keys ≡ keys
kept_none k s None keys none = refl
kept_none k s (Some (Active e old)) keys none = absurd cc
kept_none k s (Some (Sent e old to)) keys none = refl
kept_none k s (Some (Gone e)) keys none = refl
kept_none k s (Some (Ended e)) keys none = refl

ended_none : (k : Key) (st : Option KeyState) (keys : Keys) → option_map {U = Key × Session} (λ u. (k, u)) (session_in st) ≡ None → ended_at None k st keys ≡ keys
ended_none k None keys none = refl
ended_none k (Some (Active e old)) keys none = absurd cc
ended_none k (Some (Sent e old to)) keys none = refl
ended_none k (Some (Gone e)) keys none = refl
ended_none k (Some (Ended e)) keys none = refl

pub fates : (xs : List (Option Session)) (named : Option (Key × Secret)) (place : Option ℕ) (fate : Fate) → IsPlace xs named place
    → keys_of (fated_at place fate xs) ≡ fated_keys None named fate (keys_of xs)
fates xs None None fate at = refl
fates xs None (Some place) fate at = absurd at
fates xs (Some named) None Untouched at = refl
fates xs (Some named) None (Kept s) at = sym (kept_none named.0 s (get (keys_of xs) named.0) (keys_of xs) at)
fates xs (Some named) None FateEnded at = sym (ended_none named.0 (get (keys_of xs) named.0) (keys_of xs) at)
fates xs (Some named) (Some place) Untouched at = refl
fates xs (Some named) (Some place) (Kept s) at =
    put_own xs place (Some s) at.within ∙ ap (λ k. insert (keys_of xs) k (Active 1 s)) (sym at.key)
    ∙ ap (λ st. kept_at named.0 s st (keys_of xs)) (sym (get_made xs named.0 place at.key ∙ ap (option_map state_of) at.there))
fates xs (Some named) (Some place) FateEnded at =
    put_own xs place None at.within ∙ ap (λ k. insert (keys_of xs) k (Ended 1)) (sym at.key)
    ∙ ap (λ st. ended_at None named.0 st (keys_of xs)) (sym (get_made xs named.0 place at.key ∙ ap (option_map state_of) at.there))

pub births : (xs : List (Option Session)) (b : Birth) → keys_of (born_behind b xs) ≡ born_keys None (own_key (length xs + 1)) b (keys_of xs)
births xs Absent = refl
births xs (Alive s) = push_own xs (Some s)
births xs BirthEnded = push_own xs None

pub length_fated : (xs : List (Option Session)) (place : Option ℕ) (fate : Fate) → length (fated_at place fate xs) ≡ length xs
length_fated xs None fate = refl
length_fated xs (Some place) Untouched = refl
length_fated xs (Some place) (Kept s) = length-set xs place (Some s)
length_fated xs (Some place) FateEnded = length-set xs place None

pub next_is : (xs : List (Option Session)) (b : Birth) → length (born_behind b xs) + 1 ≡ next_with b (length xs + 1)
next_is xs Absent = refl
next_is xs (Alive s) = let push : length (xs ++ Some s ∷ []) ≡ length xs + 1 = length-append xs (Some s ∷ []) in omega (arith, push)
next_is xs BirthEnded = let push : length (xs ++ None ∷ []) ≡ length xs + 1 = length-append xs (None ∷ []) in omega (arith, push)

-- what is kept after an outcome
pub kept : (xs : List (Option Session)) (named : Option (Key × Secret)) (place : Option ℕ) (out : Outcome) → IsPlace xs named place
    → (node_of (born_behind out.birth (fated_at place out.fate xs))).durable ≡ kept_with named (own_key (length xs + 1)) out (node_of xs).durable
kept xs named place out at =
    let ys = fated_at place out.fate xs in
    let keys : keys_of (born_behind out.birth ys) ≡ born_keys None (own_key (length xs + 1)) out.birth (fated_keys None named out.fate (keys_of xs)) =
    births ys out.birth ∙ ap (λ n. born_keys None (own_key (n + 1)) out.birth (keys_of ys)) (length_fated xs place out.fate)
    ∙ ap (born_keys None (own_key (length xs + 1)) out.birth) (fates xs named place out.fate at) in
    let next : length (born_behind out.birth ys) + 1 ≡ next_with out.birth (length xs + 1) = next_is ys out.birth ∙ ap (λ n. next_with out.birth (n + 1)) (length_fated xs place out.fate) in
    λ i. record { keys = keys i; boot = 1; next = next i; home = None }

-- ---- no request waits, and there is room for a key

settled : (x : Option Session) → is_settled (Some (state_of x)) ≡ true
settled None = refl
settled (Some s) = refl

foreign_home : (k : Key) → 0 < k.serial → IsForeign k → 1 ≤ k.home
foreign_home k some foreign = ⊎_elim
    (λ (z : k.home ≡ 0). ⊎_elim
    (λ (none : k.serial ≡ 0). absurd (omega arith))
    (λ (p : (i : ℕ) × (k.serial ≡ i + 1)). absurd (foreign p.0 (λ j. record { home = z j; serial = p.1 j })))
    (serial_cases k.serial))
    (λ (ne : k.home ≢ 0). omega arith)
    (cases_eq k.home 0)

-- it forgets no key, and so knows what it keeps
pub known_is : (xs : List (Option Session)) (k : Key) → known (node_of xs).durable k ≡ get (keys_of xs) k
known_is xs k = plainly_known (node_of xs).durable k refl

served_now : (xs : List (Option Session)) (k : Key) → 0 < k.serial → (is_settled (get (keys_of xs) k) || is_dead alone (node_of xs).durable k) ≡ true
served_now xs k some = ⊎_elim
    (λ (p : (i : ℕ) × (k ≡ own_key (i + 1))). ⊎_elim
    (λ (here : (x : Option Session) × (p.0 < length xs) × (slice_get xs p.0 ≡ Some x) × (get_or xs p.0 x ≡ x)).
    ap (λ b. b || is_dead alone (node_of xs).durable k) (ap is_settled (get_made xs k p.0 p.1 ∙ ap (option_map state_of) here.2) ∙ settled here.0))
    (λ (past : (length xs ≤ p.0) × (slice_get xs p.0 ≡ None)).
    or_right (is_settled (get (keys_of xs) k)) (is_dead alone (node_of xs).durable k)
    (ap (λ (q : Key). is_dead alone (node_of xs).durable q) p.1 ∙ le-leb (length xs + 1) (p.0 + 1) (omega (arith, past.0))))
    (slice_get_cases xs p.0).1)
    (λ (f : IsForeign k).
    or_right (is_settled (get (keys_of xs) k)) (is_dead alone (node_of xs).durable k)
    (ap (λ b. b || is_unmade alone (node_of xs).durable k) (le-leb 1 k.home (foreign_home k some f))))
    (key_cases k)

pub asks : (m : EngineMeaning) (xs : List (Option Session)) (moment : Moment) (token : ℕ) (r : Request) (named : Option (Key × Secret)) → IfSome named (λ n. (n.0.home < 8) × (0 < n.0.serial))
    → on_ask m alone (node_of xs) moment token r named ≡ served m alone (node_of xs) moment token r []
asks m xs moment token r None can = refl
asks m xs moment token r (Some named) can =
    ap (λ b. cond b (served m alone (node_of xs) moment token r []) (waits alone (node_of xs) moment token r named.0))
    (ap (λ st. is_settled st || is_dead alone (node_of xs).durable named.0) (known_is xs named.0) ∙ served_now xs named.0 can.1)

pub fresh_is : (xs : List (Option Session)) (moment : Moment) → length xs ≤ 65_536 → fresh_of alone (node_of xs).durable moment ≡ (own_key (length xs + 1), moment.secret)
fresh_is xs moment few = ap (λ b. (own_key (cond b 0 (length xs + 1)), moment.secret)) (ne_eqb (length xs + 1) last_number (λ is. omega (arith, is, few)))

-- only the limit on keys can refuse a birth
pub room : (xs : List (Option Session)) (b : Birth) → length xs ≤ 65_536
    → no_birth alone (node_of xs).durable b ≡ cond (is_birth b) (cond (nat_le 65_536 (length xs)) (Some TableFull) None) None
room xs b few =
    ap (λ t. cond (is_birth b) (cond t (Some SerialsSpent) (cond (nat_le 65_536 (len (keys_of xs))) (Some TableFull) None)) None) (ne_eqb (length xs + 1) last_number (λ is. omega (arith, is, few)))
    ∙ ap (λ n. cond (is_birth b) (cond (nat_le 65_536 n) (Some TableFull) None) None) (len_is xs)

room_left : (xs : List (Option Session)) (b : Bool) → nat_le 65_536 (length xs) ≡ b → None ≡ cond b (Some TableFull) None → length xs < 65_536
room_left xs true is none = absurd cc
room_left xs false is none = leb-false 65_536 (length xs) is

-- after a birth there are no more keys than there may be
pub few_born : (xs ys : List (Option Session)) (b : Birth) → length xs ≤ 65_536 → None ≡ no_birth alone (node_of xs).durable b → length ys ≡ length xs → length (born_behind b ys) ≤ 65_536
few_born xs ys Absent few none same = omega (arith, few, same)
few_born xs ys (Alive s) few none same =
    let less : length xs < 65_536 = room_left xs (nat_le 65_536 (length xs)) refl (none ∙ room xs (Alive s) few) in
    let push : length (ys ++ Some s ∷ []) ≡ length ys + 1 = length-append ys (Some s ∷ []) in
    omega (arith, less, push, same)
few_born xs ys BirthEnded few none same =
    let less : length xs < 65_536 = room_left xs (nat_le 65_536 (length xs)) refl (none ∙ room xs BirthEnded few) in
    let push : length (ys ++ None ∷ []) ≡ length ys + 1 = length-append ys (None ∷ []) in
    omega (arith, less, push, same)

-- ---- the least key that has expired

abbrev Over : ℕ → ℕ → List (Option Session) → Type 0
Over now i xs =
    ((first_over now (numbered (i + 1) xs) ≡ None) × (position_from (is_past now) i xs ≡ None))
    ⊎ ((j : ℕ) × (s : Session) × (slice_get xs j ≡ Some (Some s)) × (position_from (is_past now) i xs ≡ Some (i + j))
    × (first_over now (numbered (i + 1) xs) ≡ Some (own_key ((i + j) + 1), Active 1 s)))

later : (now i : ℕ) (x : Option Session) (xs : List (Option Session)) → first_over now (numbered (i + 1) (x ∷ xs)) ≡ first_over now (numbered ((i + 1) + 1) xs)
    → position_from (is_past now) i (x ∷ xs) ≡ position_from (is_past now) (i + 1) xs → Over now (i + 1) xs → Over now i (x ∷ xs)
later now i x xs f p = ⊎_elim
    (λ (n : (first_over now (numbered ((i + 1) + 1) xs) ≡ None) × (position_from (is_past now) (i + 1) xs ≡ None)). inl (f ∙ n.0, p ∙ n.1))
    (λ (o : (j : ℕ) × (s : Session) × (slice_get xs j ≡ Some (Some s)) × (position_from (is_past now) (i + 1) xs ≡ Some ((i + 1) + j))
    × (first_over now (numbered ((i + 1) + 1) xs) ≡ Some (own_key (((i + 1) + j) + 1), Active 1 s))).
    let on : (i + 1) + o.0 ≡ i + suc o.0 = omega arith in
    let key : Key → Option (Key × KeyState) = λ k. Some (k, Active 1 o.1) in
    inr (suc o.0, o.1, o.2, p ∙ o.3 ∙ ap Some on, f ∙ o.4 ∙ ap (λ n. key (own_key (n + 1))) on))

here_or_later : (now i : ℕ) (s : Session) (xs : List (Option Session)) (b : Bool) → is_expired s now ≡ b → Over now (i + 1) xs → Over now i (Some s ∷ xs)
here_or_later now i s xs true is rest =
    let on : i ≡ i + 0 = omega arith in
    let key : ℕ → Option (Key × KeyState) = λ n. Some (own_key (n + 1), Active 1 s) in
    inr (
      0,
      s,
      refl,
      ap (λ b. cond b (Some i) (position_from (is_past now) (i + 1) xs)) is ∙ ap Some on,
      ap (λ b. cond b (key i) (first_over now (numbered ((i + 1) + 1) xs))) is ∙ ap key on,
    )
here_or_later now i s xs false is rest =
    let key : ℕ → Option (Key × KeyState) = λ n. Some (own_key (n + 1), Active 1 s) in
    later now i (Some s) xs (ap (λ b. cond b (key i) (first_over now (numbered ((i + 1) + 1) xs))) is) (ap (λ b. cond b (Some i) (position_from (is_past now) (i + 1) xs)) is) rest

pub over : (now i : ℕ) (xs : List (Option Session)) → Over now i xs
over now i [] = inl (refl, refl)
over now i (None ∷ xs) = later now i None xs refl refl (over now (i + 1) xs)
over now i (Some s ∷ xs) = here_or_later now i s xs (is_expired s now) refl (over now (i + 1) xs)

grants_none : (first : ℕ) (xs : List (Option Session)) → filter_map (grant_again alone) (numbered first xs) ≡ []
grants_none first [] = refl
grants_none first (None ∷ xs) = grants_none (first + 1) xs
grants_none first (Some s ∷ xs) = grants_none (first + 1) xs

pub no_grants : (xs : List (Option Session)) → filter_map (grant_again alone) (entries (keys_of xs)) ≡ []
no_grants xs = ap (filter_map (grant_again alone)) (entries_are xs) ∙ grants_none 1 xs

-- ---- what the code has in hand

-- the session that was found, with its key
pub held_found : (xs : List (Option Session)) (named : Option (Key × Secret)) (place : Option ℕ) (k : Key) (secret : Secret) (at : ℕ) (found : Option Session) → named ≡ Some (k, secret)
    → place ≡ Some at → IsPlace xs named place → found ≡ active_in (slice_get xs at) → option_map {U = Key × Session} (λ s. (k, s)) found ≡ held_in (keys_of xs) named
held_found xs named place k secret at found is where_is stands there =
    let here : IsAt xs k at = subst (λ n. IsPlace xs n (Some at)) is (subst (IsPlace xs named) where_is stands) in
    held_at xs k secret at found here there ∙ ap (held_in (keys_of xs)) (sym is)

pub birth_refused : (xs : List (Option Session)) (b : Birth) → length xs ≤ 65_536 → true ≡ is_birth b → 65_536 ≤ length xs → Some TableFull ≡ no_birth alone (node_of xs).durable b
birth_refused xs b few made full =
    sym (room xs b few ∙ ap (λ t. cond t (cond (nat_le 65_536 (length xs)) (Some TableFull) None) None) (sym made) ∙ ap (λ t. cond t (Some TableFull) None) (le-leb 65_536 (length xs) full))

not_full : (n : ℕ) → n < 65_536 → ((nat_le 65_536 n ≡ true) × (65_536 ≤ n)) ⊎ ((nat_le 65_536 n ≡ false) × (n < 65_536)) → nat_le 65_536 n ≡ false
not_full n less (inl h) = absurd (omega (arith, h.1, less))
not_full n less (inr h) = h.0

no_cause : (b : Bool) → cond {A = Option Cause} b None None ≡ None
no_cause true = refl
no_cause false = refl

pub birth_allowed : (xs : List (Option Session)) (b : Birth) → length xs ≤ 65_536 → length xs < 65_536 → None ≡ no_birth alone (node_of xs).durable b
birth_allowed xs b few less =
    sym (room xs b few ∙ ap (λ t. cond (is_birth b) (cond t (Some TableFull) None) None) (not_full (length xs) less (leb_tells 65_536 (length xs))) ∙ no_cause (is_birth b))
