-- What a node knows of its keys, by what it keeps of them and after each change of that; and the room for keys.
use Rattle.std.proofs.Common.{◌≡◌, ◌≢◌, ◌⊎◌, ℕ, suc, ◌+◌, ◌<◌, ◌≤◌, ◌==◌, ◌&&◌, Bool, true, false, cond, Option, Some, None, arith, refl, sym, ap, ◌∙◌, inl, inr, ⊎_elim, eq-eqb}
use Rattle.std.specs.Prelude.{nat_lt, nat_le}
use Rattle.std.specs.FinMap.{get, insert, remove, len, get-insert, get-remove}
use Rattle.std.proofs.lemmas.Bool.{cases_eq, ne_eqb, leb-true, leb-false, lt-ltb, cond_both}
use Rattle.std.proofs.lemmas.Bool.Decides.{leb_tells}
use Rattle.sv_model.proofs.Prelude.{Key, Setting, Session, KeyState, Active, Sent, Ended, same_key, set_key}
use Rattle.sv_model.specs.declared.state.TheConstants.{KEY_LIMIT, KEY_MOST}
use Rattle.sv_model.specs.NodeState.{Durable, last_number, is_own, was_given, known_by, known, limit, bound, is_full, has_space}
use Rattle.sv_model.proofs.KeyLemmas.{keys_total, keys_tell}

-- ---- what is known that isn't an end is kept

pub active_kept : (given : Bool) (st : Option KeyState) (e : ℕ) (s : Session) → known_by given st ≡ Some (Active e s) → st ≡ Some (Active e s)
active_kept true None e s is = absurd (let never : Some (Ended last_number) ≡ Some (Active e s) = is in cc)
active_kept false None e s is = absurd (let never : None ≡ Some (Active e s) = is in cc)
active_kept given (Some st) e s is = is

pub sent_kept : (given : Bool) (st : Option KeyState) (e : ℕ) (s : Session) (to : ℕ) → known_by given st ≡ Some (Sent e s to) → st ≡ Some (Sent e s to)
sent_kept true None e s to is = absurd (let never : Some (Ended last_number) ≡ Some (Sent e s to) = is in cc)
sent_kept false None e s to is = absurd (let never : None ≡ Some (Sent e s to) = is in cc)
sent_kept given (Some st) e s to is = is

-- what is kept is known
pub kept_known : (d : Durable) (k : Key) (st : KeyState) → get d.keys k ≡ Some st → known d k ≡ Some st
kept_known d k st is = ap (known_by (was_given d k)) is

plain_by : (st : Option KeyState) → known_by false st ≡ st
plain_by None = refl
plain_by (Some st) = refl

-- where none is forgotten it knows what it keeps
pub plainly_known : (d : Durable) (k : Key) → d.home ≡ None → known d k ≡ get d.keys k
plainly_known d k is = ap (λ home. known_by (is_own home k && (nat_lt 0 k.serial && nat_lt k.serial d.next)) (get d.keys k)) is ∙ plain_by (get d.keys k)

-- ---- the table has a state more

put_by : (o b : Bool) (st : KeyState) (old : Option KeyState) → known_by o (cond b (Some st) old) ≡ cond b (Some st) (known_by o old)
put_by o true st old = refl
put_by o false st old = refl

pub known_insert : (d : Durable) (k : Key) (st : KeyState) (q : Key) → known (record d { keys = insert d.keys k st }) q ≡ set_key (known d) k (Some st) q
known_insert d k st q = ap (known_by (was_given d q)) (get-insert keys_total d.keys k st q) ∙ put_by (was_given d q) (same_key q k) st (get d.keys q)

-- ---- a key leaves the table, by which it is over

gone_by : (o b : Bool) (old : Option KeyState) → (b ≡ true → o ≡ true) → known_by o (cond b None old) ≡ cond b (Some (Ended last_number)) (known_by o old)
gone_by o true old is = ap (λ x. cond x (Some (Ended last_number)) None) (is refl)
gone_by o false old is = refl

given_like : (d : Durable) (k q : Key) → was_given d k ≡ true → same_key q k ≡ true → was_given d q ≡ true
given_like d k q is same = ⊎_elim (λ (t : (q ≡ k) × (same_key q k ≡ true)). ap (was_given d) t.0 ∙ is) (λ (t : (q ≢ k) × (same_key q k ≡ false)). absurd (let no : true ≡ false = sym same ∙ t.1 in cc)) (keys_tell q k)

pub known_remove : (d : Durable) (k q : Key) → was_given d k ≡ true → known (record d { keys = remove d.keys k }) q ≡ set_key (known d) k (Some (Ended last_number)) q
known_remove d k q is = ap (known_by (was_given d q)) (get-remove keys_total d.keys k q) ∙ gone_by (was_given d q) (same_key q k) (get d.keys q) (given_like d k q is)

ltb_tells : (a b : ℕ) → ((nat_lt a b ≡ true) × (a < b)) ⊎ ((nat_lt a b ≡ false) × (b ≤ a))
ltb_tells a b = ⊎_elim (λ (t : (nat_lt a b ≡ true) × (suc a ≤ b)). inl (t.0, omega (arith, t.1))) (λ (t : (nat_lt a b ≡ false) × (b < suc a)). inr (t.0, omega (arith, t.1))) (leb_tells (suc a) b)

-- ---- a birth: the next serial rises

abbrev pub next_key : ℕ → Durable → Key
next_key n d = record { home = n; serial = d.next }

-- the node forgets its own keys, if any
abbrev pub IsOwnHome : ℕ → Durable → Type 0
IsOwnHome n d = (h : ℕ) → d.home ≡ Some h → h ≡ n

-- a serial is below the next but one where it is below the next, or is it
lower : (s n : ℕ) → s ≢ n → nat_lt s (n + 1) ≡ nat_lt s n
lower s n ne = ⊎_elim
    (λ (a : (nat_lt s (n + 1) ≡ true) × (s < n + 1)). ⊎_elim (λ (b : (nat_lt s n ≡ true) × (s < n)). a.0 ∙ sym b.0) (λ (b : (nat_lt s n ≡ false) × (n ≤ s)). absurd (ne (omega (arith, a.1, b.1)))) (ltb_tells s n))
    (λ (a : (nat_lt s (n + 1) ≡ false) × (n + 1 ≤ s)). ⊎_elim (λ (b : (nat_lt s n ≡ true) × (s < n)). absurd (omega (arith, a.1, b.1))) (λ (b : (nat_lt s n ≡ false) × (n ≤ s)). a.0 ∙ sym b.0) (ltb_tells s n))
    (ltb_tells s (n + 1))

raised : (home : Option ℕ) (n next : ℕ) (q : Key) → ((h : ℕ) → home ≡ Some h → h ≡ n) → q ≢ record { home = n; serial = next }
    → (is_own home q && (nat_lt 0 q.serial && nat_lt q.serial (next + 1))) ≡ (is_own home q && (nat_lt 0 q.serial && nat_lt q.serial next))
raised None n next q own ne = refl
raised (Some h) n next q own ne = ⊎_elim
    (λ (at : q.home ≡ h). ap (λ b. (q.home == h) && (nat_lt 0 q.serial && b)) (lower q.serial next (λ same. ne (λ i. record { home = (at ∙ own h refl) i; serial = same i }))))
    (λ (apart : q.home ≢ h). ap (λ b. b && (nat_lt 0 q.serial && nat_lt q.serial (next + 1))) (ne_eqb q.home h apart) ∙ sym (ap (λ b. b && (nat_lt 0 q.serial && nat_lt q.serial next)) (ne_eqb q.home h apart)))
    (cases_eq q.home h)

set_there : {A : Type 0} (f g : Key → A) (k : Key) (x : A) (q : Key) → (q ≢ k → f q ≡ g q) → set_key f k x q ≡ set_key g k x q
set_there f g k x q same = ⊎_elim
    (λ (t : (q ≡ k) × (same_key q k ≡ true)). ap (λ b. cond b x (f q)) t.1 ∙ sym (ap (λ b. cond b x (g q)) t.1))
    (λ (t : (q ≢ k) × (same_key q k ≡ false)). ap (λ y. cond (same_key q k) x y) (same t.0))
    (keys_tell q k)

-- where no key is changed, all others than the next one are known as before
pub known_raised : (d : Durable) (n : ℕ) (q : Key) → IsOwnHome n d → q ≢ next_key n d → known (record d { next = d.next + 1 }) q ≡ known d q
known_raised d n q own ne = ap (λ o. known_by o (get d.keys q)) (raised d.home n d.next q own ne)

pub known_born : (d : Durable) (n : ℕ) (st : KeyState) (q : Key) → IsOwnHome n d
    → known (record d { keys = insert d.keys (next_key n d) st; next = d.next + 1 }) q ≡ set_key (known d) (next_key n d) (Some st) q
known_born d n st q own = known_insert (record d { next = d.next + 1 }) (next_key n d) st q ∙ set_there (known (record d { next = d.next + 1 })) (known d) (next_key n d) (Some st) q (known_raised d n q own)

next_is_given : (d : Durable) (n : ℕ) → d.home ≡ Some n → 0 < d.next → was_given (record d { next = d.next + 1 }) (next_key n d) ≡ true
next_is_given d n is some =
    ap (λ h. is_own h (next_key n d) && (nat_lt 0 d.next && nat_lt d.next (d.next + 1))) is
    ∙ ap (λ b. b && (nat_lt 0 d.next && nat_lt d.next (d.next + 1))) (eq-eqb n n refl)
    ∙ ⊎_elim (λ (a : (nat_lt 0 d.next ≡ true) × (0 < d.next)). ap (λ b. b && nat_lt d.next (d.next + 1)) a.0) (λ (a : (nat_lt 0 d.next ≡ false) × (d.next ≤ 0)). absurd (omega (arith, some, a.1))) (ltb_tells 0 d.next)
    ∙ ⊎_elim (λ (a : (nat_lt d.next (d.next + 1) ≡ true) × (d.next < d.next + 1)). a.0) (λ (a : (nat_lt d.next (d.next + 1) ≡ false) × (d.next + 1 ≤ d.next)). absurd (omega (arith, a.1))) (ltb_tells d.next (d.next + 1))

-- a session that was made and ended at once
pub known_spent : (d : Durable) (n : ℕ) (q : Key) → d.home ≡ Some n → 0 < d.next → IsOwnHome n d
    → known (record d { keys = remove d.keys (next_key n d); next = d.next + 1 }) q ≡ set_key (known d) (next_key n d) (Some (Ended last_number)) q
known_spent d n q is some own = known_remove (record d { next = d.next + 1 }) (next_key n d) q (next_is_given d n is some) ∙ set_there (known (record d { next = d.next + 1 })) (known d) (next_key n d) (Some (Ended last_number)) q (known_raised d n q own)

-- ---- a node begins to forget: each of its keys below next is in the table

begun_by : (o : Bool) (old : Option KeyState) → (o ≡ true → old ≢ None) → known_by o old ≡ known_by false old
begun_by true None full = absurd (full refl refl)
begun_by false None full = refl
begun_by o (Some st) full = refl

pub known_begun : (d : Durable) (n : ℕ) (q : Key) → d.home ≡ None → (was_given (record d { home = Some n }) q ≡ true → get d.keys q ≢ None) → known (record d { home = Some n }) q ≡ known d q
known_begun d n q is full = begun_by (was_given (record d { home = Some n }) q) (get d.keys q) full ∙ sym (ap (λ h. known_by (is_own h q && (nat_lt 0 q.serial && nat_lt q.serial d.next)) (get d.keys q)) is)

-- ---- room

pub limit_within : (set : Setting) → limit set ≤ bound set
limit_within set = cond_both (nat_le set.keys KEY_LIMIT) KEY_LIMIT KEY_MOST (λ n. limit set ≤ n) (λ t. let few : set.keys ≤ KEY_LIMIT = leb-true set.keys KEY_LIMIT t in omega (arith, few)) (λ _. omega arith)

-- where a node has room for a key, its record has space
pub has_room : (set : Setting) (d : Durable) → is_full set d ≡ false → has_space set d ≡ true
has_room set d is = lt-ltb (len d.keys) (bound set) (let below : len d.keys < limit set = leb-false (limit set) (len d.keys) is in omega (arith, below, limit_within set))
