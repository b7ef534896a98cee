-- What holds of each key that is known goes on holding after records.
use Rattle.sv_core.proofs.Prelude.{◌≡◌, ◌≢◌, ℕ, suc, ◌+◌, ◌-◌, ◌<◌, ◌≤◌, Bool, true, false, cond, Option, Some, None, arith, refl, sym, ap, ◌∙◌, subst, ⊎_elim}
use Rattle.sv_core.proofs.Prelude.{is_some, ◌&&◌, nat_lt, get, insert, remove, len, get-insert, get-remove, cond_both, leb_tells, same_Some, Key, Session}
use Rattle.sv_core.proofs.Prelude.{KeyState, Active, Sent, Gone, Ended, same_key, Keys, is_own, kept_at, over_at, ended_at, keys_total, keys_tell}
use Rattle.std.specs.FinMap.{contains_key, len-insert, len-remove}

pub left : (a b : Bool) → (a && b) ≡ true → a ≡ true
left true b is = refl
left false b is = absurd cc

pub right : (a b : Bool) → (a && b) ≡ true → b ≡ true
right true b is = is
right false b is = absurd cc

pub is_lower : (a b : ℕ) → nat_lt a b ≡ true → a < b
is_lower a b is = ⊎_elim
    (λ (t : (nat_lt a b ≡ true) × (suc a ≤ b)). t.1)
    (λ (t : (nat_lt a b ≡ false) × (b < suc a)). absurd (let no : true ≡ false = sym is ∙ t.0 in cc))
    (leb_tells (suc a) b)

pub lower_is : (a b : ℕ) → a < b → nat_lt a b ≡ true
lower_is a b is = ⊎_elim
    (λ (t : (nat_lt a b ≡ true) × (suc a ≤ b)). t.0)
    (λ (t : (nat_lt a b ≡ false) × (b < suc a)). absurd (omega (arith, t.1, is)))
    (leb_tells (suc a) b)

-- ---- what holds of each key that is known

abbrev pub AreAll : (Key → KeyState → Type 0) → Keys → Type 0
AreAll P keys = (k : Key) (st : KeyState) → get keys k ≡ Some st → P k st

pub all_with : (P : Key → KeyState → Type 0) (keys : Keys) (k : Key) (st : KeyState) → AreAll P keys → P k st → AreAll P (insert keys k st)
all_with P keys k st h new q u there = ⊎_elim
    (λ (t : (q ≡ k) × (same_key q k ≡ true)).
    let same : st ≡ u = same_Some st u (ap (λ b. cond b (Some st) (get keys q)) (sym t.1) ∙ sym (get-insert keys_total keys k st q) ∙ there) in
    subst (λ (p : Key). P p u) (sym t.0) (subst (λ (v : KeyState). P k v) same new))
    (λ (t : (q ≢ k) × (same_key q k ≡ false)). h q u (ap (λ b. cond b (Some st) (get keys q)) (sym t.1) ∙ sym (get-insert keys_total keys k st q) ∙ there))
    (keys_tell q k)

pub all_kept : (P : Key → KeyState → Type 0) (keys : Keys) (k : Key) (s : Session) (st : Option KeyState) → AreAll P keys → get keys k ≡ st
    → ((e : ℕ) (old : Session) → P k (Active e old) → P k (Active e s)) → AreAll P (kept_at k s st keys)
all_kept P keys k s None h there keeps = h
all_kept P keys k s (Some (Active e old)) h there keeps = all_with P keys k (Active e s) h (keeps e old (h k (Active e old) there))
all_kept P keys k s (Some (Sent e old to)) h there keeps = h
all_kept P keys k s (Some (Gone e)) h there keeps = h
all_kept P keys k s (Some (Ended e)) h there keeps = h

all_without : (P : Key → KeyState → Type 0) (keys : Keys) (k : Key) → AreAll P keys → AreAll P (remove keys k)
all_without P keys k h q u there = ⊎_elim
    (λ (t : (q ≡ k) × (same_key q k ≡ true)). absurd (let never : None ≡ Some u = ap (λ b. cond b None (get keys q)) (sym t.1) ∙ sym (get-remove keys_total keys k q) ∙ there in cc))
    (λ (t : (q ≢ k) × (same_key q k ≡ false)). h q u (ap (λ b. cond b None (get keys q)) (sym t.1) ∙ sym (get-remove keys_total keys k q) ∙ there))
    (keys_tell q k)

pub all_over : (P : Key → KeyState → Type 0) (home : Option ℕ) (keys : Keys) (k : Key) (e : ℕ) → AreAll P keys → P k (Ended e) → AreAll P (over_at home k e keys)
all_over P home keys k e h new = cond_both (is_own home k) (remove keys k) (insert keys k (Ended e)) (λ m. AreAll P m) (λ _. all_without P keys k h) (λ _. all_with P keys k (Ended e) h new)

pub all_ended : (P : Key → KeyState → Type 0) (home : Option ℕ) (keys : Keys) (k : Key) (st : Option KeyState) → AreAll P keys → get keys k ≡ st
    → ((e : ℕ) (old : Session) → P k (Active e old) → P k (Ended e)) → AreAll P (ended_at home k st keys)
all_ended P home keys k None h there ends = h
all_ended P home keys k (Some (Active e old)) h there ends = all_over P home keys k e h (ends e old (h k (Active e old) there))
all_ended P home keys k (Some (Sent e old to)) h there ends = h
all_ended P home keys k (Some (Gone e)) h there ends = h
all_ended P home keys k (Some (Ended e)) h there ends = h

-- ---- how many there are

pub as_many : (keys : Keys) (k : Key) (st old : KeyState) → get keys k ≡ Some old → len (insert keys k st) ≡ len keys
as_many keys k st old there = len-insert keys_total keys k st ∙ ap (λ o. cond (is_some o) (len keys) (len keys + 1)) there

pub one_more : (most : ℕ) (keys : Keys) (k : Key) (st : KeyState) → len keys < most → len (insert keys k st) ≤ most
one_more most keys k st room = subst (λ n. n ≤ most) (sym (len-insert keys_total keys k st))
    (cond_both (is_some (get keys k)) (len keys) (len keys + 1) (λ n. n ≤ most) (λ _. omega (arith, room)) (λ _. omega (arith, room)))

one_less : (keys : Keys) (k : Key) → len (remove keys k) ≤ len keys
one_less keys k = subst (λ n. n ≤ len keys) (sym (len-remove keys_total keys k)) (cond_both (contains_key keys k) (len keys - 1) (len keys) (λ n. n ≤ len keys) (λ _. omega arith) (λ _. omega arith))

pub over_more : (most : ℕ) (home : Option ℕ) (keys : Keys) (k : Key) (e : ℕ) → len keys < most → len (over_at home k e keys) ≤ most
over_more most home keys k e room = cond_both (is_own home k) (remove keys k) (insert keys k (Ended e)) (λ m. len m ≤ most) (λ _. omega (arith, room, one_less keys k)) (λ _. one_more most keys k (Ended e) room)

over_few : (home : Option ℕ) (keys : Keys) (k : Key) (e : ℕ) (old : KeyState) → get keys k ≡ Some old → len (over_at home k e keys) ≤ len keys
over_few home keys k e old there = cond_both (is_own home k) (remove keys k) (insert keys k (Ended e)) (λ m. len m ≤ len keys) (λ _. one_less keys k) (λ _. omega (arith, as_many keys k (Ended e) old there))

pub kept_many : (keys : Keys) (k : Key) (s : Session) (st : Option KeyState) → get keys k ≡ st → len (kept_at k s st keys) ≡ len keys
kept_many keys k s None there = refl
kept_many keys k s (Some (Active e old)) there = as_many keys k (Active e s) (Active e old) there
kept_many keys k s (Some (Sent e old to)) there = refl
kept_many keys k s (Some (Gone e)) there = refl
kept_many keys k s (Some (Ended e)) there = refl

pub ended_few : (home : Option ℕ) (keys : Keys) (k : Key) (st : Option KeyState) → get keys k ≡ st → len (ended_at home k st keys) ≤ len keys
ended_few home keys k None there = omega arith
ended_few home keys k (Some (Active e old)) there = over_few home keys k e (Active e old) there
ended_few home keys k (Some (Sent e old to)) there = omega arith
ended_few home keys k (Some (Gone e)) there = omega arith
ended_few home keys k (Some (Ended e)) there = omega arith
