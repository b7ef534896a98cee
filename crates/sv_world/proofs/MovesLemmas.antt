-- What a record of a step makes of what its node knows of a key: it goes on as it was, or the session is handed over, or taken over.
use Rattle.sv_world.proofs.Prelude.{◌≡◌, ◌≢◌, ℕ, ◌<◌, ◌≤◌, ◌==◌, Bool, true, false, cond, Option, Some, None, arith, refl, sym, ap, ◌∙◌, subst, inl, inr}
use Rattle.sv_world.proofs.Prelude.{⊎_elim, eq-eqb, not, nat_lt, get, insert, remove, and_parts, and_from, eqb-true, ltb-true, true≢false, Key, Session}
use Rattle.sv_world.proofs.Prelude.{Setting, Past, KeyState, Active, Sent, Gone, Ended, Record, Boot, SentRecord, Taken, GoneRecord, State, Counters, Forgets}
use Rattle.sv_world.proofs.Prelude.{Counted, Change, Unchanged, ChangeAlive, ChangeEnded, set_key, Durable, last_number, epoch_in, is_own, was_given, known_by}
use Rattle.sv_world.proofs.Prelude.{known, is_settled, has_space, applied, with_named, with_born, next_by, is_active, fits_named, fits_born, is_next, FitsSent}
use Rattle.sv_world.proofs.Prelude.{fits_gone, Fits, over_at, keys_tell, kept_known, IsOwnHome, next_key, known_born, known_spent}
use Rattle.std.proofs.Common.{◌⊎◌, ◌+◌, ◌&&◌}
use Rattle.sv_model.specs.declared.record.Record.TheVariants.{Commit, Expired}
use Rattle.sv_world.proofs.Keys.{set_here, set_there}
use Rattle.sv_world.proofs.Steps.{IsRow, put_row, keeps_row, ends_row, over_epoch, over_up}

-- active at this epoch, or ended at no lower one
abbrev pub IsHeld : ℕ → Option KeyState → Type 0
IsHeld e None = ⊥
IsHeld e (Some (Active f s)) = f ≡ e
IsHeld e (Some (Sent f s to)) = ⊥
IsHeld e (Some (Gone f)) = ⊥
IsHeld e (Some (Ended f)) = e ≤ f

-- what becomes of a state where the session is neither handed over nor taken over
abbrev pub Onward : Option KeyState → Option KeyState → Type 0
Onward None new = (new ≡ None) ⊎ IsHeld 1 new
Onward (Some (Active e s)) new = IsHeld e new
Onward (Some (Sent e s to)) new = (new ≡ Some (Sent e s to)) ⊎ (new ≡ Some (Gone e))
Onward (Some (Gone e)) new = new ≡ Some (Gone e)
Onward (Some (Ended e)) new = new ≡ Some (Ended e)

-- the record hands the session over
pub record Handed (r : Record) (k : Key) (old new : Option KeyState) : Type 0 where
  pub epoch : ℕ
  pub session : Session
  pub to : ℕ
  pub was : old ≡ Some (Active epoch session)
  pub now : new ≡ Some (Sent (epoch + 1) session to)
  pub entry : r ≡ SentRecord k (epoch + 1) to session

-- the record takes the session over
pub record Came (r : Record) (k : Key) (old new : Option KeyState) : Type 0 where
  pub epoch : ℕ
  pub session : Session
  pub from : ℕ
  pub up : epoch_in old < epoch
  pub now : new ≡ Some (Active epoch session)
  pub entry : r ≡ Taken k epoch from session

abbrev pub Moves : Record → Key → Option KeyState → Option KeyState → Type 0
Moves r k old new = Onward old new ⊎ (Handed r k old new ⊎ Came r k old new)

-- ---- what goes on as it was

same_onward : (old : Option KeyState) → Onward old old
same_onward None = inl refl
same_onward (Some (Active e s)) = refl
same_onward (Some (Sent e s to)) = inl refl
same_onward (Some (Gone e)) = refl
same_onward (Some (Ended e)) = refl

pub onward_same : (old new : Option KeyState) → new ≡ old → Onward old new
onward_same old new is = subst (Onward old) (sym is) (same_onward old)

onward_new : (old new st : Option KeyState) → old ≡ None → new ≡ st → IsHeld 1 st → Onward old new
onward_new old new st none is held = subst (λ o. Onward o new) (sym none) (inr (subst (IsHeld 1) (sym is) held))

held_up : (e : ℕ) (new : Option KeyState) → IsHeld e new → e ≤ epoch_in new
held_up e None h = absurd h
held_up e (Some (Active f s)) h = omega (arith, h)
held_up e (Some (Sent f s to)) h = absurd h
held_up e (Some (Gone f)) h = absurd h
held_up e (Some (Ended f)) h = h

pub held_settled : (e : ℕ) (new : Option KeyState) → IsHeld e new → is_settled new ≡ true
held_settled e None h = absurd h
held_settled e (Some (Active f s)) h = refl
held_settled e (Some (Sent f s to)) h = absurd h
held_settled e (Some (Gone f)) h = absurd h
held_settled e (Some (Ended f)) h = refl

pub onward_rises : (old new : Option KeyState) → Onward old new → epoch_in old ≤ epoch_in new
onward_rises None new h = omega arith
onward_rises (Some (Active e s)) new h = held_up e new h
onward_rises (Some (Sent e s to)) new h = ⊎_elim (λ (a : new ≡ Some (Sent e s to)). omega (arith, ap epoch_in a)) (λ (a : new ≡ Some (Gone e)). omega (arith, ap epoch_in a)) h
onward_rises (Some (Gone e)) new h = omega (arith, ap epoch_in h)
onward_rises (Some (Ended e)) new h = omega (arith, ap epoch_in h)

pub onward_stays : (old new : Option KeyState) → Onward old new → is_settled old ≡ true → is_settled new ≡ true
onward_stays None new h s = absurd (true≢false (sym s))
onward_stays (Some (Active e s)) new h _ = held_settled e new h
onward_stays (Some (Sent e s to)) new h is = absurd (true≢false (sym is))
onward_stays (Some (Gone e)) new h is = absurd (true≢false (sym is))
onward_stays (Some (Ended e)) new h _ = ap is_settled h

-- where the epoch rises the session is at hand, or has ended
pub onward_comes : (old new : Option KeyState) → Onward old new → epoch_in old < epoch_in new → is_settled new ≡ true
onward_comes None new h up = ⊎_elim (λ (a : new ≡ None). absurd (omega (arith, up, ap epoch_in a))) (λ (a : IsHeld 1 new). held_settled 1 new a) h
onward_comes (Some (Active e s)) new h up = held_settled e new h
onward_comes (Some (Sent e s to)) new h up = ⊎_elim (λ (a : new ≡ Some (Sent e s to)). absurd (omega (arith, up, ap epoch_in a))) (λ (a : new ≡ Some (Gone e)). absurd (omega (arith, up, ap epoch_in a))) h
onward_comes (Some (Gone e)) new h up = absurd (omega (arith, up, ap epoch_in h))
onward_comes (Some (Ended e)) new h up = absurd (omega (arith, up, ap epoch_in h))

-- ---- record by record

-- what holds of a node in a world
pub record Ground (n : ℕ) (d : Durable) : Type 0 where
  pub own : IsOwnHome n d
  pub some : 0 < d.next
  pub unmade : known d (next_key n d) ≡ None
  pub given : (q : Key) (e : ℕ) (s : Session) → get d.keys q ≡ Some (Active e s) → is_own d.home q ≡ true → was_given d q ≡ true
  pub within : (q : Key) (e : ℕ) (s : Session) → get d.keys q ≡ Some (Active e s) → e ≤ last_number

-- one key changes
row_by : (P : Key → Option KeyState → Option KeyState → Type 0) → ((k : Key) (old new : Option KeyState) → new ≡ old → P k old new)
    → (d disk : Durable) (q : Key) (st : KeyState) → IsRow d disk q st → P q (known d q) (Some st) → (k : Key) → P k (known d k) (known disk k)
row_by P same d disk q st row h k = ⊎_elim
    (λ (t : (k ≡ q) × _). subst (λ z. P z (known d z) (known disk z)) (sym t.0) (subst (P q (known d q)) (sym (row.known_is q ∙ set_here (known d) q (Some st))) h))
    (λ (t : (k ≢ q) × _). same k (known d k) (known disk k) (row.known_is k ∙ set_there (known d) q (Some st) k t.0))
    (keys_tell k q)

onward_row : (d disk : Durable) (q : Key) (st : KeyState) → IsRow d disk q st → Onward (known d q) (Some st) → (k : Key) → Onward (known d k) (known disk k)
onward_row d disk q st row h k = row_by (λ _ old new. Onward old new) (λ _ old new is. onward_same old new is) d disk q st row h k

moves_row : (r : Record) (d disk : Durable) (q : Key) (st : KeyState) → IsRow d disk q st → Moves r q (known d q) (Some st) → (k : Key) → Moves r k (known d k) (known disk k)
moves_row r d disk q st row h k = row_by (Moves r) (λ _ old new is. inl (onward_same old new is)) d disk q st row h k

-- what a test says of a state
abbrev IsActiveAs : Option KeyState → Type 0
IsActiveAs o = (e : ℕ) × (s : Session) × (o ≡ Some (Active e s))

active_of : (o : Option KeyState) → is_active o ≡ true → IsActiveAs o
active_of None h = absurd (true≢false (sym h))
active_of (Some (Active e s)) h = (e, s, refl)
active_of (Some (Sent e s to)) h = absurd (true≢false (sym h))
active_of (Some (Gone e)) h = absurd (true≢false (sym h))
active_of (Some (Ended e)) h = absurd (true≢false (sym h))

sent_of : (e : ℕ) (s : Session) (o : Option KeyState) → FitsSent e s o → (f : ℕ) × (o ≡ Some (Active f s)) × (e ≡ f + 1)
sent_of e s None h = absurd h
sent_of e s (Some (Active f u)) h = (f, ap (λ z. Some (Active f z)) (sym h.1), h.0)
sent_of e s (Some (Sent f u to)) h = absurd h
sent_of e s (Some (Gone f)) h = absurd h
sent_of e s (Some (Ended f)) h = absurd h

gone_of : (e : ℕ) (o : Option KeyState) → fits_gone e o ≡ true → (s : Session) × (to : ℕ) × (o ≡ Some (Sent e s to))
gone_of e None h = absurd (true≢false (sym h))
gone_of e (Some (Active f s)) h = absurd (true≢false (sym h))
gone_of e (Some (Sent f s to)) h = (s, to, ap (λ z. Some (Sent z s to)) (eqb-true f e h))
gone_of e (Some (Gone f)) h = absurd (true≢false (sym h))
gone_of e (Some (Ended f)) h = absurd (true≢false (sym h))

-- a node begins to forget
more_given : (a b : Bool) (st : Option KeyState) → (a ≡ true → b ≡ true) → Onward (known_by a st) (known_by b st)
more_given a b (Some st) h = same_onward (Some st)
more_given true b None h = onward_same (known_by true None) (known_by b None) (ap (λ x. known_by x None) (h refl))
more_given false true None h = inr (omega arith)
more_given false false None h = inl refl

own_more : (home : Option ℕ) (n : ℕ) (k : Key) → ((h : ℕ) → home ≡ Some h → h ≡ n) → is_own home k ≡ true → is_own (Some n) k ≡ true
own_more None n k own h = absurd (true≢false (sym h))
own_more (Some x) n k own h = eq-eqb k.home n (eqb-true k.home x h ∙ own x refl)

given_more : (d : Durable) (n : ℕ) (k : Key) → IsOwnHome n d → was_given d k ≡ true → was_given (record d { home = Some n }) k ≡ true
given_more d n k own h =
    let t = and_parts (is_own d.home k) (nat_lt 0 k.serial && nat_lt k.serial d.next) h in
    and_from (is_own (Some n) k) (nat_lt 0 k.serial && nat_lt k.serial d.next) (own_more d.home n k own t.0) t.1

module _ (set : Setting) (d : Durable) (j : Ground set.node d) where
  ends_onward : (q : Key) → is_active (get d.keys q) ≡ true → (k : Key) → Onward (known d k) (known (applied (Expired q) d) k)
  ends_onward q h k =
      let a = active_of (get d.keys q) h in
      let was : known d q ≡ Some (Active a.0 a.1) = kept_known d q (Active a.0 a.1) a.2 in
      onward_row d (applied (Expired q) d) q (Ended (over_epoch d.home q a.0)) (ends_row d q a.0 a.1 a.2 (j.given q a.0 a.1 a.2))
      (subst (λ o. Onward o (Some (Ended (over_epoch d.home q a.0)))) (sym was) (over_up d.home q a.0 (j.within q a.0 a.1 a.2))) k

  abbrev named_by : Change → Durable
  named_by a = record d { keys = with_named d.home a d.keys }

  named_onward : (a : Change) → fits_named d.keys a ≡ true → (k : Key) → Onward (known d k) (known (named_by a) k)
  named_onward Unchanged h k = same_onward (known d k)
  named_onward (ChangeAlive q s) h k =
      let a = active_of (get d.keys q) h in
      let was : known d q ≡ Some (Active a.0 a.1) = kept_known d q (Active a.0 a.1) a.2 in
      onward_row d (named_by (ChangeAlive q s)) q (Active a.0 s) (keeps_row d q a.0 a.1 s a.2) (subst (λ o. Onward o (Some (Active a.0 s))) (sym was) refl) k
  named_onward (ChangeEnded q) h k = ends_onward q h k

  next_is_it : (q : Key) → is_next set d q ≡ true → q ≡ next_key set.node d
  next_is_it q h =
      let t = and_parts (q.home == set.node) ((q.serial == d.next) && (not (d.next == last_number) && has_space set d)) h in
      let u = and_parts (q.serial == d.next) (not (d.next == last_number) && has_space set d) t.1 in
      let a = eqb-true q.home set.node t.0 in
      let b = eqb-true q.serial d.next u.0 in
      λ i. record { home = a i; serial = b i }

  -- a birth changes the next key alone, which nobody knew
  birth_onward : (a : Change) (disk : Durable) (st : KeyState) → fits_named d.keys a ≡ true → IsHeld 1 (Some st)
      → ((k : Key) → known disk k ≡ set_key (known (named_by a)) (next_key set.node d) (Some st) k) → (k : Key) → Onward (known d k) (known disk k)
  birth_onward a disk st f held is k =
      let x = next_key set.node d in
      ⊎_elim
      (λ (t : (k ≡ x) × _). onward_new (known d k) (known disk k) (Some st) (ap (known d) t.0 ∙ j.unmade)
      (is k ∙ ap (set_key (known (named_by a)) x (Some st)) t.0 ∙ set_here (known (named_by a)) x (Some st)) held)
      (λ (t : (k ≢ x) × _). subst (Onward (known d k)) (sym (is k ∙ set_there (known (named_by a)) x (Some st) k t.0)) (named_onward a f k))
      (keys_tell k x)

  born_onward : (a b : Change) → fits_named d.keys a ≡ true → fits_born set d b ≡ true → (k : Key)
      → Onward (known d k) (known (record d { keys = with_born d.home b (with_named d.home a d.keys); next = next_by b d.next }) k)
  born_onward a Unchanged f g k = named_onward a f k
  born_onward a (ChangeAlive q s) f g k =
      subst (λ z. Onward (known d k) (known (record d { keys = insert (named_by a).keys z (Active 1 s); next = d.next + 1 }) k)) (sym (next_is_it q g))
      (birth_onward a (record d { keys = insert (named_by a).keys (next_key set.node d) (Active 1 s); next = d.next + 1 }) (Active 1 s) f refl (λ y. known_born (named_by a) set.node (Active 1 s) y j.own) k)
  born_onward a (ChangeEnded q) f g k =
      subst (λ z. Onward (known d k) (known (record d { keys = over_at d.home z 1 (named_by a).keys; next = d.next + 1 }) k)) (sym (next_is_it q g))
      (split (is_own d.home (next_key set.node d)) refl)
    where
      homed : (home : Option ℕ) → is_own home (next_key set.node d) ≡ true → ((h : ℕ) → home ≡ Some h → h ≡ set.node) → home ≡ Some set.node
      homed None h own = absurd (true≢false (sym h))
      homed (Some y) h own = ap (λ z. Some z) (own y refl)

      split : (o : Bool) → is_own d.home (next_key set.node d) ≡ o
          → Onward (known d k) (known (record d { keys = cond o (remove (named_by a).keys (next_key set.node d)) (insert (named_by a).keys (next_key set.node d) (Ended 1)); next = d.next + 1 }) k)
      split true is = birth_onward a (record d { keys = remove (named_by a).keys (next_key set.node d); next = d.next + 1 }) (Ended last_number) f (omega arith)
          (λ y. known_spent (named_by a) set.node y (homed d.home is j.own) j.some j.own) k
      split false is = birth_onward a (record d { keys = insert (named_by a).keys (next_key set.node d) (Ended 1); next = d.next + 1 }) (Ended 1) f (omega arith)
          (λ y. known_born (named_by a) set.node (Ended 1) y j.own) k

  pub record_moves : (r : Record) → Fits set Past d r → (k : Key) → Moves r k (known d k) (known (applied r d) k)
  record_moves (Boot b) h k = inl (same_onward (known d k))
  record_moves (Commit a b) h k = let t = and_parts (fits_named d.keys a) (fits_born set d b) h in inl (born_onward a b t.0 t.1 k)
  record_moves (Expired q) h k = inl (ends_onward q h k)
  record_moves (SentRecord q e to s) h k =
      let a = sent_of e s (get d.keys q) h in
      moves_row (SentRecord q e to s) d (applied (SentRecord q e to s) d) q (Sent e s to) (put_row d q (Sent e s to)) (inr (inl (record {
        epoch = a.0;
        session = s;
        to = to;
        was = kept_known d q (Active a.0 s) a.1;
        now = ap (λ z. Some (Sent z s to)) a.2;
        entry = ap (λ z. SentRecord q z to s) a.2;
      }))) k
  record_moves (Taken q e from s) h k =
      let t = and_parts (nat_lt (epoch_in (known d q)) e) _ h in
      moves_row (Taken q e from s) d (applied (Taken q e from s) d) q (Active e s) (put_row d q (Active e s)) (inr (inr (record {
        epoch = e;
        session = s;
        from = from;
        up = ltb-true (epoch_in (known d q)) e t.0;
        now = refl;
        entry = refl;
      }))) k
  record_moves (GoneRecord q e) h k =
      let a = gone_of e (get d.keys q) h in
      let was : known d q ≡ Some (Sent e a.0 a.1) = kept_known d q (Sent e a.0 a.1) a.2 in
      inl (onward_row d (applied (GoneRecord q e) d) q (Gone e) (put_row d q (Gone e)) (subst (λ o. Onward o (Some (Gone e))) (sym was) (inr refl)) k)
  record_moves (State q st) h k = absurd (true≢false (sym h))
  record_moves (Counters b x) h k = absurd (true≢false (sym h))
  record_moves (Forgets n b) h k = subst (λ z. Moves (Forgets n b) k (known d k) (known (record d { home = Some z }) k)) (sym h.0)
      (inl (more_given (was_given d k) (was_given (record d { home = Some set.node }) k) (get d.keys k) (given_more d set.node k j.own)))
  record_moves (Counted n b x) h k = absurd (true≢false (sym h.1))

  -- the serial of the next birth doesn't fall
  next_of : (b : Change) (next : ℕ) → next ≤ next_by b next
  next_of Unchanged next = omega arith
  next_of (ChangeAlive q s) next = omega arith
  next_of (ChangeEnded q) next = omega arith

  pub next_up : (r : Record) → Fits set Past d r → d.next ≤ (applied r d).next
  next_up (Boot b) h = omega arith
  next_up (Commit a b) h = next_of b d.next
  next_up (Expired q) h = omega arith
  next_up (SentRecord q e to s) h = omega arith
  next_up (Taken q e from s) h = omega arith
  next_up (GoneRecord q e) h = omega arith
  next_up (State q st) h = absurd (true≢false (sym h))
  next_up (Counters b x) h = absurd (true≢false (sym h))
  next_up (Forgets n b) h = omega arith
  next_up (Counted n b x) h = absurd (true≢false (sym h.1))
