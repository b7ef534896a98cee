-- A tick ends one session that has expired, where there is one; so as many ticks end them all.
use Rattle.sv_world.proofs.Prelude.{◌≡◌, ◌≢◌, ℕ, ◌≤◌, ◌==◌, Bool, true, false, cond, Option, Some, None, List, [], ◌∷◌, arith, refl, sym, ap, ◌∙◌, subst, inl}
use Rattle.sv_world.proofs.Prelude.{inr, ⊎_elim, not, filter, get, insert, remove, entries, get-entries, get-insert, get-remove, cond_both, cond-true}
use Rattle.sv_world.proofs.Prelude.{cond-false, and_parts, eqb-true, true≢false, Key, Moment, Session, KeyState, Active, Sent, Gone, Ended, Meanings, same_key}
use Rattle.sv_world.proofs.Prelude.{Keys, Node, is_own, was_given, left, In, over_at, is_over, first_over, expire, keys_total, keys_tell, Entry, entry_kept}
use Rattle.sv_world.proofs.Prelude.{over_in, active_kept, kept_known, WorldEvent, Ask, Deliver, Poke, Tick, Crash, Torn, Silent, Restart, TornRestart, Call}
use Rattle.sv_world.proofs.Prelude.{Cluster, Member, World, durable_at, decision, happens, run, AreSteps, Runs, HasExpired, NoneExpires, is_tick, ticks_in}
use Rattle.sv_world.proofs.Prelude.{TicksEndSessions}
use Rattle.std.proofs.Common.{◌⊎◌, ◌+◌, length}
use Rattle.sv_model.specs.declared.input.Input.TheVariants as input
use Rattle.sv_model.specs.Session.{is_expired}
use Rattle.sv_world.specs.declared.event.WorldEvent.TheVariants.{Move}
use Rattle.sv_world.proofs.ArrivesLemmas.{find_in}
use Rattle.sv_world.proofs.ProgressLemmas.{ready_by, stepped_by}
use Rattle.sv_world.proofs.RunningLemmas.{one_runs}
use Rattle.sv_world.proofs.Waiting.{by_node}

-- ---- the table

-- what a table says of a key: it is active, and has expired
record IsOver (keys : Keys) (now : ℕ) (k : Key) : Type 0 where
  epoch : ℕ
  session : Session
  active : get keys k ≡ Some (Active epoch session)
  expired : is_expired session now ≡ true

none_over : (now : ℕ) (es : List Entry) (e : Entry) → first_over now es ≡ None → In e es → is_over now e.1 ≡ true → ⊥
none_over now [] e is i over = absurd i
none_over now (f ∷ es) e is i over = cond_both (is_over now f.1) (Some f) (first_over now es) (λ (o : Option Entry). o ≡ None → ⊥)
    (λ _ none. let no : Some f ≡ None = none in cc)
    (λ no none. ⊎_elim (λ (same : f ≡ e). absurd (true≢false (sym (ap (λ (x : Entry). is_over now x.1) same ∙ over) ∙ no))) (λ (t : In e es). none_over now es e none t over) i)
    is

-- of the keys that were over one is so no more, and no other comes
record IsLess (old new : Keys) (now : ℕ) (q : Key) : Type 0 where
  was : IsOver old now q
  less : (k : Key) → IsOver new now k → IsOver old now k × (k ≢ q)

over_less : (home : Option ℕ) (keys : Keys) (now : ℕ) (q : Key) (f : ℕ) (u : Session) → get keys q ≡ Some (Active f u) → is_expired u now ≡ true → IsLess keys (over_at home q f keys) now q
over_less home keys now q f u is over = record {
  was = record { epoch = f; session = u; active = is; expired = over };
  less = λ k h. cond_both (is_own home q) (remove keys q) (insert keys q (Ended f)) (λ ks. get ks k ≡ Some (Active h.epoch h.session) → IsOver keys now k × (k ≢ q))
      (λ _ at. by_key k h.epoch h.session h.expired None (sym (get-remove keys_total keys q k) ∙ at) (λ no. let never : None ≡ Some (Active h.epoch h.session) = no in absurd (cc)))
      (λ _ at. by_key k h.epoch h.session h.expired (Some (Ended f)) (sym (get-insert keys_total keys q (Ended f) k) ∙ at) (λ no. let never : Some (Ended f) ≡ Some (Active h.epoch h.session) = no in absurd (cc)))
      h.active;
}
  where
    by_key : (k : Key) (e : ℕ) (s : Session) → is_expired s now ≡ true → (other : Option KeyState) → cond (same_key k q) other (get keys k) ≡ Some (Active e s) → (other ≢ Some (Active e s)) → IsOver keys now k × (k ≢ q)
    by_key k e s expired other at never = ⊎_elim
        (λ (t : (k ≡ q) × (same_key k q ≡ true)). absurd (never (sym (cond-true (same_key k q) other (get keys k) t.1) ∙ at)))
        (λ (t : (k ≢ q) × (same_key k q ≡ false)). (record { epoch = e; session = s; active = sym (cond-false (same_key k q) other (get keys k) t.1) ∙ at; expired = expired }, t.0))
        (keys_tell k q)

abbrev Ends : Keys → Keys → ℕ → Type 0
Ends old new now = ((k : Key) → IsOver old now k → ⊥) ⊎ ((q : Key) × IsLess old new now q)

expire_ends : (nd : Node) (now : ℕ) (o : Option Entry) → first_over now (entries nd.durable.keys) ≡ o → Ends nd.durable.keys (expire nd now o []).durable.keys now
expire_ends nd now None is = inl (λ k h.
    let keys = nd.durable.keys in
    none_over now (entries keys) (k, Active h.epoch h.session) is (find_in (entries keys) k (Active h.epoch h.session) (sym (get-entries keys k) ∙ h.active)) h.expired)
expire_ends nd now (Some (q, Active f u)) is =
    let keys = nd.durable.keys in
    let h = over_in now (entries keys) (q, Active f u) is in
    inr (q, over_less nd.durable.home keys now q f u (entry_kept keys (q, Active f u) h.0) h.1)
expire_ends nd now (Some (q, Sent f u y)) is = absurd (true≢false (sym (over_in now (entries nd.durable.keys) (q, Sent f u y) is).1))
expire_ends nd now (Some (q, Gone f)) is = absurd (true≢false (sym (over_in now (entries nd.durable.keys) (q, Gone f) is).1))
expire_ends nd now (Some (q, Ended f)) is = absurd (true≢false (sym (over_in now (entries nd.durable.keys) (q, Ended f) is).1))

-- ---- of a world

known_over : (w : World) (n now : ℕ) (k : Key) → HasExpired w n now k → IsOver (durable_at w n).keys now k
known_over w n now k h = record {
  epoch = h.epoch;
  session = h.session;
  active = active_kept (was_given (durable_at w n) k) (get (durable_at w n).keys k) h.epoch h.session h.active;
  expired = h.expired;
}

over_known : (w : World) (n now : ℕ) (k : Key) → IsOver (durable_at w n).keys now k → HasExpired w n now k
over_known w n now k h = record { epoch = h.epoch; session = h.session; active = kept_known (durable_at w n) k (Active h.epoch h.session) h.active; expired = h.expired }

-- an event that is told to be such a tick is one
record IsTickAt (n now : ℕ) (e : WorldEvent) : Type 0 where
  moment : Moment
  is : e ≡ Tick n moment
  at : moment.now ≡ now

tick_of : (n now : ℕ) (e : WorldEvent) → is_tick n now e ≡ true → IsTickAt n now e
tick_of n now (Ask x moment token r) h = absurd (true≢false (sym h))
tick_of n now (Deliver moment place) h = absurd (true≢false (sym h))
tick_of n now (Poke x moment) h = absurd (true≢false (sym h))
tick_of n now (Tick x moment) h = let t = and_parts (x == n) (moment.now == now) h in record { moment = moment; is = ap (λ z. Tick z moment) (eqb-true x n t.0); at = eqb-true moment.now now t.1 }
tick_of n now (Move x moment k to) h = absurd (true≢false (sym h))
tick_of n now (Crash x) h = absurd (true≢false (sym h))
tick_of n now (Torn x moment given kept) h = absurd (true≢false (sym h))
tick_of n now (Silent x moment given) h = absurd (true≢false (sym h))
tick_of n now (Restart x) h = absurd (true≢false (sym h))
tick_of n now (TornRestart x kept) h = absurd (true≢false (sym h))

-- the keys but one
abbrev but : Key → List Key → List Key
but q ks = filter (λ k. not (same_key k q)) ks

in_but : (q : Key) (ks : List Key) (k : Key) → In k ks → k ≢ q → In k (but q ks)
in_but q [] k i ne = absurd i
in_but q (x ∷ ks) k i ne = cond_both (not (same_key x q)) (x ∷ but q ks) (but q ks) (λ xs. In k xs)
    (λ _. ⊎_elim (λ (same : x ≡ k). inl same) (λ (t : In k ks). inr (in_but q ks k t ne)) i)
    (λ no. ⊎_elim
    (λ (same : x ≡ k). ⊎_elim
    (λ (t : (x ≡ q) × (same_key x q ≡ true)). absurd (ne (sym same ∙ t.0)))
    (λ (t : (x ≢ q) × (same_key x q ≡ false)). absurd (true≢false (sym (ap not t.1) ∙ no)))
    (keys_tell x q))
    (λ (t : In k ks). in_but q ks k t ne) i)

but_within : (q : Key) (ks : List Key) → length (but q ks) ≤ length ks
but_within q [] = omega arith
but_within q (x ∷ ks) = cond_both (not (same_key x q)) (x ∷ but q ks) (but q ks) (λ (xs : List Key). length xs ≤ length (x ∷ ks)) (λ _. omega (arith, but_within q ks)) (λ _. omega (arith, but_within q ks))

but_less : (q : Key) (ks : List Key) → In q ks → length (but q ks) + 1 ≤ length ks
but_less q [] i = absurd i
but_less q (x ∷ ks) i = ⊎_elim
    (λ (t : (x ≡ q) × (same_key x q ≡ true)). omega (arith, but_within q ks, ap (λ (xs : List Key). length xs) (cond-false (not (same_key x q)) (x ∷ but q ks) (but q ks) (ap not t.1))))
    (λ (t : (x ≢ q) × (same_key x q ≡ false)). ⊎_elim
    (λ (same : x ≡ q). absurd (t.0 same))
    (λ (later : In q ks). omega (arith, but_less q ks later, ap (λ (xs : List Key). length xs) (cond-true (not (same_key x q)) (x ∷ but q ks) (but q ks) (ap not t.1)))) i)
    (keys_tell x q)

no_key : (ks : List Key) (k : Key) → length ks ≤ 0 → In k ks → ⊥
no_key [] k le i = absurd i
no_key (x ∷ ks) k le i = absurd (omega (arith, le))

module _ (m : Meanings) (c : Cluster) (n now : ℕ) where
  ticked_keys : (w : World) (moment : Moment) → Runs c w n → moment.now ≡ now → Ends (durable_at w n).keys (durable_at (happens m c w (Tick n moment)) n).keys now
  ticked_keys w moment r at =
      let nd = (w.members n).node in
      let call : Call = record { node = n; moment = moment; input = input.Tick } in
      let member : Member = record { up = true; node = left (decision m c w call) } in
      subst (λ (y : World). Ends nd.durable.keys (durable_at y n).keys now) (sym (stepped_by m c w (Tick n moment) call (ready_by c w call r refl refl)))
      (by_node (λ y z. y ≡ n → Ends nd.durable.keys z.node.durable.keys now) w.members n member n
      (λ _ _. subst (λ t. Ends nd.durable.keys (decision m c w call).durable.keys t) at (expire_ends nd moment.now (first_over moment.now (entries nd.durable.keys)) refl)) (λ ne _. absurd (ne refl)) refl)

  abbrev AllIn : World → List Key → Type 0
  AllIn w ks = (k : Key) → HasExpired w n now k → In k ks

  ends_by : (w : World) (e : WorldEvent) (es : List WorldEvent) (ks : List Key) → Runs c w n → ((k : Key) → HasExpired (happens m c w e) n now k → HasExpired w n now k) → AllIn w ks
      → length ks ≤ ticks_in n now (e ∷ es) → (P : Type 0) → ((ls : List Key) → AllIn (happens m c w e) ls → length ls ≤ ticks_in n now es → P) → (b : Bool) → is_tick n now e ≡ b → P
  ends_by w e es ks r none all le P f false is = f ks (λ k h. all k (none k h)) (omega (arith, le, ap (λ b. cond b 1 0 + ticks_in n now es) is))
  ends_by w e es ks r none all le P f true is =
      let v = happens m c w e in
      let t = tick_of n now e is in
      let one : length ks ≤ 1 + ticks_in n now es = omega (arith, le, ap (λ b. cond b 1 0 + ticks_in n now es) is) in
      ⊎_elim
      (λ (empty : (k : Key) → IsOver (durable_at w n).keys now k → ⊥). f [] (λ k h. absurd (empty k (known_over w n now k (none k h)))) (omega arith))
      (λ (some : (q : Key) × IsLess (durable_at w n).keys (durable_at v n).keys now q).
      let q = some.0 in
      f (but q ks)
      (λ k h. let x = some.1.less k (known_over v n now k h) in in_but q ks k (all k (over_known w n now k x.0)) x.1)
      (omega (arith, one, but_less q ks (all q (over_known w n now q some.1.was)))))
      (subst (λ z. Ends (durable_at w n).keys (durable_at (happens m c w z) n).keys now) (sym t.is) (ticked_keys w t.moment r t.at))

  ends_all : (es : List WorldEvent) (w : World) (ks : List Key) → Runs c w n → AreSteps es → NoneExpires m c n now w es → AllIn w ks → length ks ≤ ticks_in n now es → (k : Key) → HasExpired (run m c w es) n now k → ⊥
  ends_all [] w ks r steps none all le k h = no_key ks k le (all k h)
  ends_all (e ∷ es) w ks r steps none all le k h =
      let v = happens m c w e in
      ends_by w e es ks r none.0 all le ⊥ (λ ls all_v le_v. ends_all es v ls (one_runs m c w e steps.0 n r) steps.1 none.1 all_v le_v k h) (is_tick n now e) refl

pub ticks_end_sessions : (m : Meanings) (c : Cluster) (w : World) → TicksEndSessions m c w
ticks_end_sessions m c w n now keys events r steps none all le k h = ends_all m c n now events w keys r steps none all le k h
