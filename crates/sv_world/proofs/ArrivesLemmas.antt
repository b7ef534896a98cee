-- What comes of a session that was sent off: its sender's tick sends it again, where it comes it is acknowledged, and its sender is done.
use Rattle.sv_world.proofs.Prelude.{◌≡◌, ◌≢◌, ℕ, ◌<◌, ◌≤◌, ◌==◌, true, false, Option, Some, None, List, [], ◌∷◌, ◌++◌, arith, refl, sym, ap, ◌∙◌, subst, inl}
use Rattle.sv_world.proofs.Prelude.{inr, ⊎_elim, eq-eqb, not, nat_lt, nat_le, slice_get, filter, filter_map, get, insert, remove, entries, find, get-entries}
use Rattle.sv_world.proofs.Prelude.{get-insert, get-remove, same_Some, cond_both, cond-true, cond-false, and_from, and_parts, ne_eqb, eqb-true, leb-true}
use Rattle.sv_world.proofs.Prelude.{lt-ltb, true≢false, Key, Moment, Session, Setting, KeyState, Active, Sent, Gone, Ended, Grant, Ack, Send, EngineMeaning}
use Rattle.sv_world.proofs.Prelude.{Meanings, key_cmp, same_key, Keys, Node, epoch_in, was_given, is_own, known, is_unmade, lacks_room, Decision, idle, left}
use Rattle.sv_world.proofs.Prelude.{In, is_ours, on_ours, on_packet, on_grant, on_ack, takes_over, packet_in, sends_in, is_late, first_over, expire, deadlines}
use Rattle.sv_world.proofs.Prelude.{wants_again, grant_again, on_tick, keys_total, keys_tell, Entry, entry_kept, over_in, sent_kept, known_insert, Deliver}
use Rattle.sv_world.proofs.Prelude.{Tick, Call, states, Away, Life, Stands, Cluster, Member, World, durable_at, decision, happens, setting_at, nodes_told, Runs}
use Rattle.sv_world.proofs.Prelude.{HasRoomAt, IsOff, HasArrived}
use Rattle.std.proofs.Common.{◌&&◌, length}
use Rattle.sv_model.specs.declared.input.Input.TheVariants as input
use Rattle.sv_world.proofs.Keys.{in_right, set_here}
use Rattle.sv_world.proofs.OneKey.{below_epoch}
use Rattle.sv_world.proofs.ProgressLemmas.{ready_by, stepped_by}
use Rattle.sv_world.proofs.RunningLemmas.{HasPlace, place_behind, in_mapped, delivery}
use Rattle.sv_world.proofs.Runs.{Inv}
use Rattle.sv_world.proofs.Waiting.{by_node}

-- ---- one key

-- a Grant whose Ack was sent has been taken
arrived_by : (at : ℕ → Option KeyState) (G : ℕ → Session → ℕ → ℕ → Type 0) (A : ℕ → ℕ → Type 0) (O : ℕ → Session → Type 0) (o : Option Session) → Life at G A O o
    → (n e : ℕ) (s : Session) (to : ℕ) → G e s n to → A e n → e ≤ epoch_in (at to)
arrived_by at G A O o j n e s to g a = ⊎_elim
    (λ (t : e ≤ epoch_in (at to)). t)
    (λ (p : j.phase ≡ Away n e s to).
    let h : Stands (Away n e s to) at = subst (λ ph. Stands ph at) p j.stands in
    let r = j.ack e n a in
    absurd (omega (arith, r.2, below_epoch at e (at r.0) (h.1 r.0 r.1))))
    (j.grant e s n to g)

pub acked_arrived : (m : Meanings) (c : Cluster) (v : World) (n : ℕ) (k : Key) (e : ℕ) (s : Session) (to : ℕ) → Inv m c v → In (Grant n to k e s) v.packets → In (Ack to n k e) v.packets → HasArrived v k e to
acked_arrived m c v n k e s to inv g a = arrived_by _ _ _ _ _ (inv.sane.lives k) n e s to g (to, a)

-- ---- the table has the key

pub find_in : (es : List Entry) (k : Key) (st : KeyState) → find key_cmp k es ≡ Some st → In (k, st) es
find_in [] k st e = absurd (cc)
find_in (f ∷ es) k st e = ⊎_elim
    (λ (t : (k ≡ f.0) × (same_key k f.0 ≡ true)).
    let one : f.1 ≡ st = same_Some f.1 st (sym (cond-true (same_key k f.0) (Some f.1) (find key_cmp k es) t.1) ∙ e) in
    let back : f.0 ≡ k = sym t.0 in
    inl (λ i. (back i, one i)))
    (λ (t : (k ≢ f.0) × (same_key k f.0 ≡ false)). inr (find_in es k st (sym (cond-false (same_key k f.0) (Some f.1) (find key_cmp k es) t.1) ∙ e)))
    (keys_tell k f.0)

other_key : (keys : Keys) (k q : Key) (e f : ℕ) (s u : Session) (to : ℕ) → get keys k ≡ Some (Sent e s to) → get keys q ≡ Some (Active f u) → same_key k q ≡ false
other_key keys k q e f s u to a b = ⊎_elim
    (λ (t : (k ≡ q) × (same_key k q ≡ true)). absurd (let never : Some (Sent e s to) ≡ Some (Active f u) = sym a ∙ ap (get keys) t.0 ∙ b in cc))
    (λ (t : (k ≢ q) × (same_key k q ≡ false)). t.1)
    (keys_tell k q)

expire_keeps : (nd : Node) (now : ℕ) (found : Option Entry) → first_over now (entries nd.durable.keys) ≡ found → (k : Key) (e : ℕ) (s : Session) (to : ℕ)
    → get nd.durable.keys k ≡ Some (Sent e s to) → get (expire nd now found []).durable.keys k ≡ Some (Sent e s to)
expire_keeps nd now None is k e s to h = h
expire_keeps nd now (Some (q, Active f u)) is k e s to h =
    let keys = nd.durable.keys in
    let no : same_key k q ≡ false = other_key keys k q e f s u to h (entry_kept keys (q, Active f u) (over_in now (entries keys) (q, Active f u) is).0) in
    cond_both (is_own nd.durable.home q) (remove keys q) (insert keys q (Ended f)) (λ ks. get ks k ≡ Some (Sent e s to))
    (λ _. get-remove keys_total keys q k ∙ cond-false (same_key k q) None (get keys k) no ∙ h)
    (λ _. get-insert keys_total keys q (Ended f) k ∙ cond-false (same_key k q) (Some (Ended f)) (get keys k) no ∙ h)
expire_keeps nd now (Some (q, Sent f u y)) is k e s to h = h
expire_keeps nd now (Some (q, Gone f)) is k e s to h = h
expire_keeps nd now (Some (q, Ended f)) is k e s to h = h

module _ (m : Meanings) (c : Cluster) where
  -- ---- a tick sends it again

  tick_sends : (set : Setting) (n : ℕ) (nd : Node) (moment : Moment) (k : Key) (e : ℕ) (s : Session) (to : ℕ) → set.node ≡ n → get nd.durable.keys k ≡ Some (Sent e s to)
      → In (Grant n to k e s) (sends_in (on_tick set nd moment.now moment.steady).outputs)
  tick_sends set n nd moment k e s to me h =
      let now = moment.now in
      let d = expire nd now (first_over now (entries nd.durable.keys)) [] in
      let waiting = filter (λ p. not (is_late set moment.steady p)) nd.parked in
      let first = deadlines set moment.steady nd.parked ++ wants_again set nd.durable waiting in
      let again = filter_map (grant_again set) (entries d.durable.keys) in
      let has : In (k, Sent e s to) (entries d.durable.keys) = find_in (entries d.durable.keys) k (Sent e s to) (sym (get-entries d.durable.keys k) ∙ expire_keeps nd now (first_over now (entries nd.durable.keys)) refl k e s to h) in
      let put : In (Send (Grant n to k e s)) again = in_mapped (grant_again set) (entries d.durable.keys) (k, Sent e s to) (Send (Grant n to k e s)) has (ap (λ x. Some (Send (Grant x to k e s))) me) in
      in_mapped packet_in (first ++ again) (Send (Grant n to k e s)) (Grant n to k e s) (in_right (Send (Grant n to k e s)) first again put) refl

  pub tick_places : (w : World) (moment : Moment) (n : ℕ) (k : Key) (e : ℕ) (s : Session) (to : ℕ) → Runs c w n → IsOff w k n e s to
      → HasPlace (Grant n to k e s) (length w.packets) (happens m c w (Tick n moment)).packets
  tick_places w moment n k e s to r off =
      let call : Call = record { node = n; moment = moment; input = input.Tick } in
      let nd = (w.members n).node in
      let set = setting_at c w n in
      subst (λ (x : World). HasPlace (Grant n to k e s) (length w.packets) x.packets) (sym (stepped_by m c w (Tick n moment) call (ready_by c w call r refl refl)))
      (place_behind (Grant n to k e s) w.packets (sends_in (on_tick set nd moment.now moment.steady).outputs)
      (tick_sends set n nd moment k e s to refl (sent_kept (was_given nd.durable k) (get nd.durable.keys k) e s to off)))

  -- ---- where it comes it is acknowledged

  -- if the key is not unmade and there is room
  grant_acks : (set : Setting) (nd : Node) (n : ℕ) (k : Key) (e : ℕ) (s : Session) (st : Option KeyState) → is_unmade set nd.durable k ≡ false → lacks_room set nd.durable k ≡ false
      → In (Ack set.node n k e) (sends_in (on_grant set nd n k e s st).outputs)
  grant_acks set nd n k e s st made room = cond_both (is_unmade set nd.durable k) (idle nd []) _ (λ (d : Decision). In (Ack set.node n k e) (sends_in d.outputs))
      (λ t. absurd (true≢false (sym t ∙ made)))
      (λ _. cond_both (nat_le e (epoch_in st)) (idle nd (Send (Ack set.node n k e) ∷ [])) _ (λ (d : Decision). In (Ack set.node n k e) (sends_in d.outputs))
      (λ _. inl refl)
      (λ _. cond_both (lacks_room set nd.durable k) (idle nd []) (takes_over set nd n k e s) (λ (d : Decision). In (Ack set.node n k e) (sends_in d.outputs))
      (λ t. absurd (true≢false (sym t ∙ room)))
      (λ _. inl refl)))

  -- a packet between two nodes, of which the addressee was told of the sender
  pub ours : (set : Setting) (from to : ℕ) → to ≡ set.node → from ≢ to → from < set.nodes → ((to == set.node) && (not (from == set.node) && nat_lt from set.nodes)) ≡ true
  ours set from to me apart inside = and_from (to == set.node) (not (from == set.node) && nat_lt from set.nodes) (eq-eqb to set.node me)
      (and_from (not (from == set.node)) (nat_lt from set.nodes) (ap not (ne_eqb from set.node (λ same. apart (same ∙ sym me)))) (lt-ltb from set.nodes inside))

  packet_acks : (e1 : EngineMeaning) (set : Setting) (nd : Node) (moment : Moment) (n : ℕ) (k : Key) (e : ℕ) (s : Session) → n ≢ set.node → n < set.nodes
      → is_unmade set nd.durable k ≡ false → lacks_room set nd.durable k ≡ false → In (Ack set.node n k e) (sends_in (on_packet e1 set nd moment (Grant n set.node k e s)).outputs)
  packet_acks e1 set nd moment n k e s apart inside made room =
      let p = Grant n set.node k e s in
      cond_both (is_ours set p) (on_ours e1 set nd moment p) (idle nd []) (λ (d : Decision). In (Ack set.node n k e) (sends_in d.outputs))
      (λ _. grant_acks set nd n k e s (known nd.durable k) made room)
      (λ f. absurd (true≢false (sym (ours set n set.node refl apart inside) ∙ f)))

  pub delivered_acks : (v : World) (moment : Moment) (place : ℕ) (n : ℕ) (k : Key) (e : ℕ) (s : Session) (to : ℕ) → Runs c v to → n < nodes_told c v to → n ≢ to → slice_get v.packets place ≡ Some (Grant n to k e s)
      → is_unmade (setting_at c v to) (durable_at v to) k ≡ false → HasRoomAt c to k v → HasPlace (Ack to n k e) (length v.packets) (happens m c v (Deliver moment place)).packets
  delivered_acks v moment place n k e s to r inside apart at made room =
      delivery m c (λ (x : World). HasPlace (Ack to n k e) (length v.packets) x.packets) v moment place (Grant n to k e s) r at
      (place_behind (Ack to n k e) v.packets (sends_in (decision m c v (record { node = to; moment = moment; input = input.Packet (Grant n to k e s) })).outputs)
      (packet_acks (m to (durable_at v to).boot) (setting_at c v to) (v.members to).node moment n k e s apart inside made room))

  -- an unmade key is known nowhere
  pub none_made : (v : World) (to : ℕ) (k : Key) → Inv m c v → is_unmade (setting_at c v to) (durable_at v to) k ≡ true → (x : ℕ) → states v k x ≡ None
  none_made v to k inv t x =
      let h = and_parts (k.home == to) (nat_le (durable_at v to).next k.serial) t in
      let home : k.home ≡ to = eqb-true k.home to h.0 in
      inv.sane.unmade x k (inl (subst (λ z. (durable_at v z).next ≤ k.serial) (sym home) (leb-true _ _ h.1)))

  -- ---- where its acknowledgement comes its sender is done

  ack_ends : (set : Setting) (nd : Node) (moment : Moment) (e1 : EngineMeaning) (k : Key) (e : ℕ) (s : Session) (to : ℕ) (st : Option KeyState) → to ≢ set.node → to < set.nodes → known nd.durable k ≡ st → st ≡ Some (Sent e s to)
      → known (on_packet e1 set nd moment (Ack to set.node k e)).durable k ≡ Some (Gone e)
  ack_ends set nd moment e1 k e s to st apart inside is off =
      let p = Ack to set.node k e in
      cond_both (is_ours set p) (on_ours e1 set nd moment p) (idle nd []) (λ (d : Decision). known d.durable k ≡ Some (Gone e))
      (λ _. subst (λ (o : Option KeyState). known (on_ack nd k e o).durable k ≡ Some (Gone e)) (sym (is ∙ off))
      (cond_both (e == e) _ (idle nd []) (λ (d : Decision). known d.durable k ≡ Some (Gone e))
      (λ _. known_insert nd.durable k (Gone e) k ∙ set_here (known nd.durable) k (Some (Gone e)))
      (λ f. absurd (true≢false (sym (eq-eqb e e refl) ∙ f)))))
      (λ f. absurd (true≢false (sym (ours set to set.node refl apart inside) ∙ f)))

  pub delivered_ends : (v : World) (moment : Moment) (place : ℕ) (n : ℕ) (k : Key) (e : ℕ) (s : Session) (to : ℕ) → Runs c v n → to < nodes_told c v n → to ≢ n → slice_get v.packets place ≡ Some (Ack to n k e)
      → IsOff v k n e s to → states (happens m c v (Deliver moment place)) k n ≡ Some (Gone e)
  delivered_ends v moment place n k e s to r inside apart at off =
      let call : Call = record { node = n; moment = moment; input = input.Packet (Ack to n k e) } in
      let member' : Member = record { up = true; node = left (decision m c v call) } in
      delivery m c (λ (x : World). states x k n ≡ Some (Gone e)) v moment place (Ack to n k e) r at
      (by_node (λ y z. y ≡ n → known z.node.durable k ≡ Some (Gone e)) v.members n member' n
      (λ _ _. ack_ends (setting_at c v n) (v.members n).node moment (m n (durable_at v n).boot) k e s to (states v k n) apart inside refl off) (λ ne _. absurd (ne refl)) refl)
