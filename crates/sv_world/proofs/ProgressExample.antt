-- What progress asks for can be met: a request waits at node 1 for a session that node 0 has never given out, and three fair rounds
-- follow.
use Rattle.sv_world.proofs.Prelude.{◌≡◌, ◌≢◌, ℕ, ◌<◌, ◌≤◌, true, false, Some, None, List, [], ◌∷◌, ◌++◌, arith, refl, sym, ap, ◌∙◌, subst, inl, inr, ⊎_elim}
use Rattle.sv_world.proofs.Prelude.{empty, get-empty, len-empty, slice_get, cases_eq, true≢false, Key, Moment, Secret, Parked, Packet, Want, No, Input, Request}
use Rattle.sv_world.proofs.Prelude.{Response, KeyState, Active, Sent, Untouched, Absent, Meanings, always, key_cmp, In, Durable, Node, known, is_settled}
use Rattle.sv_world.proofs.Prelude.{lacks_room, Decision, left, decided, sends_in, blank, no_entries, states, rules_for, WorldEvent, Ask, Deliver, Tick}
use Rattle.sv_world.proofs.Prelude.{Restart, Call, Cluster, Member, World, steady, stopped, setting_of, set_member, durable_at, nothing_happened, whole}
use Rattle.sv_world.proofs.Prelude.{decision, happens, run, AllRun, HasRoomAt, HasRoom, Round, ticked, behind, IsRound, AreFair, CanCome}
use Rattle.std.proofs.Common.{zero, suc, length}
use Rattle.sv_model.specs.declared.input.Input.TheVariants as input
use Rattle.sv_world.proofs.ProgressLemmas.{ready_by, stepped_by}
use Rattle.sv_world.proofs.RunningLemmas.{delivery, runs_one}
use Rattle.sv_world.proofs.Waiting.{by_node}

-- each request names the first session of node 0, and none is made
abbrev asks : Response → Secret → Meanings
asks response secret = always (record { names = λ r. Some (record { home = 0; serial = 1 }, secret); serve = λ r held now fresh. record { response = response; fate = Untouched; birth = Absent; events = [] }; hear = λ heard t. heard })

abbrev pair : Cluster
pair = steady 2 (rules_for 30)

module _ (response : Response) (secret : Secret) (r : Request) where
  abbrev m : Meanings
  m = asks response secret

  abbrev k : Key
  k = record { home = 0; serial = 1 }

  abbrev at : Moment
  at = record { now = 100; steady = 100; secret = secret }

  abbrev p : Parked
  p = record { token = 7; request = r; key = k; since = 100; want = 1 }

  -- each node has started once, and none knows a key
  abbrev once : Durable
  once = record { keys = empty; boot = 1; next = 1; home = None }

  abbrev node : List Parked → ℕ → Node
  node ps want = record { durable = once; parked = ps; next_want = want }

  -- node 0 at rest, and node 1 with these that wait; and these packets
  record Stands (w : World) (ps : List Parked) (packets : List Packet) : Type 0 where
    zero_is : w.members 0 ≡ record { up = true; node = node [] 1 }
    one_is : w.members 1 ≡ record { up = true; node = node ps 2 }
    others : (n : ℕ) → 2 ≤ n → w.members n ≡ stopped blank
    packets_are : w.packets ≡ packets

  abbrev want : Packet
  want = Want 1 0 k 1 1

  abbrev denial : Packet
  denial = No 0 1 k 1 1

  -- ---- one step

  all_run : (w : World) (ps : List Parked) (packets : List Packet) → Stands w ps packets → AllRun pair 2 w
  all_run w ps packets h = record { up = up; told = λ n _. refl; only = only }
    where
      up : (n : ℕ) → n < 2 → (w.members n).up ≡ true
      up zero less = ap (λ (x : Member). x.up) h.zero_is
      up (suc zero) less = ap (λ (x : Member). x.up) h.one_is
      up (suc (suc n)) less = absurd (omega (arith, less))

      only : (n : ℕ) → (w.members n).up ≡ true → n < 2
      only zero is = omega arith
      only (suc zero) is = omega arith
      only (suc (suc n)) is = absurd (true≢false (sym is ∙ ap (λ (x : Member). x.up) (h.others (suc (suc n)) (omega arith))))

  -- a step of node 0, which stays as it is
  zero_steps : (w : World) (ps : List Parked) (packets more : List Packet) (e : WorldEvent) (i : Input) → Stands w ps packets → left (decided (m 0 1) (setting_of pair 0 1) (node [] 1) at i) ≡ node [] 1
      → sends_in (decided (m 0 1) (setting_of pair 0 1) (node [] 1) at i).outputs ≡ more
      → Stands (whole pair w e (record { node = 0; moment = at; input = i }) (decision m pair w (record { node = 0; moment = at; input = i }))) ps (packets ++ more)
  zero_steps w ps packets more e i h same sends =
      let call : Call = record { node = 0; moment = at; input = i } in
      let d : decision m pair w call ≡ decided (m 0 1) (setting_of pair 0 1) (node [] 1) at i = ap (λ (x : Member). decided (m 0 x.node.durable.boot) (setting_of pair 0 x.node.durable.boot) x.node at i) h.zero_is in
      let member : Member = record { up = true; node = left (decision m pair w call) } in
      let rests : (n : ℕ) → n ≢ 0 → set_member w.members 0 member n ≡ w.members n = λ n ne. by_node (λ y z. y ≢ 0 → z ≡ w.members y) w.members 0 member n (λ e no. absurd (no e)) (λ _ _. refl) ne in
      record {
        zero_is = ap (λ (x : Decision). record { up = true; node = left x }) d ∙ ap (λ (x : Node). record { up = true; node = x }) same;
        one_is = rests 1 (λ e. omega (arith, e)) ∙ h.one_is;
        others = λ n le. rests n (λ e. omega (arith, le, e)) ∙ h.others n le;
        packets_are = ap (λ (x : Decision). w.packets ++ sends_in x.outputs) d ∙ ap (λ (x : List Packet). w.packets ++ x) sends ∙ ap (λ (x : List Packet). x ++ more) h.packets_are;
      }

  -- a step of node 1
  one_steps : (w : World) (ps qs : List Parked) (packets more : List Packet) (e : WorldEvent) (i : Input) → Stands w ps packets → left (decided (m 1 1) (setting_of pair 1 1) (node ps 2) at i) ≡ node qs 2
      → sends_in (decided (m 1 1) (setting_of pair 1 1) (node ps 2) at i).outputs ≡ more
      → Stands (whole pair w e (record { node = 1; moment = at; input = i }) (decision m pair w (record { node = 1; moment = at; input = i }))) qs (packets ++ more)
  one_steps w ps qs packets more e i h same sends =
      let call : Call = record { node = 1; moment = at; input = i } in
      let d : decision m pair w call ≡ decided (m 1 1) (setting_of pair 1 1) (node ps 2) at i = ap (λ (x : Member). decided (m 1 x.node.durable.boot) (setting_of pair 1 x.node.durable.boot) x.node at i) h.one_is in
      let member : Member = record { up = true; node = left (decision m pair w call) } in
      let rests : (n : ℕ) → n ≢ 1 → set_member w.members 1 member n ≡ w.members n = λ n ne. by_node (λ y z. y ≢ 1 → z ≡ w.members y) w.members 1 member n (λ e no. absurd (no e)) (λ _ _. refl) ne in
      record {
        zero_is = rests 0 (λ e. omega (arith, e)) ∙ h.zero_is;
        one_is = ap (λ (x : Decision). record { up = true; node = left x }) d ∙ ap (λ (x : Node). record { up = true; node = x }) same;
        others = λ n le. rests n (λ e. omega (arith, le, e)) ∙ h.others n le;
        packets_are = ap (λ (x : Decision). w.packets ++ sends_in x.outputs) d ∙ ap (λ (x : List Packet). w.packets ++ x) sends ∙ ap (λ (x : List Packet). x ++ more) h.packets_are;
      }

  -- ---- the ticks and deliveries of the rounds

  zero_ticks : (w : World) (ps : List Parked) (packets : List Packet) → Stands w ps packets → Stands (happens m pair w (Tick 0 at)) ps (packets ++ [])
  zero_ticks w ps packets h =
      let call : Call = record { node = 0; moment = at; input = input.Tick } in
      subst (λ x. Stands x ps (packets ++ [])) (sym (stepped_by m pair w (Tick 0 at) call (ready_by pair w call (runs_one pair 2 w (all_run w ps packets h) 0 (omega arith)) refl refl)))
      (zero_steps w ps packets [] (Tick 0 at) input.Tick h (rw (no_entries) refl) (rw (no_entries, no_entries) refl))

  one_ticks : (w : World) (ps qs : List Parked) (packets more : List Packet) → Stands w ps packets → left (decided (m 1 1) (setting_of pair 1 1) (node ps 2) at input.Tick) ≡ node qs 2
      → sends_in (decided (m 1 1) (setting_of pair 1 1) (node ps 2) at input.Tick).outputs ≡ more → Stands (happens m pair w (Tick 1 at)) qs (packets ++ more)
  one_ticks w ps qs packets more h same sends =
      let call : Call = record { node = 1; moment = at; input = input.Tick } in
      subst (λ x. Stands x qs (packets ++ more)) (sym (stepped_by m pair w (Tick 1 at) call (ready_by pair w call (runs_one pair 2 w (all_run w ps packets h) 1 (omega arith)) refl refl)))
      (one_steps w ps qs packets more (Tick 1 at) input.Tick h same sends)

  waiting_ticks : left (decided (m 1 1) (setting_of pair 1 1) (node (p ∷ []) 2) at input.Tick) ≡ node (p ∷ []) 2
  waiting_ticks = rw (no_entries) refl

  waiting_asks : sends_in (decided (m 1 1) (setting_of pair 1 1) (node (p ∷ []) 2) at input.Tick).outputs ≡ want ∷ []
  waiting_asks = rw (no_entries, get-empty key_cmp k, no_entries) refl

  quiet_ticks : left (decided (m 1 1) (setting_of pair 1 1) (node [] 2) at input.Tick) ≡ node [] 2
  quiet_ticks = rw (no_entries) refl

  quiet_asks : sends_in (decided (m 1 1) (setting_of pair 1 1) (node [] 2) at input.Tick).outputs ≡ []
  quiet_asks = rw (no_entries, no_entries) refl

  -- a Want comes to node 0, which says No
  want_comes : (w : World) (ps : List Parked) (packets : List Packet) (i : ℕ) → Stands w ps packets → slice_get packets i ≡ Some want → Stands (happens m pair w (Deliver at i)) ps (packets ++ denial ∷ [])
  want_comes w ps packets i h there = delivery m pair (λ x. Stands x ps (packets ++ denial ∷ [])) w at i want (runs_one pair 2 w (all_run w ps packets h) 0 (omega arith))
      (ap (λ (xs : List Packet). slice_get xs i) h.packets_are ∙ there)
      (zero_steps w ps packets (denial ∷ []) (Deliver at i) (input.Packet want) h (rw (get-empty key_cmp k) refl) (rw (get-empty key_cmp k) refl))

  -- the No comes to node 1
  denial_comes : (w : World) (ps qs : List Parked) (packets : List Packet) (i : ℕ) → Stands w ps packets → slice_get packets i ≡ Some denial → left (decided (m 1 1) (setting_of pair 1 1) (node ps 2) at (input.Packet denial)) ≡ node qs 2
      → sends_in (decided (m 1 1) (setting_of pair 1 1) (node ps 2) at (input.Packet denial)).outputs ≡ [] → Stands (happens m pair w (Deliver at i)) qs (packets ++ [])
  denial_comes w ps qs packets i h there same sends = delivery m pair (λ x. Stands x qs (packets ++ [])) w at i denial (runs_one pair 2 w (all_run w ps packets h) 1 (omega arith))
      (ap (λ (xs : List Packet). slice_get xs i) h.packets_are ∙ there)
      (one_steps w ps qs packets [] (Deliver at i) (input.Packet denial) h same sends)

  -- ---- the rounds

  abbrev begun : World
  begun = run m pair nothing_happened (Restart 0 ∷ Restart 1 ∷ [])

  abbrev w : World
  w = happens m pair begun (Ask 1 at 7 r)

  -- its Want comes; the No to it comes; and another, too late
  abbrev a : Round
  a = record { ticks = Tick 0 at ∷ Tick 1 at ∷ []; rest = Deliver at 1 ∷ [] }

  abbrev b : Round
  b = record { ticks = Tick 0 at ∷ Tick 1 at ∷ []; rest = Deliver at 2 ∷ Deliver at 3 ∷ [] }

  abbrev d : Round
  d = record { ticks = Tick 0 at ∷ Tick 1 at ∷ []; rest = Deliver at 4 ∷ [] }

  asked : Stands w (p ∷ []) (want ∷ [])
  asked =
      let call : Call = record { node = 1; moment = at; input = input.Ask 7 r } in
      let at_rest : Member = record { up = true; node = node [] 1 } in
      let member : Member = record { up = true; node = left (decision m pair begun call) } in
      subst (λ x. Stands x (p ∷ []) (want ∷ [])) (sym (stepped_by m pair begun (Ask 1 at 7 r) call refl)) (record {
        zero_is = refl;
        one_is = rw (get-empty key_cmp k) refl;
        others = λ n le. by_node (λ y z. 2 ≤ y → z ≡ stopped blank) begun.members 1 member n (λ e more. absurd (omega (arith, e, more)))
            (λ _ _. by_node (λ y z. 2 ≤ y → z ≡ stopped blank) (set_member (λ _. stopped blank) 0 at_rest) 1 at_rest n (λ e more. absurd (omega (arith, e, more)))
            (λ _ _. by_node (λ y z. 2 ≤ y → z ≡ stopped blank) (λ _. stopped blank) 0 at_rest n (λ e more. absurd (omega (arith, e, more))) (λ _ _. refl) le) le) le;
        packets_are = rw (get-empty key_cmp k) refl;
      })

  asked_more : Stands (ticked m pair w a) (p ∷ []) (want ∷ want ∷ [])
  asked_more = one_ticks (happens m pair w (Tick 0 at)) (p ∷ []) (p ∷ []) (want ∷ []) (want ∷ []) (zero_ticks w (p ∷ []) (want ∷ []) asked) waiting_ticks waiting_asks

  denied : Stands (behind m pair w a) (p ∷ []) (want ∷ want ∷ denial ∷ [])
  denied = want_comes (ticked m pair w a) (p ∷ []) (want ∷ want ∷ []) 1 asked_more refl

  abbrev u : World
  u = behind m pair w a

  denied_ticked : Stands (ticked m pair u b) (p ∷ []) (want ∷ want ∷ denial ∷ want ∷ [])
  denied_ticked = one_ticks (happens m pair u (Tick 0 at)) (p ∷ []) (p ∷ []) (want ∷ want ∷ denial ∷ []) (want ∷ []) (zero_ticks u (p ∷ []) (want ∷ want ∷ denial ∷ []) denied) waiting_ticks waiting_asks

  told : Stands (happens m pair (ticked m pair u b) (Deliver at 2)) [] (want ∷ want ∷ denial ∷ want ∷ [])
  told = denial_comes (ticked m pair u b) (p ∷ []) [] (want ∷ want ∷ denial ∷ want ∷ []) 2 denied_ticked refl refl refl

  quiet : Stands (behind m pair u b) [] (want ∷ want ∷ denial ∷ want ∷ denial ∷ [])
  quiet = want_comes (happens m pair (ticked m pair u b) (Deliver at 2)) [] (want ∷ want ∷ denial ∷ want ∷ []) 3 told refl

  abbrev v : World
  v = behind m pair u b

  quiet_ticked : Stands (ticked m pair v d) [] (want ∷ want ∷ denial ∷ want ∷ denial ∷ [])
  quiet_ticked = one_ticks (happens m pair v (Tick 0 at)) [] [] (want ∷ want ∷ denial ∷ want ∷ denial ∷ []) [] (zero_ticks v [] (want ∷ want ∷ denial ∷ want ∷ denial ∷ []) quiet) quiet_ticks quiet_asks

  late : Stands (behind m pair v d) [] (want ∷ want ∷ denial ∷ want ∷ denial ∷ [])
  late = denial_comes (ticked m pair v d) [] [] (want ∷ want ∷ denial ∷ want ∷ denial ∷ []) 4 quiet_ticked refl refl refl

  -- ---- what is asked for

  unknown : (w : World) (ps : List Parked) (packets : List Packet) → Stands w ps packets → (x : ℕ) → states w k x ≡ None
  unknown w ps packets h zero = ap (λ (y : Member). known y.node.durable k) h.zero_is ∙ rw (get-empty key_cmp k) refl
  unknown w ps packets h (suc zero) = ap (λ (y : Member). known y.node.durable k) h.one_is ∙ rw (get-empty key_cmp k) refl
  unknown w ps packets h (suc (suc n)) = ap (λ (y : Member). known y.node.durable k) (h.others (suc (suc n)) (omega arith)) ∙ rw (get-empty key_cmp k) refl

  room_at : (w : World) (ps : List Parked) (packets : List Packet) → Stands w ps packets → HasRoomAt pair 1 k w
  room_at w ps packets h = ap (λ (x : Member). lacks_room (setting_of pair 1 x.node.durable.boot) x.node.durable k) h.one_is ∙ rw (get-empty key_cmp k, len-empty key_cmp KeyState) refl

  -- in the two worlds of one event, and in those of the ticks
  room_one : (w : World) (e : WorldEvent) (ps qs : List Parked) (packets more : List Packet) → Stands w ps packets → Stands (happens m pair w e) qs more → HasRoom m pair 1 k w (e ∷ [])
  room_one w e ps qs packets more h g = (room_at w ps packets h, room_at (happens m pair w e) qs more g)

  room_ticks : (w : World) (ps qs : List Parked) (packets more : List Packet) → Stands w ps packets → Stands (run m pair w (Tick 0 at ∷ Tick 1 at ∷ [])) qs more → HasRoom m pair 1 k w (Tick 0 at ∷ Tick 1 at ∷ [])
  room_ticks w ps qs packets more h g = (room_at w ps packets h, (room_at (happens m pair w (Tick 0 at)) ps (packets ++ []) (zero_ticks w ps packets h), room_at (run m pair w (Tick 0 at ∷ Tick 1 at ∷ [])) qs more g))

  settled : (w : World) (ps : List Parked) (packets : List Packet) → Stands w ps packets → ((q : Parked) → In q ps → q.key ≡ k) → (n : ℕ) → n < 2 → (q : Parked) → In q (w.members n).node.parked → is_settled (known (durable_at w n) q.key) ≡ false
  settled w ps packets h keys zero less q i = absurd (subst (λ (x : Member). In q x.node.parked) h.zero_is i)
  settled w ps packets h keys (suc zero) less q i = ap (λ y. is_settled (known (durable_at w 1) y)) (keys q (subst (λ (x : Member). In q x.node.parked) h.one_is i)) ∙ ap is_settled (unknown w ps packets h 1)
  settled w ps packets h keys (suc (suc n)) less q i = absurd (omega (arith, less))

  waits_for : (q : Parked) → In q (p ∷ []) → q.key ≡ k
  waits_for q i = ⊎_elim (λ (same : p ≡ q). ap (λ (x : Parked). x.key) (sym same)) (λ (no : In q []). absurd no) i

  ticks : (n : ℕ) → n < 2 → (moment : Moment) × In (Tick n moment) (Tick 0 at ∷ Tick 1 at ∷ [])
  ticks zero less = (at, inl refl)
  ticks (suc zero) less = (at, inr (inl refl))
  ticks (suc (suc n)) less = absurd (omega (arith, less))

  first_fair : IsRound m pair 2 (length w.packets) w a
  first_fair = record {
    steps = ((tt, (tt, tt)), (tt, tt));
    tick = ticks;
    come = λ i from to. let one : i ≡ 1 = omega (arith, from, to, ap (λ (xs : List Packet). length xs) asked.packets_are, ap (λ (xs : List Packet). length xs) asked_more.packets_are) in (at, inl (ap (λ y. Deliver at y) (sym one)));
    settled = settled (behind m pair w a) (p ∷ []) (want ∷ want ∷ denial ∷ []) denied waits_for;
  }

  second_fair : IsRound m pair 2 (length (ticked m pair w a).packets) u b
  second_fair = record {
    steps = ((tt, (tt, tt)), (tt, (tt, tt)));
    tick = ticks;
    come = λ i from to. ⊎_elim
        (λ (two : i ≡ 2). (at, inl (ap (λ y. Deliver at y) (sym two))))
        (λ (other : i ≢ 2).
        let three : i ≡ 3 = omega (arith, from, to, other, ap (λ (xs : List Packet). length xs) asked_more.packets_are, ap (λ (xs : List Packet). length xs) denied_ticked.packets_are) in (at, inr (inl (ap (λ y. Deliver at y) (sym three)))))
        (cases_eq i 2);
    settled = settled (behind m pair u b) [] (want ∷ want ∷ denial ∷ want ∷ denial ∷ []) quiet (λ q i. absurd i);
  }

  third_fair : IsRound m pair 2 (length (ticked m pair u b).packets) v d
  third_fair = record {
    steps = ((tt, (tt, tt)), (tt, tt));
    tick = ticks;
    come = λ i from to. let four : i ≡ 4 = omega (arith, from, to, ap (λ (xs : List Packet). length xs) denied_ticked.packets_are, ap (λ (xs : List Packet). length xs) quiet_ticked.packets_are) in (at, inl (ap (λ y. Deliver at y) (sym four)));
    settled = settled (behind m pair v d) [] (want ∷ want ∷ denial ∷ want ∷ denial ∷ []) late (λ q i. absurd i);
  }

  pub waits : In p (w.members 1).node.parked
  waits = subst (λ (x : Member). In p x.node.parked) (sym asked.one_is) (inl refl)

  pub fair : AreFair m pair 2 w (a ∷ b ∷ d ∷ [])
  fair = record { run = all_run w (p ∷ []) (want ∷ []) asked; rounds_are = (first_fair, (second_fair, (third_fair, tt))) }

  pub can_come : CanCome m pair 2 w 1 k (a ∷ b ∷ d ∷ [])
  can_come =
      let none = unknown w (p ∷ []) (want ∷ []) asked in
      record {
        counts = omega arith;
        among = λ x there. absurd (there (none x));
        goes = λ x e s to way. let no : None ≡ Some (Sent e s to) = sym (none x) ∙ way.0 in absurd (cc);
        epochs = λ x e s is _. let no : None ≡ Some (Active e s) = sym (none x) ∙ is in absurd (cc);
        epochs_off = λ x e s to way _. let no : None ≡ Some (Sent e s to) = sym (none x) ∙ way.0 in absurd (cc);
        room = (
          room_ticks w (p ∷ []) (p ∷ []) (want ∷ []) (want ∷ want ∷ []) asked asked_more,
          room_one (ticked m pair w a) (Deliver at 1) (p ∷ []) (p ∷ []) (want ∷ want ∷ []) (want ∷ want ∷ denial ∷ []) asked_more denied,
          (
            room_ticks u (p ∷ []) (p ∷ []) (want ∷ want ∷ denial ∷ []) (want ∷ want ∷ denial ∷ want ∷ []) denied denied_ticked,
            (room_at (ticked m pair u b) (p ∷ []) (want ∷ want ∷ denial ∷ want ∷ []) denied_ticked, room_one (happens m pair (ticked m pair u b) (Deliver at 2)) (Deliver at 3) [] [] (want ∷ want ∷ denial ∷ want ∷ []) (want ∷ want ∷ denial ∷ want ∷ denial ∷ []) told quiet),
            (
              room_ticks v [] [] (want ∷ want ∷ denial ∷ want ∷ denial ∷ []) (want ∷ want ∷ denial ∷ want ∷ denial ∷ []) quiet quiet_ticked,
              room_one (ticked m pair v d) (Deliver at 4) [] [] (want ∷ want ∷ denial ∷ want ∷ denial ∷ []) (want ∷ want ∷ denial ∷ want ∷ denial ∷ []) quiet_ticked late,
              tt,
            ),
          ),
        );
        room_off = λ x e s to way. let no : None ≡ Some (Sent e s to) = sym (none x) ∙ way.0 in absurd (cc);
      }

  -- and it is served: in the second round
  pub served : ((behind m pair (behind m pair w a) b).members 1).node.parked ≡ []
  served = ap (λ (x : Member). x.node.parked) quiet.one_is
