-- What a step makes of the requests that wait at its node, and what it puts out where a session comes or goes.
use Rattle.sv_world.proofs.Prelude.{◌≡◌, ℕ, ◌<◌, ◌≤◌, ◌==◌, Bool, true, false, cond, Option, Some, None, List, [], ◌∷◌, ◌++◌, arith, refl, sym, subst, inl, inr}
use Rattle.sv_world.proofs.Prelude.{⊎_elim, not, nat_le, nat_lt, ◌||◌, filter, filter_map, entries, cond_both, and_parts, eqb-true, leb-false, Key, Secret}
use Rattle.sv_world.proofs.Prelude.{Moment, Request, Session, Setting, Parked, KeyState, Active, Sent, Gone, Ended, PARK_LIMIT, Packet, Want, Grant, Ack, No}
use Rattle.sv_world.proofs.Prelude.{Input, Incoming, Move, Cause, TableFull, ParkFull, WantsSpent, Output, Send, Moved, SentRecord, Taken, GoneRecord}
use Rattle.sv_world.proofs.Prelude.{EngineMeaning, Durable, Node, last_number, epoch_in, known, is_settled, is_unmade, is_dead, lacks_room, is_crowded}
use Rattle.sv_world.proofs.Prelude.{Decision, idle, with_record, answer_of, refused, no_birth, answered_unless, served, parks, waits, on_ask, first_of, without}
use Rattle.sv_world.proofs.Prelude.{serve_first, serve_parked, hands_over, says_no, no_if_unmade, on_want, takes_over, on_grant, on_ack, is_wanted, addressee}
use Rattle.sv_world.proofs.Prelude.{sender, is_ours, on_ours, on_packet, move_refused, on_move, is_late, first_over, expire, deadlines, wants_again}
use Rattle.sv_world.proofs.Prelude.{grant_again, decided, In, sends_in, Entry}
use Rattle.std.proofs.Common.{◌⊎◌, ◌+◌, ◌&&◌, length}
use Rattle.sv_model.specs.declared.input.Input.TheVariants.{Ask, Poke, Tick}
use Rattle.sv_world.proofs.Events.{IsSentIn}
use Rattle.sv_world.proofs.Keys.{in_last}
use Rattle.sv_world.proofs.Waiting.{in_without, in_filter}

-- the wants of those that wait rise along the list, from one number on, and are below the next
abbrev pub AreWants : ℕ → List Parked → ℕ → Type 0
AreWants low [] next = low ≤ next
AreWants low (p ∷ ps) next = (low ≤ p.want) × AreWants (p.want + 1) ps next

lower : (a b : ℕ) (ps : List Parked) (next : ℕ) → a ≤ b → AreWants b ps next → AreWants a ps next
lower a b [] next le h = omega (arith, le, h)
lower a b (p ∷ ps) next le h = (omega (arith, le, h.0), h.1)

without_rises : (f : Parked → Bool) (low : ℕ) (ps : List Parked) (next : ℕ) → AreWants low ps next → AreWants low (without f ps) next
without_rises f low [] next h = h
without_rises f low (p ∷ ps) next h = cond_both (f p) ps (p ∷ without f ps) (λ xs. AreWants low xs next)
    (λ _. lower low (p.want + 1) ps next (omega (arith, h.0)) h.1)
    (λ _. (h.0, without_rises f (p.want + 1) ps next h.1))

filter_rises : (f : Parked → Bool) (low : ℕ) (ps : List Parked) (next : ℕ) → AreWants low ps next → AreWants low (filter f ps) next
filter_rises f low [] next h = h
filter_rises f low (p ∷ ps) next h = cond_both (f p) (p ∷ filter f ps) (filter f ps) (λ xs. AreWants low xs next)
    (λ _. (h.0, filter_rises f (p.want + 1) ps next h.1))
    (λ _. lower low (p.want + 1) (filter f ps) next (omega (arith, h.0)) (filter_rises f (p.want + 1) ps next h.1))

more_rises : (low : ℕ) (ps : List Parked) (q : Parked) (next : ℕ) → q.want ≡ next → AreWants low ps next → AreWants low (ps ++ q ∷ []) (next + 1)
more_rises low [] q next is h = (omega (arith, is, h), omega (arith, is))
more_rises low (p ∷ ps) q next is h = (h.0, more_rises (p.want + 1) ps q next is h.1)

-- its key is that of another node which this one was told of, or one that this one has given
pub record IsAsked (set : Setting) (d : Durable) (p : Parked) : Type 0 where
  pub home : p.key.home < set.nodes
  pub made : is_unmade set d p.key ≡ false

-- a step that hands a session over puts out its Grant
pub record Gives (set : Setting) (d : Decision) : Type 0 where
  pub key : Key
  pub epoch : ℕ
  pub to : ℕ
  pub session : Session
  pub entry : d.entry ≡ Some (SentRecord key epoch to session)
  pub grant : In (Grant set.node to key epoch session) (sends_in d.outputs)

-- a step that takes one over was brought its Grant
pub record Takes (ps : List Packet) (set : Setting) (d : Decision) : Type 0 where
  pub key : Key
  pub epoch : ℕ
  pub from : ℕ
  pub session : Session
  pub entry : d.entry ≡ Some (Taken key epoch from session)
  pub grant : In (Grant from set.node key epoch session) ps

pub record Queues (ps : List Packet) (set : Setting) (node : Node) (d : Decision) : Type 0 where
  pub says : (d.mark ≡ None) ⊎ (Gives set d ⊎ Takes ps set d)
  pub origins : (p : Parked) → In p d.parked → In p node.parked ⊎ ((p.want ≡ node.next_want) × IsAsked set node.durable p)
  pub rising : AreWants 0 node.parked node.next_want → AreWants 0 d.parked d.next_want
  pub up : node.next_want ≤ d.next_want

or_false : (a b : Bool) → (a || b) ≡ false → (a ≡ false) × (b ≡ false)
or_false true b e = absurd (let no : true ≡ false = e in cc)
or_false false b e = (refl, e)

module _ (m : EngineMeaning) (set : Setting) (node : Node) (moment : Moment) (ps : List Packet) where
  still : (d : Decision) → (d.mark ≡ None) ⊎ (Gives set d ⊎ Takes ps set d) → d.parked ≡ node.parked → d.next_want ≡ node.next_want → Queues ps set node d
  still d says same want = record {
    says = says;
    origins = λ p i. inl (subst (In p) same i);
    rising = λ h. subst (λ xs. AreWants 0 xs d.next_want) (sym same) (subst (AreWants 0 node.parked) (sym want) h);
    up = omega (arith, want);
  }

  either : (b : Bool) (x y : Decision) → (b ≡ true → Queues ps set node x) → (b ≡ false → Queues ps set node y) → Queues ps set node (cond b x y)
  either b x y f g = cond_both b x y (λ d. Queues ps set node d) f g

  idle_queues : (outs : List Output) → Queues ps set node (idle node outs)
  idle_queues outs = still (idle node outs) (inl refl) refl refl

  unless_queues : (cause : Option Cause) (number : ℕ) (r : Request) (rest : List Parked) → ((p : Parked) → In p rest → In p node.parked) → (AreWants 0 node.parked node.next_want → AreWants 0 rest node.next_want)
      → Queues ps set node (answered_unless cause m set node moment number r (answer_of m set node.durable moment r) rest)
  unless_queues None number r rest old rises = record { says = inl refl; origins = λ p i. inl (old p i); rising = rises; up = omega arith }
  unless_queues (Some cause) number r rest old rises = record { says = inl refl; origins = λ p i. inl (old p i); rising = rises; up = omega arith }

  serve_queues : (number : ℕ) (r : Request) (rest : List Parked) → ((p : Parked) → In p rest → In p node.parked) → (AreWants 0 node.parked node.next_want → AreWants 0 rest node.next_want)
      → Queues ps set node (served m set node moment number r rest)
  serve_queues number r rest old rises = unless_queues (no_birth set node.durable (answer_of m set node.durable moment r).birth) number r rest old rises

  asked_queues : (number : ℕ) (r : Request) → Queues ps set node (served m set node moment number r node.parked)
  asked_queues number r = serve_queues number r node.parked (λ p i. i) (λ h. h)

  refuse_queues : (number : ℕ) (cause : Cause) → Queues ps set node (refused node number cause node.parked)
  refuse_queues number cause = still (refused node number cause node.parked) (inl refl) refl refl

  parks_queues : (number : ℕ) (r : Request) (k : Key) → is_dead set node.durable k ≡ false → Queues ps set node (parks set node moment number r k)
  parks_queues number r k live =
      let t = or_false (nat_le set.nodes k.home) (is_unmade set node.durable k) live in
      let new : Parked = record { token = number; request = r; key = k; since = moment.steady; want = node.next_want } in
      let asked : IsAsked set node.durable new = record { home = leb-false set.nodes k.home t.0; made = t.1 } in
      record {
        says = inl refl;
        origins = λ p i. ⊎_elim (λ (o : In p node.parked). inl o) (λ (e : new ≡ p). inr (subst (λ (q : Parked). (q.want ≡ node.next_want) × IsAsked set node.durable q) e (refl, asked))) (in_last p node.parked new i);
        rising = λ h. more_rises 0 node.parked new node.next_want refl h;
        up = omega arith;
      }

  waits_queues : (number : ℕ) (r : Request) (k : Key) → is_dead set node.durable k ≡ false → Queues ps set node (waits set node moment number r k)
  waits_queues number r k live =
      either (is_crowded set node.durable k) (refused node number TableFull node.parked) _ (λ _. refuse_queues number TableFull)
      (λ _. either (nat_le PARK_LIMIT (length node.parked)) (refused node number ParkFull node.parked) (cond (node.next_want == last_number) (refused node number WantsSpent node.parked) (parks set node moment number r k)) (λ _. refuse_queues number ParkFull)
      (λ _. either (node.next_want == last_number) (refused node number WantsSpent node.parked) (parks set node moment number r k) (λ _. refuse_queues number WantsSpent) (λ _. parks_queues number r k live)))

  ask_queues : (number : ℕ) (r : Request) (named : Option (Key × Secret)) → Queues ps set node (on_ask m set node moment number r named)
  ask_queues number r None = asked_queues number r
  ask_queues number r (Some named) =
      either (is_settled (known node.durable named.0) || is_dead set node.durable named.0) (served m set node moment number r node.parked) (waits set node moment number r named.0)
      (λ _. asked_queues number r)
      (λ f. waits_queues number r named.0 (or_false (is_settled (known node.durable named.0)) (is_dead set node.durable named.0) f).1)

  parked_queues : (test : Parked → Bool) (found : Option Parked) → Queues ps set node (serve_first m set node moment found (without test node.parked))
  parked_queues test None = idle_queues []
  parked_queues test (Some p) = serve_queues p.token p.request (without test node.parked) (in_without test node.parked) (without_rises test 0 node.parked node.next_want)

  gives_queues : (k : Key) (e : ℕ) (s : Session) (to : ℕ) (more : List Output) → Queues ps set node (hands_over set node k e s to more)
  gives_queues k e s to more = still (hands_over set node k e s to more) (inr (inl (record { key = k; epoch = e + 1; to = to; session = s; entry = refl; grant = inl refl }))) refl refl

  unmade_queues : (from : ℕ) (k : Key) (boot want : ℕ) → Queues ps set node (no_if_unmade set node from k boot want)
  unmade_queues from k boot want = either (is_unmade set node.durable k) (says_no set node from k boot want) (idle node []) (λ _. still (says_no set node from k boot want) (inl refl) refl refl) (λ _. idle_queues [])

  want_queues : (from : ℕ) (k : Key) (boot want : ℕ) (st : Option KeyState) → Queues ps set node (on_want set node from k boot want st)
  want_queues from k boot want None = unmade_queues from k boot want
  want_queues from k boot want (Some (Active e s)) = either (e == last_number) (idle node []) (hands_over set node k e s from []) (λ _. idle_queues []) (λ _. gives_queues k e s from [])
  want_queues from k boot want (Some (Sent e s to)) = either (to == from) (idle node (Send (Grant set.node from k e s) ∷ [])) (no_if_unmade set node from k boot want) (λ _. idle_queues (Send (Grant set.node from k e s) ∷ [])) (λ _. unmade_queues from k boot want)
  want_queues from k boot want (Some (Gone e)) = unmade_queues from k boot want
  want_queues from k boot want (Some (Ended e)) = still (says_no set node from k boot want) (inl refl) refl refl

  grant_queues : (from : ℕ) (k : Key) (e : ℕ) (s : Session) (st : Option KeyState) → In (Grant from set.node k e s) ps → Queues ps set node (on_grant set node from k e s st)
  grant_queues from k e s st i = either (is_unmade set node.durable k) (idle node []) _ (λ _. idle_queues [])
      (λ _. either (nat_le e (epoch_in st)) (idle node (Send (Ack set.node from k e) ∷ [])) _ (λ _. idle_queues (Send (Ack set.node from k e) ∷ []))
      (λ _. either (lacks_room set node.durable k) (idle node []) (takes_over set node from k e s) (λ _. idle_queues [])
      (λ _. still (takes_over set node from k e s) (inr (inr (record { key = k; epoch = e; from = from; session = s; entry = refl; grant = i }))) refl refl)))

  ack_queues : (k : Key) (e : ℕ) (st : Option KeyState) → Queues ps set node (on_ack node k e st)
  ack_queues k e None = idle_queues []
  ack_queues k e (Some (Active f s)) = idle_queues []
  ack_queues k e (Some (Sent f s to)) = either (f == e) (with_record node (GoneRecord k e) k (Gone e) None []) (idle node []) (λ _. still (with_record node (GoneRecord k e) k (Gone e) None []) (inl refl) refl refl) (λ _. idle_queues [])
  ack_queues k e (Some (Gone f)) = idle_queues []
  ack_queues k e (Some (Ended f)) = idle_queues []

  move_queues : (k : Key) (to : ℕ) (st : Option KeyState) → Queues ps set node (on_move set node k to st)
  move_queues k to None = still (on_move set node k to None) (inl refl) refl refl
  move_queues k to (Some (Active e s)) = either ((to == set.node) || nat_le set.nodes to) (move_refused node _) _ (λ _. still (move_refused node _) (inl refl) refl refl)
      (λ _. either (e == last_number) (move_refused node _) (hands_over set node k e s to (Moved ∷ [])) (λ _. still (move_refused node _) (inl refl) refl refl) (λ _. gives_queues k e s to (Moved ∷ [])))
  move_queues k to (Some (Sent e s there)) = still (on_move set node k to (Some (Sent e s there))) (inl refl) refl refl
  move_queues k to (Some (Gone e)) = still (on_move set node k to (Some (Gone e))) (inl refl) refl refl
  move_queues k to (Some (Ended e)) = still (on_move set node k to (Some (Ended e))) (inl refl) refl refl

  ours_queues : (p : Packet) → addressee p ≡ set.node → In p ps → Queues ps set node (on_ours m set node moment p)
  ours_queues (Want from to k boot want) me i = want_queues from k boot want (known node.durable k)
  ours_queues (Grant from to k e s) me i = grant_queues from k e s (known node.durable k) (subst (λ z. In (Grant from z k e s) ps) me i)
  ours_queues (Ack from to k e) me i = ack_queues k e (known node.durable k)
  ours_queues (No from to k boot want) me i = either (boot == node.durable.boot) (serve_parked m set node moment (is_wanted k want)) (idle node []) (λ _. parked_queues (is_wanted k want) (first_of (is_wanted k want) node.parked)) (λ _. idle_queues [])

  packet_queues : (p : Packet) → In p ps → Queues ps set node (on_packet m set node moment p)
  packet_queues p i = either (is_ours set p) (on_ours m set node moment p) (idle node [])
      (λ t. ours_queues p (eqb-true (addressee p) set.node (and_parts (addressee p == set.node) (not (sender p == set.node) && nat_lt (sender p) set.nodes) t).0) i)
      (λ _. idle_queues [])

  tick_by : (d : Decision) → d.mark ≡ None → d.next_want ≡ node.next_want →
      let rest = filter (λ p. not (is_late set moment.steady p)) node.parked in
      Queues ps set node (record d { outputs = deadlines set moment.steady node.parked ++ wants_again set node.durable rest ++ filter_map (grant_again set) (entries d.durable.keys); parked = rest })
  tick_by d mark want = record {
    says = inl mark;
    origins = λ p i. inl (in_filter (λ q. not (is_late set moment.steady q)) node.parked p i);
    rising = λ h. filter_rises (λ q. not (is_late set moment.steady q)) 0 node.parked d.next_want (subst (AreWants 0 node.parked) (sym want) h);
    up = omega (arith, want);
  }

  tick_queues : (found : Option Entry) →
      let d = expire node moment.now found [] in
      let rest = filter (λ p. not (is_late set moment.steady p)) node.parked in
      Queues ps set node (record d { outputs = deadlines set moment.steady node.parked ++ wants_again set node.durable rest ++ filter_map (grant_again set) (entries d.durable.keys); parked = rest })
  tick_queues None = tick_by (expire node moment.now None []) refl refl
  tick_queues (Some (k, Active e s)) = tick_by (expire node moment.now (Some (k, Active e s)) []) refl refl
  tick_queues (Some (k, Sent e s to)) = tick_by (expire node moment.now (Some (k, Sent e s to)) []) refl refl
  tick_queues (Some (k, Gone e)) = tick_by (expire node moment.now (Some (k, Gone e)) []) refl refl
  tick_queues (Some (k, Ended e)) = tick_by (expire node moment.now (Some (k, Ended e)) []) refl refl

  pub decide_queues : (i : Input) → IsSentIn ps i → Queues ps set node (decided m set node moment i)
  decide_queues (Ask number r) h = ask_queues number r (m.names r)
  decide_queues (Incoming p) h = packet_queues p h
  decide_queues Poke h = parked_queues (λ p. is_settled (known node.durable p.key)) (first_of (λ p. is_settled (known node.durable p.key)) node.parked)
  decide_queues Tick h = tick_queues (first_over moment.now (entries node.durable.keys))
  decide_queues (Move k to) h = move_queues k to (known node.durable k)
