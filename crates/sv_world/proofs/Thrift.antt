-- Each step spends the request that came, or one that waits.
use Rattle.sv_world.proofs.Prelude.{◌≡◌, ◌≢◌, ℕ, ◌==◌, Bool, true, false, cond, Option, Some, None, List, [], ◌∷◌, ◌++◌, arith, refl, sym, ap, ◌∙◌, inl, inr}
use Rattle.sv_world.proofs.Prelude.{⊎_elim, nat_le, not, ◌||◌, option_to_list, filter, filter_map, flat_map, entries, filter_map-append, cond_both, and_left}
use Rattle.sv_world.proofs.Prelude.{and_right, ne_eqb, Key, Secret, Moment, Token, Request, Session, Parked, KeyState, Active, Sent, Gone, Ended, PARK_LIMIT}
use Rattle.sv_world.proofs.Prelude.{Packet, Want, Grant, Ack, No, Input, Incoming, Move, Cause, TableFull, ParkFull, WantsSpent, Deadline, Refuse, Send, Moved}
use Rattle.sv_world.proofs.Prelude.{Expired, GoneRecord, Meanings, Durable, Node, last_number, epoch_in, known, is_settled, is_unmade, is_dead, lacks_room}
use Rattle.sv_world.proofs.Prelude.{is_crowded, Decision, idle, with_record, answer_of, token_of, refused, no_birth, answered_unless, served, others, wants}
use Rattle.sv_world.proofs.Prelude.{parks, waits, on_ask, first_of, without, serve_first, serve_parked, hands_over, says_no, no_if_unmade, on_want, takes_over}
use Rattle.sv_world.proofs.Prelude.{on_grant, on_ack, is_wanted, is_ours, on_ours, move_refused, on_move, is_late, is_quiet, first_over, expire, deadlines}
use Rattle.sv_world.proofs.Prelude.{wants_again, grant_again, decided, refusal_in, served_of, same_token, times, asked_by, Entry, Cluster, setting_of, tok}
use Rattle.sv_world.proofs.Prelude.{waiting}
use Rattle.std.proofs.Common.{◌⊎◌, ◌+◌, length, map}
use Rattle.sv_model.specs.declared.input.Input.TheVariants.{Ask, Poke, Tick}
use Rattle.sv_world.proofs.Arrivals.{one_if, times_more}

waiting_more : (t : Token) (n boot : ℕ) (ps qs : List Parked) → waiting t n boot (ps ++ qs) ≡ waiting t n boot ps + waiting t n boot qs
waiting_more t n boot [] qs = omega arith
waiting_more t n boot (p ∷ ps) qs = omega (arith, waiting_more t n boot ps qs)

-- the entry that leaves, and the rest
leaving : (t : Token) (n boot : ℕ) (f : Parked → Bool) (q p : Parked) (ps : List Parked) (b : Bool) → cond b (Some q) (first_of f ps) ≡ Some p → (first_of f ps ≡ Some p → cond (same_token t (tok n boot p.token)) 1 0 + waiting t n boot (without f ps) ≡ waiting t n boot ps) → cond (same_token t (tok n boot p.token)) 1 0 + waiting t n boot (cond b ps (q ∷ without f ps)) ≡ waiting t n boot (q ∷ ps)
leaving t n boot f q p ps true e more = let k : q ≡ p = cc in ap (λ (z : Parked). cond (same_token t (tok n boot z.token)) 1 0 + waiting t n boot ps) (sym k)
leaving t n boot f q p ps false e more = let m = more e in omega arith

waiting_without : (t : Token) (n boot : ℕ) (f : Parked → Bool) (ps : List Parked) (p : Parked) → first_of f ps ≡ Some p → cond (same_token t (tok n boot p.token)) 1 0 + waiting t n boot (without f ps) ≡ waiting t n boot ps
waiting_without t n boot f [] p e = absurd (cc)
waiting_without t n boot f (q ∷ ps) p e = leaving t n boot f q p ps (f q) e (waiting_without t n boot f ps p)

-- none waits where none can
pub apart : (t : Token) (n boot number : ℕ) → t.node ≢ n → same_token t (tok n boot number) ≡ false
apart t n boot number ne = and_right (t.number == number) _ (and_left (t.node == n) _ (ne_eqb t.node n ne))

pub waiting_none : (t : Token) (n boot : ℕ) (ps : List Parked) → t.node ≢ n → waiting t n boot ps ≡ 0
waiting_none t n boot [] ne = refl
waiting_none t n boot (p ∷ ps) ne = omega (arith, ap one_if (apart t n boot p.token ne), waiting_none t n boot ps ne)

-- a decision spends an entry or the new token
pub record Thrifty (c : Cluster) (n : ℕ) (node : Node) (new : List Token) (d : Decision) : Type 0 where
  pub count : (t : Token) → times t (served_of (option_to_list d.commit)) + times t (filter_map (refusal_in (token_of (setting_of c n node.durable.boot) node.durable)) d.outputs) + waiting t n node.durable.boot d.parked ≡ waiting t n node.durable.boot node.parked + times t new
  pub boot : d.durable.boot ≡ node.durable.boot

module _ (m : Meanings) (c : Cluster) (n : ℕ) (node : Node) (moment : Moment) where
  quiet_thrifty : (new : List Token) (d : Decision) → d.commit ≡ None → filter_map (refusal_in (token_of (setting_of c n node.durable.boot) node.durable)) d.outputs ≡ [] → d.parked ≡ node.parked → d.durable.boot ≡ node.durable.boot → Thrifty c n node [] d
  quiet_thrifty new d none silent same boot = record { count = λ t. omega (arith, ap (λ o. times t (served_of (option_to_list o))) none, ap (times t) silent, ap (waiting t n node.durable.boot) same); boot = boot }

  either : (new : List Token) (b : Bool) (x y : Decision) → Thrifty c n node new x → Thrifty c n node new y → Thrifty c n node new (cond b x y)
  either new b x y f g = cond_both b x y (λ d. Thrifty c n node new d) (λ t. f) (λ t. g)

  nothing_thrifty : Thrifty c n node [] (idle node [])
  nothing_thrifty = quiet_thrifty [] (idle node []) refl refl refl refl

  unless_thrifty : (new : List Token) (cause : Option Cause) (number : ℕ) (r : Request) (rest : List Parked) → ((t : Token) → cond (same_token t (tok n node.durable.boot number)) 1 0 + waiting t n node.durable.boot rest ≡ waiting t n node.durable.boot node.parked + times t new)
      → Thrifty c n node new (answered_unless cause (m n node.durable.boot) (setting_of c n node.durable.boot) node moment number r (answer_of (m n node.durable.boot) (setting_of c n node.durable.boot) node.durable moment r) rest)
  unless_thrifty new None number r rest h = record { count = λ t. omega (arith, h t); boot = refl }
  unless_thrifty new (Some cause) number r rest h = record { count = λ t. omega (arith, h t); boot = refl }

  serve_thrifty : (new : List Token) (number : ℕ) (r : Request) (rest : List Parked) → ((t : Token) → cond (same_token t (tok n node.durable.boot number)) 1 0 + waiting t n node.durable.boot rest ≡ waiting t n node.durable.boot node.parked + times t new)
      → Thrifty c n node new (served (m n node.durable.boot) (setting_of c n node.durable.boot) node moment number r rest)
  serve_thrifty new number r rest h = unless_thrifty new (no_birth (setting_of c n node.durable.boot) node.durable (answer_of (m n node.durable.boot) (setting_of c n node.durable.boot) node.durable moment r).birth) number r rest h

  asked_thrifty : (number : ℕ) (r : Request) → Thrifty c n node (tok n node.durable.boot number ∷ []) (served (m n node.durable.boot) (setting_of c n node.durable.boot) node moment number r node.parked)
  asked_thrifty number r = serve_thrifty (tok n node.durable.boot number ∷ []) number r node.parked (λ t. omega arith)

  -- nobody is refused by wants
  wants_by : (tokens : ℕ → Token) (k : Key) (boot want : ℕ) (to : List ℕ) → filter_map (refusal_in tokens) (map (λ p. Send (Want n p k boot want)) to) ≡ []
  wants_by tokens k boot want [] = refl
  wants_by tokens k boot want (p ∷ to) = wants_by tokens k boot want to

  again_by : (tokens : ℕ → Token) (d : Durable) (ps : List Parked) → filter_map (refusal_in tokens) (flat_map (λ p. wants (setting_of c n node.durable.boot) d p.key p.want) ps) ≡ []
  again_by tokens d [] = refl
  again_by tokens d (p ∷ ps) = filter_map-append (refusal_in tokens) (wants (setting_of c n node.durable.boot) d p.key p.want) (flat_map (λ q. wants (setting_of c n node.durable.boot) d q.key q.want) ps) ∙ ap (λ l. l ++ filter_map (refusal_in tokens) (flat_map (λ q. wants (setting_of c n node.durable.boot) d q.key q.want) ps)) (wants_by tokens p.key d.boot p.want (others (setting_of c n node.durable.boot))) ∙ again_by tokens d ps

  grants_by : (tokens : ℕ → Token) (es : List Entry) → filter_map (refusal_in tokens) (filter_map (grant_again (setting_of c n node.durable.boot)) es) ≡ []
  grants_by tokens [] = refl
  grants_by tokens ((k, Active e s) ∷ es) = grants_by tokens es
  grants_by tokens ((k, Sent e s to) ∷ es) = grants_by tokens es
  grants_by tokens ((k, Gone e) ∷ es) = grants_by tokens es
  grants_by tokens ((k, Ended e) ∷ es) = grants_by tokens es

  refuse_thrifty : (number : ℕ) (cause : Cause) → Thrifty c n node (tok n node.durable.boot number ∷ []) (refused node number cause node.parked)
  refuse_thrifty number cause = record { count = λ t. omega arith; boot = refl }

  parks_thrifty : (number : ℕ) (r : Request) (k : Key) → Thrifty c n node (tok n node.durable.boot number ∷ []) (parks (setting_of c n node.durable.boot) node moment number r k)
  parks_thrifty number r k = record {
    count = λ t. omega (arith, ap (times t) (wants_by (token_of (setting_of c n node.durable.boot) node.durable) k node.durable.boot node.next_want (others (setting_of c n node.durable.boot))), waiting_more t n node.durable.boot node.parked (record { token = number; request = r; key = k; since = moment.steady; want = node.next_want } ∷ []));
    boot = refl;
  }

  ask_thrifty : (number : ℕ) (r : Request) (named : Option (Key × Secret)) → Thrifty c n node (tok n node.durable.boot number ∷ []) (on_ask (m n node.durable.boot) (setting_of c n node.durable.boot) node moment number r named)
  ask_thrifty number r None = asked_thrifty number r
  ask_thrifty number r (Some named) =
      let new = tok n node.durable.boot number ∷ [] in
      either new (is_settled (known node.durable named.0) || is_dead (setting_of c n node.durable.boot) node.durable named.0) (served (m n node.durable.boot) (setting_of c n node.durable.boot) node moment number r node.parked) (waits (setting_of c n node.durable.boot) node moment number r named.0) (asked_thrifty number r)
      (either new (is_crowded (setting_of c n node.durable.boot) node.durable named.0) (refused node number TableFull node.parked) _ (refuse_thrifty number TableFull)
      (either new (nat_le PARK_LIMIT (length node.parked)) (refused node number ParkFull node.parked) (cond (node.next_want == last_number) (refused node number WantsSpent node.parked) (parks (setting_of c n node.durable.boot) node moment number r named.0)) (refuse_thrifty number ParkFull)
      (either new (node.next_want == last_number) (refused node number WantsSpent node.parked) (parks (setting_of c n node.durable.boot) node moment number r named.0) (refuse_thrifty number WantsSpent) (parks_thrifty number r named.0))))

  parked_thrifty : (test : Parked → Bool) (found : Option Parked) → first_of test node.parked ≡ found → Thrifty c n node [] (serve_first (m n node.durable.boot) (setting_of c n node.durable.boot) node moment found (without test node.parked))
  parked_thrifty test None is = nothing_thrifty
  parked_thrifty test (Some p) is = serve_thrifty [] p.token p.request (without test node.parked) (λ t. omega (arith, waiting_without t n node.durable.boot test node.parked p is))

  unmade_thrifty : (from : ℕ) (k : Key) (boot want : ℕ) → Thrifty c n node [] (no_if_unmade (setting_of c n node.durable.boot) node from k boot want)
  unmade_thrifty from k boot want = either [] (is_unmade (setting_of c n node.durable.boot) node.durable k) (says_no (setting_of c n node.durable.boot) node from k boot want) (idle node []) (quiet_thrifty [] (says_no (setting_of c n node.durable.boot) node from k boot want) refl refl refl refl) nothing_thrifty

  want_thrifty : (from : ℕ) (k : Key) (boot want : ℕ) (st : Option KeyState) → Thrifty c n node [] (on_want (setting_of c n node.durable.boot) node from k boot want st)
  want_thrifty from k boot want None = unmade_thrifty from k boot want
  want_thrifty from k boot want (Some (Active e s)) = either [] (e == last_number) (idle node []) (hands_over (setting_of c n node.durable.boot) node k e s from []) nothing_thrifty (quiet_thrifty [] (hands_over (setting_of c n node.durable.boot) node k e s from []) refl refl refl refl)
  want_thrifty from k boot want (Some (Sent e s to)) = either [] (to == from) (idle node (Send (Grant n from k e s) ∷ [])) (no_if_unmade (setting_of c n node.durable.boot) node from k boot want) (quiet_thrifty [] (idle node (Send (Grant n from k e s) ∷ [])) refl refl refl refl) (unmade_thrifty from k boot want)
  want_thrifty from k boot want (Some (Gone e)) = unmade_thrifty from k boot want
  want_thrifty from k boot want (Some (Ended e)) = quiet_thrifty [] (says_no (setting_of c n node.durable.boot) node from k boot want) refl refl refl refl

  grant_thrifty : (from : ℕ) (k : Key) (e : ℕ) (s : Session) (st : Option KeyState) → Thrifty c n node [] (on_grant (setting_of c n node.durable.boot) node from k e s st)
  grant_thrifty from k e s st = either [] (is_unmade (setting_of c n node.durable.boot) node.durable k) (idle node []) _ nothing_thrifty
      (either [] (nat_le e (epoch_in st)) (idle node (Send (Ack n from k e) ∷ [])) _ (quiet_thrifty [] (idle node (Send (Ack n from k e) ∷ [])) refl refl refl refl)
      (either [] (lacks_room (setting_of c n node.durable.boot) node.durable k) (idle node []) (takes_over (setting_of c n node.durable.boot) node from k e s) nothing_thrifty (quiet_thrifty [] (takes_over (setting_of c n node.durable.boot) node from k e s) refl refl refl refl)))

  ack_thrifty : (k : Key) (e : ℕ) (st : Option KeyState) → Thrifty c n node [] (on_ack node k e st)
  ack_thrifty k e None = nothing_thrifty
  ack_thrifty k e (Some (Active f s)) = nothing_thrifty
  ack_thrifty k e (Some (Sent f s to)) = either [] (f == e) (with_record node (GoneRecord k e) k (Gone e) None []) (idle node []) (quiet_thrifty [] (with_record node (GoneRecord k e) k (Gone e) None []) refl refl refl refl) nothing_thrifty
  ack_thrifty k e (Some (Gone f)) = nothing_thrifty
  ack_thrifty k e (Some (Ended f)) = nothing_thrifty

  move_thrifty : (k : Key) (to : ℕ) (st : Option KeyState) → Thrifty c n node [] (on_move (setting_of c n node.durable.boot) node k to st)
  move_thrifty k to None = quiet_thrifty [] (move_refused node _) refl refl refl refl
  move_thrifty k to (Some (Active e s)) = either [] ((to == n) || nat_le (c.nodes n node.durable.boot) to) (move_refused node _) _ (quiet_thrifty [] (move_refused node _) refl refl refl refl)
      (either [] (e == last_number) (move_refused node _) (hands_over (setting_of c n node.durable.boot) node k e s to (Moved ∷ [])) (quiet_thrifty [] (move_refused node _) refl refl refl refl) (quiet_thrifty [] (hands_over (setting_of c n node.durable.boot) node k e s to (Moved ∷ [])) refl refl refl refl))
  move_thrifty k to (Some (Sent e s there)) = quiet_thrifty [] (move_refused node _) refl refl refl refl
  move_thrifty k to (Some (Gone e)) = quiet_thrifty [] (move_refused node _) refl refl refl refl
  move_thrifty k to (Some (Ended e)) = quiet_thrifty [] (move_refused node _) refl refl refl refl

  ours_thrifty : (p : Packet) → Thrifty c n node [] (on_ours (m n node.durable.boot) (setting_of c n node.durable.boot) node moment p)
  ours_thrifty (Want from to k boot want) = want_thrifty from k boot want (known node.durable k)
  ours_thrifty (Grant from to k e s) = grant_thrifty from k e s (known node.durable k)
  ours_thrifty (Ack from to k e) = ack_thrifty k e (known node.durable k)
  ours_thrifty (No from to k boot want) = either [] (boot == node.durable.boot) (serve_parked (m n node.durable.boot) (setting_of c n node.durable.boot) node moment (is_wanted k want)) (idle node []) (parked_thrifty (is_wanted k want) (first_of (is_wanted k want) node.parked) refl) nothing_thrifty

  -- ---- a tick: what waits is kept or refused

  late_by : (t : Token) (late : Parked → Bool) (ps : List Parked)
      → times t (filter_map (refusal_in (token_of (setting_of c n node.durable.boot) node.durable)) (map (λ p. Refuse p.token Deadline) (filter late ps))) + waiting t n node.durable.boot (filter (λ p. not (late p)) ps) ≡ waiting t n node.durable.boot ps
  late_by t late [] = omega arith
  late_by t late (p ∷ ps) = split (late p) (late_by t late ps)
    where
      split : (b : Bool) → times t (filter_map (refusal_in (token_of (setting_of c n node.durable.boot) node.durable)) (map (λ q. Refuse q.token Deadline) (filter late ps))) + waiting t n node.durable.boot (filter (λ q. not (late q)) ps) ≡ waiting t n node.durable.boot ps
          → times t (filter_map (refusal_in (token_of (setting_of c n node.durable.boot) node.durable)) (map (λ q. Refuse q.token Deadline) (cond b (p ∷ filter late ps) (filter late ps)))) + waiting t n node.durable.boot (cond (not b) (p ∷ filter (λ q. not (late q)) ps) (filter (λ q. not (late q)) ps)) ≡ waiting t n node.durable.boot (p ∷ ps)
      split true h = omega (arith, h)
      split false h = omega (arith, h)

  tick_outs : (t : Token) (d : Durable) (rest : List Parked) → times t (filter_map (refusal_in (token_of (setting_of c n node.durable.boot) node.durable)) (deadlines (setting_of c n node.durable.boot) moment.steady node.parked ++ wants_again (setting_of c n node.durable.boot) node.durable rest ++ filter_map (grant_again (setting_of c n node.durable.boot)) (entries d.keys)))
      ≡ times t (filter_map (refusal_in (token_of (setting_of c n node.durable.boot) node.durable)) (deadlines (setting_of c n node.durable.boot) moment.steady node.parked))
  tick_outs t d rest =
      let f = refusal_in (token_of (setting_of c n node.durable.boot) node.durable) in
      let one = deadlines (setting_of c n node.durable.boot) moment.steady node.parked in
      let two = wants_again (setting_of c n node.durable.boot) node.durable rest in
      let three = filter_map (grant_again (setting_of c n node.durable.boot)) (entries d.keys) in
      omega (
        arith,
        ap (times t) (filter_map-append f (one ++ two) three),
        times_more t (filter_map f (one ++ two)) (filter_map f three),
        ap (times t) (filter_map-append f one two),
        times_more t (filter_map f one) (filter_map f two),
        ap (times t) (again_by (token_of (setting_of c n node.durable.boot) node.durable) node.durable (filter (λ p. not (is_quiet (setting_of c n node.durable.boot) node.durable p)) rest)),
        ap (times t) (grants_by (token_of (setting_of c n node.durable.boot) node.durable) (entries d.keys)),
      )

  tick_by : (d : Decision) → d.commit ≡ None ⊎ ((k : Key) × (now : ℕ) × (d.commit ≡ Some (Expired k now))) → d.durable.boot ≡ node.durable.boot →
      let rest = filter (λ p. not (is_late (setting_of c n node.durable.boot) moment.steady p)) node.parked in
      Thrifty c n node [] (record d { outputs = deadlines (setting_of c n node.durable.boot) moment.steady node.parked ++ wants_again (setting_of c n node.durable.boot) node.durable rest ++ filter_map (grant_again (setting_of c n node.durable.boot)) (entries d.durable.keys); parked = rest })
  tick_by d commit boot = record {
    count = λ t.
        let none : times t (served_of (option_to_list d.commit)) ≡ 0 = ⊎_elim (λ (h : d.commit ≡ None). ap (λ o. times t (served_of (option_to_list o))) h) (λ (h : (k : Key) × (now : ℕ) × (d.commit ≡ Some (Expired k now))). ap (λ o. times t (served_of (option_to_list o))) h.2) commit in
        omega (arith, none, tick_outs t d.durable (filter (λ p. not (is_late (setting_of c n node.durable.boot) moment.steady p)) node.parked), late_by t (is_late (setting_of c n node.durable.boot) moment.steady) node.parked);
    boot = boot;
  }

  tick_thrifty : (found : Option Entry) →
      let d = expire node moment.now found [] in
      let rest = filter (λ p. not (is_late (setting_of c n node.durable.boot) moment.steady p)) node.parked in
      Thrifty c n node [] (record d { outputs = deadlines (setting_of c n node.durable.boot) moment.steady node.parked ++ wants_again (setting_of c n node.durable.boot) node.durable rest ++ filter_map (grant_again (setting_of c n node.durable.boot)) (entries d.durable.keys); parked = rest })
  tick_thrifty None = tick_by (idle node []) (inl refl) refl
  tick_thrifty (Some (k, Active e s)) = tick_by (expire node moment.now (Some (k, Active e s)) []) (inr (k, moment.now, refl)) refl
  tick_thrifty (Some (k, Sent e s to)) = tick_by (idle node []) (inl refl) refl
  tick_thrifty (Some (k, Gone e)) = tick_by (idle node []) (inl refl) refl
  tick_thrifty (Some (k, Ended e)) = tick_by (idle node []) (inl refl) refl

  pub decide_thrifty : (i : Input) → Thrifty c n node (option_to_list (asked_by (token_of (setting_of c n node.durable.boot) node.durable) i)) (decided (m n node.durable.boot) (setting_of c n node.durable.boot) node moment i)
  decide_thrifty (Ask number r) = ask_thrifty number r ((m n node.durable.boot).names r)
  decide_thrifty (Incoming p) = either [] (is_ours (setting_of c n node.durable.boot) p) (on_ours (m n node.durable.boot) (setting_of c n node.durable.boot) node moment p) (idle node []) (ours_thrifty p) nothing_thrifty
  decide_thrifty Poke = parked_thrifty (λ p. is_settled (known node.durable p.key)) (first_of (λ p. is_settled (known node.durable p.key)) node.parked) refl
  decide_thrifty Tick = tick_thrifty (first_over moment.now (entries node.durable.keys))
  decide_thrifty (Move k to) = move_thrifty k to (known node.durable k)
