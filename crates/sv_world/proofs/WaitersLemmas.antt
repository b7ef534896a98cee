-- What becomes of a request that waits, step by step: it asks again, it is given the session or told that there is none, and is served.
use Rattle.sv_world.proofs.Prelude.{◌≡◌, ◌≢◌, ℕ, ◌<◌, ◌==◌, Bool, true, false, Option, Some, None, List, [], ◌∷◌, ◌++◌, arith, refl, sym, ap, ◌∙◌, subst, inl}
use Rattle.sv_world.proofs.Prelude.{inr, ⊎_elim, not, slice_get, filter, filter_map, flat_map, entries, cond_both, cond-true, cond-false, ne_eqb, true≢false}
use Rattle.sv_world.proofs.Prelude.{cases_eq, Key, Moment, Session, Setting, Parked, KeyState, Active, Sent, Ended, Want, Grant, No, Send, Cause, Request}
use Rattle.sv_world.proofs.Prelude.{EngineMeaning, Meanings, Node, last_number, known, is_settled, is_unmade, Decision, idle, left, answer_of, no_birth}
use Rattle.sv_world.proofs.Prelude.{answered_unless, In, is_ours, on_ours, on_packet, on_want, hands_over, says_no, packet_in, sends_in, is_late, is_quiet}
use Rattle.sv_world.proofs.Prelude.{first_over, expire, deadlines, wants_again, grant_again, on_tick, numbers, others, wants, first_of, without, serve_first}
use Rattle.sv_world.proofs.Prelude.{serve_parked, known_insert, Deliver, Poke, Tick, Call, states, Cluster, Member, World, durable_at, decision, happens}
use Rattle.sv_world.proofs.Prelude.{setting_at, nodes_told, Runs, IsOff, TicksAsk, WantsAreAnswered, PokesServe}
use Rattle.std.proofs.Common.{zero, suc, ◌+◌, map, length}
use Rattle.sv_model.specs.declared.input.Input.TheVariants as input
use Rattle.sv_world.proofs.ArrivesLemmas.{ours}
use Rattle.sv_world.proofs.Keys.{in_left, in_right, set_here}
use Rattle.sv_world.proofs.ProgressLemmas.{ready_by, stepped_by}
use Rattle.sv_world.proofs.RunningLemmas.{HasPlace, place_behind, place_in, in_mapped, delivery}
use Rattle.sv_world.proofs.Waiting.{by_node}

-- ---- what stands in lists

in_both : {A B : Type 0} (f : A → B) (xs : List A) (x : A) → In x xs → In (f x) (map f xs)
in_both f [] x i = absurd i
in_both f (z ∷ xs) x i = ⊎_elim (λ (e : z ≡ x). inl (ap f e)) (λ (t : In x xs). inr (in_both f xs x t)) i

in_flat : {A B : Type 0} (f : A → List B) (xs : List A) (x : A) (y : B) → In x xs → In y (f x) → In y (flat_map f xs)
in_flat f [] x y i j = absurd i
in_flat f (z ∷ xs) x y i j = ⊎_elim (λ (e : z ≡ x). in_left y (f z) (flat_map f xs) (subst (λ a. In y (f a)) (sym e) j)) (λ (t : In x xs). in_right y (f z) (flat_map f xs) (in_flat f xs x y t j)) i

in_passed : {A : Type 0} (f : A → Bool) (xs : List A) (x : A) → In x xs → f x ≡ true → In x (filter f xs)
in_passed f [] x i e = absurd i
in_passed f (z ∷ xs) x i e = ⊎_elim
    (λ (same : z ≡ x). cond_both (f z) (z ∷ filter f xs) (filter f xs) (In x) (λ _. inl same) (λ no. absurd (true≢false (sym (ap f same ∙ e) ∙ no))))
    (λ (t : In x xs). cond_both (f z) (z ∷ filter f xs) (filter f xs) (In x) (λ _. inr (in_passed f xs x t e)) (λ _. in_passed f xs x t e))
    i

in_numbers : (n x : ℕ) → x < n → In x (numbers n)
in_numbers zero x h = absurd (omega (arith, h))
in_numbers (suc n) x h = ⊎_elim
    (λ (e : x ≡ n). in_right x (numbers n) (n ∷ []) (inl (sym e)))
    (λ (ne : x ≢ n). in_left x (numbers n) (n ∷ []) (in_numbers n x (omega (arith, h, ne))))
    (cases_eq x n)

shorter : (f : Parked → Bool) (ps : List Parked) (p : Parked) → In p ps → f p ≡ true → length (without f ps) + 1 ≡ length ps
shorter f [] p i e = absurd i
shorter f (q ∷ ps) p i e = cond_both (f q) ps (q ∷ without f ps) (λ (xs : List Parked). length xs + 1 ≡ length (q ∷ ps))
    (λ _. omega arith)
    (λ no. ⊎_elim (λ (same : q ≡ p). absurd (true≢false (sym (ap f same ∙ e) ∙ no))) (λ (t : In p ps). omega (arith, shorter f ps p t e)) i)

found : (f : Parked → Bool) (ps : List Parked) (p : Parked) → In p ps → f p ≡ true → first_of f ps ≢ None
found f [] p i e none = absurd i
found f (q ∷ ps) p i e none = cond_both (f q) (Some q) (first_of f ps) (λ (o : Option Parked). o ≡ None → ⊥)
    (λ _ is. let never : Some q ≡ None = is in cc)
    (λ no is. ⊎_elim (λ (same : q ≡ p). absurd (true≢false (sym (ap f same ∙ e) ∙ no))) (λ (t : In p ps). found f ps p t e is) i)
    none

module _ (m : Meanings) (c : Cluster) where
  -- ---- a tick asks

  pub asks_at : (w : World) (n x : ℕ) (moment : Moment) (p : Parked) → Runs c w n → In p (w.members n).node.parked
      → is_late (setting_at c w n) moment.steady p ≡ false → is_quiet (setting_at c w n) (durable_at w n) p ≡ false → x < nodes_told c w n → x ≢ n
      → HasPlace (Want n x p.key (durable_at w n).boot p.want) (length w.packets) (happens m c w (Tick n moment)).packets
  asks_at w n x moment p r i late quiet there apart =
      let set = setting_at c w n in
      let nd = (w.members n).node in
      let now = moment.now in
      let steady = moment.steady in
      let call : Call = record { node = n; moment = moment; input = input.Tick } in
      let want = Want n x p.key nd.durable.boot p.want in
      let d = expire nd now (first_over now (entries nd.durable.keys)) [] in
      let waiting = filter (λ (q : Parked). not (is_late set steady q)) nd.parked in
      let again = filter_map (grant_again set) (entries d.durable.keys) in
      let outs = (on_tick set nd now steady).outputs in
      let goes_on : In p waiting = in_passed (λ q. not (is_late set steady q)) nd.parked p i (ap not late) in
      let asks : In p (filter (λ q. not (is_quiet set nd.durable q)) waiting) = in_passed (λ q. not (is_quiet set nd.durable q)) waiting p goes_on (ap not quiet) in
      let other : In x (others set) = in_passed (λ y. not (y == set.node)) (numbers set.nodes) x (in_numbers set.nodes x there) (ap not (ne_eqb x n apart)) in
      let one : In (Send want) (wants set nd.durable p.key p.want) = in_both (λ y. Send (Want n y p.key nd.durable.boot p.want)) (others set) x other in
      let some : In (Send want) (wants_again set nd.durable waiting) = in_flat (λ q. wants set nd.durable q.key q.want) (filter (λ q. not (is_quiet set nd.durable q)) waiting) p (Send want) asks one in
      let put : In (Send want) outs = in_left (Send want) (deadlines set steady nd.parked ++ wants_again set nd.durable waiting) again (in_right (Send want) (deadlines set steady nd.parked) (wants_again set nd.durable waiting) some) in
      subst (λ (y : World). HasPlace want (length w.packets) y.packets) (sym (stepped_by m c w (Tick n moment) call (ready_by c w call r refl refl)))
      (place_behind want w.packets (sends_in outs) (in_mapped packet_in outs (Send want) want put refl))

  pub ticks_ask : (w : World) → TicksAsk m c w
  ticks_ask w n x moment p r i late quiet there apart =
      place_in (Want n x p.key (durable_at w n).boot p.want) (length w.packets) (happens m c w (Tick n moment)).packets (asks_at w n x moment p r i late quiet there apart)

  -- ---- a poke serves

  rest_of : (e1 : EngineMeaning) (set : Setting) (nd : Node) (moment : Moment) (cause : Option Cause) (number : ℕ) (r : Request) (rest : List Parked) → (answered_unless cause e1 set nd moment number r (answer_of e1 set nd.durable moment r) rest).parked ≡ rest
  rest_of e1 set nd moment None number r rest = refl
  rest_of e1 set nd moment (Some cause) number r rest = refl

  first_leaves : (e1 : EngineMeaning) (set : Setting) (nd : Node) (moment : Moment) (o : Option Parked) (rest : List Parked) → o ≢ None → (serve_first e1 set nd moment o rest).parked ≡ rest
  first_leaves e1 set nd moment None rest ne = absurd (ne refl)
  first_leaves e1 set nd moment (Some p) rest ne = rest_of e1 set nd moment (no_birth set nd.durable (answer_of e1 set nd.durable moment p.request).birth) p.token p.request rest

  -- where one passes the test, the first that does leaves
  pub one_leaves : (e1 : EngineMeaning) (set : Setting) (nd : Node) (moment : Moment) (test : Parked → Bool) (p : Parked) → In p nd.parked → test p ≡ true → (serve_parked e1 set nd moment test).parked ≡ without test nd.parked
  one_leaves e1 set nd moment test p i passes = first_leaves e1 set nd moment (first_of test nd.parked) (without test nd.parked) (found test nd.parked p i passes)

  pub pokes_serve : (w : World) → PokesServe m c w
  pokes_serve w n moment p r i settled =
      let set = setting_at c w n in
      let nd = (w.members n).node in
      let test = λ (q : Parked). is_settled (known nd.durable q.key) in
      let call : Call = record { node = n; moment = moment; input = input.Poke } in
      let member : Member = record { up = true; node = left (decision m c w call) } in
      let now : (decision m c w call).parked ≡ without test nd.parked = one_leaves (m n nd.durable.boot) set nd moment test p i settled in
      subst (λ (y : World). length (y.members n).node.parked + 1 ≡ length nd.parked) (sym (stepped_by m c w (Poke n moment) call (ready_by c w call r refl refl)))
      (by_node (λ y z. y ≡ n → length z.node.parked + 1 ≡ length nd.parked) w.members n member n (λ _ _. ap (λ (ps : List Parked). length ps + 1) now ∙ shorter test nd.parked p i settled) (λ ne _. absurd (ne refl)) refl)

  -- ---- a Want comes

  wanted : (e1 : EngineMeaning) (set : Setting) (nd : Node) (moment : Moment) (from : ℕ) (k : Key) (boot want : ℕ) (st : Option KeyState) → from ≢ set.node → from < set.nodes → known nd.durable k ≡ st
      → on_packet e1 set nd moment (Want from set.node k boot want) ≡ on_want set nd from k boot want st
  wanted e1 set nd moment from k boot want st apart inside is =
      cond-true (is_ours set (Want from set.node k boot want)) (on_ours e1 set nd moment (Want from set.node k boot want)) (idle nd []) (ours m c set from set.node refl apart inside) ∙ ap (on_want set nd from k boot want) is

  -- what is active is handed over, and its Grant is put out
  pub record IsGiven (k : Key) (n e : ℕ) (s : Session) (to : ℕ) (v : World) : Type 0 where
    pub off : IsOff v k n (e + 1) s to
    pub grant : In (Grant n to k (e + 1) s) v.packets

  pub gives : (w : World) (n from place boot want e : ℕ) (k : Key) (s : Session) (moment : Moment) → Runs c w n → from < nodes_told c w n → from ≢ n
      → slice_get w.packets place ≡ Some (Want from n k boot want) → states w k n ≡ Some (Active e s) → e ≢ last_number
      → IsGiven k n e s from (happens m c w (Deliver moment place))
  gives w n from place boot want e k s moment r there apart at is last =
      let set = setting_at c w n in
      let nd = (w.members n).node in
      let e1 = m n nd.durable.boot in
      let p = Want from n k boot want in
      let call : Call = record { node = n; moment = moment; input = input.Packet p } in
      let member' : Member = record { up = true; node = left (decision m c w call) } in
      let d : on_packet e1 set nd moment p ≡ hands_over set nd k e s from [] = wanted e1 set nd moment from k boot want (Some (Active e s)) apart there is ∙ cond-false (e == last_number) (idle nd []) (hands_over set nd k e s from []) (ne_eqb e last_number last) in
      let after : known (on_packet e1 set nd moment p).durable k ≡ Some (Sent (e + 1) s from) = ap (λ (x : Decision). known x.durable k) d ∙ known_insert nd.durable k (Sent (e + 1) s from) k ∙ set_here (known nd.durable) k (Some (Sent (e + 1) s from)) in
      let put : In (Grant n from k (e + 1) s) (sends_in (on_packet e1 set nd moment p).outputs) = subst (λ (x : Decision). In (Grant n from k (e + 1) s) (sends_in x.outputs)) (sym d) (inl refl) in
      delivery m c (IsGiven k n e s from) w moment place p r at (record {
        off = by_node (λ y z. y ≡ n → known z.node.durable k ≡ Some (Sent (e + 1) s from)) w.members n member' n (λ _ _. after) (λ ne _. absurd (ne refl)) refl;
        grant = in_right (Grant n from k (e + 1) s) w.packets (sends_in (on_packet e1 set nd moment p).outputs) put;
      })

  -- the answer to a Want that says No
  says : (w : World) (n from place boot want : ℕ) (k : Key) (moment : Moment) (st : Option KeyState) → Runs c w n → from < nodes_told c w n → from ≢ n
      → slice_get w.packets place ≡ Some (Want from n k boot want) → states w k n ≡ st
      → In (No n from k boot want) (sends_in (on_want (setting_at c w n) (w.members n).node from k boot want st).outputs)
      → HasPlace (No n from k boot want) (length w.packets) (happens m c w (Deliver moment place)).packets
  says w n from place boot want k moment st r there apart at is denial =
      let set = setting_at c w n in
      let nd = (w.members n).node in
      let e1 = m n nd.durable.boot in
      let p = Want from n k boot want in
      let put : In (No n from k boot want) (sends_in (on_packet e1 set nd moment p).outputs) = subst (λ (x : Decision). In (No n from k boot want) (sends_in x.outputs)) (sym (wanted e1 set nd moment from k boot want st apart there is)) denial in
      delivery m c (λ (y : World). HasPlace (No n from k boot want) (length w.packets) y.packets) w moment place p r at
      (place_behind (No n from k boot want) w.packets (sends_in (on_packet e1 set nd moment p).outputs) put)

  pub denies : (w : World) (n from place boot want e : ℕ) (k : Key) (moment : Moment) → Runs c w n → from < nodes_told c w n → from ≢ n
      → slice_get w.packets place ≡ Some (Want from n k boot want) → states w k n ≡ Some (Ended e)
      → HasPlace (No n from k boot want) (length w.packets) (happens m c w (Deliver moment place)).packets
  denies w n from place boot want e k moment r there apart at is = says w n from place boot want k moment (Some (Ended e)) r there apart at is (inl refl)

  pub denies_unmade : (w : World) (n from place boot want : ℕ) (k : Key) (moment : Moment) → Runs c w n → from < nodes_told c w n → from ≢ n
      → slice_get w.packets place ≡ Some (Want from n k boot want) → states w k n ≡ None → is_unmade (setting_at c w n) (durable_at w n) k ≡ true
      → HasPlace (No n from k boot want) (length w.packets) (happens m c w (Deliver moment place)).packets
  denies_unmade w n from place boot want k moment r there apart at is unmade =
      let set = setting_at c w n in
      let nd = (w.members n).node in
      says w n from place boot want k moment None r there apart at is
      (subst (λ (d : Decision). In (No n from k boot want) (sends_in d.outputs)) (sym (cond-true (is_unmade set nd.durable k) (says_no set nd from k boot want) (idle nd []) unmade)) (inl refl))

  pub wants_are_answered : (w : World) → WantsAreAnswered m c w
  wants_are_answered w = record {
    gives = λ n from place boot want e k s moment r there apart at is last. (gives w n from place boot want e k s moment r there apart at is last).off;
    denies = λ n from place boot want e k moment r there apart at is.
        place_in (No n from k boot want) (length w.packets) (happens m c w (Deliver moment place)).packets (denies w n from place boot want e k moment r there apart at is);
  }
