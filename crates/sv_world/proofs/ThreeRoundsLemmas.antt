-- A request that waits is served or refused within three rounds, or its session was given to another node in them.
use Rattle.sv_world.proofs.Prelude.{◌≡◌, ◌≢◌, ℕ, ◌<◌, ◌≤◌, ◌==◌, Bool, true, false, Option, Some, None, List, [], ◌∷◌, arith, refl, sym, ap, ◌∙◌, subst, inl}
use Rattle.sv_world.proofs.Prelude.{inr, ⊎_elim, eq-eqb, slice_get, ◌||◌, is_some, slice_get_within, cases_eq, cond-true, and_from, and_right}
use Rattle.sv_world.proofs.Prelude.{false_from_ne_true, true≢false, Key, Moment, Session, Parked, KeyState, Active, Sent, Ended, Want, Grant, No, Meanings}
use Rattle.sv_world.proofs.Prelude.{AllTouchOnlyHanded, same_key, last_number, epoch_in, known, is_settled, is_crowded, lacks_room, Decision, idle, left, In}
use Rattle.sv_world.proofs.Prelude.{is_ours, on_ours, on_packet, is_wanted, is_late, is_quiet, without, serve_parked, keys_tell, WorldEvent, Deliver, Tick}
use Rattle.sv_world.proofs.Prelude.{Call, states, Away, Stands, Cluster, Member, World, setting_of, durable_at, decision, happens, run, AreSteps, setting_at}
use Rattle.sv_world.proofs.Prelude.{nodes_told, Runs, AllRun, HasRoomAt, HasRoom, IsOff, HasArrived, IsOnItsWay, Round, ticked, behind, IsRound}
use Rattle.std.proofs.Common.{◌⊎◌, ◌+◌, length}
use Rattle.sv_model.specs.declared.input.Input.TheVariants as input
use Rattle.sv_world.proofs.AnsweringLemmas.{Has, HasEnded, IsUnborn, Answers, answers_unmade, answers_step, answers_alone, way_step, IsComing, IsGivenElsewhere}
use Rattle.sv_world.proofs.AnsweringLemmas.{given, due_on}
use Rattle.sv_world.proofs.ArrivesLemmas.{ours}
use Rattle.sv_world.proofs.EpochLemmas.{Gave}
use Rattle.sv_world.proofs.ParkedLemmas.{Both, happens_both, run_both, WaitsOn, waits_first, none_wanted}
use Rattle.sv_world.proofs.ProgressLemmas.{none_late}
use Rattle.sv_world.proofs.RoundLemmas.{arrived_still, round_arrives}
use Rattle.sv_world.proofs.Runs.{Inv}
use Rattle.sv_world.proofs.RunningLemmas.{HasPlace, happens_grows, run_grows, still_in, still_at, still_placed, longer, placed_since, boots_stay, boots_along}
use Rattle.sv_world.proofs.RunningLemmas.{runs_on, runs_along, delivery, runs_one, told_one}
use Rattle.sv_world.proofs.ServedLemmas.{IsDue}
use Rattle.sv_world.proofs.WaitersLemmas.{asks_at, one_leaves, gives, denies, denies_unmade}
use Rattle.sv_world.proofs.Waiting.{by_node}

or_none : (a b : Bool) → a ≡ false → b ≡ false → (a || b) ≡ false
or_none true b e f = e
or_none false b e f = f

wanted_self : (p : Parked) → is_wanted p.key p.want p ≡ true
wanted_self p = and_from (p.want == p.want) (same_key p.key p.key) (eq-eqb p.want p.want refl)
    (⊎_elim (λ (t : (p.key ≡ p.key) × (same_key p.key p.key ≡ true)). t.1) (λ (t : (p.key ≢ p.key) × (same_key p.key p.key ≡ false)). absurd (t.0 refl)) (keys_tell p.key p.key))

module _ (m : Meanings) (touches : AllTouchOnlyHanded m) (c : Cluster) (nodes n : ℕ) (p : Parked) (inside : n < nodes) (some : 0 < p.key.serial) where
  abbrev k : Key
  k = p.key

  abbrev pub Coming : World → Type 0
  Coming w = IsComing m touches c k nodes n w

  -- one of these events gives the session to another node
  abbrev pub Else : World → List WorldEvent → Type 0
  Else w [] = ⊥
  Else w (e ∷ es) = IsGivenElsewhere m touches c k n w (happens m c w e) ⊎ Else (happens m c w e) es

  abbrev pub ElseIn : World → Round → Type 0
  ElseIn w a = Else w a.ticks ⊎ Else (ticked m c w a) a.rest

  -- ---- along a list of events

  due_stays : (e : ℕ) (es : List WorldEvent) (w : World) → AreSteps es → Both m touches c w → IsDue w k n e → IsDue (run m c w es) k n e ⊎ Else w es
  due_stays e [] w steps b h = inl h
  due_stays e (x ∷ es) w steps b h =
      let v = happens m c w x in
      ⊎_elim
      (λ (d : IsDue v k n e). ⊎_elim (λ (y : IsDue (run m c v es) k n e). inl y) (λ (y : Else v es). inr (inr y)) (due_stays e es v steps.1 (happens_both m touches c w x b) d))
      (λ (g : IsGivenElsewhere m touches c k n w v). inr (inl g))
      (due_on m touches c k n e w x steps.0 b.inv h)

  coming_along : (es : List WorldEvent) (w : World) → AreSteps es → Both m touches c w → Coming w → Coming (run m c w es) ⊎ Else w es
  coming_along es w steps b g = ⊎_elim
      (λ (d : IsDue (run m c w es) k n g.epoch). inl (record {
        from = g.from;
        epoch = g.epoch;
        session = g.session;
        there = g.there;
        apart = g.apart;
        grant = still_in w (run m c w es) (Grant g.from n k g.epoch g.session) (run_grows m c w es) g.grant;
        due = d;
      }))
      (λ (y : Else w es). inr y)
      (due_stays g.epoch es w steps b g.due)

  -- after a step that gave it away
  after_gave : (x : ℕ) (e : WorldEvent) (es : List WorldEvent) (w : World) → AreSteps (e ∷ es) → Both m touches c w → AllRun c nodes w → Gave c k x w (happens m c w e) (states (happens m c w e) k x)
      → Coming (run m c w (e ∷ es)) ⊎ Else w (e ∷ es)
  after_gave x e es w steps b all g =
      let v = happens m c w e in
      ⊎_elim
      (λ (y : Coming v). ⊎_elim (λ (z : Coming (run m c v es)). inl z) (λ (z : Else v es). inr (inr z)) (coming_along es v steps.1 (happens_both m touches c w e b) y))
      (λ (y : IsGivenElsewhere m touches c k n w v). inr (inl y))
      (given m touches c k nodes n w e x steps.0 b.inv all g)

  -- from one world to the next
  abbrev Later : World → WorldEvent → List WorldEvent → Type 0 → Type 0
  Later w e es A = A ⊎ (Coming (run m c w (e ∷ es)) ⊎ Else w (e ∷ es))

  later : (w : World) (e : WorldEvent) (es : List WorldEvent) (A : Type 0) → A ⊎ (Coming (run m c (happens m c w e) es) ⊎ Else (happens m c w e) es) → Later w e es A
  later w e es A h = ⊎_elim
      (λ (a : A). inl a)
      (λ (x : Coming (run m c (happens m c w e) es) ⊎ Else (happens m c w e) es). inr (⊎_elim (λ (y : Coming (run m c (happens m c w e) es)). inl y) (λ (y : Else (happens m c w e) es). inr (inr y)) x))
      h

  answers_along : (x : ℕ) (es : List WorldEvent) (w : World) → AreSteps es → Both m touches c w → AllRun c nodes w → Answers k x (states w k x)
      → Answers k x (states (run m c w es) k x) ⊎ (Coming (run m c w es) ⊎ Else w es)
  answers_along x [] w steps b all h = inl h
  answers_along x (e ∷ es) w steps b all h =
      let v = happens m c w e in
      ⊎_elim
      (λ (a : Answers k x (states v k x)). later w e es (Answers k x (states (run m c v es) k x)) (answers_along x es v steps.1 (happens_both m touches c w e b) (runs_on m c nodes w e steps.0 all) a))
      (λ (g : Gave c k x w v (states v k x)). inr (after_gave x e es w steps b all g))
      (answers_step m touches c k w e x steps.0 b.inv some h)

  way_along : (x e : ℕ) (s : Session) (to : ℕ) → e < last_number → (es : List WorldEvent) (w : World) → AreSteps es → Both m touches c w → AllRun c nodes w → IsOnItsWay w k x e s to
      → (IsOnItsWay (run m c w es) k x e s to ⊎ Answers k to (states (run m c w es) k to)) ⊎ (Coming (run m c w es) ⊎ Else w es)
  way_along x e s to less [] w steps b all h = inl (inl h)
  way_along x e s to less (y ∷ es) w steps b all h =
      let v = happens m c w y in
      let bv = happens_both m touches c w y b in
      let all_v = runs_on m c nodes w y steps.0 all in
      let end = run m c v es in
      ⊎_elim
      (λ (a : IsOnItsWay v k x e s to). later w y es (IsOnItsWay end k x e s to ⊎ Answers k to (states end k to)) (way_along x e s to less es v steps.1 bv all_v a))
      (λ (a : Answers k to (states v k to)). later w y es (IsOnItsWay end k x e s to ⊎ Answers k to (states end k to)) (⊎_elim
      (λ (z : Answers k to (states end k to)). inl (inr z))
      (λ (z : Coming end ⊎ Else v es). inr z)
      (answers_along to es v steps.1 bv all_v a)))
      (way_step m touches c k w y x e s to steps.0 b.inv less h)

  -- ---- it asks

  not_quiet : (w : World) (x : ℕ) → Inv m c w → Answers k x (states w k x) → x ≢ n → HasRoomAt c n k w → is_quiet (setting_at c w n) (durable_at w n) p ≡ false
  not_quiet w x inv h apart room = or_none (is_settled (known (durable_at w n) k)) (is_crowded (setting_at c w n) (durable_at w n) k)
      (false_from_ne_true (is_settled (known (durable_at w n) k)) (λ t. answers_alone m touches c k w x n inv some h apart t))
      (and_right (is_some (durable_at w n).home) (lacks_room (setting_at c w n) (durable_at w n) k) room)

  not_late : (w : World) (moment : Moment) → Runs c w n → In p ((happens m c w (Tick n moment)).members n).node.parked → is_late (setting_at c w n) moment.steady p ≡ false
  not_late w moment r i = ap (λ b. is_late (setting_of c n b) moment.steady p) (sym (boots_stay m c w (Tick n moment) tt n)) ∙ none_late m c w n moment r p i

  -- after the ticks it has asked the node that can answer
  tick_asks : (x since boot : ℕ) (moment : Moment) → x < nodes → x ≢ n → (es : List WorldEvent) (w : World) → AreSteps es → Both m touches c w → AllRun c nodes w → (durable_at w n).boot ≡ boot
      → Answers k x (states w k x) → WaitsOn m touches c n p w es → HasRoom m c n k w es → since ≤ length w.packets → In (Tick n moment) es
      → (Answers k x (states (run m c w es) k x) × HasPlace (Want n x k boot p.want) since (run m c w es).packets) ⊎ (Coming (run m c w es) ⊎ Else w es)
  tick_asks x since boot moment there apart [] w steps b all same h on room le i = absurd i
  tick_asks x since boot moment there apart (e ∷ es) w steps b all same h on room le i =
      let v = happens m c w e in
      let end = run m c v es in
      let r = runs_one c nodes w all n inside in
      ⊎_elim
      (λ (is : e ≡ Tick n moment).
      let stays : In p ((happens m c w (Tick n moment)).members n).node.parked = subst (λ z. In p ((happens m c w z).members n).node.parked) is (waits_first m touches c n p es v on.1) in
      let asks = asks_at m c w n x moment p r on.0 (not_late w moment r stays) (not_quiet w x b.inv h apart room.0) (told_one c nodes w all n x inside there) apart in
      let put : HasPlace (Want n x k boot p.want) (length w.packets) v.packets = subst (λ z. HasPlace (Want n x k boot p.want) (length w.packets) (happens m c w z).packets) (sym is)
      (subst (λ z. HasPlace (Want n x k z p.want) (length w.packets) (happens m c w (Tick n moment)).packets) same asks) in
      let placed = still_placed v end (Want n x k boot p.want) since (run_grows m c v es) (placed_since (Want n x k boot p.want) since (length w.packets) v.packets le put) in
      ⊎_elim
      (λ (a : Answers k x (states end k x)). inl (a, placed))
      (λ (y : Coming end ⊎ Else w (e ∷ es)). inr y)
      (answers_along x (e ∷ es) w steps b all h))
      (λ (t : In (Tick n moment) es). ⊎_elim
      (λ (a : Answers k x (states v k x)). later w e es (Answers k x (states end k x) × HasPlace (Want n x k boot p.want) since end.packets)
      (tick_asks x since boot moment there apart es v steps.1 (happens_both m touches c w e b) (runs_on m c nodes w e steps.0 all) (boots_stay m c w e steps.0 n ∙ same) a on.1 room.1 (omega (arith, le, longer w v (happens_grows m c w e))) t))
      (λ (g : Gave c k x w v (states v k x)). inr (after_gave x e es w steps b all g))
      (answers_step m touches c k w e x steps.0 b.inv some h))
      i

  -- ---- it is answered

  -- another node has said No to it
  pub record IsDenied (since boot : ℕ) (w : World) : Type 0 where
    by : ℕ
    there : by < nodes
    apart : by ≢ n
    denial : HasPlace (No by n k boot p.want) since w.packets

  -- the session is coming, or there is none
  abbrev pub IsAnswered : ℕ → ℕ → World → Type 0
  IsAnswered since boot w = Coming w ⊎ IsDenied since boot w

  sent_answers_not : (x e : ℕ) (s : Session) (to : ℕ) (o : Option KeyState) → o ≡ Some (Sent e s to) → Answers k x o → ⊥
  sent_answers_not x e s to o is h = ⊎_elim
      (λ (a : Has o). let no : Some (Sent e s to) ≡ Some (Active a.0 a.1) = sym is ∙ a.2 in absurd (cc))
      (λ (rest : HasEnded o ⊎ IsUnborn k x o). ⊎_elim
      (λ (a : HasEnded o). let no : Some (Sent e s to) ≡ Some (Ended a.0) = sym is ∙ a.1 in absurd (cc))
      (λ (a : IsUnborn k x o). let no : Some (Sent e s to) ≡ None = sym is ∙ a.1 in absurd (cc))
      rest)
      h

  denied_at : (x since boot place : ℕ) (moment : Moment) → x < nodes → x ≢ n → (e : WorldEvent) (es : List WorldEvent) (v : World) → e ≡ Deliver moment place → since ≤ length v.packets
      → HasPlace (No x n k boot p.want) (length v.packets) (happens m c v (Deliver moment place)).packets → IsDenied since boot (run m c v (e ∷ es))
  denied_at x since boot place moment there apart e es v is le put =
      let u = happens m c v e in
      let here : HasPlace (No x n k boot p.want) (length v.packets) u.packets = subst (λ z. HasPlace (No x n k boot p.want) (length v.packets) (happens m c v z).packets) (sym is) put in
      record {
        by = x;
        there = there;
        apart = apart;
        denial = still_placed u (run m c u es) (No x n k boot p.want) since (run_grows m c u es) (placed_since (No x n k boot p.want) since (length v.packets) u.packets le here);
      }

  -- where its Want comes
  come_answers : (x since boot place : ℕ) (moment : Moment) → x < nodes → x ≢ n → (e : WorldEvent) (es : List WorldEvent) (v : World) → AreSteps (e ∷ es) → Both m touches c v → AllRun c nodes v
      → Answers k x (states v k x) → slice_get v.packets place ≡ Some (Want n x k boot p.want) → e ≡ Deliver moment place → since ≤ length v.packets
      → IsAnswered since boot (run m c v (e ∷ es)) ⊎ Else v (e ∷ es)
  come_answers x since boot place moment there apart e es v steps b all h at is le =
      let u = happens m c v e in
      let r = runs_one c nodes v all x there in
      let told = told_one c nodes v all x n there inside in
      let ne : n ≢ x = λ a. apart (sym a) in
      ⊎_elim
      (λ (a : Has (states v k x)).
      let off : IsOff (happens m c v (Deliver moment place)) k x (a.0 + 1) a.1 n = (gives m c v x n place boot p.want a.0 k a.1 moment r told ne at a.2 (λ last. omega (arith, last, a.3))).off in
      let sent : states u k x ≡ Some (Sent (a.0 + 1) a.1 n) = subst (λ z. states (happens m c v z) k x ≡ Some (Sent (a.0 + 1) a.1 n)) (sym is) off in
      ⊎_elim
      (λ (y : Answers k x (states u k x)). absurd (sent_answers_not x (a.0 + 1) a.1 n (states u k x) sent y))
      (λ (g : Gave c k x v u (states u k x)). ⊎_elim (λ (z : Coming (run m c u es)). inl (inl z)) (λ (z : Else v (e ∷ es)). inr z) (after_gave x e es v steps b all g))
      (answers_step m touches c k v e x steps.0 b.inv some h))
      (λ (rest : HasEnded (states v k x) ⊎ IsUnborn k x (states v k x)). inl (inr (⊎_elim
      (λ (a : HasEnded (states v k x)). denied_at x since boot place moment there apart e es v is le (denies m c v x n place boot p.want a.0 k moment r told ne at a.1))
      (λ (a : IsUnborn k x (states v k x)). denied_at x since boot place moment there apart e es v is le
      (denies_unmade m c v x n place boot p.want k moment r told ne at a.1 (answers_unmade m touches c k v x b.inv some a)))
      rest)))
      h

  rest_answers : (x since boot place : ℕ) (moment : Moment) → x < nodes → x ≢ n → (es : List WorldEvent) (v : World) → AreSteps es → Both m touches c v → AllRun c nodes v
      → Answers k x (states v k x) → slice_get v.packets place ≡ Some (Want n x k boot p.want) → In (Deliver moment place) es → since ≤ length v.packets
      → IsAnswered since boot (run m c v es) ⊎ Else v es
  rest_answers x since boot place moment there apart [] v steps b all h at i le = absurd i
  rest_answers x since boot place moment there apart (e ∷ es) v steps b all h at i le =
      let u = happens m c v e in
      ⊎_elim
      (λ (is : e ≡ Deliver moment place). come_answers x since boot place moment there apart e es v steps b all h at is le)
      (λ (t : In (Deliver moment place) es). ⊎_elim
      (λ (a : Answers k x (states u k x)). ⊎_elim
      (λ (y : IsAnswered since boot (run m c u es)). inl y)
      (λ (y : Else u es). inr (inr y))
      (rest_answers x since boot place moment there apart es u steps.1 (happens_both m touches c v e b) (runs_on m c nodes v e steps.0 all) a
      (still_at v u place (Want n x k boot p.want) (happens_grows m c v e) at) t (omega (arith, le, longer v u (happens_grows m c v e)))))
      (λ (g : Gave c k x v u (states u k x)). ⊎_elim (λ (z : Coming (run m c u es)). inl (inl z)) (λ (z : Else v (e ∷ es)). inr z) (after_gave x e es v steps b all g))
      (answers_step m touches c k v e x steps.0 b.inv some h))
      i

  -- ---- who is told No waits no more

  no_leaves : (v : World) (moment : Moment) (place by boot : ℕ) → Both m touches c v → Runs c v n → by < nodes_told c v n → by ≢ n → slice_get v.packets place ≡ Some (No by n k boot p.want)
      → boot ≡ (durable_at v n).boot → In p (v.members n).node.parked → In p ((happens m c v (Deliver moment place)).members n).node.parked → ⊥
  no_leaves v moment place by boot b r there apart at same i =
      let set = setting_at c v n in
      let nd = (v.members n).node in
      let e1 = m n nd.durable.boot in
      let packet = No by n k boot p.want in
      let call : Call = record { node = n; moment = moment; input = input.Packet packet } in
      let member' : Member = record { up = true; node = left (decision m c v call) } in
      let test = is_wanted k p.want in
      let serves : on_packet e1 set nd moment packet ≡ serve_parked e1 set nd moment test =
      cond-true (is_ours set packet) (on_ours e1 set nd moment packet) (idle nd []) (ours m c set by n refl apart there)
      ∙ cond-true (boot == nd.durable.boot) (serve_parked e1 set nd moment test) (idle nd []) (eq-eqb boot nd.durable.boot same) in
      let parked : (on_packet e1 set nd moment packet).parked ≡ without test nd.parked = ap (λ (d : Decision). d.parked) serves ∙ one_leaves m c e1 set nd moment test p i (wanted_self p) in
      delivery m c (λ (y : World). In p (y.members n).node.parked → ⊥) v moment place packet r at
      (by_node (λ y z. y ≡ n → In p z.node.parked → ⊥) v.members n member' n
      (λ _ _ j. none_wanted k 0 nd.parked nd.next_want p (b.queued.at n).rising (wanted_self p) (subst (In p) parked j)) (λ ne _ _. ne refl) refl)

  rest_denied : (place by boot : ℕ) (moment : Moment) → by < nodes → by ≢ n → (es : List WorldEvent) (v : World) → AreSteps es → Both m touches c v → AllRun c nodes v
      → slice_get v.packets place ≡ Some (No by n k boot p.want) → boot ≡ (durable_at v n).boot → WaitsOn m touches c n p v es → In (Deliver moment place) es → ⊥
  rest_denied place by boot moment there apart [] v steps b all at same on i = absurd i
  rest_denied place by boot moment there apart (e ∷ es) v steps b all at same on i =
      let u = happens m c v e in
      ⊎_elim
      (λ (is : e ≡ Deliver moment place). no_leaves v moment place by boot b (runs_one c nodes v all n inside) (told_one c nodes v all n by inside there) apart at same on.0
      (subst (λ z. In p ((happens m c v z).members n).node.parked) is (waits_first m touches c n p es u on.1)))
      (λ (t : In (Deliver moment place) es). rest_denied place by boot moment there apart es u steps.1 (happens_both m touches c v e b) (runs_on m c nodes v e steps.0 all)
      (still_at v u place (No by n k boot p.want) (happens_grows m c v e) at) (same ∙ sym (boots_stay m c v e steps.0 n)) on.1 t)
      i

  -- ---- a round

  -- what holds at the beginning of a round in which the request waits on
  pub record Begins (since boot : ℕ) (w : World) (a : Round) : Type 0 where
    pub both : Both m touches c w
    pub all : AllRun c nodes w
    pub fair : IsRound m c nodes since w a
    pub le : since ≤ length w.packets
    pub boot_is : (durable_at w n).boot ≡ boot
    pub ticks_on : WaitsOn m touches c n p w a.ticks
    pub rest_on : WaitsOn m touches c n p (ticked m c w a) a.rest
    pub end : In p ((behind m c w a).members n).node.parked
    pub room : HasRoom m c n k w a.ticks × HasRoom m c n k (ticked m c w a) a.rest

  both_ticked : (since boot : ℕ) (w : World) (a : Round) → Begins since boot w a → Both m touches c (ticked m c w a)
  both_ticked since boot w a h = run_both m touches c w a.ticks h.both

  all_ticked : (since boot : ℕ) (w : World) (a : Round) → Begins since boot w a → AllRun c nodes (ticked m c w a)
  all_ticked since boot w a h = runs_along m c nodes a.ticks w h.fair.steps.0 h.all

  -- it isn't at hand at the end
  not_hand : (since boot : ℕ) (w : World) (a : Round) → Begins since boot w a → is_settled (states (behind m c w a) k n) ≡ true → ⊥
  not_hand since boot w a h hand = true≢false (sym hand ∙ h.fair.settled n inside p h.end)

  due_round : (e since boot : ℕ) (w : World) (a : Round) → Begins since boot w a → IsDue w k n e → (IsDue (behind m c w a) k n e → ⊥) → ElseIn w a
  due_round e since boot w a h due never =
      let v = ticked m c w a in
      ⊎_elim
      (λ (d : IsDue v k n e). ⊎_elim (λ (y : IsDue (behind m c w a) k n e). absurd (never y)) (λ (y : Else v a.rest). inr y) (due_stays e a.rest v h.fair.steps.1 (both_ticked since boot w a h) d))
      (λ (y : Else w a.ticks). inl y)
      (due_stays e a.ticks w h.fair.steps.0 h.both due)

  -- where it is at hand
  pub hand_round : (since boot : ℕ) (w : World) (a : Round) → Begins since boot w a → is_settled (states w k n) ≡ true → ElseIn w a
  hand_round since boot w a h hand = due_round 0 since boot w a h (inr hand) (λ d. ⊎_elim (λ (low : epoch_in (states (behind m c w a) k n) < 0). absurd (omega (arith, low))) (λ (y : is_settled (states (behind m c w a) k n) ≡ true). not_hand since boot w a h y) d)

  -- where it has arrived by the end
  arrived_round : (e since boot : ℕ) (w : World) (a : Round) → Begins since boot w a → IsDue w k n e → HasArrived (behind m c w a) k e n → ElseIn w a
  arrived_round e since boot w a h due come = due_round e since boot w a h due (λ d. ⊎_elim (λ (low : epoch_in (states (behind m c w a) k n) < e). absurd (omega (arith, low, come))) (λ (y : is_settled (states (behind m c w a) k n) ≡ true). not_hand since boot w a h y) d)

  -- where it is on its way here, or a No is
  pub answered_round : (since boot : ℕ) (w : World) (a : Round) → Begins since boot w a → IsAnswered since boot w → ElseIn w a
  answered_round since boot w a h answered =
      let v = ticked m c w a in
      let bv = both_ticked since boot w a h in
      ⊎_elim
      (λ (g : Coming w).
      let j = h.both.inv.sane.lives k in
      let come : HasArrived (behind m c w a) k g.epoch n = ⊎_elim
      (λ (here : g.epoch ≤ epoch_in (states w k n)). arrived_still m touches c k g.epoch n a.rest v h.fair.steps.1 bv.inv (arrived_still m touches c k g.epoch n a.ticks w h.fair.steps.0 h.both.inv here))
      (λ (away : j.phase ≡ Away g.from g.epoch g.session n).
      round_arrives m touches c k g.from g.epoch g.session n g.apart nodes g.there inside since w a h.both.inv h.all (inl (subst (λ ph. Stands ph (states w k)) away j.stands).0) h.le h.fair h.room.1)
      (j.grant g.epoch g.session g.from n g.grant) in
      arrived_round g.epoch since boot w a h g.due come)
      (λ (d : IsDenied since boot w).
      let more = run_grows m c w a.ticks in
      let at : slice_get v.packets d.denial.place ≡ Some (No d.by n k boot p.want) = still_at w v d.denial.place (No d.by n k boot p.want) more d.denial.at in
      let comes = h.fair.come d.denial.place d.denial.since (slice_get_within v.packets d.denial.place (No d.by n k boot p.want) at) in
      absurd (rest_denied d.denial.place d.by boot comes.0 d.there d.apart a.rest v h.fair.steps.1 bv (all_ticked since boot w a h) at
      (sym (boots_along m c a.ticks w h.fair.steps.0 n ∙ h.boot_is)) h.rest_on comes.1))
      answered

  -- where another node can answer
  pub asking_round : (x since boot : ℕ) (w : World) (a : Round) → x < nodes → x ≢ n → Begins since boot w a → Answers k x (states w k x) → IsAnswered (length (ticked m c w a).packets) boot (behind m c w a) ⊎ ElseIn w a
  asking_round x since boot w a there apart h answers =
      let v = ticked m c w a in
      let bv = both_ticked since boot w a h in
      let all_v = all_ticked since boot w a h in
      let t = h.fair.tick n inside in
      ⊎_elim
      (λ (y : Answers k x (states v k x) × HasPlace (Want n x k boot p.want) since v.packets).
      let comes = h.fair.come y.1.place y.1.since (slice_get_within v.packets y.1.place (Want n x k boot p.want) y.1.at) in
      ⊎_elim
      (λ (z : IsAnswered (length v.packets) boot (behind m c w a)). inl z)
      (λ (z : Else v a.rest). inr (inr z))
      (rest_answers x (length v.packets) boot y.1.place comes.0 there apart a.rest v h.fair.steps.1 bv all_v y.0 y.1.at comes.1 (omega arith)))
      (λ (y : Coming v ⊎ Else w a.ticks). ⊎_elim
      (λ (g : Coming v). ⊎_elim (λ (z : Coming (behind m c w a)). inl (inl z)) (λ (z : Else v a.rest). inr (inr z)) (coming_along a.rest v h.fair.steps.1 bv g))
      (λ (z : Else w a.ticks). inr (inl z))
      y)
      (tick_asks x since boot t.0 there apart a.ticks w h.fair.steps.0 h.both h.all h.boot_is answers h.ticks_on h.room.0 h.le t.1)

  -- where it is on its way
  pub way_round : (x e : ℕ) (s : Session) (to since boot : ℕ) (w : World) (a : Round) → x < nodes → to < nodes → (to ≢ n → e < last_number) → Begins since boot w a → IsOnItsWay w k x e s to → HasRoom m c to k (ticked m c w a) a.rest
      → (((to ≢ n) × Answers k to (states (behind m c w a) k to)) ⊎ Coming (behind m c w a)) ⊎ ElseIn w a
  way_round x e s to since boot w a there goes less h way room =
      let v = ticked m c w a in
      let end = behind m c w a in
      let bv = both_ticked since boot w a h in
      let all_v = all_ticked since boot w a h in
      let apart : to ≢ x = (h.both.inv.sane.lives k).sent_apart x e s to way.0 in
      let come : HasArrived end k e to = round_arrives m touches c k x e s to apart nodes there goes since w a h.both.inv h.all (inl way.0) h.le h.fair room in
      ⊎_elim
      (λ (same : to ≡ n).
      let due : IsDue w k n e = inl (subst (λ y. epoch_in (states w k y) < e) same way.1) in
      inr (arrived_round e since boot w a h due (subst (λ y. HasArrived end k e y) same come)))
      (λ (other : to ≢ n).
      let rests : (o : IsOnItsWay v k x e s to ⊎ Answers k to (states v k to)) → (((to ≢ n) × Answers k to (states end k to)) ⊎ Coming end) ⊎ ElseIn w a = λ o. ⊎_elim
      (λ (y : IsOnItsWay v k x e s to). ⊎_elim
      (λ (z : IsOnItsWay end k x e s to ⊎ Answers k to (states end k to)). ⊎_elim (λ (q : IsOnItsWay end k x e s to). absurd (omega (arith, q.1, come))) (λ (q : Answers k to (states end k to)). inl (inl (other, q))) z)
      (λ (z : Coming end ⊎ Else v a.rest). ⊎_elim (λ (q : Coming end). inl (inr q)) (λ (q : Else v a.rest). inr (inr q)) z)
      (way_along x e s to (less other) a.rest v h.fair.steps.1 bv all_v y))
      (λ (y : Answers k to (states v k to)). ⊎_elim
      (λ (z : Answers k to (states end k to)). inl (inl (other, z)))
      (λ (z : Coming end ⊎ Else v a.rest). ⊎_elim (λ (q : Coming end). inl (inr q)) (λ (q : Else v a.rest). inr (inr q)) z)
      (answers_along to a.rest v h.fair.steps.1 bv all_v y))
      o in
      ⊎_elim
      rests
      (λ (y : Coming v ⊎ Else w a.ticks). ⊎_elim
      (λ (g : Coming v). ⊎_elim (λ (z : Coming end). inl (inr z)) (λ (z : Else v a.rest). inr (inr z)) (coming_along a.rest v h.fair.steps.1 bv g))
      (λ (z : Else w a.ticks). inr (inl z))
      y)
      (way_along x e s to (less other) a.ticks w h.fair.steps.0 h.both h.all way))
      (cases_eq to n)
