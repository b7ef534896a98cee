-- Every list of events keeps the invariant of what waits.
use Rattle.sv_world.proofs.Prelude.{◌≡◌, ℕ, ◌≤◌, true, Option, Some, None, List, [], ◌∷◌, ◌++◌, arith, refl, sym, ap, ◌∙◌, subst, inl, slice_get, option_map}
use Rattle.sv_world.proofs.Prelude.{eqb-true, same_Some, Moment, Key, Token, Input, Incoming, Move, Packet, Commit, Served, Expired, Request, addressee}
use Rattle.sv_world.proofs.Prelude.{Meanings, left, commits_of, asked_of, asked_by, times, is_of, arrival_behind, with_last, sends_in, WorldEvent, request_in}
use Rattle.sv_world.proofs.Prelude.{request_of, WasAsked, AllServed, Line, Call, store_of, KnowsAll, Cluster, Member, World, set_member, durable_at, stopped}
use Rattle.sv_world.proofs.Prelude.{nothing_happened, items, commits_in, whole, torn, silent, call_of, is_unused, decision, happens, item_at, token_of_call}
use Rattle.sv_world.proofs.Prelude.{setting_of, Waits, token_of, Durable}
use Rattle.std.proofs.Common.{◌+◌, length}
use Rattle.sv_model.specs.declared.input.Input.TheVariants.{Ask, Poke, Tick}
use Rattle.sv_world.specs.declared.event.WorldEvent.TheVariants as event
use Rattle.sv_world.proofs.Keys.{in_left, in_right}
use Rattle.sv_world.proofs.Arrivals.{one_if, token_self, asked_snoc, arrival_snoc, arrival_new, items_snoc}
use Rattle.sv_world.proofs.Waiting.{Patient, waits_still, whole_waits, silent_waits, stop_waits, boot_waits}
use Rattle.sv_world.proofs.Patience.{HasCome, decide_patient}
use Rattle.sv_world.proofs.Events.{start_boot, IsSentIn, IsReady, behind}
use Rattle.sv_world.proofs.Runs.{Inv, commits_snoc}

abbrev pub arrival_in : List Line → Token → ℕ
arrival_in trace t = arrival_behind 0 (items trace) t

-- the token is used, and by this request
abbrev pub HasAsked : List Line → Token → Request → Type 0
HasAsked trace t r = (1 ≤ times t (asked_of (items trace))) × WasAsked trace t r

pub all_come : (trace : List Line) (cs : List Commit) → AllServed (HasAsked trace) cs → AllServed (WasAsked trace) cs
all_come trace [] h = tt
all_come trace (Served token r now handed fresh ∷ cs) h = (h.0.1, all_come trace cs h.1)
all_come trace (Expired k now ∷ cs) h = all_come trace cs h

pub record Waiting (m : Meanings) (w : World) : Type 0 where
  pub waits : Waits m w.members w.packets (commits_in w) (arrival_in w.trace) (HasAsked w.trace)

-- with one more line
grows : (m : Meanings) (w : World) (l : Line) → Waiting m w → Waits m w.members w.packets (commits_in w) (arrival_in (w.trace ++ l ∷ [])) (HasAsked (w.trace ++ l ∷ []))
grows m w l j = waits_still m (arrival_in w.trace) (arrival_in (w.trace ++ l ∷ [])) (HasAsked w.trace) (HasAsked (w.trace ++ l ∷ []))
    (λ t r h. ap (λ is. arrival_behind 0 is t) (items_snoc w.trace l) ∙ arrival_snoc 0 (items w.trace) (item_at l) t h.0)
    (λ t r h. (omega (arith, h.0, ap (λ is. times t (asked_of is)) (items_snoc w.trace l), asked_snoc t (items w.trace) (item_at l)), (h.1.0, in_left h.1.0 w.trace (l ∷ []) h.1.1, h.1.2, h.1.3)))
    w.members w.packets (commits_in w) j.waits

-- a world with the line
lined : (m : Meanings) (members : ℕ → Member) (packets : List Packet) (trace : List Line) (l : Line) → Waits m members packets (with_last (commits_of (items trace)) l.commit) (arrival_in (trace ++ l ∷ [])) (HasAsked (trace ++ l ∷ [])) → Waiting m (record { members = members; packets = packets; trace = trace ++ l ∷ [] })
lined m members packets trace l h = record { waits = subst (λ cs. Waits m members packets cs (arrival_in (trace ++ l ∷ [])) (HasAsked (trace ++ l ∷ []))) (sym (commits_snoc trace l)) h }

-- ---- the request of an event is that of its step

brought_by : (o : Option Packet) (moment : Moment) (call : Call) → option_map (λ p. record { node = addressee p; moment = moment; input = Incoming p }) o ≡ Some call → None ≡ request_in call.input
brought_by None moment call is = absurd (cc)
brought_by (Some p) moment call is = ap (λ (x : Call). request_in x.input) (same_Some (record { node = addressee p; moment = moment; input = Incoming p }) call is)

brought : (ps : List Packet) (e : WorldEvent) (call : Call) → call_of ps e ≡ Some call → request_of e ≡ request_in call.input
brought ps (event.Ask n moment number r) call is = ap (λ (x : Call). request_in x.input) (same_Some (record { node = n; moment = moment; input = Ask number r }) call is)
brought ps (event.Deliver moment place) call is = brought_by (slice_get ps place) moment call is
brought ps (event.Poke n moment) call is = ap (λ (x : Call). request_in x.input) (same_Some (record { node = n; moment = moment; input = Poke }) call is)
brought ps (event.Tick n moment) call is = ap (λ (x : Call). request_in x.input) (same_Some (record { node = n; moment = moment; input = Tick }) call is)
brought ps (event.Move n moment k to) call is = ap (λ (x : Call). request_in x.input) (same_Some (record { node = n; moment = moment; input = Move k to }) call is)
brought ps (event.Torn n moment given kept) call is = ap (λ (x : Call). request_in x.input) (same_Some (record { node = n; moment = moment; input = given }) call is)
brought ps (event.Silent n moment given) call is = ap (λ (x : Call). request_in x.input) (same_Some (record { node = n; moment = moment; input = given }) call is)
brought ps (event.Crash n) call is = absurd (cc)
brought ps (event.Restart n) call is = absurd (cc)
brought ps (event.TornRestart n kept) call is = absurd (cc)

module _ (m : Meanings) (c : Cluster) where
  -- the input of a step has come with its line
  has_come : (w : World) (n : ℕ) (moment : Moment) (i : Input) (l : Line) → request_of l.event ≡ request_in i → l.asked ≡ asked_by (token_of (setting_of c n (durable_at w n).boot) (durable_at w n)) i → is_unused (asked_of (items w.trace)) (asked_by (token_of (setting_of c n (durable_at w n).boot) (durable_at w n)) i) ≡ true
      → IsSentIn w.packets i → (knows : (k : Key) → c.nodes n (durable_at w n).boot ≤ k.home → (store_of m (commits_in w)).map k ≡ None) → (inv : Inv m c w) → (j : Waiting m w) → HasCome m c w.members w.packets _ (commits_in w) (arrival_in (w.trace ++ l ∷ [])) (HasAsked (w.trace ++ l ∷ [])) inv.sane (grows m w l j) n knows moment i
  has_come w n moment (Ask number r) l brings is unused sent knows inv j =
      let t = token_of (setting_of c n (durable_at w n).boot) (durable_at w n) number in
      let new : times t (asked_of (items w.trace)) ≡ 0 = eqb-true _ _ unused in
      let at : arrival_in (w.trace ++ l ∷ []) t ≡ 0 + length (commits_in w) = ap (λ is. arrival_behind 0 is t) (items_snoc w.trace l) ∙ arrival_new 0 (items w.trace) (item_at l) t new is in
      (omega (arith, at), (omega (arith, ap (λ is. times t (asked_of is)) (items_snoc w.trace l), asked_snoc t (items w.trace) (item_at l), ap one_if (ap (is_of t) is ∙ token_self t)), (l, in_right l w.trace (l ∷ []) (inl refl), is, brings)))
  has_come w n moment (Incoming p) l brings is unused sent knows inv j = sent
  has_come w n moment Poke l brings is unused sent knows inv j = tt
  has_come w n moment Tick l brings is unused sent knows inv j = tt
  has_come w n moment (Move k to) l brings is unused sent knows inv j = tt

  -- the decision, with its line
  patient_at : (w : World) (call : Call) (l : Line) → request_of l.event ≡ request_in call.input → l.asked ≡ token_of_call c w call → IsReady c w call → KnowsAll m c w → Inv m c w → Waiting m w
      → Patient m w.members w.packets (commits_in w) (arrival_in (w.trace ++ l ∷ [])) (HasAsked (w.trace ++ l ∷ [])) call.node (decision m c w call)
  patient_at w call l brings is r knows inv j =
      decide_patient m c w.members w.packets _ (commits_in w) (arrival_in (w.trace ++ l ∷ [])) (HasAsked (w.trace ++ l ∷ [])) inv.sane (grows m w l j) call.node (λ k. knows call.node k r.up) call.moment call.input
      (has_come w call.node call.moment call.input l brings is r.unused r.sent (λ k. knows call.node k r.up) inv j)

  whole_waiting : (w : World) (e : WorldEvent) (call : Call) → call_of w.packets e ≡ Some call → IsReady c w call → KnowsAll m c w → Inv m c w → Waiting m w → Waiting m (whole c w e call (decision m c w call))
  whole_waiting w e call is r knows inv j =
      let d = decision m c w call in
      lined m (set_member w.members call.node (record { up = true; node = left d })) (w.packets ++ sends_in d.outputs) w.trace _
      (whole_waits m w.members w.packets (commits_in w) _ _ (grows m w _ j) call.node d r.up (patient_at w call _ (brought w.packets e call is) refl r knows inv j))

  torn_waiting : (w : World) (e : WorldEvent) (call : Call) → call_of w.packets e ≡ Some call → IsReady c w call → KnowsAll m c w → Inv m c w → Waiting m w → Waiting m (torn c w e call (decision m c w call))
  torn_waiting w e call is r knows inv j =
      let d = decision m c w call in
      let p = patient_at w call _ (brought w.packets e call is) refl r knows inv j in
      lined m (set_member w.members call.node (stopped d.durable)) w.packets w.trace _
      (stop_waits m w.members w.packets (commits_in w) _ _ (grows m w _ j) call.node d.durable d.commit p.boot p.commit p.served)

  silent_waiting : (w : World) (e : WorldEvent) (call : Call) → call_of w.packets e ≡ Some call → IsReady c w call → KnowsAll m c w → Inv m c w → Waiting m w → Waiting m (silent c w e call (decision m c w call))
  silent_waiting w e call is r knows inv j =
      let d = decision m c w call in
      lined m (set_member w.members call.node (record { up = true; node = left d })) w.packets w.trace _
      (silent_waits m w.members w.packets (commits_in w) _ _ (grows m w _ j) call.node d r.up (patient_at w call _ (brought w.packets e call is) refl r knows inv j))

  pub happens_waits : (w : World) (e : WorldEvent) → KnowsAll m c w → Inv m c w → Waiting m w → Waiting m (happens m c w e)
  happens_waits w e knows inv j = behind m c w (Waiting m) e (record {
    still = j;
    whole_by = λ call is r. whole_waiting w e call is r knows inv j;
    torn_by = λ call is r. torn_waiting w e call is r knows inv j;
    silent_by = λ call is r. silent_waiting w e call is r knows inv j;
    halt_by = λ n asked _. lined m (set_member w.members n (stopped (durable_at w n))) w.packets w.trace _ (stop_waits m w.members w.packets (commits_in w) _ _ (grows m w _ j) n (durable_at w n) None refl tt tt);
    boots_by = λ n p may none same. lined m (set_member w.members n p) w.packets w.trace _ (boot_waits m w.members w.packets (commits_in w) _ _ (grows m w _ j) n p none (ap (λ (d : Durable). d.boot) same ∙ start_boot (setting_of c n ((durable_at w n).boot + 1)) (durable_at w n)));
  })

  pub first_waits : Waiting m nothing_happened
  first_waits = record {
    waits = record {
      want_past = λ from to k b x i. absurd i;
      no_past = λ from to k b x i. absurd i;
      no_excuse = λ from to k b x p i at boot want key. absurd i;
      parked = λ n p i. absurd i;
      excused = tt;
      served = tt;
    };
  }
