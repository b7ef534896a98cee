-- A list of calls of nodes over their disks is a world: for each call an event or none.
use Rattle.sv_world.proofs.Prelude.{◌≡◌, ◌≢◌, ⊎_elim, ℕ, ◌<◌, ◌==◌, Bool, true, false, cond, Option, Some, None, List, [], ◌∷◌, ◌++◌, refl, sym, ap, ◌∙◌, subst}
use Rattle.sv_world.proofs.Prelude.{eq-eqb, append_assoc, append-nil, zero, suc, nat_lt, is_some, not, map, slice_get, IfSome, flat_map, option_map}
use Rattle.sv_world.proofs.Prelude.{option_to_list, cases_eq, ne_eqb, eqb-true, lt-ltb, cond-true, cond-false, map-append, flat_map-append, Input, Moment}
use Rattle.sv_world.proofs.Prelude.{Token, Setting, Packet, Record, Decision, idle, left, Meanings, always, AllTouchOnlyHanded, EngineMeaning, In, addressee}
use Rattle.sv_world.proofs.Prelude.{sender, on_ours, decided, Durable, Node, last_number, sends_in, applied_if, token_of, Item, asked_of, asked_by, times}
use Rattle.sv_world.proofs.Prelude.{journaled, Open, Step, Unsaid, Compact, Stop, Finished, Refused, Cut, Given, After, quiet, kept, carried_out, node_behind}
use Rattle.sv_world.proofs.Prelude.{Does, runs_behind, restarted, Asked, WorldEvent, Ask, Deliver, Poke, Tick, Crash, Torn, Restart, TornRestart, Line, Done}
use Rattle.sv_world.proofs.Prelude.{deed, line_of, heading_by, heading_at, halted, booted, quiet_at, start_by, NodeCall, Seen, start_at, InTurnAt}
use Rattle.sv_world.proofs.Prelude.{AreOpenedInTurn, WasSent, IsNew, AllMayCome, MayCome, with_number, silent_event, IsCall, AreCalls, AreOfInput, AreOfStop}
use Rattle.sv_world.proofs.Prelude.{AreEventsOf, AreOfAll, shown_at, all_numbers, seen_as, shown_by, nothing_called, AreWorld, step_fault, start_fault}
use Rattle.sv_world.proofs.Prelude.{stop_fault, call_fault, fault_of, whole_action, torn_action, silent_action, action_of, start_in, IsTurn, AreInTurn}
use Rattle.sv_world.proofs.Prelude.{number_of, may_come, Cluster, Member, World, steady, setting_of, set_member, stopped, started, items, item_at, is_there}
use Rattle.sv_world.proofs.Prelude.{is_unused, call_of, happens, run, nothing_happened}
use Rattle.std.proofs.Common.{◌⊎◌, ◌+◌, ◌&&◌}
use Rattle.sv_journal.specs.declared.journal_fault.JournalFault.TheVariants as journal
use Rattle.sv_model.specs.declared.input.Input.TheVariants as input
use Rattle.sv_model.specs.declared.site.StepFault.TheVariants as step
use Rattle.sv_node.specs.declared.fault.OpenFault.TheVariants as opening
use Rattle.sv_node.specs.Call.{Call}
use Rattle.sv_world.specs.declared.event.WorldEvent.TheVariants.{Move}
use Rattle.sv_world.specs.declared.task.Task.TheVariants as task
use Rattle.sv_world.specs.Disks.{is_own, behind, behind_all}
use Rattle.sv_world.proofs.DiskOrder.{asked_in, asked_at, IsDown, IsFresh, Orderly, behind_boot, step_fresh, stays_orderly, comes_new}
use Rattle.sv_world.proofs.HeadlineLemmas.{kept as kept_fit, headline}
use Rattle.sv_world.proofs.ActionLemmas.{done_by, goes}
use Rattle.sv_world.proofs.Events.{run_more}
use Rattle.sv_world.proofs.Rolled.{in_turn}
use Rattle.sv_world.proofs.SentLemmas.{in_sent}
use Rattle.sv_world.proofs.Thrift.{decide_thrifty}

-- ---- what is seen of equal effects

node_in : {a b : After} → a ≡ b → a.node ≡ b.node
node_in is = ap (λ (x : After). x.node) is

puts_in : {a b : After} → a ≡ b → a.outputs ≡ b.outputs
puts_in is = ap (λ (x : After). x.outputs) is

tells_in : {a b : After} → a ≡ b → a.told ≡ b.told
tells_in is = ap (λ (x : After). x.told) is

-- ---- a packet that was sent

member_of : (p : Packet) (ps : List Packet) → In p ps → (k : ℕ) × (slice_get ps k ≡ Some p)
member_of p [] i = absurd i
member_of p (q ∷ ps) i = ⊎_elim
    (λ (here : q ≡ p). (zero, ap Some here))
    (λ (there : In p ps). let r = member_of p ps there in (suc r.0, r.1))
    i

comes : (ps : List Packet) (i : Input) → WasSent ps i → may_come ps i ≡ true
comes ps (input.Ask token r) h = refl
comes ps (input.Packet p) h = in_sent p ps h
comes ps input.Poke h = refl
comes ps input.Tick h = refl
comes ps (input.Move k to) h = refl

-- ---- no fault

no_step_fault : (a b s u : Bool) → a ≡ true → b ≡ true → s ≡ true → u ≡ true → step_fault a b s u ≡ None
no_step_fault a b s u f g h i = λ k. step_fault (f k) (g k) (h k) (i k)

no_start_fault : (a b : Bool) → a ≡ true → b ≡ false → start_fault a b ≡ None
no_start_fault a b f g = λ k. start_fault (f k) (g k)

no_stop_fault : (a b : Bool) → a ≡ true → b ≡ true → stop_fault a b ≡ None
no_stop_fault a b f g = λ k. stop_fault (f k) (g k)

-- ---- a world with one line more, as it is seen

asked_more : (trace : List Line) (l : Line) → asked_of (items (trace ++ l ∷ [])) ≡ asked_of (items trace) ++ option_to_list l.asked
asked_more trace l =
    ap asked_of (map-append item_at trace (l ∷ [])) ∙ flat_map-append (λ (i : Item). option_to_list i.asked) (items trace) (item_at l ∷ [])
    ∙ ap (λ ts. asked_of (items trace) ++ ts) (append-nil (option_to_list l.asked))

shown_more : (trace : List Line) (l : Line) → flat_map shown_by (trace ++ l ∷ []) ≡ flat_map shown_by trace ++ shown_by l
shown_more trace l = flat_map-append shown_by trace (l ∷ []) ∙ ap (λ s. flat_map shown_by trace ++ s) (append-nil (shown_by l))

module _ (m : Meanings) (c : Cluster) (w : World) (n : ℕ) (call : Call) (a : After) where
  abbrev here : Member
  here = w.members n

  abbrev made : NodeCall
  made = record { node = n; call = call; after = a }

  -- the events are those of the call
  abbrev Own : List WorldEvent → Type 0
  Own events = AreEventsOf (seen_as w) made events

  -- the world's events of the call make of it what the call makes
  pub record Simulated : Type 0 where
    pub events : List WorldEvent
    pub own : Own events
    pub seen : seen_as (run m c w events) ≡ behind (seen_as w) made
    pub asked : asked_of (items (run m c w events).trace) ≡ asked_of (items w.trace) ++ asked_at n here.node.durable call
    pub turns : InTurnAt c w.members n call → AreInTurn m c w events

  -- an event that starts a node is of an opening
  abbrev Starts : WorldEvent → Type 0
  Starts e = InTurnAt c w.members n call → IfSome (start_in e) (IsTurn c w.members)

  -- what the call leaves of the node
  abbrev left_member : Member
  left_member = record { up = runs_behind here.up call; node = a.node }

  same_member : here ≡ left_member → (x : ℕ) → w.members x ≡ set_member w.members n left_member x
  same_member is x = ⊎_elim
      (λ (e : x ≡ n). ap w.members e ∙ is ∙ sym (cond-true (x == n) left_member (w.members x) (eq-eqb x n e)))
      (λ (e : x ≢ n). sym (cond-false (x == n) left_member (w.members x) (ne_eqb x n e)))
      (cases_eq x n)

  -- nothing happens
  still : Own [] → here ≡ left_member → a.outputs ≡ [] → asked_at n here.node.durable call ≡ [] → shown_at n here.node.durable call a ≡ [] → Simulated
  still own member silent none unseen = record {
    events = [];
    own = own;
    seen = λ i. record {
      members = λ x. same_member member x i;
      packets = (sym (append-nil w.packets) ∙ ap (λ os. w.packets ++ sends_in os) (sym silent)) i;
      shown = (sym (append-nil (flat_map shown_by w.trace)) ∙ ap (λ s. flat_map shown_by w.trace ++ s) (sym unseen)) i;
    };
    asked = sym (append-nil (asked_of (items w.trace))) ∙ ap (λ ts. asked_of (items w.trace) ++ ts) (sym none);
    turns = λ _. tt;
  }

  -- an event happens that does this
  does : (e : WorldEvent) (d : Done) → Own (e ∷ []) → Starts e → happens m c w e ≡ done_by w e n d → d.member ≡ left_member → d.effect.outputs ≡ a.outputs
      → option_to_list d.effect.heading.asked ≡ asked_at n here.node.durable call → shown_by (line_of e d.effect) ≡ shown_at n here.node.durable call a → Simulated
  does e d own starts happened member puts asks shows = record {
    events = e ∷ [];
    own = own;
    seen = ap seen_as happened ∙ (λ i. record {
      members = set_member w.members n (member i);
      packets = w.packets ++ sends_in (puts i);
      shown = (shown_more w.trace (line_of e d.effect) ∙ ap (λ s. flat_map shown_by w.trace ++ s) shows) i;
    });
    asked = ap (λ (v : World). asked_of (items v.trace)) happened ∙ asked_more w.trace (line_of e d.effect) ∙ ap (λ ts. asked_of (items w.trace) ++ ts) asks;
    turns = λ t. (starts t, tt);
  }

-- ---- silent steps

twice : {A : Type 0} (b : Bool) (x y z : A) → cond b x (cond b y z) ≡ cond b x z
twice true x y z = refl
twice false x y z = refl

module _ (m : Meanings) (c : Cluster) (n boot : ℕ) (inside : n < c.nodes n boot) where
  abbrev of_node : Setting
  of_node = setting_of c n boot

  -- a step keeps the number of the start
  boot_kept : (node : Node) (g : Given) → (decided (m n boot) of_node node g.at g.input).durable.boot ≡ node.durable.boot
  boot_kept node g = (decide_thrifty (always (m n boot)) (steady (c.nodes n boot) (c.rules n boot)) n node g.at g.input).boot

  -- a request that comes is new
  new_by : (w : World) (numbers : List ℕ) → IsFresh (asked_of (items w.trace)) n (w.members n) numbers → (w.members n).up ≡ true → (i : Input) → IsNew numbers i
      → (o : Option Token) → asked_by (token_of of_node (w.members n).node.durable) i ≡ o → is_unused (asked_of (items w.trace)) o ≡ true
  new_by w numbers fresh up i new None is = refl
  new_by w numbers fresh up i new (Some t) is = eq-eqb (times t (asked_of (items w.trace))) 0 (comes_new (asked_of (items w.trace)) n (w.members n) numbers fresh up i new t is)

  -- what one of them does
  abbrev silent_at : World → Given → Done
  silent_at w g = deed (m n boot) of_node (w.members n) (task.Silent g.at g.input)

  abbrev one_silent : World → Given → World
  one_silent w g = done_by w (silent_event n g) n (silent_at w g)

  silent_is : (w : World) (numbers : List ℕ) (g : Given) → (w.members n).node.durable.boot ≡ boot → (w.members n).up ≡ true → IsFresh (asked_of (items w.trace)) n (w.members n) numbers → WasSent w.packets g.input → IsNew numbers g.input → happens m c w (silent_event n g) ≡ one_silent w g
  silent_is w numbers g same up fresh sent new =
      let call : Asked = record { node = n; moment = g.at; input = g.input } in
      (goes c w (silent_action call) (silent_event n g)
      (no_step_fault (is_there c n (w.members n).node.durable.boot) (w.members n).up (may_come w.packets g.input) (is_unused (asked_of (items w.trace)) (asked_by (token_of of_node (w.members n).node.durable) g.input))
      (lt-ltb n (c.nodes n (w.members n).node.durable.boot) (subst (λ b. n < c.nodes n b) (sym same) inside)) up (comes w.packets g.input sent) (new_by w numbers fresh up g.input new _ refl)) refl).happens m
      ∙ ap (λ b. done_by w (silent_event n g) n (deed (m n b) (setting_of c n b) (w.members n) (task.Silent g.at g.input))) same

  -- what all of them make of a world
  pub record Silenced (w v : World) (gs : List Given) : Type 0 where
    pub members : (x : ℕ) → v.members x ≡ set_member w.members n (record { up = true; node = node_behind (m n boot) of_node (w.members n).node gs }) x
    pub packets : v.packets ≡ w.packets
    pub shown : flat_map shown_by v.trace ≡ flat_map shown_by w.trace
    pub asked : asked_of (items v.trace) ≡ asked_of (items w.trace) ++ asked_in n (w.members n).node.durable.boot gs

  at_own : (members : ℕ → Member) (p : Member) → set_member members n p n ≡ p
  at_own members p = cond-true (n == n) p (members n) (eq-eqb n n refl)

  silenced : (w : World) (numbers : List ℕ) (gs : List Given) → (w.members n).node.durable.boot ≡ boot → (w.members n).up ≡ true → IsFresh (asked_of (items w.trace)) n (w.members n) numbers → AllMayCome w.packets numbers gs → Silenced w (run m c w (map (silent_event n) gs)) gs
  silenced w numbers [] same up fresh all = record {
    members = λ x. ⊎_elim
        (λ (e : x ≡ n). ap w.members e ∙ (λ j. record { up = up j; node = (w.members n).node }) ∙ sym (cond-true (x == n) (record { up = true; node = (w.members n).node }) (w.members x) (eq-eqb x n e)))
        (λ (e : x ≢ n). sym (cond-false (x == n) (record { up = true; node = (w.members n).node }) (w.members x) (ne_eqb x n e)))
        (cases_eq x n);
    packets = refl;
    shown = refl;
    asked = sym (append-nil (asked_of (items w.trace)));
  }
  silenced w numbers (g ∷ gs) same up fresh all =
      let node = (w.members n).node in
      let d = decided (m n boot) of_node node g.at g.input in
      let p : Member = record { up = true; node = left d } in
      let v = one_silent w g in
      let l = line_of (silent_event n g) (silent_at w g).effect in
      let es = map (silent_event n) gs in
      let is : happens m c w (silent_event n g) ≡ v = silent_is w numbers g same up fresh all.0.0 all.0.1 in
      let here : v.members n ≡ p = at_own w.members p in
      let asked_v : asked_of (items v.trace) ≡ asked_of (items w.trace) ++ option_to_list (asked_by (token_of of_node node.durable) g.input) = asked_more w.trace l in
      let fresh_v : IsFresh (asked_of (items v.trace)) n (v.members n) (with_number g.input numbers) =
      subst (λ (ts : List Token). IsFresh ts n (v.members n) (with_number g.input numbers)) (sym asked_v)
      (subst (λ (q : Member). IsFresh (asked_of (items w.trace) ++ option_to_list (asked_by (token_of of_node node.durable) g.input)) n q (with_number g.input numbers)) (sym here)
      (λ _. step_fresh (m n boot) (c.nodes n boot) (c.rules n boot) n (w.members n) (carried_out d) (asked_of (items w.trace)) numbers g.at g.input (up, refl) fresh)) in
      let all_v : AllMayCome v.packets (with_number g.input numbers) gs = subst (λ ps. AllMayCome ps (with_number g.input numbers) gs) (sym (append-nil w.packets)) all.1 in
      let number : (v.members n).node.durable.boot ≡ node.durable.boot = ap (λ (q : Member). q.node.durable.boot) here ∙ boot_kept node g in
      let rest = silenced v (with_number g.input numbers) gs (number ∙ same) (ap (λ (q : Member). q.up) here) fresh_v all_v in
      record {
        members = λ x. ap (λ u. (run m c u es).members x) is ∙ rest.members x
            ∙ ap (λ (q : Member). set_member v.members n (record { up = true; node = node_behind (m n boot) of_node q.node gs }) x) here
            ∙ twice (x == n) (record { up = true; node = node_behind (m n boot) of_node (left d) gs }) p (w.members x);
        packets = ap (λ u. (run m c u es).packets) is ∙ rest.packets ∙ append-nil w.packets;
        shown = ap (λ u. flat_map shown_by (run m c u es).trace) is ∙ rest.shown ∙ shown_more w.trace l ∙ append-nil (flat_map shown_by w.trace);
        asked = ap (λ u. asked_of (items (run m c u es).trace)) is ∙ rest.asked ∙ (λ j. asked_v j ++ asked_in n (number j) gs)
            ∙ append_assoc (asked_of (items w.trace)) (option_to_list (asked_by (token_of of_node node.durable) g.input)) (asked_in n node.durable.boot gs);
      }

-- ---- a step

module _ (m : Meanings) (touches : AllTouchOnlyHanded m) (c : Cluster) (w : World) (n : ℕ) (inside : n < c.nodes n (w.members n).node.durable.boot) where
  abbrev at_node : Member
  at_node = w.members n

  -- the number of its last start, with what it was started with
  abbrev boot : ℕ
  boot = at_node.node.durable.boot

  abbrev means : EngineMeaning
  means = m n boot

  abbrev set : Setting
  set = setting_of c n boot

  abbrev asked_with : Input → Option Token
  asked_with i = asked_by (token_of set at_node.node.durable) i

  there : is_there c n boot ≡ true
  there = lt-ltb n (c.nodes n boot) inside

  abbrev step_of : Moment → Input → Asked
  step_of at i = record { node = n; moment = at; input = i }

  -- a step may be taken
  ready : (at : Moment) (i : Input) (o : Option Asked) → o ≡ Some (step_of at i) → at_node.up ≡ true → WasSent w.packets i → is_unused (asked_of (items w.trace)) (asked_with i) ≡ true → call_fault c w o ≡ None
  ready at i o is up sent unused = ap (call_fault c w) is ∙ no_step_fault (is_there c n boot) at_node.up (may_come w.packets i) (is_unused (asked_of (items w.trace)) (asked_with i)) there up (comes w.packets i sent) unused

  module _ (at : Moment) (i : Input) (a : After) (up : at_node.up ≡ true)
      (sent : WasSent w.packets i) (unused : is_unused (asked_of (items w.trace)) (asked_with i) ≡ true) where
    abbrev decision : Decision
    decision = decided means set at_node.node at i

    -- the event that hands the input to its node
    whole_by : (e : WorldEvent) → Own m c w n (Step at i Finished) a (e ∷ []) → call_of w.packets e ≡ Some (step_of at i) → fault_of c w e ≡ call_fault c w (call_of w.packets e) → action_of w.packets e ≡ option_map whole_action (call_of w.packets e)
        → start_in e ≡ None → is_own n i ≡ true → a ≡ carried_out decision → Simulated m c w n (Step at i Finished) a
    whole_by e of_call call fault action none own d =
        does m c w n (Step at i Finished) a e (deed means set at_node (task.Step at i)) of_call (λ _. subst (λ o. IfSome o (IsTurn c w.members)) (sym none) tt)
        ((goes c w (whole_action (step_of at i)) e (fault ∙ ready at i (call_of w.packets e) call up sent unused) (action ∙ ap (option_map whole_action) call)).happens m)
        (λ j. record { up = sym up j; node = sym (node_in d) j }) (sym (puts_in d)) refl
        ((λ j. record { node = n; boot = at_node.node.durable.boot; outputs = sym (puts_in d) j; told = sym (tells_in d) j } ∷ [])
        ∙ sym (cond-true (is_own n i) (record { node = n; boot = at_node.node.durable.boot; outputs = a.outputs; told = a.told } ∷ []) [] own))

    -- the event of a stop inside it
    torn_by_event : (kept_too : Bool) → happens m c w (Torn n at i kept_too) ≡ done_by w (Torn n at i kept_too) n (deed means set at_node (task.Torn at i kept_too))
    torn_by_event kept_too = (goes c w (torn_action kept_too (step_of at i)) (Torn n at i kept_too) (ready at i (Some (step_of at i)) refl up sent unused) refl).happens m

    torn_before : (call : Call) → Own m c w n call a (Torn n at i false ∷ []) → runs_behind at_node.up call ≡ false → asked_at n at_node.node.durable call ≡ option_to_list (asked_with i) → shown_at n at_node.node.durable call a ≡ []
        → a ≡ quiet (kept at_node.node.durable) → Simulated m c w n call a
    torn_before call own ends asks shows l =
        does m c w n call a (Torn n at i false) (deed means set at_node (task.Torn at i false)) own (λ _. tt) (torn_by_event false)
        (λ j. record { up = sym ends j; node = sym (node_in l) j }) (sym (puts_in l)) (sym asks) (sym shows)

    -- the record that the decision may have, and what is kept after it
    torn_behind_by : (call : Call) → ((kept_too : Bool) → Own m c w n call a (Torn n at i kept_too ∷ [])) → runs_behind at_node.up call ≡ false → asked_at n at_node.node.durable call ≡ option_to_list (asked_with i) → shown_at n at_node.node.durable call a ≡ []
        → (entry : Option Record) → decision.entry ≡ entry → decision.durable ≡ applied_if entry at_node.node.durable → a ≡ quiet (kept decision.durable) → Simulated m c w n call a
    torn_behind_by call own ends asks shows None is gives l = torn_before call (own false) ends asks shows (l ∙ ap (λ d. quiet (kept d)) gives)
    torn_behind_by call own ends asks shows (Some r) is gives l =
        let h = heading_by set at_node.node.durable i in
        let torn_done : Done = record { member = stopped decision.durable; effect = quiet_at h decision.entry decision.commit } in
        does m c w n call a (Torn n at i true) torn_done (own true) (λ _. tt)
        (torn_by_event true ∙ ap (done_by w (Torn n at i true) n) (cond-true (is_some decision.entry) torn_done (halted h at_node.node.durable) (ap is_some is)))
        (λ j. record { up = sym ends j; node = sym (node_in l) j }) (sym (puts_in l)) (sym asks) (sym shows)

    torn_behind : (call : Call) → ((kept_too : Bool) → Own m c w n call a (Torn n at i kept_too ∷ [])) → runs_behind at_node.up call ≡ false → asked_at n at_node.node.durable call ≡ option_to_list (asked_with i) → shown_at n at_node.node.durable call a ≡ []
        → a ≡ quiet (kept decision.durable) → Simulated m c w n call a
    torn_behind call own ends asks shows l = torn_behind_by call own ends asks shows decision.entry refl (journaled set at_node.node means (touches n boot) at i).gives l

    torn : (call : Call) → ((kept_too : Bool) → Own m c w n call a (Torn n at i kept_too ∷ [])) → runs_behind at_node.up call ≡ false → asked_at n at_node.node.durable call ≡ option_to_list (asked_with i) → shown_at n at_node.node.durable call a ≡ []
        → (a ≡ quiet (kept at_node.node.durable)) ⊎ (a ≡ quiet (kept decision.durable)) → Simulated m c w n call a
    torn call own ends asks shows l = ⊎_elim (torn_before call (own false) ends asks shows) (torn_behind call own ends asks shows) l

  -- a packet for another node
  not_ours : (at : Moment) (p : Packet) → (addressee p == n) ≡ false → decided means set at_node.node at (input.Packet p) ≡ idle at_node.node []
  not_ours at p other = ap (λ b. cond (b && (not (sender p == n) && nat_lt (sender p) (c.nodes n boot))) (on_ours means set at_node.node at p) (idle at_node.node [])) other

  -- the events of a packet, as it is for this node or for another
  of_packet : (at : Moment) (p : Packet) (events : List WorldEvent) (b : Bool) → (addressee p == n) ≡ b
      → cond b ((place : ℕ) × (slice_get w.packets place ≡ Some p) × (events ≡ Deliver at place ∷ [])) (events ≡ []) → AreOfInput w.packets n at (input.Packet p) events
  of_packet at p events b is own = subst (λ (own_packet : Bool). cond own_packet ((place : ℕ) × (slice_get w.packets place ≡ Some p) × (events ≡ Deliver at place ∷ [])) (events ≡ [])) (sym is) own

  whole_packet : (at : Moment) (p : Packet) (a : After) → at_node.up ≡ true → WasSent w.packets (input.Packet p) → is_unused (asked_of (items w.trace)) (asked_with (input.Packet p)) ≡ true
      → (b : Bool) → (addressee p == n) ≡ b → a ≡ carried_out (decided means set at_node.node at (input.Packet p)) → Simulated m c w n (Step at (input.Packet p) Finished) a
  whole_packet at p a up sent unused true own d =
      let k = member_of p w.packets sent in
      let call : call_of w.packets (Deliver at k.0) ≡ Some (step_of at (input.Packet p)) =
      ap (option_map (λ q. record { node = addressee q; moment = at; input = input.Packet q })) k.1 ∙ (λ j. Some (record { node = eqb-true (addressee p) n own j; moment = at; input = input.Packet p })) in
      whole_by at (input.Packet p) a up sent unused (Deliver at k.0) (of_packet at p (Deliver at k.0 ∷ []) true own (k.0, k.1, refl)) call refl refl refl own d
  whole_packet at p a up sent unused false other d =
      let e : a ≡ carried_out (idle at_node.node []) = d ∙ ap carried_out (not_ours at p other) in
      still m c w n (Step at (input.Packet p) Finished) a (of_packet at p [] false other refl) (λ j. record { up = at_node.up; node = sym (node_in e) j }) (puts_in e) refl
      (cond-false (is_own n (input.Packet p)) (record { node = n; boot = at_node.node.durable.boot; outputs = a.outputs; told = a.told } ∷ []) [] other)

  whole : (at : Moment) (i : Input) (a : After) → at_node.up ≡ true → WasSent w.packets i → is_unused (asked_of (items w.trace)) (asked_with i) ≡ true
      → a ≡ carried_out (decided means set at_node.node at i) → Simulated m c w n (Step at i Finished) a
  whole at (input.Ask token r) a up sent unused d = whole_by at (input.Ask token r) a up sent unused (Ask n at token r) refl refl refl refl refl refl d
  whole at (input.Packet p) a up sent unused d = whole_packet at p a up sent unused (addressee p == n) refl d
  whole at input.Poke a up sent unused d = whole_by at input.Poke a up sent unused (Poke n at) refl refl refl refl refl refl d
  whole at input.Tick a up sent unused d = whole_by at input.Tick a up sent unused (Tick n at) refl refl refl refl refl refl d
  whole at (input.Move k to) a up sent unused d = whole_by at (input.Move k to) a up sent unused (Move n at k to) refl refl refl refl refl refl d

  -- ---- a stop between two calls

  crash_goes : at_node.up ≡ true → happens m c w (Crash n) ≡ done_by w (Crash n) n (halted (heading_at set at_node.node.durable None) at_node.node.durable)
  crash_goes up = (goes c w (record { node = n; task = task.Stop }) (Crash n) (no_stop_fault (is_there c n boot) at_node.up there up) refl).happens m

  stops_by : (call : Call) (a : After) → ((b : Bool) → at_node.up ≡ b → Own m c w n call a (cond b (Crash n ∷ []) [])) → runs_behind at_node.up call ≡ false → asked_at n at_node.node.durable call ≡ [] → shown_at n at_node.node.durable call a ≡ []
      → IsDown at_node.up at_node.node → a ≡ quiet (kept at_node.node.durable) → (b : Bool) → at_node.up ≡ b → Simulated m c w n call a
  stops_by call a own ends asks shows was l true up =
      does m c w n call a (Crash n) (halted (heading_at set at_node.node.durable None) at_node.node.durable) (own true up) (λ _. tt) (crash_goes up) (λ j. record { up = sym ends j; node = sym (node_in l) j }) (sym (puts_in l)) (sym asks) (sym shows)
  stops_by call a own ends asks shows was l false down =
      still m c w n call a (own false down) (λ j. record { up = (down ∙ sym ends) j; node = (was down ∙ sym (node_in l)) j }) (puts_in l) asks shows

  -- a call that does nothing
  nothing_by : (call : Call) (a : After) → Own m c w n call a [] → runs_behind at_node.up call ≡ at_node.up → asked_at n at_node.node.durable call ≡ [] → shown_at n at_node.node.durable call a ≡ []
      → a ≡ quiet at_node.node → Simulated m c w n call a
  nothing_by call a own goes_on asks shows l = still m c w n call a own (λ j. record { up = sym goes_on j; node = sym (node_in l) j }) (puts_in l) asks shows

  there_still : {b : ℕ} → boot ≡ b → is_there c n b ≡ true
  there_still same = subst (λ b. is_there c n b ≡ true) same there

  stop_events : (b : Bool) → at_node.up ≡ b → AreOfStop at_node.up n (cond b (Crash n ∷ []) [])
  stop_events b is = λ j. cond (sym is j) (Crash n ∷ []) []

  -- ---- steps that were made durable at once, and of which nothing has left

  no_starts : (v : World) (gs : List Given) → AreInTurn m c v (map (silent_event n) gs ++ Crash n ∷ [])
  no_starts v [] = (tt, tt)
  no_starts v (g ∷ gs) = (tt, no_starts (happens m c v (silent_event n g)) gs)

  unsaid : (numbers : List ℕ) → IsFresh (asked_of (items w.trace)) n at_node numbers → (gs : List Given) (a : After) → at_node.up ≡ true → AllMayCome w.packets numbers gs → a ≡ quiet (kept (node_behind means set at_node.node gs).durable) → Simulated m c w n (Unsaid gs) a
  unsaid numbers fresh gs a up all d =
      let es = map (silent_event n) gs in
      let v = run m c w es in
      let s = silenced m c n boot inside w numbers gs refl up fresh all in
      let behind_them = node_behind means set at_node.node gs in
      let q : Member = record { up = true; node = behind_them } in
      let here : v.members n ≡ q = s.members n ∙ at_own m c n boot inside w.members q in
      let number : (v.members n).node.durable.boot ≡ boot = ap (λ (p : Member). p.node.durable.boot) here ∙ behind_boot means (c.nodes n boot) (c.rules n boot) n at_node a at_node.node gs in
      let down : Done = halted (heading_at set (v.members n).node.durable None) (v.members n).node.durable in
      let l = line_of (Crash n) down.effect in
      let crash : run m c w (es ++ Crash n ∷ []) ≡ done_by v (Crash n) n down =
      sym (run_more m c w es (Crash n ∷ [])) ∙ (goes c v (record { node = n; task = task.Stop }) (Crash n) (no_stop_fault (is_there c n (v.members n).node.durable.boot) (v.members n).up (there_still (sym number)) (ap (λ (p : Member). p.up) here)) refl).happens m in
      record {
        events = es ++ Crash n ∷ [];
        own = refl;
        seen = ap seen_as crash ∙ (λ j. record {
          members = λ x. (ap (λ (p : Member). cond (x == n) (stopped p.node.durable) (v.members x)) here ∙ ap (cond (x == n) (stopped behind_them.durable)) (s.members x)
              ∙ twice (x == n) (stopped behind_them.durable) q (w.members x) ∙ (λ k. cond (x == n) (record { up = false; node = sym (node_in d) k }) (w.members x))) j;
          packets = (append-nil v.packets ∙ s.packets ∙ sym (append-nil w.packets) ∙ ap (λ os. w.packets ++ sends_in os) (sym (puts_in d))) j;
          shown = (shown_more v.trace l ∙ append-nil (flat_map shown_by v.trace) ∙ s.shown ∙ sym (append-nil (flat_map shown_by w.trace))) j;
        });
        asked = ap (λ (u : World). asked_of (items u.trace)) crash ∙ asked_more v.trace l ∙ append-nil (asked_of (items v.trace)) ∙ s.asked;
        turns = λ _. no_starts w gs;
      }

  unused_by : (numbers : List ℕ) → IsFresh (asked_of (items w.trace)) n at_node numbers → at_node.up ≡ true → (i : Input) → IsNew numbers i → (o : Option Token) → asked_with i ≡ o → is_unused (asked_of (items w.trace)) o ≡ true
  unused_by numbers fresh up i new None is = refl
  unused_by numbers fresh up i new (Some t) is = eq-eqb (times t (asked_of (items w.trace))) 0 (comes_new (asked_of (items w.trace)) n at_node numbers fresh up i new t is)

  unused_at : (numbers : List ℕ) → IsFresh (asked_of (items w.trace)) n at_node numbers → at_node.up ≡ true → (i : Input) → IsNew numbers i → is_unused (asked_of (items w.trace)) (asked_with i) ≡ true
  unused_at numbers fresh up i new = unused_by numbers fresh up i new (asked_with i) refl

-- ---- a start

module _ (m : Meanings) (c : Cluster) (w : World) (n : ℕ) (inside : n < c.nodes n ((w.members n).node.durable.boot + 1)) where
  abbrev old_member : Member
  old_member = w.members n

  -- the number of the start that is made, with what it is made with
  abbrev next_boot : ℕ
  next_boot = old_member.node.durable.boot + 1

  abbrev next_set : Setting
  next_set = setting_of c n next_boot

  start_ready : old_member.up ≡ false → start_fault (is_there c n next_boot) old_member.up ≡ None
  start_ready down = no_start_fault (is_there c n next_boot) old_member.up (lt-ltb n (c.nodes n next_boot) inside) down

  -- its record stands, and the node runs or has stopped again
  started_by : (e : WorldEvent) (member : Durable → Member) (call : Call) (a : After) → happens m c w e ≡ done_by w e n (start_by next_set old_member.node.durable true member)
      → Own m c w n call a (e ∷ []) → Starts m c w n call a e → member (restarted next_set old_member.node.durable) ≡ left_member m c w n call a → old_member.node.durable.boot ≢ last_number → a.outputs ≡ []
      → asked_at n old_member.node.durable call ≡ [] → shown_at n old_member.node.durable call a ≡ [] → Simulated m c w n call a
  started_by e member call a happened own starts is some silent asks shows =
      let d = old_member.node.durable in
      let h = heading_at next_set d None in
      does m c w n call a e (booted next_set h d member) own starts
      (happened ∙ ap (done_by w e n) (ap (λ b. cond (true && not b) (booted next_set h d member) (halted h d)) (ne_eqb d.boot last_number some)))
      is (sym silent) (sym asks) (sym shows)

  -- no record of it stands
  halted_by : (e : WorldEvent) (kept_too : Bool) (member : Durable → Member) (call : Call) (a : After) → happens m c w e ≡ done_by w e n (start_by next_set old_member.node.durable kept_too member)
      → Own m c w n call a (e ∷ []) → Starts m c w n call a e → (kept_too && not (old_member.node.durable.boot == last_number)) ≡ false
      → stopped old_member.node.durable ≡ left_member m c w n call a → a.outputs ≡ []
      → asked_at n old_member.node.durable call ≡ [] → shown_at n old_member.node.durable call a ≡ [] → Simulated m c w n call a
  halted_by e kept_too member call a happened own starts unkept is silent asks shows =
      let d = old_member.node.durable in
      let h = heading_at next_set d None in
      does m c w n call a e (halted h d) own starts
      (happened ∙ ap (done_by w e n) (cond-false (kept_too && not (d.boot == last_number)) (booted next_set h d member) (halted h d) unkept))
      is (sym silent) (sym asks) (sym shows)

  restart_goes : old_member.up ≡ false → happens m c w (Restart n) ≡ done_by w (Restart n) n (start_by next_set old_member.node.durable true started)
  restart_goes down = (goes c w (record { node = n; task = task.Start }) (Restart n) (start_ready down) refl).happens m

  torn_restart_goes : (kept_too : Bool) → old_member.up ≡ false → happens m c w (TornRestart n kept_too) ≡ done_by w (TornRestart n kept_too) n (start_by next_set old_member.node.durable kept_too stopped)
  torn_restart_goes kept_too down = (goes c w (record { node = n; task = task.TornStart kept_too }) (TornRestart n kept_too) (start_ready down) refl).happens m

  module _ (a : After) (down : old_member.up ≡ false) (was : IsDown old_member.up old_member.node) where
    opened : old_member.node.durable.boot ≢ last_number → a ≡ quiet (kept (restarted next_set old_member.node.durable)) → Simulated m c w n (Open Finished) a
    opened some l =
        started_by (Restart n) started (Open Finished) a (restart_goes down) refl (λ t. t) (λ j. record { up = true; node = sym (node_in l) j }) some (puts_in l) refl refl

    -- nothing is there but what was durable
    same_stopped : a ≡ quiet old_member.node → a.node ≡ kept old_member.node.durable
    same_stopped l = (node_in l) ∙ was down

    open_spent : old_member.node.durable.boot ≡ last_number → a ≡ quiet old_member.node → Simulated m c w n (Open (Refused opening.Damaged)) a
    open_spent last l =
        halted_by (Restart n) true started (Open (Refused opening.Damaged)) a (restart_goes down) refl (λ t. t) (ap not (eq-eqb old_member.node.durable.boot last_number last))
        (λ j. record { up = false; node = sym (same_stopped l) j }) (puts_in l) refl refl

    -- a stop before its record
    open_before : (call : Call) → Own m c w n call a (TornRestart n false ∷ []) → Starts m c w n call a (Restart n) → runs_behind old_member.up call ≡ false → asked_at n old_member.node.durable call ≡ [] → shown_at n old_member.node.durable call a ≡ []
        → a.node ≡ kept old_member.node.durable → a.outputs ≡ [] → Simulated m c w n call a
    open_before call own starts ends asks shows is silent =
        halted_by (TornRestart n false) false stopped call a (torn_restart_goes false down) own starts refl (λ j. record { up = sym ends j; node = sym is j }) silent asks shows

    -- a stop after its record
    open_behind : (call : Call) → Own m c w n call a (TornRestart n true ∷ []) → Starts m c w n call a (Restart n) → runs_behind old_member.up call ≡ false → asked_at n old_member.node.durable call ≡ [] → shown_at n old_member.node.durable call a ≡ []
        → old_member.node.durable.boot ≢ last_number → a ≡ quiet (kept (restarted next_set old_member.node.durable)) → Simulated m c w n call a
    open_behind call own starts ends asks shows some l =
        started_by (TornRestart n true) stopped call a (torn_restart_goes true down) own starts (λ j. record { up = sym ends j; node = sym (node_in l) j }) some (puts_in l) asks shows

    open_stops : (call : Call) → ((kept_too : Bool) → Own m c w n call a (TornRestart n kept_too ∷ [])) → Starts m c w n call a (Restart n) → runs_behind old_member.up call ≡ false → asked_at n old_member.node.durable call ≡ [] → shown_at n old_member.node.durable call a ≡ []
        → (a ≡ quiet (kept old_member.node.durable)) ⊎ ((old_member.node.durable.boot ≢ last_number) × (a ≡ quiet (kept (restarted next_set old_member.node.durable)))) → Simulated m c w n call a
    open_stops call own starts ends asks shows l = ⊎_elim
        (λ (x : a ≡ quiet (kept old_member.node.durable)). open_before call (own false) starts ends asks shows (node_in x) (puts_in x))
        (λ (x : (old_member.node.durable.boot ≢ last_number) × (a ≡ quiet (kept (restarted next_set old_member.node.durable)))). open_behind call (own true) starts ends asks shows x.0 x.1)
        l

-- ---- each call

module _ (m : Meanings) (touches : AllTouchOnlyHanded m) (c : Cluster) (w : World) (n : ℕ) where
  abbrev its_member : Member
  its_member = w.members n

  abbrev number : Call → ℕ
  number call = number_of its_member.node.durable call

  simulated : (numbers : List ℕ) → IsFresh (asked_of (items w.trace)) n its_member numbers → (call : Call) (a : After) → n < c.nodes n (number call) → IsDown its_member.up its_member.node → MayCome w.packets numbers call → Does (m n (number call)) (setting_of c n (number call)) its_member.up its_member.node call a → Simulated m c w n call a
  simulated numbers fresh (Open Finished) a inside was comes d = opened m c w n inside a d.0 was d.1 d.2
  simulated numbers fresh (Open (Refused opening.Damaged)) a inside was comes d = open_spent m c w n inside a d.0 was d.1 d.2
  simulated numbers fresh (Open (Refused opening.Full)) a inside was comes d = open_before m c w n inside a d.0 was (Open (Refused opening.Full)) refl (λ t. t) refl refl refl (same_stopped m c w n inside a d.0 was d.1) (puts_in d.1)
  simulated numbers fresh (Open (Refused opening.Memory)) a inside was comes d = open_before m c w n inside a d.0 was (Open (Refused opening.Memory)) refl (λ t. t) refl refl refl (same_stopped m c w n inside a d.0 was d.1) (puts_in d.1)
  simulated numbers fresh (Open (Refused opening.Device)) a inside was comes d = open_stops m c w n inside a d.0 was (Open (Refused opening.Device)) (λ kept_too. (kept_too, refl)) (λ t. t) refl refl refl d.1
  simulated numbers fresh (Open Cut) a inside was comes d = open_stops m c w n inside a d.0 was (Open Cut) (λ kept_too. (kept_too, refl)) (λ t. t) refl refl refl d.1
  simulated numbers fresh (Step at i Finished) a inside was comes d = whole m touches c w n inside at i a d.0 comes.0 (unused_at m touches c w n inside numbers fresh d.0 i comes.1) d.1
  simulated numbers fresh (Step at i (Refused step.Failed)) a inside was comes d = nothing_by m touches c w n inside (Step at i (Refused step.Failed)) a refl refl refl refl d.1
  simulated numbers fresh (Step at i (Refused step.Full)) a inside was comes d = nothing_by m touches c w n inside (Step at i (Refused step.Full)) a refl refl refl refl d
  simulated numbers fresh (Step at i (Refused step.Memory)) a inside was comes d = nothing_by m touches c w n inside (Step at i (Refused step.Memory)) a refl refl refl refl d
  simulated numbers fresh (Step at i (Refused step.Device)) a inside was comes d = torn m touches c w n inside at i a d.0 comes.0 (unused_at m touches c w n inside numbers fresh d.0 i comes.1) (Step at i (Refused step.Device)) (λ kept_too. (kept_too, refl)) refl refl refl d.1
  simulated numbers fresh (Step at i Cut) a inside was comes d = torn m touches c w n inside at i a d.0 comes.0 (unused_at m touches c w n inside numbers fresh d.0 i comes.1) (Step at i Cut) (λ kept_too. (kept_too, refl)) refl refl refl d.1
  simulated numbers fresh (Unsaid gs) a inside was comes d = unsaid m touches c w n inside numbers fresh gs a d.0 comes d.1
  simulated numbers fresh (Compact Finished) a inside was comes d = nothing_by m touches c w n inside (Compact Finished) a refl refl refl refl d
  simulated numbers fresh (Compact (Refused journal.Damaged)) a inside was comes d = absurd d
  simulated numbers fresh (Compact (Refused journal.Failed)) a inside was comes d = nothing_by m touches c w n inside (Compact (Refused journal.Failed)) a refl refl refl refl d
  simulated numbers fresh (Compact (Refused journal.Full)) a inside was comes d = nothing_by m touches c w n inside (Compact (Refused journal.Full)) a refl refl refl refl d
  simulated numbers fresh (Compact (Refused journal.Memory)) a inside was comes d = nothing_by m touches c w n inside (Compact (Refused journal.Memory)) a refl refl refl refl d
  simulated numbers fresh (Compact (Refused journal.Device)) a inside was comes d = stops_by m touches c w n inside (Compact (Refused journal.Device)) a (stop_events m touches c w n inside) refl refl refl was d its_member.up refl
  simulated numbers fresh (Compact Cut) a inside was comes d = stops_by m touches c w n inside (Compact Cut) a (stop_events m touches c w n inside) refl refl refl was d its_member.up refl
  simulated numbers fresh Stop a inside was comes d = stops_by m touches c w n inside Stop a (stop_events m touches c w n inside) refl refl refl was d its_member.up refl

-- ---- a list of calls

module _ (m : Meanings) (touches : AllTouchOnlyHanded m) (c : Cluster) where
  -- a world leads on to what all calls make of it
  pub record Leads (w : World) (calls : List NodeCall) : Type 0 where
    pub events : List WorldEvent
    pub own : AreOfAll (seen_as w) calls events
    pub seen : seen_as (run m c w events) ≡ behind_all (seen_as w) calls
    pub turns : AreOpenedInTurn c (seen_as w) calls → AreInTurn m c w events

  turns_more : (w : World) (es fs : List WorldEvent) → AreInTurn m c w es → AreInTurn m c (run m c w es) fs → AreInTurn m c w (es ++ fs)
  turns_more w [] fs a b = b
  turns_more w (e ∷ es) fs a b = (a.0, turns_more (happens m c w e) es fs a.1 b)

  leads : (w : World) (numbers : ℕ → List ℕ) (calls : List NodeCall) → Orderly w.members (asked_of (items w.trace)) numbers → AreCalls m c (seen_as w) numbers calls → Leads w calls
  leads w numbers [] o all = record { events = []; own = refl; seen = refl; turns = λ _. tt }
  leads w numbers (l ∷ ls) o all =
      let is : IsCall m c (seen_as w) numbers l = all.0 in
      let n = l.node in
      let boot = start_at (seen_as w) l in
      let one = simulated m touches c w n (numbers n) (o.fresh n) l.call l.after is.inside (o.down n) is.comes is.does in
      let v = run m c w one.events in
      let more = all_numbers numbers l in
      let behind_it = stays_orderly (m n boot) (c.nodes n boot) (c.rules n boot) w.members (asked_of (items w.trace)) numbers n l.call l.after is.does o in
      let orderly : Orderly v.members (asked_of (items v.trace)) more =
      subst (λ (ts : List Token). Orderly v.members ts more) (sym one.asked) (subst (λ (s : Seen). Orderly s.members (asked_of (items w.trace) ++ asked_at n (w.members n).node.durable l.call) more) (sym one.seen) behind_it) in
      let rest = leads v more ls orderly (subst (λ (s : Seen). AreCalls m c s more ls) (sym one.seen) all.1) in
      record {
        events = one.events ++ rest.events;
        own = (one.events, rest.events, refl, one.own, subst (λ (s : Seen). AreOfAll s ls rest.events) one.seen rest.own);
        seen = ap seen_as (sym (run_more m c w one.events rest.events)) ∙ rest.seen ∙ ap (λ s. behind_all s ls) one.seen;
        turns = λ t. turns_more w one.events rest.events (one.turns t.0) (rest.turns (subst (λ (s : Seen). AreOpenedInTurn c s ls) (sym one.seen) t.1));
      }

  pub are_world : (calls : List NodeCall) → AreCalls m c nothing_called (λ _. []) calls → AreWorld m c calls
  are_world calls all =
      let first : Orderly nothing_happened.members [] (λ _. []) = record { down = λ n off. refl; fresh = λ n up number new. refl; past = λ n boot number less. refl } in
      let l = leads nothing_happened (λ _. []) calls first all in
      record { events = l.events; own = l.own; seen = l.seen; headline = headline m touches c l.events; knows = λ t. in_turn m c touches l.events (l.turns t); fit = λ wide within. (kept_fit m touches c wide within l.events).fits }
