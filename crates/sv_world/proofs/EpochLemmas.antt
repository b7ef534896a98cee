-- What a step makes of what nodes know of a key. None takes an epoch back, nor a session that is at hand, but by handing it over.
use Rattle.sv_world.proofs.Prelude.{◌≡◌, ℕ, ◌<◌, true, Option, Some, None, List, arith, refl, sym, ap, ◌∙◌, subst, inl, inr, ⊎_elim, IfSome, Key, Session}
use Rattle.sv_world.proofs.Prelude.{Setting, Past, Packet, Grant, KeyState, Active, Sent, Record, SentRecord, Taken, Meanings, AllTouchOnlyHanded, Node}
use Rattle.sv_world.proofs.Prelude.{epoch_in, known, is_settled, Decision, left, In, mark_of, sends_in, applied, applied_if, Fits, IsJournaled, journaled}
use Rattle.sv_world.proofs.Prelude.{next_key, WorldEvent, Call, states, Cluster, Member, World, durable_at, whole, whole_line, decision, happens, openings_of}
use Rattle.sv_world.proofs.Prelude.{commits_in, IsStep, setting_at, Runs, WasHanded, EpochsRise, StaysAtHand}
use Rattle.std.proofs.Common.{◌⊎◌, ◌+◌}
use Rattle.sv_model.specs.declared.event.Event.TheVariants.{Passivate, Activate}
use Rattle.sv_world.proofs.Events.{IsReady}
use Rattle.sv_world.proofs.Keys.{in_right}
use Rattle.sv_world.proofs.MovesLemmas.{Onward, onward_same, onward_rises, onward_stays, Handed, Came, Ground, record_moves}
use Rattle.sv_world.proofs.ProgressLemmas.{stepping}
use Rattle.sv_world.proofs.QueueLemmas.{Gives, Takes, Queues, decide_queues}
use Rattle.sv_world.proofs.Runs.{Inv, disks_of}
use Rattle.sv_world.proofs.Steps.{active_given, active_within}
use Rattle.sv_world.proofs.Waiting.{by_node}

-- a step of the node handed the session over, and put out its Grant
pub record Gave (c : Cluster) (k : Key) (x : ℕ) (w v : World) (new : Option KeyState) : Type 0 where
  pub epoch : ℕ
  pub session : Session
  pub to : ℕ
  pub was : states w k x ≡ Some (Active epoch session)
  pub now : new ≡ Some (Sent (epoch + 1) session to)
  pub grant : In (Grant x to k (epoch + 1) session) v.packets
  pub handed : WasHanded k x w v
  pub to_is : handed.to ≡ to
  pub runs : Runs c w x

-- a step of the node took it over, and was brought its Grant
pub record Took (k : Key) (x : ℕ) (w : World) (new : Option KeyState) : Type 0 where
  pub epoch : ℕ
  pub session : Session
  pub from : ℕ
  pub up : epoch_in (states w k x) < epoch
  pub now : new ≡ Some (Active epoch session)
  pub grant : In (Grant from x k epoch session) w.packets

abbrev pub Goes : Cluster → Key → ℕ → World → World → Option KeyState → Type 0
Goes c k x w v new = Onward (states w k x) new ⊎ (Gave c k x w v new ⊎ Took k x w new)

abbrev pub GoesTo : Cluster → Key → ℕ → World → World → Type 0
GoesTo c k x w v = Goes c k x w v (states v k x)

-- ---- what is put out and brought with a record

given_with : (ps : List Packet) (set : Setting) (node : Node) (d : Decision) (k : Key) (e to : ℕ) (s : Session) → IsJournaled set node d → Queues ps set node d → d.entry ≡ Some (SentRecord k e to s)
    → In (Grant set.node to k e s) (sends_in d.outputs)
given_with ps set node d k e to s j q is = ⊎_elim
    (λ (quiet : d.mark ≡ None). absurd (let no : None ≡ Some (record { context = s.context; event = Passivate k }) = sym quiet ∙ j.marks ∙ ap mark_of is in cc))
    (λ (spoken : Gives set d ⊎ Takes ps set d). ⊎_elim
    (λ (g : Gives set d).
    let one : Some (SentRecord g.key g.epoch g.to g.session) ≡ Some (SentRecord k e to s) = sym g.entry ∙ is in
    let same : Grant set.node g.to g.key g.epoch g.session ≡ Grant set.node to k e s = cc in
    subst (λ p. In p (sends_in d.outputs)) same g.grant)
    (λ (t : Takes ps set d). absurd (let no : Some (Taken t.key t.epoch t.from t.session) ≡ Some (SentRecord k e to s) = sym t.entry ∙ is in cc))
    spoken)
    q.says

brought_with : (ps : List Packet) (set : Setting) (node : Node) (d : Decision) (k : Key) (e from : ℕ) (s : Session) → IsJournaled set node d → Queues ps set node d → d.entry ≡ Some (Taken k e from s)
    → In (Grant from set.node k e s) ps
brought_with ps set node d k e from s j q is = ⊎_elim
    (λ (quiet : d.mark ≡ None). absurd (let no : None ≡ Some (record { context = s.context; event = Activate k }) = sym quiet ∙ j.marks ∙ ap mark_of is in cc))
    (λ (spoken : Gives set d ⊎ Takes ps set d). ⊎_elim
    (λ (g : Gives set d). absurd (let no : Some (SentRecord g.key g.epoch g.to g.session) ≡ Some (Taken k e from s) = sym g.entry ∙ is in cc))
    (λ (t : Takes ps set d).
    let one : Some (Taken t.key t.epoch t.from t.session) ≡ Some (Taken k e from s) = sym t.entry ∙ is in
    let same : Grant t.from set.node t.key t.epoch t.session ≡ Grant from set.node k e s = cc in
    subst (λ p. In p ps) same t.grant)
    spoken)
    q.says

module _ (m : Meanings) (touches : AllTouchOnlyHanded m) (c : Cluster) where
  pub ground : (w : World) → Inv m c w → (n : ℕ) → Ground n (durable_at w n)
  ground w inv n =
      let j = inv.sane in
      record {
        own = j.own n;
        some = j.counts n;
        unmade = j.unmade n (next_key n (durable_at w n)) (inl (omega arith));
        given = active_given m touches c (disks_of w.members) w.packets (openings_of w.trace) (commits_in w) j n (w.members n).node refl;
        within = active_within m touches c (disks_of w.members) w.packets (openings_of w.trace) (commits_in w) j n (w.members n).node refl;
      }

  pub journal_at : (w : World) (call : Call) → IsJournaled (setting_at c w call.node) (w.members call.node).node (decision m c w call)
  journal_at w call = journaled (setting_at c w call.node) (w.members call.node).node (m call.node (durable_at w call.node).boot) (touches call.node (durable_at w call.node).boot) call.moment call.input

  pub queues_at : (w : World) (call : Call) → IsReady c w call → Queues w.packets (setting_at c w call.node) (w.members call.node).node (decision m c w call)
  queues_at w call r = decide_queues (m call.node (durable_at w call.node).boot) (setting_at c w call.node) (w.members call.node).node call.moment w.packets call.input r.sent

  -- at the node of the step, by its record
  mine : (w : World) (e : WorldEvent) (call : Call) → Inv m c w → IsReady c w call → (k : Key) (o : Option Record) → (decision m c w call).entry ≡ o
      → Goes c k call.node w (whole c w e call (decision m c w call)) (known (decision m c w call).durable k)
  mine w e call inv r k None is =
      let d = decision m c w call in
      let j = journal_at w call in
      inl (onward_same (states w k call.node) (known d.durable k) (ap (λ z. known z k) (j.gives ∙ ap (λ o. applied_if o (durable_at w call.node)) is)))
  mine w e call inv r k (Some entry) is =
      let n = call.node in
      let d = decision m c w call in
      let old = durable_at w n in
      let set = setting_at c w n in
      let node = (w.members n).node in
      let j = journal_at w call in
      let q = queues_at w call r in
      let fits : Fits set Past old entry = subst (λ (o : Option Record). IfSome o (λ x. Fits set Past old x)) is (j.fits Past) in
      let gives : known d.durable k ≡ known (applied entry old) k = ap (λ z. known z k) (j.gives ∙ ap (λ o. applied_if o old) is) in
      ⊎_elim
      (λ (on : Onward (known old k) (known (applied entry old) k)). inl (subst (Onward (known old k)) (sym gives) on))
      (λ (more : Handed entry k (known old k) (known (applied entry old) k) ⊎ Came entry k (known old k) (known (applied entry old) k)). ⊎_elim
      (λ (h : Handed entry k (known old k) (known (applied entry old) k)).
      let says : d.entry ≡ Some (SentRecord k (h.epoch + 1) h.to h.session) = is ∙ ap (λ (x : Record). Some x) h.entry in
      inr (inl (record {
        epoch = h.epoch;
        session = h.session;
        to = h.to;
        was = h.was;
        now = gives ∙ h.now;
        grant = in_right (Grant n h.to k (h.epoch + 1) h.session) w.packets (sends_in d.outputs) (given_with w.packets set node d k (h.epoch + 1) h.to h.session j q says);
        handed = record { line = whole_line c w e call d; trace = refl; node = refl; epoch = h.epoch + 1; to = h.to; session = h.session; entry = says };
        to_is = refl;
        runs = record { up = r.up; there = r.inside };
      })))
      (λ (h : Came entry k (known old k) (known (applied entry old) k)). inr (inr (record {
        epoch = h.epoch;
        session = h.session;
        from = h.from;
        up = h.up;
        now = gives ∙ h.now;
        grant = brought_with w.packets set node d k h.epoch h.from h.session j q (is ∙ ap (λ (x : Record). Some x) h.entry);
      })))
      more)
      (record_moves set old (ground w inv n) entry fits k)

  whole_moves : (w : World) (e : WorldEvent) (call : Call) → Inv m c w → IsReady c w call → (k : Key) (x : ℕ) → GoesTo c k x w (whole c w e call (decision m c w call))
  whole_moves w e call inv r k x =
      let n = call.node in
      let d = decision m c w call in
      let v = whole c w e call d in
      let member : Member = record { up = true; node = left d } in
      by_node (λ y z. Goes c k y w v (known z.node.durable k)) w.members n member x
      (λ same. subst (λ y. Goes c k y w v (known d.durable k)) (sym same) (mine w e call inv r k d.entry refl))
      (λ _. inl (onward_same (states w k x) (states w k x) refl))

  pub step_moves : (w : World) (e : WorldEvent) → IsStep e → Inv m c w → (k : Key) (x : ℕ) → GoesTo c k x w (happens m c w e)
  step_moves w e s inv k x = stepping m c (GoesTo c k x w) w e s (inl (onward_same (states w k x) (states w k x) refl)) (λ call is r. whole_moves w e call inv r k x)

  pub epochs_rise : (w : World) → Inv m c w → EpochsRise m c w
  epochs_rise w inv e s k x =
      let v = happens m c w e in
      ⊎_elim
      (λ (on : Onward (states w k x) (states v k x)). onward_rises (states w k x) (states v k x) on)
      (λ (more : Gave c k x w v (states v k x) ⊎ Took k x w (states v k x)). ⊎_elim
      (λ (g : Gave c k x w v (states v k x)). omega (arith, ap epoch_in g.was, ap epoch_in g.now))
      (λ (t : Took k x w (states v k x)). omega (arith, t.up, ap epoch_in t.now))
      more)
      (step_moves w e s inv k x)

  pub stays_at_hand : (w : World) → Inv m c w → StaysAtHand m c w
  stays_at_hand w inv e s k x settled =
      let v = happens m c w e in
      ⊎_elim
      (λ (on : Onward (states w k x) (states v k x)). inl (onward_stays (states w k x) (states v k x) on settled))
      (λ (more : Gave c k x w v (states v k x) ⊎ Took k x w (states v k x)). ⊎_elim
      (λ (g : Gave c k x w v (states v k x)). inr g.handed)
      (λ (t : Took k x w (states v k x)). inl (ap is_settled t.now))
      more)
      (step_moves w e s inv k x)
