-- While nodes run, nobody is forgotten, and a tick ends all waiting whose time has come.
use Rattle.sv_world.proofs.Prelude.{◌≡◌, ◌≢◌, ℕ, Bool, true, false, Option, Some, None, List, [], ◌∷◌, ◌++◌, arith, refl, sym, ap, ◌∙◌, subst, ⊎_elim, not}
use Rattle.sv_world.proofs.Prelude.{option_to_list, filter, filter_map, cond_both, cond-true, and_from, lt-ltb, leb-false, is_late, Moment, Token, Packet}
use Rattle.sv_world.proofs.Prelude.{Parked, Setting, Meanings, left, commits_of, asked_of, refused_of, served_of, refusal_in, times, is_of, In, token_of}
use Rattle.sv_world.proofs.Prelude.{WorldEvent, Ask, Deliver, Poke, Tick, Crash, Torn, Silent, Restart, TornRestart, Line, Call, may_come, Cluster, Member}
use Rattle.sv_world.proofs.Prelude.{World, set_member, setting_of, durable_at, items, commits_in, whole, decision, steps, happens, run, item_at, is_ready}
use Rattle.sv_world.proofs.Prelude.{is_there, is_unused, call_of, token_of_call, boot_of, IsStep, AreSteps, waiting, accounted_in, IsKept, setting_at}
use Rattle.sv_world.proofs.Prelude.{nodes_told, Runs, NobodyIsForgotten, TicksEndWaiting}
use Rattle.std.proofs.Common.{◌+◌}
use Rattle.sv_model.specs.declared.input.Input.TheVariants as input
use Rattle.sv_world.specs.declared.event.WorldEvent.TheVariants.{Move}
use Rattle.sv_world.proofs.Events.{IsReady, readies}
use Rattle.sv_world.proofs.Keys.{not_true}
use Rattle.sv_world.proofs.Arrivals.{one_if, times_one, asked_snoc, items_snoc}
use Rattle.sv_world.proofs.Waiting.{by_node}
use Rattle.sv_world.proofs.Thrift.{waiting_none}
use Rattle.sv_world.proofs.Tokens.{served_snoc, refused_snoc, elsewhere, thrifty_at}
use Rattle.sv_world.proofs.Runs.{commits_snoc}

-- a record, so that its arguments are found
pub record Kept (w v : World) : Type 0 where
  pub count : IsKept w v

pub kept_same : (w : World) → Kept w w
kept_same w = record { count = λ t. refl }

pub kept_then : (w v u : World) → Kept w v → Kept v u → Kept w u
kept_then w v u a b = record { count = λ t. omega (arith, a.count t, b.count t) }

-- a whole step accounts for the one that came, and for those that wait
grows : (w : World) (n : ℕ) (p : Member) (l : Line)
    → ((t : Token) → t.node ≡ n → times t (served_of (option_to_list l.commit)) + times t (item_at l).refused + waiting t n (boot_of p) p.node.parked ≡ waiting t n (boot_of (w.members n)) (w.members n).node.parked + one_if (is_of t l.asked))
    → ((t : Token) → t.node ≢ n → times t (served_of (option_to_list l.commit)) + times t (item_at l).refused + one_if (is_of t l.asked) ≡ 0)
    → (packets : List Packet) → Kept w (record { members = set_member w.members n p; packets = packets; trace = w.trace ++ l ∷ [] })
grows w n p l here there packets =
    let served : (t : Token) → times t (served_of (commits_of (items (w.trace ++ l ∷ [])))) ≡ times t (served_of (commits_in w)) + times t (served_of (option_to_list l.commit)) = λ t. ap (λ cs. times t (served_of cs)) (commits_snoc w.trace l) ∙ served_snoc t (commits_in w) l.commit in
    let refused : (t : Token) → times t (refused_of (items (w.trace ++ l ∷ []))) ≡ times t (refused_of (items w.trace)) + times t (item_at l).refused = λ t. ap (λ is. times t (refused_of is)) (items_snoc w.trace l) ∙ refused_snoc t (items w.trace) (item_at l) in
    let asked : (t : Token) → times t (asked_of (items (w.trace ++ l ∷ []))) ≡ times t (asked_of (items w.trace)) + one_if (is_of t l.asked) = λ t. ap (λ is. times t (asked_of is)) (items_snoc w.trace l) ∙ asked_snoc t (items w.trace) (item_at l) in
    record {
      count = λ t. by_node (λ y z. t.node ≡ y → times t (asked_of (items (w.trace ++ l ∷ []))) + accounted_in w t ≡ times t (asked_of (items w.trace)) + (times t (served_of (commits_of (items (w.trace ++ l ∷ [])))) + times t (refused_of (items (w.trace ++ l ∷ []))) + waiting t y (boot_of z) z.node.parked)) w.members n p t.node
          (λ e _. omega (arith, served t, refused t, asked t, here t e, ap (λ y. waiting t y (boot_of p) p.node.parked) e, ap (λ y. waiting t y (boot_of (w.members y)) (w.members y).node.parked) e))
          (λ e _. omega (arith, served t, refused t, asked t, there t e)) refl;
    }

module _ (m : Meanings) (c : Cluster) where
  outside : (w : World) (call : Call) (t : Token) → t.node ≢ call.node
      → times t (served_of (option_to_list (decision m c w call).commit)) + times t (filter_map (refusal_in (token_of (setting_at c w call.node) (durable_at w call.node))) (decision m c w call).outputs) + one_if (is_of t (token_of_call c w call)) ≡ 0
  outside w call t ne =
      let h = thrifty_at m c w call in
      omega (arith, h.count t, waiting_none t call.node (durable_at w call.node).boot (w.members call.node).node.parked ne, times_one t (token_of_call c w call), ap one_if (elsewhere m c (durable_at w call.node) call.node call.input t ne))

  whole_kept : (w : World) (e : WorldEvent) (call : Call) → Kept w (whole c w e call (decision m c w call))
  whole_kept w e call =
      let d = decision m c w call in
      let n = call.node in
      let h = thrifty_at m c w call in
      grows w n (record { up = true; node = left d }) _
      (λ t here. omega (arith, h.count t, ap (λ b. waiting t n b d.parked) h.boot, times_one t (token_of_call c w call)))
      (λ t ne. outside w call t ne) _

  -- what holds of a world and after each whole step holds after a step of one that may be none
  by_call : (P : World → Type 0) (w : World) (e : WorldEvent) (o : Option Call) → call_of w.packets e ≡ o → P w → ((call : Call) → call_of w.packets e ≡ Some call → IsReady c w call → P (whole c w e call (decision m c w call))) → P (steps m c w e o)
  by_call P w e None is h f = h
  by_call P w e (Some call) is h f = cond_both (is_ready c w call) (whole c w e call (decision m c w call)) w P (λ t. f call is (readies c w call t)) (λ _. h)

  pub stepping : (P : World → Type 0) (w : World) (e : WorldEvent) → IsStep e → P w → ((call : Call) → call_of w.packets e ≡ Some call → IsReady c w call → P (whole c w e call (decision m c w call))) → P (happens m c w e)
  stepping P w (Ask n moment token r) s h f = by_call P w (Ask n moment token r) (call_of w.packets (Ask n moment token r)) refl h f
  stepping P w (Deliver moment place) s h f = by_call P w (Deliver moment place) (call_of w.packets (Deliver moment place)) refl h f
  stepping P w (Poke n moment) s h f = by_call P w (Poke n moment) (call_of w.packets (Poke n moment)) refl h f
  stepping P w (Tick n moment) s h f = by_call P w (Tick n moment) (call_of w.packets (Tick n moment)) refl h f
  stepping P w (Move n moment k to) s h f = by_call P w (Move n moment k to) (call_of w.packets (Move n moment k to)) refl h f
  stepping P w (Crash n) s h f = absurd s
  stepping P w (Torn n moment given kept) s h f = absurd s
  stepping P w (Silent n moment given) s h f = absurd s
  stepping P w (Restart n) s h f = absurd s
  stepping P w (TornRestart n kept) s h f = absurd s

  step_kept : (w : World) (e : WorldEvent) → IsStep e → Kept w (happens m c w e)
  step_kept w e s = stepping (Kept w) w e s (kept_same w) (λ call is r. whole_kept w e call)

  pub run_kept : (w : World) (es : List WorldEvent) → AreSteps es → Kept w (run m c w es)
  run_kept w [] h = kept_same w
  run_kept w (e ∷ es) h = kept_then w (happens m c w e) (run m c (happens m c w e) es) (step_kept w e h.0) (run_kept (happens m c w e) es h.1)

  pub nobody_is_forgotten : (w : World) → NobodyIsForgotten m c w
  nobody_is_forgotten w es h = (run_kept w es h).count

-- ---- a tick

stays_early : (late : Parked → Bool) (ps : List Parked) (p : Parked) → In p (filter (λ q. not (late q)) ps) → late p ≡ false
stays_early late [] p i = absurd i
stays_early late (q ∷ ps) p i = cond_both (not (late q)) (q ∷ filter (λ x. not (late x)) ps) (filter (λ x. not (late x)) ps) (λ xs. In p xs → late p ≡ false)
    (λ t j. ⊎_elim (λ (e : q ≡ p). ap late (sym e) ∙ not_true (late q) t) (λ (r : In p (filter (λ x. not (late x)) ps)). stays_early late ps p r) j)
    (λ _ j. stays_early late ps p j)
    i

-- a node that runs can take each step that is no request and no packet
pub ready_by : (c : Cluster) (w : World) (call : Call) → Runs c w call.node → may_come w.packets call.input ≡ true → token_of_call c w call ≡ None → is_ready c w call ≡ true
ready_by c w call r may none =
    let unused : is_unused (asked_of (items w.trace)) (token_of_call c w call) ≡ true = ap (is_unused (asked_of (items w.trace))) none in
    and_from (is_there c call.node (durable_at w call.node).boot) _ (lt-ltb call.node (nodes_told c w call.node) r.there)
    (and_from (w.members call.node).up _ r.up (and_from (may_come w.packets call.input) _ may unused))

-- what becomes of such a step
pub stepped_by : (m : Meanings) (c : Cluster) (w : World) (e : WorldEvent) (call : Call) → is_ready c w call ≡ true → steps m c w e (Some call) ≡ whole c w e call (decision m c w call)
stepped_by m c w e call ready = cond-true (is_ready c w call) (whole c w e call (decision m c w call)) w ready

-- a step leaves boot numbers as they are
pub boot_kept : (m : Meanings) (c : Cluster) (w : World) (call : Call) → (decision m c w call).durable.boot ≡ (durable_at w call.node).boot
boot_kept m c w call = (thrifty_at m c w call).boot

-- after a tick none is late
pub none_late : (m : Meanings) (c : Cluster) (w : World) (n : ℕ) (moment : Moment) → Runs c w n → (p : Parked) → In p ((happens m c w (Tick n moment)).members n).node.parked
    → is_late (setting_at c (happens m c w (Tick n moment)) n) moment.steady p ≡ false
none_late m c w n moment r =
    let call : Call = record { node = n; moment = moment; input = input.Tick } in
    let d = decision m c w call in
    let late = λ (set : Setting). is_late set moment.steady in
    let member : Member = record { up = true; node = left d } in
    let boot : d.durable.boot ≡ (durable_at w n).boot = boot_kept m c w call in
    subst (λ (x : World). (p : Parked) → In p (x.members n).node.parked → late (setting_at c x n) p ≡ false) (sym (stepped_by m c w (Tick n moment) call (ready_by c w call r refl refl)))
    (by_node (λ y z. y ≡ n → (p : Parked) → In p z.node.parked → late (setting_of c n z.node.durable.boot) p ≡ false) w.members n member n
    (λ _ _ p i. ap (λ b. late (setting_of c n b) p) boot ∙ stays_early (late (setting_at c w n)) (w.members n).node.parked p i) (λ ne _ p i. absurd (ne refl)) refl)

pub ticks_end : (m : Meanings) (c : Cluster) (w : World) → TicksEndWaiting m c w
ticks_end m c w n moment r p i =
    let set = setting_at c (happens m c w (Tick n moment)) n in
    leb-false (p.since + set.deadline) moment.steady (none_late m c w n moment r p i)
