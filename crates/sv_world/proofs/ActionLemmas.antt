-- An event that has no fault is the task that it asks for.
use Rattle.sv_world.proofs.Prelude.{◌≡◌, ℕ, ◌<◌, Bool, true, false, cond, Option, Some, None, [], ◌∷◌, ◌++◌, refl, sym, ◌∙◌, subst, append-nil, not, is_some}
use Rattle.sv_world.proofs.Prelude.{IsSome, option_map, and_parts, ltb-true, cond-true, same_Some, Record, Token, Meanings, Setting, Durable, sends_in}
use Rattle.sv_world.proofs.Prelude.{asked_of, Call, WorldEvent, Ask, Deliver, Poke, Tick, Crash, Torn, Silent, Restart, TornRestart, NoPacket, Action, Task}
use Rattle.sv_world.proofs.Prelude.{Done, deed, wants_up, number_for, line_of, quiet_at, heading_at, heading_by, halted, booted, start_by, call_fault}
use Rattle.sv_world.proofs.Prelude.{start_fault, fault_of, whole_action, torn_action, silent_action, action_of, may_come, Cluster, Member, World, set_member}
use Rattle.sv_world.proofs.Prelude.{setting_of, durable_at, stopped, started, items, call_of, decision, token_of_call, is_unused, is_there, is_ready, is_spent}
use Rattle.sv_world.proofs.Prelude.{whole, torn, silent, becomes, halt, boots, steps, tears, silences, starts, happens}
use Rattle.std.proofs.Common.{◌+◌, ◌&&◌}
use Rattle.sv_world.specs.declared.event.WorldEvent.TheVariants.{Move}
use Rattle.sv_world.specs.declared.task.Task.TheVariants as task
use Rattle.sv_world.proofs.FaultLemmas.{step_goes, start_goes, stop_goes}
use Rattle.sv_world.proofs.Keys.{not_true}

-- a world in which this was done at a node
abbrev pub done_by : World → WorldEvent → ℕ → Done → World
done_by w e n d = record { members = set_member w.members n d.member; packets = w.packets ++ sends_in d.effect.outputs; trace = w.trace ++ line_of e d.effect ∷ [] }

abbrev pub done_at : Meanings → Cluster → World → WorldEvent → Action → World
done_at m c w e o =
    let boot = number_for (durable_at w o.node) o.task in
    done_by w e o.node (deed (m o.node boot) (setting_of c o.node boot) (w.members o.node) o.task)

-- an event that can happen asks for this
pub record Goes (c : Cluster) (w : World) (e : WorldEvent) (o : Action) : Type 0 where
  pub happens : (m : Meanings) → happens m c w e ≡ done_at m c w e o
  pub there : o.node < c.nodes o.node (number_for (durable_at w o.node) o.task)
  pub up : (w.members o.node).up ≡ wants_up o.task

module _ (c : Cluster) (w : World) (e : WorldEvent) where
  split : (n : ℕ) (b : Bool) (x y : World) (p q : Done) → x ≡ done_by w e n p → y ≡ done_by w e n q → cond b x y ≡ done_by w e n (cond b p q)
  split n true x y p q f g = f
  split n false x y p q f g = g

  quiet : (n boot : ℕ) (p : Member) (entry : Option Record) (asked : Option Token) → becomes w e n p entry asked ≡ done_by w e n (record { member = p; effect = quiet_at (heading_at (setting_of c n boot) (durable_at w n) asked) entry None })
  quiet n boot p entry asked = λ i. record (becomes w e n p entry asked) { packets = sym (append-nil w.packets) i }

  ready : (call : Call) → call_fault c w (Some call) ≡ None → is_ready c w call ≡ true
  ready call h = step_goes (is_there c call.node (durable_at w call.node).boot) (w.members call.node).up (may_come w.packets call.input) (is_unused (asked_of (items w.trace)) (token_of_call c w call)) h

  there_up : (call : Call) → call_fault c w (Some call) ≡ None → (call.node < c.nodes call.node (durable_at w call.node).boot) × ((w.members call.node).up ≡ true)
  there_up call h =
      let a = and_parts (is_there c call.node (durable_at w call.node).boot) _ (ready call h) in
      (ltb-true call.node (c.nodes call.node (durable_at w call.node).boot) a.0, (and_parts (w.members call.node).up _ a.1).0)

  steps_go : (m : Meanings) (call : Call) → call_fault c w (Some call) ≡ None → steps m c w e (Some call) ≡ done_at m c w e (whole_action call)
  steps_go m call h = cond-true (is_ready c w call) (whole c w e call (decision m c w call)) w (ready call h)

  tears_go : (m : Meanings) (kept : Bool) (call : Call) → call_fault c w (Some call) ≡ None → tears m c w e kept (Some call) ≡ done_at m c w e (torn_action kept call)
  tears_go m kept call h =
      let d = decision m c w call in
      let heading = heading_by (setting_of c call.node (durable_at w call.node).boot) (durable_at w call.node) call.input in
      cond-true (is_ready c w call) (cond (kept && is_some d.entry) (torn c w e call d) (halt w e call.node (token_of_call c w call))) w (ready call h)
      ∙ split call.node (kept && is_some d.entry) (torn c w e call d) (halt w e call.node (token_of_call c w call)) (record { member = stopped d.durable; effect = quiet_at heading d.entry d.commit }) (halted heading (durable_at w call.node))
      (λ i. record (torn c w e call d) { packets = sym (append-nil w.packets) i }) (quiet call.node (durable_at w call.node).boot (stopped (durable_at w call.node)) None (token_of_call c w call))

  silences_go : (m : Meanings) (call : Call) → call_fault c w (Some call) ≡ None → silences m c w e (Some call) ≡ done_at m c w e (silent_action call)
  silences_go m call h =
      let d = decision m c w call in
      cond-true (is_ready c w call) (silent c w e call d) w (ready call h) ∙ (λ i. record (silent c w e call d) { packets = sym (append-nil w.packets) i })

  -- the setting of the start that is to come
  abbrev next_setting : ℕ → Setting
  next_setting n = setting_of c n ((durable_at w n).boot + 1)

  abbrev there_next : ℕ → Bool
  there_next n = is_there c n ((durable_at w n).boot + 1)

  starts_go : (n : ℕ) (kept : Bool) (member : Durable → Member) → start_fault (there_next n) (w.members n).up ≡ None → starts c w e n kept member ≡ done_by w e n (start_by (next_setting n) (durable_at w n) kept member)
  starts_go n kept member h =
      let heading = heading_at (next_setting n) (durable_at w n) None in
      cond-true (there_next n && not (w.members n).up) (cond (kept && not (is_spent w n)) (boots c w e n member) (halt w e n None)) w (start_goes (there_next n) (w.members n).up h)
      ∙ split n (kept && not (is_spent w n)) (boots c w e n member) (halt w e n None) (booted (next_setting n) heading (durable_at w n) member) (halted heading (durable_at w n))
      (quiet n ((durable_at w n).boot + 1) _ _ None) (quiet n ((durable_at w n).boot + 1) (stopped (durable_at w n)) None None)

  whole_goes : (o : Action) (call : Option Call) → ((m : Meanings) → happens m c w e ≡ steps m c w e call) → call_fault c w call ≡ None → option_map whole_action call ≡ Some o → Goes c w e o
  whole_goes o None is fault action = absurd (let no : Some NoPacket ≡ None = fault in cc)
  whole_goes o (Some call) is fault action = subst (Goes c w e) (same_Some (whole_action call) o action) (record { happens = λ m. is m ∙ steps_go m call fault; there = (there_up call fault).0; up = (there_up call fault).1 })

  torn_goes : (o : Action) (kept : Bool) (call : Option Call) → ((m : Meanings) → happens m c w e ≡ tears m c w e kept call) → call_fault c w call ≡ None → option_map (torn_action kept) call ≡ Some o → Goes c w e o
  torn_goes o kept None is fault action = absurd (let no : Some NoPacket ≡ None = fault in cc)
  torn_goes o kept (Some call) is fault action = subst (Goes c w e) (same_Some (torn_action kept call) o action) (record { happens = λ m. is m ∙ tears_go m kept call fault; there = (there_up call fault).0; up = (there_up call fault).1 })

  silent_goes : (o : Action) (call : Option Call) → ((m : Meanings) → happens m c w e ≡ silences m c w e call) → call_fault c w call ≡ None → option_map silent_action call ≡ Some o → Goes c w e o
  silent_goes o None is fault action = absurd (let no : Some NoPacket ≡ None = fault in cc)
  silent_goes o (Some call) is fault action = subst (Goes c w e) (same_Some (silent_action call) o action) (record { happens = λ m. is m ∙ silences_go m call fault; there = (there_up call fault).0; up = (there_up call fault).1 })

  start_goes_by : (n : ℕ) (kept : Bool) (member : Durable → Member) (t : Task) → wants_up t ≡ false → number_for (durable_at w n) t ≡ (durable_at w n).boot + 1 → ((m : Meanings) → happens m c w e ≡ starts c w e n kept member)
      → ((m : Meanings) → done_by w e n (start_by (next_setting n) (durable_at w n) kept member) ≡ done_at m c w e (record { node = n; task = t })) → start_fault (there_next n) (w.members n).up ≡ None → Goes c w e (record { node = n; task = t })
  start_goes_by n kept member t down number is same fault =
      let a = and_parts (there_next n) (not (w.members n).up) (start_goes (there_next n) (w.members n).up fault) in
      record {
        happens = λ m. is m ∙ starts_go n kept member fault ∙ same m;
        there = subst (λ boot. n < c.nodes n boot) (sym number) (ltb-true n (c.nodes n ((durable_at w n).boot + 1)) a.0);
        up = not_true (w.members n).up a.1 ∙ sym down;
      }

module _ (c : Cluster) (w : World) (o : Action) where
  pub goes : (e : WorldEvent) → fault_of c w e ≡ None → action_of w.packets e ≡ Some o → Goes c w e o
  goes (Ask n moment token r) f h = whole_goes c w (Ask n moment token r) o (call_of w.packets (Ask n moment token r)) (λ m. refl) f h
  goes (Deliver moment place) f h = whole_goes c w (Deliver moment place) o (call_of w.packets (Deliver moment place)) (λ m. refl) f h
  goes (Poke n moment) f h = whole_goes c w (Poke n moment) o (call_of w.packets (Poke n moment)) (λ m. refl) f h
  goes (Tick n moment) f h = whole_goes c w (Tick n moment) o (call_of w.packets (Tick n moment)) (λ m. refl) f h
  goes (Move n moment k to) f h = whole_goes c w (Move n moment k to) o (call_of w.packets (Move n moment k to)) (λ m. refl) f h
  goes (Torn n moment given kept) f h = torn_goes c w (Torn n moment given kept) o kept (call_of w.packets (Torn n moment given kept)) (λ m. refl) f h
  goes (Silent n moment given) f h = silent_goes c w (Silent n moment given) o (call_of w.packets (Silent n moment given)) (λ m. refl) f h
  goes (Crash n) f h =
      let boot = (durable_at w n).boot in
      let both = stop_goes (is_there c n boot) (w.members n).up f in
      let a = and_parts (is_there c n boot) (w.members n).up both in
      subst (Goes c w (Crash n)) (same_Some (record { node = n; task = task.Stop }) o h) (record {
        happens = λ m. cond-true (is_there c n boot && (w.members n).up) (halt w (Crash n) n None) w both ∙ quiet c w (Crash n) n boot (stopped (durable_at w n)) None None;
        there = ltb-true n (c.nodes n boot) a.0;
        up = a.1;
      })
  goes (Restart n) f h = subst (Goes c w (Restart n)) (same_Some (record { node = n; task = task.Start }) o h) (start_goes_by c w (Restart n) n true started task.Start refl refl (λ m. refl) (λ m. refl) f)
  goes (TornRestart n kept) f h = subst (Goes c w (TornRestart n kept)) (same_Some (record { node = n; task = task.TornStart kept }) o h) (start_goes_by c w (TornRestart n kept) n kept stopped (task.TornStart kept) refl refl (λ m. refl) (λ m. refl) f)

-- an event that can happen asks for something
module _ (c : Cluster) (w : World) where
  some_whole : (call : Option Call) → call_fault c w call ≡ None → IsSome (option_map whole_action call)
  some_whole None h = absurd (let no : Some NoPacket ≡ None = h in cc)
  some_whole (Some call) h = refl

  pub asks : (e : WorldEvent) → fault_of c w e ≡ None → IsSome (action_of w.packets e)
  asks (Ask n moment token r) h = refl
  asks (Deliver moment place) h = some_whole (call_of w.packets (Deliver moment place)) h
  asks (Poke n moment) h = refl
  asks (Tick n moment) h = refl
  asks (Move n moment k to) h = refl
  asks (Torn n moment given kept) h = refl
  asks (Silent n moment given) h = refl
  asks (Crash n) h = refl
  asks (Restart n) h = refl
  asks (TornRestart n kept) h = refl
