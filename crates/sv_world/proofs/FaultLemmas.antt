-- An event with a fault changes nothing; any other adds its line.
use Rattle.sv_world.proofs.Prelude.{◌≡◌, Bool, true, false, cond, Option, Some, None, [], ◌∷◌, ◌++◌, refl, sym, ap, subst, ℕ, not, is_some, Meanings, asked_of}
use Rattle.sv_world.proofs.Prelude.{WorldEvent, Ask, Deliver, Poke, Tick, Crash, Torn, Silent, Restart, TornRestart, Line, Call, Cluster, World, durable_at}
use Rattle.sv_world.proofs.Prelude.{stopped, started, items, whole, torn, silent, halt, call_of, is_unused, is_ready, decision, steps, tears, silences, boots}
use Rattle.sv_world.proofs.Prelude.{happens, token_of_call, is_there, is_spent, starts, Member, WorldFault, NoNode, Running, NotRunning, NoPacket, TokenUsed}
use Rattle.sv_world.proofs.Prelude.{may_come, Durable, step_fault, call_fault, start_fault, stop_fault, fault_of, IsFaulty}
use Rattle.std.proofs.Common.{◌+◌, ◌&&◌}
use Rattle.sv_world.specs.declared.event.WorldEvent.TheVariants.{Move}

step_none : (a b s u : Bool) (f : WorldFault) → step_fault a b s u ≡ Some f → (a && (b && (s && u))) ≡ false
step_none false b s u f h = refl
step_none true false s u f h = refl
step_none true true false u f h = refl
step_none true true true false f h = refl
step_none true true true true f h = absurd (let no : None ≡ Some f = h in cc)

pub step_goes : (a b s u : Bool) → step_fault a b s u ≡ None → (a && (b && (s && u))) ≡ true
step_goes false b s u h = absurd (let no : Some NoNode ≡ None = h in cc)
step_goes true false s u h = absurd (let no : Some NotRunning ≡ None = h in cc)
step_goes true true false u h = absurd (let no : Some NoPacket ≡ None = h in cc)
step_goes true true true false h = absurd (let no : Some TokenUsed ≡ None = h in cc)
step_goes true true true true h = refl

start_none : (a b : Bool) (f : WorldFault) → start_fault a b ≡ Some f → (a && not b) ≡ false
start_none false b f h = refl
start_none true true f h = refl
start_none true false f h = absurd (let no : None ≡ Some f = h in cc)

pub start_goes : (a b : Bool) → start_fault a b ≡ None → (a && not b) ≡ true
start_goes false b h = absurd (let no : Some NoNode ≡ None = h in cc)
start_goes true true h = absurd (let no : Some Running ≡ None = h in cc)
start_goes true false h = refl

stop_none : (a b : Bool) (f : WorldFault) → stop_fault a b ≡ Some f → (a && b) ≡ false
stop_none false b f h = refl
stop_none true false f h = refl
stop_none true true f h = absurd (let no : None ≡ Some f = h in cc)

pub stop_goes : (a b : Bool) → stop_fault a b ≡ None → (a && b) ≡ true
stop_goes false b h = absurd (let no : Some NoNode ≡ None = h in cc)
stop_goes true false h = absurd (let no : Some NotRunning ≡ None = h in cc)
stop_goes true true h = refl

-- a world with one more line, of the event
pub record Adds (w v : World) (e : WorldEvent) : Type 0 where
  pub line : Line
  pub event : line.event ≡ e
  pub trace : v.trace ≡ w.trace ++ line ∷ []

if_so : (b : Bool) (x y w : World) (e : WorldEvent) → b ≡ true → Adds w x e → Adds w (cond b x y) e
if_so b x y w e is h = subst (λ t. Adds w (cond t x y) e) (sym is) h

either : (b : Bool) (x y w : World) (e : WorldEvent) → Adds w x e → Adds w y e → Adds w (cond b x y) e
either true x y w e g h = g
either false x y w e g h = h

module _ (m : Meanings) (c : Cluster) (w : World) where
  -- the four tests of a step
  abbrev up : Call → Bool
  up call = (w.members call.node).up

  abbrev sent : Call → Bool
  sent call = may_come w.packets call.input

  abbrev unused : Call → Bool
  unused call = is_unused (asked_of (items w.trace)) (token_of_call c w call)

  steps_still : (e : WorldEvent) (call : Option Call) (f : WorldFault) → call_fault c w call ≡ Some f → steps m c w e call ≡ w
  steps_still e None f h = refl
  steps_still e (Some call) f h = ap (λ t. cond t (whole c w e call (decision m c w call)) w) (step_none (is_there c call.node (durable_at w call.node).boot) (up call) (sent call) (unused call) f h)

  tears_still : (e : WorldEvent) (kept : Bool) (call : Option Call) (f : WorldFault) → call_fault c w call ≡ Some f → tears m c w e kept call ≡ w
  tears_still e kept None f h = refl
  tears_still e kept (Some call) f h =
      let d = decision m c w call in
      ap (λ t. cond t (cond (kept && is_some d.entry) (torn c w e call d) (halt w e call.node (token_of_call c w call))) w) (step_none (is_there c call.node (durable_at w call.node).boot) (up call) (sent call) (unused call) f h)

  silences_still : (e : WorldEvent) (call : Option Call) (f : WorldFault) → call_fault c w call ≡ Some f → silences m c w e call ≡ w
  silences_still e None f h = refl
  silences_still e (Some call) f h = ap (λ t. cond t (silent c w e call (decision m c w call)) w) (step_none (is_there c call.node (durable_at w call.node).boot) (up call) (sent call) (unused call) f h)

  starts_still : (e : WorldEvent) (n : ℕ) (kept : Bool) (member : Durable → Member) (f : WorldFault) → start_fault (is_there c n ((durable_at w n).boot + 1)) (w.members n).up ≡ Some f → starts c w e n kept member ≡ w
  starts_still e n kept member f h = ap (λ t. cond t (cond (kept && not (is_spent w n)) (boots c w e n member) (halt w e n None)) w) (start_none (is_there c n ((durable_at w n).boot + 1)) (w.members n).up f h)

  still : (e : WorldEvent) (f : WorldFault) → fault_of c w e ≡ Some f → happens m c w e ≡ w
  still (Ask n moment token r) f h = steps_still (Ask n moment token r) (call_of w.packets (Ask n moment token r)) f h
  still (Deliver moment place) f h = steps_still (Deliver moment place) (call_of w.packets (Deliver moment place)) f h
  still (Poke n moment) f h = steps_still (Poke n moment) (call_of w.packets (Poke n moment)) f h
  still (Tick n moment) f h = steps_still (Tick n moment) (call_of w.packets (Tick n moment)) f h
  still (Move n moment k to) f h = steps_still (Move n moment k to) (call_of w.packets (Move n moment k to)) f h
  still (Torn n moment given kept) f h = tears_still (Torn n moment given kept) kept (call_of w.packets (Torn n moment given kept)) f h
  still (Silent n moment given) f h = silences_still (Silent n moment given) (call_of w.packets (Silent n moment given)) f h
  still (Crash n) f h = ap (λ t. cond t (halt w (Crash n) n None) w) (stop_none (is_there c n (durable_at w n).boot) (w.members n).up f h)
  still (Restart n) f h = starts_still (Restart n) n true started f h
  still (TornRestart n kept) f h = starts_still (TornRestart n kept) n kept stopped f h

  steps_add : (e : WorldEvent) (call : Option Call) → call_fault c w call ≡ None → Adds w (steps m c w e call) e
  steps_add e None h = absurd (let no : Some NoPacket ≡ None = h in cc)
  steps_add e (Some call) h = if_so (is_ready c w call) (whole c w e call (decision m c w call)) w w e (step_goes (is_there c call.node (durable_at w call.node).boot) (up call) (sent call) (unused call) h) (record { line = _; event = refl; trace = refl })

  tears_add : (e : WorldEvent) (kept : Bool) (call : Option Call) → call_fault c w call ≡ None → Adds w (tears m c w e kept call) e
  tears_add e kept None h = absurd (let no : Some NoPacket ≡ None = h in cc)
  tears_add e kept (Some call) h =
      let d = decision m c w call in
      let left = torn c w e call d in
      let halts = halt w e call.node (token_of_call c w call) in
      if_so (is_ready c w call) (cond (kept && is_some d.entry) left halts) w w e (step_goes (is_there c call.node (durable_at w call.node).boot) (up call) (sent call) (unused call) h)
      (either (kept && is_some d.entry) left halts w e (record { line = _; event = refl; trace = refl }) (record { line = _; event = refl; trace = refl }))

  silences_add : (e : WorldEvent) (call : Option Call) → call_fault c w call ≡ None → Adds w (silences m c w e call) e
  silences_add e None h = absurd (let no : Some NoPacket ≡ None = h in cc)
  silences_add e (Some call) h = if_so (is_ready c w call) (silent c w e call (decision m c w call)) w w e (step_goes (is_there c call.node (durable_at w call.node).boot) (up call) (sent call) (unused call) h) (record { line = _; event = refl; trace = refl })

  starts_add : (e : WorldEvent) (n : ℕ) (kept : Bool) (member : Durable → Member) → start_fault (is_there c n ((durable_at w n).boot + 1)) (w.members n).up ≡ None → Adds w (starts c w e n kept member) e
  starts_add e n kept member h =
      if_so (is_there c n ((durable_at w n).boot + 1) && not (w.members n).up) (cond (kept && not (is_spent w n)) (boots c w e n member) (halt w e n None)) w w e (start_goes (is_there c n ((durable_at w n).boot + 1)) (w.members n).up h)
      (either (kept && not (is_spent w n)) (boots c w e n member) (halt w e n None) w e (record { line = _; event = refl; trace = refl }) (record { line = _; event = refl; trace = refl }))

  added : (e : WorldEvent) → fault_of c w e ≡ None → Adds w (happens m c w e) e
  added (Ask n moment token r) h = steps_add (Ask n moment token r) (call_of w.packets (Ask n moment token r)) h
  added (Deliver moment place) h = steps_add (Deliver moment place) (call_of w.packets (Deliver moment place)) h
  added (Poke n moment) h = steps_add (Poke n moment) (call_of w.packets (Poke n moment)) h
  added (Tick n moment) h = steps_add (Tick n moment) (call_of w.packets (Tick n moment)) h
  added (Move n moment k to) h = steps_add (Move n moment k to) (call_of w.packets (Move n moment k to)) h
  added (Torn n moment given kept) h = tears_add (Torn n moment given kept) kept (call_of w.packets (Torn n moment given kept)) h
  added (Silent n moment given) h = silences_add (Silent n moment given) (call_of w.packets (Silent n moment given)) h
  added (Crash n) h = if_so (is_there c n (durable_at w n).boot && (w.members n).up) (halt w (Crash n) n None) w w (Crash n) (stop_goes (is_there c n (durable_at w n).boot) (w.members n).up h) (record { line = _; event = refl; trace = refl })
  added (Restart n) h = starts_add (Restart n) n true started h
  added (TornRestart n kept) h = starts_add (TornRestart n kept) n kept stopped h

  pub faulty : (e : WorldEvent) → IsFaulty m c w e
  faulty e = record { still = still e; adds = λ h. let a = added e h in (a.line, a.event, a.trace) }
