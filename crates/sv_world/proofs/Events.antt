-- What an event does, one case at a time: a fact that holds after each of these holds after every event.
use Rattle.sv_world.proofs.Prelude.{◌≡◌, ◌<◌, ℕ, Bool, true, cond, Option, Some, None, List, [], ◌∷◌, ◌++◌, refl, not, is_some, cond_both, and_parts, ltb-true}
use Rattle.sv_world.proofs.Prelude.{Token, Packet, Input, Meanings, Durable, In, boot_record, applied, Setting, Boot, Forgets, asked_of, WorldEvent, Ask}
use Rattle.sv_world.proofs.Prelude.{Deliver, Poke, Tick, Crash, Torn, Silent, Restart, TornRestart, start_in, may_come, Call, Cluster, Member, World}
use Rattle.sv_world.proofs.Prelude.{durable_at, stopped, started, items, call_of, decision, token_of_call, is_unused, is_there, is_ready, whole, torn, silent}
use Rattle.sv_world.proofs.Prelude.{becomes, halt, record_of_start, boots, is_spent, steps, tears, silences, starts, happens, run}
use Rattle.std.proofs.Common.{◌+◌, ◌&&◌}
use Rattle.sv_model.specs.declared.input.Input.TheVariants as input
use Rattle.sv_world.specs.declared.event.WorldEvent.TheVariants.{Move}
use Rattle.sv_world.proofs.SentLemmas.{sent_in}

-- a packet that is given was sent
abbrev pub IsSentIn : List Packet → Input → Type 0
IsSentIn ps (input.Ask token r) = Unit {0}
IsSentIn ps (input.Packet p) = In p ps
IsSentIn ps input.Poke = Unit {0}
IsSentIn ps input.Tick = Unit {0}
IsSentIn ps (input.Move k to) = Unit {0}

came : (ps : List Packet) (i : Input) → may_come ps i ≡ true → IsSentIn ps i
came ps (input.Ask token r) h = tt
came ps (input.Packet p) h = sent_in p ps h
came ps input.Poke h = tt
came ps input.Tick h = tt
came ps (input.Move k to) h = tt

-- a step that can be taken
pub record IsReady (c : Cluster) (w : World) (call : Call) : Type 0 where
  pub inside : call.node < c.nodes call.node (durable_at w call.node).boot
  pub up : (w.members call.node).up ≡ true
  pub sent : IsSentIn w.packets call.input
  pub unused : is_unused (asked_of (items w.trace)) (token_of_call c w call) ≡ true

pub readies : (c : Cluster) (w : World) (call : Call) → is_ready c w call ≡ true → IsReady c w call
readies c w call h =
    let up = (w.members call.node).up in
    let sent = may_come w.packets call.input in
    let unused = is_unused (asked_of (items w.trace)) (token_of_call c w call) in
    let first = and_parts (is_there c call.node (durable_at w call.node).boot) (up && (sent && unused)) h in
    let second = and_parts up (sent && unused) first.1 in
    let third = and_parts sent unused second.1 in
    record { inside = ltb-true call.node (c.nodes call.node (durable_at w call.node).boot) first.0; up = second.0; sent = came w.packets call.input third.0; unused = third.1 }

-- a start has the next number
pub start_boot : (set : Setting) (d : Durable) → (applied (boot_record set d) d).boot ≡ d.boot + 1
start_boot set d = cond_both set.forget (Forgets set.node (d.boot + 1)) (Boot (d.boot + 1)) (λ r. (applied r d).boot ≡ d.boot + 1) (λ _. refl) (λ _. refl)

-- the event starts the node, which is told of itself
pub record MayStart (c : Cluster) (w : World) (e : WorldEvent) (n : ℕ) : Type 0 where
  pub of : start_in e ≡ Some n
  pub inside : n < c.nodes n ((durable_at w n).boot + 1)

-- after an event of this world
pub record Behind (m : Meanings) (c : Cluster) (w : World) (e : WorldEvent) (P : World → Type 0) : Type 0 where
  pub still : P w
  pub whole_by : (call : Call) → call_of w.packets e ≡ Some call → IsReady c w call → P (whole c w e call (decision m c w call))
  pub torn_by : (call : Call) → call_of w.packets e ≡ Some call → IsReady c w call → P (torn c w e call (decision m c w call))
  pub silent_by : (call : Call) → call_of w.packets e ≡ Some call → IsReady c w call → P (silent c w e call (decision m c w call))
  pub halt_by : (n : ℕ) (asked : Option Token) → is_unused (asked_of (items w.trace)) asked ≡ true → P (halt w e n asked)
  pub boots_by : (n : ℕ) (p : Member) → MayStart c w e n → p.node.parked ≡ [] → p.node.durable ≡ applied (record_of_start c w n) (durable_at w n) → P (becomes w e n p (Some (record_of_start c w n)) None)

module _ (m : Meanings) (c : Cluster) (w : World) (P : World → Type 0) where
  stepped : (e : WorldEvent) (call : Option Call) → call_of w.packets e ≡ call → Behind m c w e P → P (steps m c w e call)
  stepped e None is h = h.still
  stepped e (Some call) is h = cond_both (is_ready c w call) (whole c w e call (decision m c w call)) w P (λ t. h.whole_by call is (readies c w call t)) (λ _. h.still)

  tears_behind : (e : WorldEvent) (kept : Bool) (call : Option Call) → call_of w.packets e ≡ call → Behind m c w e P → P (tears m c w e kept call)
  tears_behind e kept None is h = h.still
  tears_behind e kept (Some call) is h =
      let d = decision m c w call in
      let left = torn c w e call d in
      let halts = halt w e call.node (token_of_call c w call) in
      cond_both (is_ready c w call) (cond (kept && is_some d.entry) left halts) w P
      (λ t. let r = readies c w call t in cond_both (kept && is_some d.entry) left halts P (λ _. h.torn_by call is r) (λ _. h.halt_by call.node (token_of_call c w call) r.unused))
      (λ _. h.still)

  silences_behind : (e : WorldEvent) (call : Option Call) → call_of w.packets e ≡ call → Behind m c w e P → P (silences m c w e call)
  silences_behind e None is h = h.still
  silences_behind e (Some call) is h = cond_both (is_ready c w call) (silent c w e call (decision m c w call)) w P (λ t. h.silent_by call is (readies c w call t)) (λ _. h.still)

  start : (e : WorldEvent) (n : ℕ) (kept : Bool) (member : Durable → Member) → start_in e ≡ Some n → ((d : Durable) → (member d).node.parked ≡ []) → ((d : Durable) → (member d).node.durable ≡ d) → Behind m c w e P → P (starts c w e n kept member)
  start e n kept member of none same h =
      let there = is_there c n ((durable_at w n).boot + 1) in
      let d = applied (record_of_start c w n) (durable_at w n) in
      cond_both (there && not (w.members n).up) (cond (kept && not (is_spent w n)) (boots c w e n member) (halt w e n None)) w P
      (λ t.
      let inside : n < c.nodes n ((durable_at w n).boot + 1) = ltb-true n (c.nodes n ((durable_at w n).boot + 1)) (and_parts there (not (w.members n).up) t).0 in
      cond_both (kept && not (is_spent w n)) (boots c w e n member) (halt w e n None) P
      (λ _. h.boots_by n (member d) (record { of = of; inside = inside }) (none d) (same d))
      (λ _. h.halt_by n None refl))
      (λ _. h.still)

  pub behind : (e : WorldEvent) → Behind m c w e P → P (happens m c w e)
  behind (Ask n moment token r) h = stepped (Ask n moment token r) (call_of w.packets (Ask n moment token r)) refl h
  behind (Deliver moment place) h = stepped (Deliver moment place) (call_of w.packets (Deliver moment place)) refl h
  behind (Poke n moment) h = stepped (Poke n moment) (call_of w.packets (Poke n moment)) refl h
  behind (Tick n moment) h = stepped (Tick n moment) (call_of w.packets (Tick n moment)) refl h
  behind (Move n moment k to) h = stepped (Move n moment k to) (call_of w.packets (Move n moment k to)) refl h
  behind (Torn n moment given kept) h = tears_behind (Torn n moment given kept) kept (call_of w.packets (Torn n moment given kept)) refl h
  behind (Silent n moment given) h = silences_behind (Silent n moment given) (call_of w.packets (Silent n moment given)) refl h
  behind (Crash n) h = cond_both (is_there c n (durable_at w n).boot && (w.members n).up) (halt w (Crash n) n None) w P (λ _. h.halt_by n None refl) (λ _. h.still)
  behind (Restart n) h = start (Restart n) n true started refl (λ d. refl) (λ d. refl) h
  behind (TornRestart n kept) h = start (TornRestart n kept) n kept stopped refl (λ d. refl) (λ d. refl) h

-- a fact that every event keeps, beside another, holds after every list of events
pub behind_all : (m : Meanings) (c : Cluster) (P Q : World → Type 0) → ((w : World) (e : WorldEvent) → P w → P (happens m c w e)) → ((w : World) (e : WorldEvent) → P w → Q w → Q (happens m c w e))
    → (w : World) (es : List WorldEvent) → P w → Q w → Q (run m c w es)
behind_all m c P Q p q w [] a b = b
behind_all m c P Q p q w (e ∷ es) a b = behind_all m c P Q p q (happens m c w e) es (p w e a) (q w e a b)

-- some events, and then others
pub run_more : (m : Meanings) (c : Cluster) (w : World) (es fs : List WorldEvent) → run m c (run m c w es) fs ≡ run m c w (es ++ fs)
run_more m c w [] fs = refl
run_more m c w (e ∷ es) fs = run_more m c (happens m c w e) es fs
