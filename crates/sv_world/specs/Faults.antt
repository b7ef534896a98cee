-- The events that can't happen in a world, and why.
use Rattle.std.specs.Prelude.{◌+◌, Bool, cond, Option, Some, None, ◌≡◌, [], ◌∷◌, ◌++◌}
use Rattle.sv_model.specs.Container.{Meanings}
use Rattle.sv_model.specs.Trace.{asked_of}
use Rattle.sv_world.specs.declared.event.WorldEvent.{WorldEvent}
use Rattle.sv_world.specs.declared.event.WorldEvent.TheVariants.{Ask, Deliver, Poke, Tick, Move, Crash, Torn, Silent, Restart, TornRestart}
use Rattle.sv_world.specs.declared.fault.WorldFault.{WorldFault}
use Rattle.sv_world.specs.declared.fault.WorldFault.TheVariants.{NoNode, Running, NotRunning, NoPacket, TokenUsed}
use Rattle.sv_world.specs.declared.line.Line.{Line}
use Rattle.sv_world.specs.Sent.{may_come}
use Rattle.sv_world.specs.declared.call.Call.{Call}
use Rattle.sv_world.specs.World.{Cluster, World, durable_at, items, call_of, token_of_call, is_unused, is_there, happens}

-- of a step: whether its node is there, whether it runs, whether a packet was sent, whether a token is new
abbrev pub step_fault : Bool → Bool → Bool → Bool → Option WorldFault
step_fault there up sent unused =
    cond there (cond up (cond sent (cond unused None (Some TokenUsed)) (Some NoPacket)) (Some NotRunning)) (Some NoNode)

abbrev pub call_fault : Cluster → World → Option Call → Option WorldFault
call_fault c w None = Some NoPacket
call_fault c w (Some call) =
    step_fault (is_there c call.node (durable_at w call.node).boot) (w.members call.node).up (may_come w.packets call.input)
    (is_unused (asked_of (items w.trace)) (token_of_call c w call))

abbrev pub start_fault : Bool → Bool → Option WorldFault
start_fault there up = cond there (cond up (Some Running) None) (Some NoNode)

abbrev pub stop_fault : Bool → Bool → Option WorldFault
stop_fault there up = cond there (cond up None (Some NotRunning)) (Some NoNode)

-- the first that holds, in the order of their numbers
abbrev pub fault_of : Cluster → World → WorldEvent → Option WorldFault
fault_of c w (Ask n moment token r) = call_fault c w (call_of w.packets (Ask n moment token r))
fault_of c w (Deliver moment place) = call_fault c w (call_of w.packets (Deliver moment place))
fault_of c w (Poke n moment) = call_fault c w (call_of w.packets (Poke n moment))
fault_of c w (Tick n moment) = call_fault c w (call_of w.packets (Tick n moment))
fault_of c w (Move n moment k to) = call_fault c w (call_of w.packets (Move n moment k to))
fault_of c w (Torn n moment given kept) = call_fault c w (call_of w.packets (Torn n moment given kept))
fault_of c w (Silent n moment given) = call_fault c w (call_of w.packets (Silent n moment given))
fault_of c w (Crash n) = stop_fault (is_there c n (durable_at w n).boot) (w.members n).up
fault_of c w (Restart n) = start_fault (is_there c n ((durable_at w n).boot + 1)) (w.members n).up
fault_of c w (TornRestart n kept) = start_fault (is_there c n ((durable_at w n).boot + 1)) (w.members n).up

-- an event with a fault changes nothing; any other adds one line, its own
pub record IsFaulty (m : Meanings) (c : Cluster) (w : World) (e : WorldEvent) : Type 0 where
  pub still : (f : WorldFault) → fault_of c w e ≡ Some f → happens m c w e ≡ w
  pub adds : fault_of c w e ≡ None → (l : Line) × (l.event ≡ e) × ((happens m c w e).trace ≡ w.trace ++ l ∷ [])
