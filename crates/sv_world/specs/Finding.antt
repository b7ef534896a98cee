-- Which fault an event has, found from the node that it is about.
use Rattle.std.specs.Option.{option_map}
use Rattle.std.specs.Prelude.{ℕ, Bool, cond, Option, Some, None, Result, Ok, Err, List, slice_get}
use Rattle.sv_model.specs.declared.input.Input.{Input}
use Rattle.sv_model.specs.declared.input.Input.TheVariants as input
use Rattle.sv_model.specs.declared.key.Token.{Token}
use Rattle.sv_model.specs.declared.packet.Packet.{Packet}
use Rattle.sv_model.specs.Migration.{addressee}
use Rattle.sv_model.specs.Trace.{asked_of}
use Rattle.sv_world.specs.declared.fault.WorldFault.{WorldFault}
use Rattle.sv_world.specs.declared.fault.WorldFault.TheVariants.{NoNode, Running, NotRunning, NoPacket, TokenUsed}
use Rattle.sv_world.specs.declared.line.Line.{Line}
use Rattle.sv_world.specs.declared.slot.Slot.{Slot}
use Rattle.sv_world.specs.Slot.{member_of, boot_if_up}
use Rattle.sv_world.specs.Sent.{may_come}
use Rattle.sv_world.specs.World.{items, is_unused}

-- the number of the last start, where it runs
abbrev pub boot_by : Option ℕ → Result ℕ WorldFault
boot_by None = Err NotRunning
boot_by (Some boot) = Ok boot

-- the same of a node that may not be there
abbrev pub boot_in : {E : Type 0} → Option (Slot E) → Result ℕ WorldFault
boot_in None = Err NoNode
boot_in (Some s) = boot_by (boot_if_up (member_of s))

-- why a node that is there can't start
abbrev pub started_by : Option ℕ → Option WorldFault
started_by None = None
started_by (Some boot) = Some Running

abbrev pub start_fault_in : {E : Type 0} → Option (Slot E) → Option WorldFault
start_fault_in None = Some NoNode
start_fault_in (Some s) = started_by (boot_if_up (member_of s))

-- why a node can't stop
abbrev pub stop_by : Result ℕ WorldFault → Option WorldFault
stop_by (Ok boot) = None
stop_by (Err fault) = Some fault

-- the number of the request that comes with an input
abbrev pub number_in : Input → Option ℕ
number_in (input.Ask token r) = Some token
number_in (input.Packet p) = None
number_in input.Poke = None
number_in input.Tick = None
number_in (input.Move k to) = None

abbrev pub token_by : ℕ → ℕ → Option ℕ → Option Token
token_by node boot number = option_map (λ x. record { number = x; node = node; boot = boot }) number

-- why a node can't take a step
abbrev pub step_by : List Line → ℕ → Bool → Option ℕ → Result ℕ WorldFault → Option WorldFault
step_by trace node sent number (Ok boot) =
    cond sent (cond (is_unused (asked_of (items trace)) (token_by node boot number)) None (Some TokenUsed)) (Some NoPacket)
step_by trace node sent number (Err fault) = Some fault

-- why a packet can't be delivered, if it is one
abbrev pub delivery_by : {E : Type 0} → List (Slot E) → List Packet → List Line → Option Packet → Option WorldFault
delivery_by slots packets trace None = Some NoPacket
delivery_by slots packets trace (Some p) = step_by trace (addressee p) (may_come packets (input.Packet p)) None (boot_in (slice_get slots (addressee p)))
