-- What an event asks of which node.
use Rattle.std.specs.Option.{option_map}
use Rattle.std.specs.Prelude.{Bool, Option, Some, List}
use Rattle.sv_model.specs.declared.packet.Packet.{Packet}
use Rattle.sv_world.specs.declared.call.Call.{Call}
use Rattle.sv_world.specs.declared.event.WorldEvent.{WorldEvent}
use Rattle.sv_world.specs.declared.event.WorldEvent.TheVariants.{Ask, Deliver, Poke, Tick, Move, Crash, Torn, Silent, Restart, TornRestart}
use Rattle.sv_world.specs.declared.action.Action.{Action}
use Rattle.sv_world.specs.declared.task.Task.TheVariants as task
use Rattle.sv_world.specs.World.{call_of}

-- a whole step
abbrev pub whole_action : Call → Action
whole_action call = record { node = call.node; task = task.Step call.moment call.input }

-- a torn step
abbrev pub torn_action : Bool → Call → Action
torn_action kept call = record { node = call.node; task = task.Torn call.moment call.input kept }

-- a silent step
abbrev pub silent_action : Call → Action
silent_action call = record { node = call.node; task = task.Silent call.moment call.input }

-- none where a packet is delivered that was never sent
abbrev pub action_of : List Packet → WorldEvent → Option Action
action_of sent (Ask n moment token r) = option_map whole_action (call_of sent (Ask n moment token r))
action_of sent (Deliver moment place) = option_map whole_action (call_of sent (Deliver moment place))
action_of sent (Poke n moment) = option_map whole_action (call_of sent (Poke n moment))
action_of sent (Tick n moment) = option_map whole_action (call_of sent (Tick n moment))
action_of sent (Move n moment k to) = option_map whole_action (call_of sent (Move n moment k to))
action_of sent (Torn n moment given kept) = option_map (torn_action kept) (call_of sent (Torn n moment given kept))
action_of sent (Silent n moment given) = option_map silent_action (call_of sent (Silent n moment given))
action_of sent (Crash n) = Some (record { node = n; task = task.Stop })
action_of sent (Restart n) = Some (record { node = n; task = task.Start })
action_of sent (TornRestart n kept) = Some (record { node = n; task = task.TornStart kept })
