-- The packets among what a step puts out.
use Rattle.std.specs.Prelude.{Option, Some, None, List}
use Rattle.std.specs.List.{filter_map}
use Rattle.sv_model.specs.declared.packet.Packet.{Packet}
use Rattle.sv_model.specs.declared.output.Output.{Output}
use Rattle.sv_model.specs.declared.output.Output.TheVariants.{Answer, Refuse, Send, Moved, MoveRefused}

abbrev pub packet_in : Output → Option Packet
packet_in (Answer token response) = None
packet_in (Refuse token cause) = None
packet_in (Send p) = Some p
packet_in Moved = None
packet_in (MoveRefused why) = None

abbrev pub sends_in : List Output → List Packet
sends_in outputs = filter_map packet_in outputs
