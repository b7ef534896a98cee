-- What a node puts out, as what can be sent.
use Rattle.std.specs.Prelude.{List, Result, Ok, Err, Vec, ⊤}
use Rattle.std.specs.declared.alloc.Global.{Global}
use Rattle.std.specs.List.{AllByRecursion}
use Rattle.sv_model.specs.declared.output.Output.{Output}
use Rattle.sv_model.specs.declared.output.Output.TheVariants.{Answer, Refuse, Send, Moved, MoveRefused}
use Rattle.sv_model.specs.Outputs.{sends_in}
use Rattle.sv_model.specs.declared.site.StepFault.{StepFault}
use Rattle.sv_model.specs.Ranges.{IsPacket}

-- a packet has a spelling
abbrev pub IsSendable : Output → Type 0
IsSendable (Answer token response) = ⊤
IsSendable (Refuse token cause) = ⊤
IsSendable (Send packet) = IsPacket packet
IsSendable Moved = ⊤
IsSendable (MoveRefused why) = ⊤

abbrev pub AreSendable : List Output → Type 0
AreSendable outputs = AllByRecursion IsPacket (sends_in outputs)

-- of a step that was taken, or of none
abbrev pub IsHandedOn : Result (Vec Output Global) StepFault → Type 0
IsHandedOn (Ok outputs) = AreSendable outputs.items
IsHandedOn (Err fault) = ⊤

-- of a group that was taken, or of none
abbrev pub AreHandedOn : Result (Vec (Result (Vec Output Global) StepFault) Global) StepFault → Type 0
AreHandedOn (Ok answers) = AllByRecursion (λ a. IsHandedOn a) answers.items
AreHandedOn (Err fault) = ⊤
