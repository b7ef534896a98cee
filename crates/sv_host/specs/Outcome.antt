-- What comes of a step, and what is answered for it.
use Rattle.std.specs.Prelude.{ℕ, List, [], ◌∷◌, Vec, Result, Ok, Err}
use Rattle.std.specs.declared.alloc.Global.{Global}
use Rattle.sv_model.specs.declared.output.MoveRefusal.{MoveRefusal}
use Rattle.sv_model.specs.declared.output.MoveRefusal.TheVariants.{UnknownKey, NotActive, BadPeer, EpochsSpent}
use Rattle.sv_model.specs.declared.output.Output.{Output}
use Rattle.sv_model.specs.declared.output.Output.TheVariants as output
use Rattle.sv_model.specs.declared.site.StepFault.{StepFault}
use Rattle.sv_model.specs.declared.site.StepFault.TheVariants as step
use Rattle.sv_host.specs.declared.fault.HostFault.TheVariants as host
use Rattle.sv_host.specs.declared.fault.Stop.{Stop}
use Rattle.sv_host.specs.declared.fault.Stop.TheVariants.{Fault}
use Rattle.sv_host.specs.declared.outcome.Taken.{Taken}
use Rattle.sv_host.specs.declared.outcome.Taken.TheVariants.{Quiet, Busy, MoveRefused, Refused}

-- of one output alone
abbrev pub alone : Output → Taken
alone (output.Answer token response) = Busy
alone (output.Refuse token cause) = Busy
alone (output.Send packet) = Busy
alone output.Moved = Busy
alone (output.MoveRefused why) = MoveRefused why

abbrev pub sum_up : List Output → Taken
sum_up [] = Quiet
sum_up (o ∷ []) = alone o
sum_up (o ∷ p ∷ os) = Busy

-- of a step, by its answer
abbrev pub taken_of : Result (Vec Output Global) StepFault → Taken
taken_of (Ok outputs) = sum_up outputs.items
taken_of (Err fault) = Refused

-- of steps in turn: what came of the last of them
abbrev pub last_taken : Taken → List (Result (Vec Output Global) StepFault) → Taken
last_taken taken [] = taken
last_taken taken (answer ∷ answers) = last_taken (taken_of answer) answers

-- the bytes that answer a command
abbrev pub refusal_byte : MoveRefusal → ℕ
refusal_byte UnknownKey = 1
refusal_byte NotActive = 2
refusal_byte BadPeer = 3
refusal_byte EpochsSpent = 4

abbrev pub answer_byte : Taken → ℕ
answer_byte Quiet = 0
answer_byte Busy = 0
answer_byte (MoveRefused why) = refusal_byte why
answer_byte Refused = 5

-- a node goes on after a step that was refused, unless its disk has failed
abbrev pub refused : StepFault → Result Taken Stop
refused step.Failed = Err (Fault host.Device)
refused step.Full = Ok Refused
refused step.Device = Err (Fault host.Device)
refused step.Memory = Ok Refused

-- what comes of a group
abbrev pub group_taken : Result (Vec (Result (Vec Output Global) StepFault) Global) StepFault → Result Taken Stop
group_taken (Ok answers) = Ok (last_taken Quiet answers.items)
group_taken (Err fault) = refused fault
