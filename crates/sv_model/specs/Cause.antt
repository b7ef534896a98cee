-- Why a request is refused.
use Rattle.std.specs.Prelude.{ℕ, List, codes}
use Rattle.sv_model.specs.declared.output.Cause.{Cause}
use Rattle.sv_model.specs.declared.output.Cause.TheVariants.{ParkFull, Deadline, TableFull, SerialsSpent, WantsSpent, JournalFull, Memory}
use Rattle.sv_model.specs.declared.site.StepFault.{StepFault}
use Rattle.sv_model.specs.declared.site.StepFault.TheVariants as step

-- what it is called
abbrev pub cause_name : Cause → List ℕ
cause_name ParkFull = codes "ParkFull"
cause_name Deadline = codes "Deadline"
cause_name TableFull = codes "TableFull"
cause_name SerialsSpent = codes "SerialsSpent"
cause_name WantsSpent = codes "WantsSpent"
cause_name JournalFull = codes "JournalFull"
cause_name Memory = codes "Memory"

-- that of a request whose step wasn't taken
abbrev pub cause_of : StepFault → Cause
cause_of step.Failed = Memory
cause_of step.Full = JournalFull
cause_of step.Device = Memory
cause_of step.Memory = Memory
