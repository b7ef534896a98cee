-- The faults of a journal, of a record and of a core as those of a node.
use Rattle.sv_journal.specs.declared.journal_fault.JournalFault.{JournalFault}
use Rattle.sv_journal.specs.declared.journal_fault.JournalFault.TheVariants.{Failed, Damaged, Full, Device, Memory}
use Rattle.sv_record.specs.declared.fault.RecordFault.{RecordFault}
use Rattle.sv_record.specs.declared.fault.RecordFault.TheVariants as record_
use Rattle.sv_core.specs.declared.fault.ApplyFault.{ApplyFault}
use Rattle.sv_core.specs.declared.fault.ApplyFault.TheVariants as apply_
use Rattle.sv_model.specs.declared.site.StepFault.{StepFault}
use Rattle.sv_model.specs.declared.site.StepFault.TheVariants as step_
use Rattle.sv_node.specs.declared.fault.OpenFault.{OpenFault}
use Rattle.sv_node.specs.declared.fault.OpenFault.TheVariants as open_

-- no call of a journal in a step answers Damaged
abbrev pub step_fault : JournalFault → StepFault
step_fault Failed = step_.Failed
step_fault Damaged = step_.Failed
step_fault Full = step_.Full
step_fault Device = step_.Device
step_fault Memory = step_.Memory

-- no call of a journal in an opening answers Failed
abbrev pub open_fault : JournalFault → OpenFault
open_fault Failed = open_.Device
open_fault Damaged = open_.Damaged
open_fault Full = open_.Full
open_fault Device = open_.Device
open_fault Memory = open_.Memory

abbrev pub read_fault : RecordFault → OpenFault
read_fault record_.Truncated = open_.Damaged
read_fault record_.BadVersion = open_.Damaged
read_fault record_.Foreign = open_.Damaged
read_fault record_.BadField = open_.Damaged
read_fault record_.Memory = open_.Memory

abbrev pub apply_fault : ApplyFault → OpenFault
apply_fault apply_.BadRecord = open_.Damaged
apply_fault apply_.Memory = open_.Memory
