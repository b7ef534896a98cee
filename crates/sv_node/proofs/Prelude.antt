-- What the proofs of this crate cite of definitions and types, its own and those of the crates below it, from one place.
pub use Rattle.sv_core.specs.Snapshot.{snapshot_of, staged}
pub use Rattle.sv_journal.specs.Disk.{HasRisen, LeavesOnly, Only, TellsOn}
pub use Rattle.sv_journal.specs.Format.{OpensAlike, OpensEither, OpensOn, OpensReplaced, payloads}
pub use Rattle.sv_journal.specs.Journal.{Holds, JournalView, OpensWithoutLoss, disk_a, disk_b}
pub use Rattle.sv_journal.specs.declared.journal_fault.JournalFault.{JournalFault}
pub use Rattle.sv_model.specs.Decision.{Decision, left}
pub use Rattle.sv_model.specs.Engine.{EngineMeaning, heard_all}
pub use Rattle.sv_model.specs.Fitting.{AllFit, Fits}
pub use Rattle.sv_model.specs.Node.{decided}
pub use Rattle.sv_model.specs.NodeState.{Durable, Node, last_number}
pub use Rattle.sv_model.specs.Ranges.{IsInput, IsRanged, IsRecord, IsSetting}
pub use Rattle.sv_model.specs.Replay.{applied, applied_if, blank, boot_record, replayed}
pub use Rattle.sv_model.specs.Site.{with_list}
pub use Rattle.sv_model.specs.Step.{View, told}
pub use Rattle.sv_model.specs.declared.event.Told.{Told}
pub use Rattle.sv_model.specs.declared.input.Input.{Input}
pub use Rattle.sv_model.specs.declared.key.Moment.{Moment}
pub use Rattle.sv_model.specs.declared.node.Setting.{Setting}
pub use Rattle.sv_model.specs.declared.node.Stage.TheVariants.{Blank}
pub use Rattle.sv_model.specs.declared.output.Output.{Output}
pub use Rattle.sv_model.specs.declared.record.Record.{Record}
pub use Rattle.sv_model.specs.declared.record.Record.TheVariants.{Boot, Forgets}
pub use Rattle.sv_model.specs.declared.site.StepFault.{StepFault}
pub use Rattle.sv_model.specs.declared.site.StepFault.TheVariants.{Failed, Memory}
pub use Rattle.sv_record.specs.Record.{HasSpelling, IsSpelling, spelling}
unfoldable pub use Rattle.sv_record.specs.Record.{record_format}
pub use Rattle.sv_record.specs.declared.version.Version.TheVariants.{Two}
pub use Rattle.sv_node.specs.Call.{Cut, Does, Open, Refused, Step, Stop, StopsStart, kept, quiet}
pub use Rattle.sv_node.specs.Compaction.{CompactionEnds, HasNoRoom, IsCompaction, LeavesReplaced, RestoresBeside, len_with, written}
pub use Rattle.sv_node.specs.Fault.{open_fault, step_fault}
pub use Rattle.sv_node.specs.Group.{Answer, Answered, FitsIn, GroupEnds, IsGroup, ReplaysMore, behind, entries_of, events_held, events_of, outcomes}
pub use Rattle.sv_node.specs.GroupCalls.{all_given}
pub use Rattle.sv_node.specs.History.{GoesOn, Leads, RiseIn, Stand, halted, numbers_in, stand_of}
pub use Rattle.sv_node.specs.Node.{Ends, HasAdded, IsNode, IsNodeStep, IsStarted, IsTooLong, decided_at, durable_of, engine_of, journal_of, setting_of, state_of, view_of}
pub use Rattle.sv_node.specs.Opened.{GivesStart, StartsWithoutLoss, restarted}
pub use Rattle.sv_node.specs.Records.{CanFollow, Give, Replays, Spell}
pub use Rattle.sv_node.specs.Stops.{LeavesAdded, LeavesEither, Restores, RestoresEither, RestoresOn, Stores, TellsBoth}
pub use Rattle.sv_node.specs.declared.fault.OpenFault.{OpenFault}
pub use Rattle.sv_node.specs.declared.fault.OpenFault.TheVariants.{Damaged, Device, Full}
