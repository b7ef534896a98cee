-- What the trace keeps of a core's decision.
use Rattle.std.specs.Prelude.{Bool, true, false, Option, None, List}
use Rattle.sv_model.specs.declared.event.Told.{Told}
use Rattle.sv_core.specs.declared.decision.Decision.{Decision}
use Rattle.sv_core.specs.Decision.{entry_in, commit_in, told_in, events_in, mark_in}
use Rattle.sv_world.specs.declared.traced.Traced.{Traced}

abbrev pub traced_in : Decision → Traced
traced_in d = record { entry = entry_in d; commit = commit_in d; events = events_in (commit_in d) (told_in d); mark = mark_in (commit_in d) (told_in d) }

-- what is told, with a commit or without
abbrev pub parted : Bool → List Told → List Told × Option Told
parted true told = (told, None)
parted false told = (events_in None told, mark_in None told)
