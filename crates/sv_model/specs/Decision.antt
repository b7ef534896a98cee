-- What a step does, as plain data, before anything of it is done.
use Rattle.std.specs.Prelude.{ℕ, Option, Some, None, List, []}
use Rattle.std.specs.FinMap.{insert}
use Rattle.sv_model.specs.declared.key.Key.{Key}
use Rattle.sv_model.specs.declared.state.KeyState.{KeyState}
use Rattle.sv_model.specs.declared.record.Record.{Record}
use Rattle.sv_model.specs.declared.commit.Commit.{Commit}
use Rattle.sv_model.specs.declared.event.Told.{Told}
use Rattle.sv_model.specs.declared.output.Output.{Output}
use Rattle.sv_model.specs.NodeState.{Durable, Parked, Node}

-- what is made durable, the commit that it is, what listeners are told of it, whether a session has come or gone, what
-- is put out, and what is kept after it
pub record Decision : Type 0 where
  pub entry : Option Record
  pub commit : Option Commit
  pub events : List Told
  pub mark : Option Told
  pub outputs : List Output
  pub durable : Durable
  pub parked : List Parked
  pub next_want : ℕ

-- the node that a decision leaves
abbrev pub left : Decision → Node
left d = record { durable = d.durable; parked = d.parked; next_want = d.next_want }

-- nothing changes
abbrev pub idle : Node → List Output → Decision
idle n outputs =
    record { entry = None; commit = None; events = []; mark = None; outputs = outputs; durable = n.durable; parked = n.parked; next_want = n.next_want }

-- one key changes, by a record, with no commit
abbrev pub with_record : Node → Record → Key → KeyState → Option Told → List Output → Decision
with_record n entry k st mark outputs =
    record (idle n outputs) { entry = Some entry; mark = mark; durable = record (n.durable) { keys = insert n.durable.keys k st } }
