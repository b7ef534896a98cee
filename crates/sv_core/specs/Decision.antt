-- A decision of a core, seen as the decision of a node.
use Rattle.std.specs.Prelude.{ℕ, ◌+◌, Option, Some, None, List, [], ◌∷◌, ◌++◌, not, remove}
use Rattle.std.specs.List.{filter}
use Rattle.sv_model.specs.declared.commit.Commit.{Commit}
use Rattle.sv_model.specs.declared.record.Record.{Record}
use Rattle.sv_model.specs.declared.event.Told.{Told}
use Rattle.sv_model.specs.declared.output.Output.{Output}
use Rattle.sv_model.specs.declared.node.Setting.{Setting}
use Rattle.sv_model.specs.declared.node.Parked.{Parked}
use Rattle.sv_model.specs.NodeState.{Node}
use Rattle.sv_model.specs.Decision as model
use Rattle.sv_model.specs.Replay.{applied_if}
use Rattle.sv_model.specs.Time.{is_late}
use Rattle.sv_core.specs.declared.decision.Decision.{Decision}
use Rattle.sv_core.specs.declared.decision.Held.{Held}
use Rattle.sv_core.specs.declared.decision.Arrival.{Arrival}
use Rattle.sv_core.specs.declared.decision.Waiting.{Waiting}
use Rattle.sv_core.specs.declared.decision.Waiting.TheVariants.{Stays, Joins, Leaves, Late}

-- all but the last, and the last
abbrev pub but_last : Told → List Told → List Told
but_last t [] = []
but_last t (u ∷ ts) = t ∷ but_last u ts

abbrev pub last_of : Told → List Told → Told
last_of t [] = t
last_of t (u ∷ ts) = last_of u ts

-- what is told with a commit are its events; with none it is a mark
abbrev pub events_in : Option Commit → List Told → List Told
events_in (Some c) told = told
events_in None [] = []
events_in None (t ∷ ts) = but_last t ts

abbrev pub mark_in : Option Commit → List Told → Option Told
mark_in (Some c) told = None
mark_in None [] = None
mark_in None (t ∷ ts) = Some (last_of t ts)

-- a request that waits for a want
abbrev pub with_want : ℕ → Arrival → Parked
with_want want a = record { token = a.token; request = a.request; key = a.key; since = a.since; want = want }

-- the requests that wait after it; one that joins them has the next want
abbrev pub parked_by : Setting → ℕ → Waiting → List Parked → List Parked
parked_by set next_want Stays parked = parked
parked_by set next_want (Joins a) parked = parked ++ with_want next_want a ∷ []
parked_by set next_want (Leaves place) parked = remove parked place
parked_by set next_want (Late steady) parked = filter (λ p. not (is_late set steady p)) parked

abbrev pub want_by : Waiting → ℕ → ℕ
want_by Stays want = want
want_by (Joins a) want = want + 1
want_by (Leaves place) want = want
want_by (Late steady) want = want

abbrev pub decision_of : Setting → Node → Decision → model.Decision
decision_of set n d =
    record {
      entry = d.entry;
      commit = d.commit;
      events = events_in d.commit d.told;
      mark = mark_in d.commit d.told;
      outputs = d.outputs;
      durable = applied_if d.entry n.durable;
      parked = parked_by set n.next_want d.waiting n.parked;
      next_want = want_by d.waiting n.next_want;
    }

-- the node after what becomes of the requests that wait
abbrev pub rearranged : Setting → Waiting → Node → Node
rearranged set waiting n = record { durable = n.durable; parked = parked_by set n.next_want waiting n.parked; next_want = want_by waiting n.next_want }

-- the node after a record and what becomes of the requests that wait
abbrev pub behind : Setting → Option Record → Waiting → Node → Node
behind set entry waiting n = rearranged set waiting (record n { durable = applied_if entry n.durable })

-- what others may read of it
abbrev pub entry_in : Decision → Option Record
entry_in d = d.entry

abbrev pub commit_in : Decision → Option Commit
commit_in d = d.commit

abbrev pub told_in : Decision → List Told
told_in d = d.told

abbrev pub outputs_in : Decision → List Output
outputs_in d = d.outputs

-- what listeners are still to be told
abbrev pub told_held : Held → List Told
told_held h = h.told

-- what is still to be put out
abbrev pub outputs_held : Held → List Output
outputs_held h = h.outputs
