-- What a task does at a node, and what has been done, as a line of the trace.
use Rattle.std.specs.Prelude.{ℕ, ◌+◌, ◌==◌, ◌&&◌, false, true, Bool, cond, is_some, not, Option, Some, None, List, []}
use Rattle.sv_model.specs.declared.input.Input.{Input}
use Rattle.sv_model.specs.declared.key.Token.{Token}
use Rattle.sv_model.specs.declared.node.Setting.{Setting}
use Rattle.sv_model.specs.declared.event.Told.{Told}
use Rattle.sv_model.specs.declared.output.Output.{Output}
use Rattle.sv_model.specs.declared.record.Record.{Record}
use Rattle.sv_model.specs.declared.commit.Commit.{Commit}
use Rattle.sv_model.specs.Engine.{EngineMeaning}
use Rattle.sv_model.specs.NodeState.{Durable, last_number}
use Rattle.sv_model.specs.Decision.{Decision, left}
use Rattle.sv_model.specs.Node.{decided}
use Rattle.sv_model.specs.Replay.{boot_record, applied}
use Rattle.sv_model.specs.Serving.{token_of}
use Rattle.sv_model.specs.Step.{with_mark}
use Rattle.sv_model.specs.Trace.{asked_by}
use Rattle.sv_world.specs.declared.event.WorldEvent.{WorldEvent}
use Rattle.sv_world.specs.declared.line.Line.{Line}
use Rattle.sv_world.specs.declared.line.Effect.{Effect}
use Rattle.sv_world.specs.declared.line.Heading.{Heading}
use Rattle.sv_world.specs.declared.traced.Traced.{Traced}
use Rattle.sv_world.specs.declared.task.Task.{Task}
use Rattle.sv_world.specs.declared.task.Task.TheVariants.{Step, Torn, Silent, Stop, Start, TornStart}
use Rattle.sv_world.specs.World.{Member, stopped, started, commit_with}

-- nothing is put out and nothing is told
abbrev pub quiet_at : Heading → Option Record → Option Commit → Effect
quiet_at h entry commit = record { heading = h; whole = false; traced = record { entry = entry; commit = commit; events = []; mark = None }; outputs = [] }

abbrev pub whole_by : Heading → Traced → List Output → Effect
whole_by h t outputs = record { heading = h; whole = true; traced = t; outputs = outputs }

-- what a trace keeps of a decision
abbrev pub traced_of : Decision → Traced
traced_of d = record { entry = d.entry; commit = d.commit; events = d.events; mark = d.mark }

abbrev pub whole_at : Heading → Decision → Effect
whole_at h d = whole_by h (traced_of d) d.outputs

-- the line of an event
abbrev pub line_of : WorldEvent → Effect → Line
line_of e f =
    record {
      event = e;
      node = f.heading.node;
      boot = f.heading.boot;
      whole = f.whole;
      asked = f.heading.asked;
      entry = f.traced.entry;
      commit = f.traced.commit;
      events = f.traced.events;
      mark = f.traced.mark;
      outputs = f.outputs;
    }

-- ---- what a task does

-- the member after it, and what has been done
pub record Done : Type 0 where
  pub member : Member
  pub effect : Effect

-- a node's heading, with the token of the request that came
abbrev pub heading_at : Setting → Durable → Option Token → Heading
heading_at set d asked = record { node = set.node; boot = d.boot; asked = asked }

-- the heading of a step at an input
abbrev pub heading_by : Setting → Durable → Input → Heading
heading_by set d input = heading_at set d (asked_by (token_of set d) input)

-- a whole step that was decided
abbrev pub stepped : Heading → Decision → Done
stepped h d = record { member = record { up = true; node = left d }; effect = whole_at h d }

-- the node stops, or stays stopped, and nothing is durable that was not
abbrev pub halted : Heading → Durable → Done
halted h d = record { member = stopped d; effect = quiet_at h None None }

-- a torn step: a commit is kept only with its record
abbrev pub torn_by : Heading → Durable → Bool → Decision → Done
torn_by h old kept d =
    cond (kept && is_some d.entry) (record { member = stopped d.durable; effect = quiet_at h d.entry d.commit }) (halted h old)

-- a silent step
abbrev pub silenced : Heading → Decision → Done
silenced h d = record { member = record { up = true; node = left d }; effect = quiet_at h d.entry (commit_with d.entry d.commit) }

-- a start by its record
abbrev pub booted : Setting → Heading → Durable → (Durable → Member) → Done
booted set h d member = record { member = member (applied (boot_record set d) d); effect = quiet_at h (Some (boot_record set d)) None }

-- a start, that leaves the node running (`started`) or stopped, with its record or without; the last number is never gone past
abbrev pub start_by : Setting → Durable → Bool → (Durable → Member) → Done
start_by set d kept member =
    cond (kept && not (d.boot == last_number)) (booted set (heading_at set d None) d member) (halted (heading_at set d None) d)

-- what a task does at a node that may be given it
abbrev pub deed : EngineMeaning → Setting → Member → Task → Done
deed m set p (Step moment input) = stepped (heading_by set p.node.durable input) (decided m set p.node moment input)
deed m set p (Torn moment input kept) = torn_by (heading_by set p.node.durable input) p.node.durable kept (decided m set p.node moment input)
deed m set p (Silent moment input) = silenced (heading_by set p.node.durable input) (decided m set p.node moment input)
deed m set p Stop = halted (heading_at set p.node.durable None) p.node.durable
deed m set p Start = start_by set p.node.durable true started
deed m set p (TornStart kept) = start_by set p.node.durable kept stopped

-- the number of the start that a task is of: a start is of the one that it makes, any other task of the last one
abbrev pub number_for : Durable → Task → ℕ
number_for d (Step moment input) = d.boot
number_for d (Torn moment input kept) = d.boot
number_for d (Silent moment input) = d.boot
number_for d Stop = d.boot
number_for d Start = d.boot + 1
number_for d (TornStart kept) = d.boot + 1

-- whether a node has to run to be given it
abbrev pub wants_up : Task → Bool
wants_up (Step moment input) = true
wants_up (Torn moment input kept) = true
wants_up (Silent moment input) = true
wants_up Stop = true
wants_up Start = false
wants_up (TornStart kept) = false

-- what listeners were told
abbrev pub told_by : Effect → List Told
told_by f = with_mark f.traced.events f.traced.mark
