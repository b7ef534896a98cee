-- What a node alone has done, call by call. It is read off the calls of its step and their answers.
--
-- A line of a world of many nodes holds such an item too, and beside it what a node alone never has: a record, a session that has
-- come or gone, and a step that a stop has cut.
use Rattle.std.specs.Option.{option_to_list}
use Rattle.std.specs.Prelude.{◌≡◌, Result, Ok, Err, Option, Some, None, List, [], ◌∷◌, ◌++◌}
use Rattle.std.specs.List.{filter_map}
use Rattle.sv_model.specs.declared.key.Moment.{Moment}
use Rattle.sv_model.specs.declared.input.Input.{Input}
use Rattle.sv_model.specs.declared.output.Output.{Output}
use Rattle.sv_model.specs.declared.site.StepFault.{StepFault}
use Rattle.sv_model.specs.Engine.{EngineMeaning}
use Rattle.sv_model.specs.NodeState.{Setting, Node}
use Rattle.sv_model.specs.Decision.{Decision, left}
use Rattle.sv_model.specs.Node.{decided}
use Rattle.sv_model.specs.Serving.{token_of}
use Rattle.sv_model.specs.Step.{View, Steps}
use Rattle.sv_model.specs.Trace.{Item, asked_by, reply_in, refusal_in}

-- a call of a node's step: what it was given, and what it answered
pub record Call : Type 0 where
  pub moment : Moment
  pub input : Input
  pub answer : Result (List Output) StepFault

-- these calls, one after the other, lead from a node to a node
abbrev pub Leads : Setting → View → List Call → View → Type 0
Leads set old [] new = new ≡ old
Leads set old (c ∷ cs) new = (between : View) × Steps set old c.moment c.input c.answer between × Leads set between cs new

abbrev pub item_of : Setting → Node → Input → Decision → List Output → Item
item_of set n input d outputs =
    record {
      asked = asked_by (token_of set n.durable) input;
      commit = d.commit;
      events = d.events;
      replies = filter_map (reply_in (token_of set n.durable)) outputs;
      refused = filter_map (refusal_in (token_of set n.durable)) outputs;
    }

-- by the answer of a call: a step that was refused has done nothing
abbrev pub item_by : EngineMeaning → Setting → Node → Moment → Input → Result (List Output) StepFault → Option Item
item_by m set n moment input (Ok outputs) = Some (item_of set n input (decided m set n moment input) outputs)
item_by m set n moment input (Err fault) = None

abbrev pub node_by : EngineMeaning → Setting → Node → Moment → Input → Result (List Output) StepFault → Node
node_by m set n moment input (Ok outputs) = left (decided m set n moment input)
node_by m set n moment input (Err fault) = n

-- all that these calls of a node have done
abbrev pub trace_of : EngineMeaning → Setting → Node → List Call → List Item
trace_of m set n [] = []
trace_of m set n (c ∷ cs) = option_to_list (item_by m set n c.moment c.input c.answer) ++ trace_of m set (node_by m set n c.moment c.input c.answer) cs
