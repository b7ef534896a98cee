-- A group of steps, as calls that are seen from outside: one for each where it is done, one for all where it was kept and
-- nothing of it has left.
use Rattle.std.specs.Prelude.{◌≡◌, ◌⊎◌, ℕ, true, map, List, [], ◌∷◌, Ok, Err}
use Rattle.sv_model.specs.declared.input.Input.{Input}
use Rattle.sv_model.specs.declared.key.Moment.{Moment}
use Rattle.sv_model.specs.declared.node.Setting.{Setting}
use Rattle.sv_model.specs.declared.output.Output.{Output}
use Rattle.sv_model.specs.Engine.{EngineMeaning, heard_all}
use Rattle.sv_model.specs.Node.{decided}
use Rattle.sv_model.specs.NodeState.{Node as State}
use Rattle.sv_model.specs.Decision.{left}
use Rattle.sv_node.specs.Call.{Step, Unsaid, Stop, Done, Refused, Given, quiet, carried_out}
use Rattle.sv_node.specs.Cuts.{GivesCall, GivesCallOn}
use Rattle.sv_node.specs.Group.{Answer}
use Rattle.sv_node.specs.History.{Turn, AreTurns, behind_all, told_in, stand_of}
use Rattle.sv_node.specs.Node.{engine_of, setting_of, state_of}
use Rattle.sv_node.specs.declared.node.Node.{Node}

-- all of them as what steps are given
abbrev pub all_given : List (Moment × Input) → List Given
all_given [] = []
all_given (i ∷ is) = record { at = i.0; input = i.1 } ∷ all_given is

-- what a step puts out by its answer
abbrev pub put_out_by : Answer → List Output
put_out_by (Ok outputs) = outputs
put_out_by (Err fault) = []

-- those that were done
abbrev pub done_in : List (Moment × Input) → List Answer → List Given
done_in [] answers = []
done_in (i ∷ is) [] = []
done_in (i ∷ is) (Ok outputs ∷ answers) = record { at = i.0; input = i.1 } ∷ done_in is answers
done_in (i ∷ is) (Err fault ∷ answers) = done_in is answers

-- each of them as a call, done or refused
abbrev pub turns_of : EngineMeaning → Setting → State → List (Moment × Input) → List Answer → List Turn
turns_of m set n [] answers = []
turns_of m set n (i ∷ is) [] = []
turns_of m set n (i ∷ is) (Ok outputs ∷ answers) =
    record { call = Step i.0 i.1 Done; after = carried_out (decided m set n i.0 i.1) } ∷ turns_of m set (left (decided m set n i.0 i.1)) is answers
turns_of m set n (i ∷ is) (Err fault ∷ answers) = record { call = Step i.0 i.1 (Refused fault); after = quiet n } ∷ turns_of m set n is answers

-- a group that is done is these calls, one after the other, and what they put out is what it has answered
pub record IsTurns {E D : Type 0} (meaning : E → EngineMeaning) (heard : E → List (List ℕ)) (old : Node E D) (inputs : List (Moment × Input))
    (answers : List Answer) (new : Node E D) : Type 0 where
  pub turns : AreTurns (meaning (engine_of old)) (setting_of old) (stand_of old)
      (turns_of (meaning (engine_of old)) (setting_of old) (state_of old) inputs answers)
  pub lead : behind_all (stand_of old) (turns_of (meaning (engine_of old)) (setting_of old) (state_of old) inputs answers) ≡ stand_of new
  pub heard_is : heard (engine_of new) ≡ heard_all (meaning (engine_of old)) (heard (engine_of old))
      (told_in (turns_of (meaning (engine_of old)) (setting_of old) (state_of old) inputs answers))
  pub outputs : map (λ (t : Turn). t.after.outputs) (turns_of (meaning (engine_of old)) (setting_of old) (state_of old) inputs answers) ≡ map put_out_by answers

-- the images of the disks A and B give what a stop leaves, or what these steps leave of which nothing has left the node
abbrev pub GivesGroup : EngineMeaning → Setting → State → List Given → List ℕ → List ℕ → Type 0
GivesGroup m set n givens a b = GivesCall m set true n Stop a b ⊎ GivesCall m set true n (Unsaid givens) a b

-- the same of the image of the current disk beside that of the other one
abbrev pub GivesGroupOn : EngineMeaning → Setting → State → List Given → List ℕ → List ℕ → Type 0
GivesGroupOn m set n givens current other = GivesCallOn m set true n Stop current other ⊎ GivesCallOn m set true n (Unsaid givens) current other
