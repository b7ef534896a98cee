-- What a step of a node does to the node, to its listeners, and to who asked.
use Rattle.std.specs.Prelude.{◌≡◌, ℕ, Result, Ok, Err, Option, Some, None, List, [], ◌∷◌, ◌++◌}
use Rattle.sv_model.specs.declared.key.Moment.{Moment}
use Rattle.sv_model.specs.declared.event.Told.{Told}
use Rattle.sv_model.specs.declared.input.Input.{Input}
use Rattle.sv_model.specs.declared.output.Output.{Output}
use Rattle.sv_model.specs.declared.site.StepFault.{StepFault}
use Rattle.sv_model.specs.declared.site.StepFault.TheVariants.{Memory}
use Rattle.sv_model.specs.Engine.{EngineMeaning, heard_all}
use Rattle.sv_model.specs.NodeState.{Setting, Node}
use Rattle.sv_model.specs.Decision.{Decision, left}
use Rattle.sv_model.specs.Node.{decided}

-- a node with its engine's meaning, and what its listeners have noted
pub record View : Type 0 where
  pub meaning : EngineMeaning
  pub node : Node
  pub heard : List (List ℕ)

abbrev pub with_mark : List Told → Option Told → List Told
with_mark events None = events
with_mark events (Some mark) = events ++ mark ∷ []

-- what listeners are told: the events of the commit, then that a session has come or gone
abbrev pub told : Decision → List Told
told d = with_mark d.events d.mark

-- the whole step that was decided
pub record IsStep (old : View) (d : Decision) (outputs : List Output) (new : View) : Type 0 where
  pub meaning : new.meaning ≡ old.meaning
  pub node : new.node ≡ left d
  pub heard : new.heard ≡ heard_all old.meaning old.heard (told d)
  pub outputs_are : outputs ≡ d.outputs

-- a call of a node that stands alone and has no disk: a whole step, or one that want of memory refused and that changed
-- nothing
abbrev pub Steps : Setting → View → Moment → Input → Result (List Output) StepFault → View → Type 0
Steps set old moment input (Ok outputs) new = IsStep old (decided old.meaning set old.node moment input) outputs new
Steps set old moment input (Err fault) new = (fault ≡ Memory) × (new ≡ old)
