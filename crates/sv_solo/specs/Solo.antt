-- A Solo, seen without where it lies.
use Rattle.std.specs.Prelude.{◌≡◌, ℕ, List, [], Option, Result}
use Rattle.sv_model.specs.declared.key.Moment.{Moment}
use Rattle.sv_model.specs.declared.session.Session.{Session}
use Rattle.sv_model.specs.declared.input.Input.{Input}
use Rattle.sv_model.specs.declared.output.Output.{Output}
use Rattle.sv_model.specs.declared.site.StepFault.{StepFault}
use Rattle.sv_model.specs.Engine.{EngineMeaning}
use Rattle.sv_model.specs.Step.{View, Steps}
use Rattle.sv_model.specs.Alone.{Call, Leads}
use Rattle.sv_solo.specs.Table.{alone, node_of}
use Rattle.sv_solo.specs.declared.solo.Solo.{Solo}

abbrev pub view_at : EngineMeaning → List (Option Session) → List (List ℕ) → View
view_at m sessions heard = record { meaning = m; node = node_of sessions; heard = heard }

abbrev pub view_of : {E : Type 0} → (E → EngineMeaning) → (E → List (List ℕ)) → Solo E → View
view_of meaning heard s = view_at (meaning s.engine) s.sessions.items (heard s.engine)

-- a Solo's step is the node's step, by what is seen of it
abbrev pub solo_steps : {E : Type 0} → (E → EngineMeaning) → (E → List (List ℕ)) → Solo E → Moment → Input → Result (List Output) StepFault → Solo E → Type 0
solo_steps meaning heard old moment input answer new = Steps alone (view_of meaning heard old) moment input answer (view_of meaning heard new)

-- a Solo over an engine that has served nothing
pub record IsNew {E : Type 0} (s : Solo E) (engine : E) : Type 0 where
  pub over : s.engine ≡ engine
  pub none : s.sessions.items ≡ []

-- all calls of a node alone since it was made over an engine of this meaning, and what they have led to
pub record IsHistory (m : EngineMeaning) (first : View) (calls : List Call) (end : View) : Type 0 where
  pub meaning : first.meaning ≡ m
  pub node : first.node ≡ node_of []
  pub led : Leads alone first calls end
