-- What a step makes durable: its record stands after those of the node, and gives what the step keeps.
use Rattle.std.specs.Prelude.{◌≡◌, IfSome}
use Rattle.sv_model.specs.declared.node.Setting.{Setting}
use Rattle.sv_model.specs.declared.node.Stage.{Stage}
use Rattle.sv_model.specs.NodeState.{Node}
use Rattle.sv_model.specs.Decision.{Decision}
use Rattle.sv_model.specs.Opening.{mark_of}
use Rattle.sv_model.specs.Replay.{applied_if}
use Rattle.sv_model.specs.Fitting.{Fits}

pub record IsJournaled (set : Setting) (n : Node) (d : Decision) : Type 0 where
  -- wherever the node's records stand
  pub fits : (stage : Stage) → IfSome d.entry (λ r. Fits set stage n.durable r)
  pub gives : d.durable ≡ applied_if d.entry n.durable
  -- listeners are told that a session has come or gone exactly where the record says so
  pub marks : d.mark ≡ mark_of d.entry
