-- What the records of a journal give.
use Rattle.std.specs.Prelude.{ℕ, ◌<◌, List, false}
use Rattle.sv_model.specs.declared.record.Record.{Record}
use Rattle.sv_model.specs.declared.key.TheConstants.{NODE_LIMIT}
use Rattle.sv_model.specs.declared.state.TheConstants.{KEY_MOST}
use Rattle.sv_model.specs.declared.node.Stage.TheVariants.{Blank}
use Rattle.sv_model.specs.Replay.{blank}
use Rattle.sv_model.specs.Fitting.{AllFit}

-- each record may stand after those before it at a node of this number, which knows as many keys as a node may know
abbrev pub Fit : ℕ → List Record → Type 0
Fit node records = AllFit (record { node = node; nodes = NODE_LIMIT; deadline = 1; keys = KEY_MOST; forget = false }) Blank blank records

-- at none of the nodes below the number
abbrev pub FitNowhere : ℕ → List Record → Type 0
FitNowhere count records = (node : ℕ) → node < count → ¬ (Fit node records)
