-- What an opening may rely on: that each record of a journal fits those before it.
use Rattle.std.specs.Prelude.{ℕ, ◌≤◌}
use Rattle.sv_model.specs.declared.node.Stage.TheVariants.{Blank}
use Rattle.sv_model.specs.NodeState.{bound}
use Rattle.sv_model.specs.Replay.{blank}
use Rattle.sv_model.specs.Fitting.{AllFit}
use Rattle.sv_world.specs.declared.rules.Rules.{Rules}
use Rattle.sv_world.specs.Rules.{setting_by}
use Rattle.sv_world.specs.World.{Cluster, World, records_at}

-- a journal under the rules has no more keys than one under `wide`
abbrev pub IsWithin : Rules → Rules → Type 0
IsWithin wide rules = bound (setting_by rules 0 0) ≤ bound (setting_by wide 0 0)

-- so it is at each start
abbrev pub AreWithin : Rules → Cluster → Type 0
AreWithin wide c = (n boot : ℕ) → IsWithin wide (c.rules n boot)

-- Each record of a node's journal fitted those before it, under the rules that have room for most. Where a node is switched back to
-- rules with less room, its journal may hold more keys than these allow.
abbrev pub HaveFitted : Rules → World → Type 0
HaveFitted wide w = (n : ℕ) → AllFit (setting_by wide n 0) Blank blank (records_at n w.trace)
