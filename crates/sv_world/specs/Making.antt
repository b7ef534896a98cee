-- How a world in code is made of engines, and how they come back.
use Rattle.std.specs.Prelude.{◌≡◌, ℕ, ◌<◌, true, is_some, Some, None, List, [], map, length, slice_get}
use Rattle.std.specs.List.{All}
use Rattle.std.specs.Option.{option_map}
use Rattle.sv_model.specs.Engine.{EngineMeaning}
use Rattle.sv_world.specs.declared.slot.Slot.{Slot}
use Rattle.sv_world.specs.declared.rules.Rules.{Rules}
use Rattle.sv_world.specs.Rules.{setting_by}
use Rattle.sv_world.specs.declared.world.World.{World as Nodes}
use Rattle.sv_world.specs.Slot.{engine_in}
use Rattle.sv_world.specs.Worlds.{settings_by, size_of, meanings_of, heard_of}
use Rattle.sv_world.specs.Happened.{HaveHappened, restarts}

-- it has yet to start
pub record IsIdle {E : Type 0} (s : Slot E) : Type 0 where
  pub core : s.core ≡ None
  pub journal : s.journal.items ≡ []
  pub idle : is_some s.idle ≡ true

-- nodes that have yet to start, each with the engine of its number
pub record AreFilled {E : Type 0} (nodes : ℕ) (rules : Rules) (engines : List E) (slots : List (Slot E)) : Type 0 where
  pub engines_in : map engine_in slots ≡ map Some engines
  pub idle : All IsIdle slots
  pub settings : (n : ℕ) → n < length slots → settings_by slots n ≡ setting_by rules n nodes

-- nothing has happened
pub record IsUntouched {E : Type 0} (w : Nodes E) : Type 0 where
  pub packets : w.packets.items ≡ []
  pub trace : w.trace.items ≡ []

-- all nodes were started, and nothing was told
pub record HaveBegun {E : Type 0} (meaning : E → EngineMeaning) (noted : E → List (List ℕ)) (old new : Nodes E) : Type 0 where
  pub happened : HaveHappened meaning noted old new (restarts (size_of old))
  pub heard : heard_of noted new ≡ heard_of noted old

-- the engines of a world's nodes
pub record AreEnginesOf {E : Type 0} (meaning : E → EngineMeaning) (noted : E → List (List ℕ)) (fit : E → Type 0) (w : Nodes E) (engines : List E) : Type 0 where
  pub valid : All fit engines
  pub number : length engines ≡ size_of w
  pub meanings : (n : ℕ) → option_map meaning (slice_get engines n) ≡ meanings_of meaning w n
  pub heard : (n : ℕ) → option_map noted (slice_get engines n) ≡ heard_of noted w n
