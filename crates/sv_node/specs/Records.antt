-- The records that the entries of a journal spell, and what they give.
use Rattle.std.specs.Prelude.{◌≡◌, ℕ, List, [], ◌∷◌, Option, IfSome}
use Rattle.sv_model.specs.declared.node.Setting.{Setting}
use Rattle.sv_model.specs.declared.node.Stage.{Stage}
use Rattle.sv_model.specs.declared.node.Stage.TheVariants.{Blank}
use Rattle.sv_model.specs.declared.record.Record.{Record}
use Rattle.sv_model.specs.NodeState.{Durable}
use Rattle.sv_model.specs.Replay.{blank, replayed}
use Rattle.sv_model.specs.Fitting.{Fits, AllFit}
use Rattle.sv_record.specs.Record.{IsSpelling}

-- the entries are spellings of these records, one each, by whatever versions
abbrev pub Spell : List (List ℕ) → List Record → Type 0
Spell [] [] = Unit {0}
Spell [] (r ∷ rs) = ⊥
Spell (p ∷ ps) [] = ⊥
Spell (p ∷ ps) (r ∷ rs) = IsSpelling p r × Spell ps rs

-- the entries are the records of a node, each of which may stand after those before it, and this is what they give
pub record Replays (set : Setting) (entries : List (List ℕ)) (d : Durable) : Type 0 where
  pub records : List Record
  pub spelled : Spell entries records
  pub fit : AllFit set Blank blank records
  pub gives : replayed blank records ≡ d

-- records that may stand after one another from the first on, and give this
pub record Give (set : Setting) (records : List Record) (d : Durable) : Type 0 where
  pub fit : AllFit set Blank blank records
  pub gives : replayed blank records ≡ d

-- a record, if there is one, that may stand after whatever records give this
abbrev pub CanFollow : Setting → Durable → Option Record → Type 0
CanFollow set d entry = (stage : Stage) → IfSome entry (λ r. Fits set stage d r)
