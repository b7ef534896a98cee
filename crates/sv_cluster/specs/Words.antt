-- The words of the command line.
use Rattle.std.specs.Prelude.{ℕ, List, [], ◌∷◌, Option, Some, None, Result, Ok, Err}
use Rattle.sv_cluster.specs.declared.words.Words.{Words}
use Rattle.sv_cluster.specs.declared.words.Arguments.{Arguments}

-- NODE, CONFIG, DIR and SCRIPT
pub record Call : Type 0 where
  pub node : List ℕ
  pub config : List ℕ
  pub folder : List ℕ
  pub script : List ℕ

abbrev pub call_in : List (List ℕ) → Option Call
call_in [] = None
call_in (node ∷ []) = None
call_in (node ∷ config ∷ []) = None
call_in (node ∷ config ∷ folder ∷ []) = None
call_in (node ∷ config ∷ folder ∷ script ∷ []) = Some (record { node = node; config = config; folder = folder; script = script })
call_in (node ∷ config ∷ folder ∷ script ∷ word ∷ words) = None

-- what was read
abbrev pub call_of : Result Words Arguments → Option Call
call_of (Ok w) = Some (record { node = w.node.now; config = w.config.now; folder = w.folder.now; script = w.script.now })
call_of (Err fault) = None
