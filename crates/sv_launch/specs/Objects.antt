-- Which object each name of a descriptor stands for.
use Rattle.std.specs.Prelude.{ℕ, ◌+◌, Bool, List, [], ◌∷◌, ◌++◌, map, bytes_eq, string_bytes, Option, Some, is_none, if◌then◌else◌}
use Rattle.sv_config.specs.Values.{ContextData}
use Rattle.sv_container.specs.declared.named.Named.{Named}
use Rattle.sv_model.specs.declared.event.Told.{Told}

-- what a listener makes of an event
abbrev pub Hears : Type 0
Hears = Told → List ℕ → List ℕ

-- a name's meaning in front of those of other names
abbrev pub or_else : {M : Type 0} → List ℕ → M → (List ℕ → Option M) → List ℕ → Option M
or_else one meaning others name = if bytes_eq name one then Some meaning else others name

-- ---- what a descriptor declares

-- a name of a context, by the context's number, and what it stands for
pub record Lookup (M : Type 0) : Type 0 where
  pub context : ℕ
  pub name : List ℕ
  pub meaning : Option M

abbrev pub lookup : {M : Type 0} → (ℕ → List ℕ → Option M) → ℕ → List ℕ → Lookup M
lookup named context name = record { context = context; name = name; meaning = named context name }

-- the names of one context
abbrev pub looked_up : {M : Type 0} → (ℕ → List ℕ → Option M) → ℕ → List (List ℕ) → List (Lookup M)
looked_up named context names = map (lookup named context) names

-- the names of contexts, numbered from `number` on
unfoldable pub lookups : {M : Type 0} → (ℕ → List ℕ → Option M) → (ContextData → List (List ℕ)) → ℕ → List ContextData → List (Lookup M)
lookups named names number [] = []
lookups named names number (c ∷ cs) = looked_up named number (names c) ++ lookups named names (number + 1) cs

-- some name stands for nothing
abbrev pub is_missing : {M : Type 0} → Lookup M → Bool
is_missing l = is_none l.meaning

-- what an object says that is handed in: its name stands for what it means
abbrev pub object_data : {O M : Type 0} → (O → M) → Named O → Lookup M
object_data meant n = record { context = n.context; name = string_bytes n.name; meaning = Some (meant n.object) }
