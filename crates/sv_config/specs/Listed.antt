-- What a document lists of one table, by its place.
use Rattle.std.specs.Prelude.{ℕ, ◌-◌, nat_lt, List, [], ◌∷◌, length, Option, option_and_then, slice_get, codes, if◌then◌else◌}
use Rattle.std.specs.Option.{option_map_or}
use Rattle.toml.specs.Data.{Members, as_table}
use Rattle.sv_mapping.specs.Path.{Text}
use Rattle.sv_config.specs.Document.{values_at, text_at, texts_at}

-- the table at a place of the array at a key
abbrev pub table_within : Text → ℕ → Members → Option Members
table_within key n t = option_and_then as_table (slice_get (values_at key t) n)

-- the path of the file of a number
abbrev pub path_within : ℕ → Members → List Text
path_within file context = option_map_or (λ path. path ∷ []) (option_and_then (text_at (codes "path")) (table_within (codes "file") file context)) []

-- the patterns of a servlet that the context declares, or else of the one that serves a file of it
abbrev pub patterns_in : ℕ → Members → List Text
patterns_in servlet context =
    let declared = length (values_at (codes "servlet") context) in
    if nat_lt servlet declared
    then option_map_or (texts_at (codes "patterns")) (table_within (codes "servlet") servlet context) []
    else path_within (servlet - declared) context

-- the patterns of a servlet of a context
abbrev pub patterns_within : ℕ → ℕ → Members → List Text
patterns_within context servlet t = option_map_or (patterns_in servlet) (table_within (codes "context") context t) []
