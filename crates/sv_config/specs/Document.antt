-- What stands in a table of a document (TOML 1.1). A member of another kind than the one asked for is not looked at.
use Rattle.std.specs.Prelude.{ℕ, suc, ℤ, Bool, false, ◌&&◌, not, ◌==◌, List, [], ◌∷◌, ◌++◌, length, Option, option_and_then, is_some, unwrap_or, codes}
use Rattle.std.specs.Option.{option_map_or}
use Rattle.std.specs.List.{filter_map, flat_map}
use Rattle.toml.specs.Data.{Data, Items, no_items, item, Members, no_members, member, get_member, as_str, as_integer, as_bool, as_array, as_table}
use Rattle.sv_mapping.specs.Path.{Text}

-- the items of an array as a list
abbrev pub items_list : Items → List Data
items_list no_items = []
items_list (item d ds) = d ∷ items_list ds

-- the table has the key
abbrev pub has : Text → Members → Bool
has key t = is_some (get_member key t)

-- the table has both keys, or neither
abbrev pub has_both : Text → Text → Members → Bool
has_both one other t = has one t && has other t

abbrev pub has_neither : Text → Text → Members → Bool
has_neither one other t = not (has one t) && not (has other t)

-- the text at a key, the text or an empty one, the integer and the table
abbrev pub text_at : Text → Members → Option Text
text_at key t = option_and_then as_str (get_member key t)

abbrev pub text_or_empty : Text → Members → Text
text_or_empty key t = unwrap_or (text_at key t) []

abbrev pub integer_at : Text → Members → Option ℤ
integer_at key t = option_and_then as_integer (get_member key t)

-- the truth value at a key
abbrev pub boolean_at : Text → Members → Option Bool
boolean_at key t = option_and_then as_bool (get_member key t)

abbrev pub table_at : Text → Members → Option Members
table_at key t = option_and_then as_table (get_member key t)

-- what the array at a key has
unfoldable pub values_at : Text → Members → List Data
values_at key t = option_map_or items_list (option_and_then as_array (get_member key t)) []

-- the key has an array of nothing
abbrev pub is_empty_at : Text → Members → Bool
is_empty_at key t = option_map_or (λ ds. length (items_list ds) == 0) (option_and_then as_array (get_member key t)) false

-- the tables, the texts and the integers of the array at a key
abbrev pub tables_at : Text → Members → List Members
tables_at key t = filter_map as_table (values_at key t)

abbrev pub texts_at : Text → Members → List Text
texts_at key t = filter_map as_str (values_at key t)

abbrev pub integers_at : Text → Members → List ℤ
integers_at key t = filter_map as_integer (values_at key t)

-- the texts that the tables of an array have at a key
abbrev pub column : Text → Text → Members → List Text
column array key t = filter_map (text_at key) (tables_at array t)

-- how many members a table has
abbrev pub size : Members → ℕ
size no_members = 0
size (member key d t) = suc (size t)

-- the patterns of servlets
abbrev pub patterns_of : List Members → List Text
patterns_of = flat_map (texts_at (codes "patterns"))

-- the patterns of a context: those of its servlets, and the paths of its files
abbrev pub all_patterns : Members → List Text
all_patterns t = patterns_of (tables_at (codes "servlet") t) ++ column (codes "file") (codes "path") t
