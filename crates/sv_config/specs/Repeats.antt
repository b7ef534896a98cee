-- Duplicate, at each item that is equal to one before it: a context path; in one context a servlet, filter or listener
-- name, a pattern of a servlet or the path of a file, or what an error page is for; a port. And at the second of two fields
-- of which one is allowed.
use Rattle.std.specs.Prelude.{ℕ, ◌+◌, ℤ, Bool, drop, ◌++◌, List, [], ◌∷◌, codes, bytes_eq, Some, None, if◌then◌else◌}
use Rattle.std.specs.Option.{option_map_or}
use Rattle.std.specs.List.{flat_map, list_any}
use Rattle.std.specs.Ordering.{int_eq}
use Rattle.toml.specs.Data.{Data, Members, as_str, as_integer}
use Rattle.sv_mapping.specs.Path.{Text}
use Rattle.sv_config.specs.Document.{has_both, has_neither, text_at, integer_at, values_at}
use Rattle.sv_config.specs.Place.{Spot, PlacedTable, words, number, inner_place, children, table_where, field_where}
use Rattle.sv_config.specs.declared.place.TablePlace.{TablePlace}
use Rattle.sv_config.specs.declared.rules.TableKind.{TableKind}
use Rattle.sv_config.specs.declared.rules.TableKind.TheVariants.{Top, Cluster, Context, Servlet, Filter, Mapping, Listener, Page, File}

-- of items with their places, those that are equal to one before
abbrev pub repeated_behind : {A : Type 0} → (A → A → Bool) → List A → List (A × Spot) → List Spot
repeated_behind same before [] = []
repeated_behind same before (i ∷ is) =
    (if list_any (λ x. same x i.0) before then i.1 ∷ [] else []) ++ repeated_behind same (before ++ i.0 ∷ []) is

abbrev pub repeated : {A : Type 0} → (A → A → Bool) → List (A × Spot) → List Spot
repeated same items = repeated_behind same [] items

-- the text, and the integer, that each table of an array has at a key
abbrev pub text_item : TablePlace → TableKind → Text → ℕ × Members → List (Text × Spot)
text_item place kind key c =
    option_map_or (λ text. (text, record { table = inner_place place kind c.0; key = key; index = None; shown = words text }) ∷ []) (text_at key c.1) []

abbrev pub text_items : TableKind → Text → Text → PlacedTable → List (Text × Spot)
text_items kind array key p = flat_map (text_item p.0 kind key) (children array p.1)

abbrev pub integer_item : TablePlace → TableKind → Text → ℕ × Members → List (ℤ × Spot)
integer_item place kind key c =
    option_map_or (λ z. (z, record { table = inner_place place kind c.0; key = key; index = None; shown = number z }) ∷ []) (integer_at key c.1) []

abbrev pub integer_items : TableKind → Text → Text → PlacedTable → List (ℤ × Spot)
integer_items kind array key p = flat_map (integer_item p.0 kind key) (children array p.1)

-- the texts, and the integers, of an array
abbrev pub texts_from : TablePlace → Text → ℕ → List Data → List (Text × Spot)
texts_from place key n [] = []
texts_from place key n (d ∷ ds) =
    option_map_or (λ text. (text, record { table = place; key = key; index = Some n; shown = words text }) ∷ []) (as_str d) []
    ++ texts_from place key (n + 1) ds

abbrev pub integers_from : TablePlace → Text → ℕ → List Data → List (ℤ × Spot)
integers_from place key n [] = []
integers_from place key n (d ∷ ds) =
    option_map_or (λ z. (z, record { table = place; key = key; index = Some n; shown = number z }) ∷ []) (as_integer d) []
    ++ integers_from place key (n + 1) ds

abbrev pub port_items : PlacedTable → List (ℤ × Spot)
port_items p = integers_from p.0 (codes "ports") 0 (values_at (codes "ports") p.1)

abbrev pub patterns_in : TablePlace → ℕ × Members → List (Text × Spot)
patterns_in place c = texts_from (inner_place place Servlet c.0) (codes "patterns") 0 (values_at (codes "patterns") c.1)

abbrev pub servlet_patterns : PlacedTable → List (Text × Spot)
servlet_patterns p = flat_map (patterns_in p.0) (children (codes "servlet") p.1)

abbrev pub pattern_items : PlacedTable → List (Text × Spot)
pattern_items p = servlet_patterns p ++ text_items File (codes "file") (codes "path") p

-- the error pages that are for all else: they name neither a status nor a fault
abbrev pub is_default_page : Members → Bool
is_default_page t = has_neither (codes "status") (codes "fault") t

abbrev pub default_page : TablePlace → ℕ × Members → List Spot
default_page place c = table_where (is_default_page c.1) (inner_place place Page c.0, c.1)

abbrev pub default_pages : PlacedTable → List Spot
default_pages p = flat_map (default_page p.0) (children (codes "error-page") p.1)

abbrev pub repeated_texts : TableKind → Text → Text → PlacedTable → List Spot
repeated_texts kind array key p = repeated bytes_eq (text_items kind array key p)

-- within one context
unfoldable pub repeated_in_context : PlacedTable → List Spot
repeated_in_context p =
    repeated_texts Servlet (codes "servlet") (codes "name") p ++ repeated_texts Filter (codes "filter") (codes "name") p
    ++ repeated_texts Listener (codes "listener") (codes "name") p ++ repeated bytes_eq (pattern_items p)
    ++ repeated int_eq (integer_items Page (codes "error-page") (codes "status") p) ++ repeated_texts Page (codes "error-page") (codes "fault") p
    ++ drop 1 (default_pages p)

abbrev pub repeated_in : TableKind → PlacedTable → List Spot
repeated_in Top p = repeated_texts Context (codes "context") (codes "path") p
repeated_in Cluster p = repeated int_eq (port_items p)
repeated_in Context p = repeated_in_context p
repeated_in Mapping p = field_where (has_both (codes "pattern") (codes "servlet") p.1) p (codes "servlet")
repeated_in File p = field_where (has_both (codes "file") (codes "folder") p.1) p (codes "folder")
repeated_in Page p = field_where (has_both (codes "status") (codes "fault") p.1) p (codes "fault")
repeated_in _ p = []
