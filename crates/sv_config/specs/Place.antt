-- Where in a document a fault stands: the table, the field, the member of the field's array, and what is there.
use Rattle.std.specs.declared.alloc.Global.{Global}
use Rattle.std.specs.Prelude.{String, ℕ, ◌+◌, ℤ, Bool, List, [], ◌∷◌, ◌++◌, map, codes, Option, Some, None, if◌then◌else◌, true, false}
use Rattle.std.specs.Option.{option_map_or}
use Rattle.std.specs.List.{flat_map}
use Rattle.std.specs.BTreeMap.{BTreeMap}
use Rattle.std.specs.Borrow.{Bor}
use Rattle.toml.specs.Data.{Data, string, integer, Members, no_members, member, get_member, as_table}
use Rattle.toml.specs.View.{table_view}
use Rattle.toml.specs.declared.value.Value.{Value}
use Rattle.sv_mapping.specs.Path.{Text}
use Rattle.sv_config.specs.Document.{table_at, values_at}
use Rattle.sv_config.specs.declared.rules.TableKind.{TableKind}
use Rattle.sv_config.specs.declared.rules.TableKind.TheVariants.{Top, Cluster, Context, Servlet, Filter, Mapping, Listener, Page, File, Once, Cookie, Settings}
use Rattle.sv_config.specs.declared.place.TablePlace.{TablePlace}
use Rattle.sv_config.specs.declared.place.TablePlace.TheVariants.{Document, OfNodes, OfContext, Within, Single}
use Rattle.sv_config.specs.declared.place.Found.{Found}
use Rattle.sv_config.specs.declared.place.Found.TheVariants.{Nothing, Words, Number, Count}
use Rattle.sv_config.specs.declared.place.FaultPlace.{FaultPlace}
use Rattle.sv_config.specs.declared.placed.Placed.{Placed}

-- what stands at a place: nothing that is shown, a text, an integer, or so many
pub data ShownValue : Type 0 where
  nothing : ShownValue
  words : Text → ShownValue
  number : ℤ → ShownValue
  count : ℕ → ShownValue

-- a place: the field of a table, and the member of its array
pub record Spot : Type 0 where
  pub table : TablePlace
  pub key : Text
  pub index : Option ℕ
  pub shown : ShownValue

abbrev pub shown_in : Data → ShownValue
shown_in (string text) = words text
shown_in (integer z) = number z
shown_in _ = nothing

abbrev pub shown_at : Text → Members → ShownValue
shown_at key t = option_map_or shown_in (get_member key t) nothing

-- the kind of the table at a place
abbrev pub kind_of : TablePlace → TableKind
kind_of Document = Top
kind_of OfNodes = Cluster
kind_of (OfContext context) = Context
kind_of (Within context kind index) = kind
kind_of (Single context kind) = kind

-- the number of the context that a table is, or is in
abbrev pub number_of : TablePlace → ℕ
number_of Document = 0
number_of OfNodes = 0
number_of (OfContext context) = context
number_of (Within context kind index) = context
number_of (Single context kind) = context

-- the place of a table of an array of another
abbrev pub inner_place : TablePlace → TableKind → ℕ → TablePlace
inner_place place Context n = OfContext n
inner_place place kind n = Within (number_of place) kind n

-- ---- tables with their places

abbrev pub PlacedTable : Type 0
PlacedTable = TablePlace × Members

-- the tables of an array, each by its place in it
abbrev pub numbered : ℕ → List Data → List (ℕ × Members)
numbered n [] = []
numbered n (d ∷ ds) = option_map_or (λ s. (n, s) ∷ []) (as_table d) [] ++ numbered (n + 1) ds

abbrev pub children : Text → Members → List (ℕ × Members)
children key t = numbered 0 (values_at key t)

abbrev pub placed_as : ℕ → TableKind → List (ℕ × Members) → List PlacedTable
placed_as context kind tables = map (λ c. (Within context kind c.0, c.1)) tables

-- the table at a key of a context of a number
abbrev pub placed_single : TableKind → Text → ℕ × Members → List PlacedTable
placed_single kind key c = option_map_or (λ s. (Single c.0 kind, s) ∷ []) (table_at key c.1) []

-- the tables of the arrays of a context of a number, and those of which it has one at most
unfoldable pub placed_arrays : ℕ × Members → List PlacedTable
placed_arrays c =
    placed_as c.0 Servlet (children (codes "servlet") c.1)
    ++ placed_as c.0 Filter (children (codes "filter") c.1)
    ++ placed_as c.0 Mapping (children (codes "filter-mapping") c.1)
    ++ placed_as c.0 Listener (children (codes "listener") c.1)
    ++ placed_as c.0 Page (children (codes "error-page") c.1)
    ++ placed_as c.0 File (children (codes "file") c.1)

unfoldable pub placed_singles : ℕ × Members → List PlacedTable
placed_singles c = placed_single Once (codes "once") c ++ placed_single Cookie (codes "cookie") c ++ placed_single Settings (codes "settings") c

-- a context, by its number, and the tables in it
unfoldable pub placed_in : ℕ × Members → List PlacedTable
placed_in c = (OfContext c.0, c.1) ∷ [] ++ placed_arrays c ++ placed_singles c

abbrev pub placed_cluster : Members → List PlacedTable
placed_cluster t = option_map_or (λ c. (OfNodes, c) ∷ []) (table_at (codes "cluster") t) []

-- the tables of a document that are there, each with its place
unfoldable pub placed_tables : Members → List PlacedTable
placed_tables t = (Document, t) ∷ [] ++ placed_cluster t ++ flat_map placed_in (children (codes "context") t)

-- ---- places in a table

-- the table as a whole, where the fault stands there
abbrev pub table_where : Bool → PlacedTable → List Spot
table_where holds p = if holds then record { table = p.0; key = []; index = None; shown = nothing } ∷ [] else []

-- a field, where the fault stands there
abbrev pub field_where : Bool → PlacedTable → Text → List Spot
field_where holds p key = if holds then record { table = p.0; key = key; index = None; shown = shown_at key p.1 } ∷ [] else []

-- a field of too many
abbrev pub count_where : Bool → PlacedTable → Text → ℕ → List Spot
count_where holds p key n = if holds then record { table = p.0; key = key; index = None; shown = count n } ∷ [] else []

-- the members of an array at which the test holds
abbrev pub members_from : (Data → Bool) → TablePlace → Text → ℕ → List Data → List Spot
members_from test place key n [] = []
members_from test place key n (d ∷ ds) =
    (if test d then record { table = place; key = key; index = Some n; shown = shown_in d } ∷ [] else [])
    ++ members_from test place key (n + 1) ds

abbrev pub members_where : (Data → Bool) → PlacedTable → Text → List Spot
members_where test p key = members_from test p.0 key 0 (values_at key p.1)

-- the keys of a table at which the test holds
abbrev pub keys_where : (Text → Data → Bool) → TablePlace → Members → List Spot
keys_where test place no_members = []
keys_where test place (member key d t) =
    (if test key d then record { table = place; key = key; index = None; shown = nothing } ∷ [] else []) ++ keys_where test place t

-- there is some place
abbrev pub is_some_place : List Spot → Bool
is_some_place [] = false
is_some_place (spot ∷ spots) = true

-- ---- places and tables of the code

abbrev pub shown : Found → ShownValue
shown Nothing = nothing
shown (Words text) = words text.now
shown (Number z) = number z
shown (Count n) = count n

abbrev pub spot : FaultPlace → Spot
spot p = record { table = p.table; key = p.key.now; index = p.index; shown = shown p.found }

abbrev pub placed : Placed → PlacedTable
placed p = (p.place, table_view p.table.now)

abbrev pub child : ℕ × Bor (BTreeMap (String Global) Value) → ℕ × Members
child c = (c.0, table_view c.1.now)
