-- UnknownName: each key that is not listed; each filter and servlet of a filter mapping that its context does not declare;
-- each dispatcher other than REQUEST, FORWARD, INCLUDE and ERROR; a `same-site` other than Strict, Lax and None.
use Rattle.std.specs.Prelude.{ℕ, Bool, ◌++◌, List, [], codes, bytes_eq}
use Rattle.std.specs.List.{flat_map, list_any}
use Rattle.toml.specs.Data.{Members}
use Rattle.sv_mapping.specs.Path.{Text}
use Rattle.sv_config.specs.Cookie.{is_same_site}
use Rattle.sv_config.specs.Document.{column}
use Rattle.sv_config.specs.Keys.{is_odd, is_unfit}
use Rattle.sv_config.specs.Place.{Spot, PlacedTable, kind_of, number_of, children, field_where, members_where, keys_where}
use Rattle.sv_config.specs.Spelling.{fails_at}
use Rattle.sv_config.specs.declared.keys.OddKey.TheVariants.{NotListed}
use Rattle.sv_config.specs.declared.members.Unfit.TheVariants.{NoDispatcher}
use Rattle.sv_config.specs.declared.place.TablePlace.TheVariants.{Within}
use Rattle.sv_config.specs.declared.rules.TableKind.{TableKind}
use Rattle.sv_config.specs.declared.rules.TableKind.TheVariants.{Context, Mapping, Cookie}

abbrev pub is_among : List Text → Text → Bool
is_among names text = list_any (λ name. bytes_eq name text) names

-- a filter mapping of a context names at a key what is none of the names
abbrev pub stranger_at : ℕ → Text → List Text → ℕ × Members → List Spot
stranger_at context key names m = field_where (fails_at (is_among names) key m.1) (Within context Mapping m.0, m.1) key

-- filter mappings of a context name at a key what the array at that key does not declare
abbrev pub undeclared_at : Text → PlacedTable → List Spot
undeclared_at key p = flat_map (stranger_at (number_of p.0) key (column key (codes "name") p.1)) (children (codes "filter-mapping") p.1)

-- what is unknown beside keys
abbrev pub strange_in : TableKind → PlacedTable → List Spot
strange_in Context p = undeclared_at (codes "filter") p ++ undeclared_at (codes "servlet") p
strange_in Mapping p = members_where (is_unfit NoDispatcher) p (codes "dispatch")
strange_in Cookie p = field_where (fails_at is_same_site (codes "same-site") p.1) p (codes "same-site")
strange_in _ p = []

abbrev pub unknown_in : PlacedTable → List Spot
unknown_in p = keys_where (is_odd (NotListed (kind_of p.0))) p.0 p.1 ++ strange_in (kind_of p.0) p
