-- WrongKind: each field of another kind, of an array each member of another kind, and each setting that is no text.
use Rattle.std.specs.Prelude.{Bool, false, ◌++◌, List, [], is_none, if◌then◌else◌}
use Rattle.std.specs.Option.{option_map_or}
use Rattle.std.specs.List.{flat_map}
use Rattle.toml.specs.Data.{Data, Members, get_member, as_str, as_integer, as_bool, as_array, as_table}
use Rattle.sv_mapping.specs.Path.{Text}
use Rattle.sv_config.specs.Keys.{is_odd, is_unfit}
use Rattle.sv_config.specs.Place.{Spot, PlacedTable, kind_of, field_where, members_where, keys_where}
use Rattle.sv_config.specs.Rules.{Rule, rules_of, has_free_keys}
use Rattle.sv_config.specs.declared.keys.OddKey.TheVariants.{NoText as NoTextAt}
use Rattle.sv_config.specs.declared.members.Unfit.TheVariants.{NoText, NoInteger, NoTable}
use Rattle.sv_config.specs.declared.rules.FieldKind.{FieldKind}
use Rattle.sv_config.specs.declared.rules.FieldKind.TheVariants.{Text as TextKind, Integer, Boolean, Texts, Integers, Table, Tables}

-- neither the kind nor, for an array, an array
abbrev pub has_other_shape : FieldKind → Data → Bool
has_other_shape TextKind d = is_none (as_str d)
has_other_shape Integer d = is_none (as_integer d)
has_other_shape Boolean d = is_none (as_bool d)
has_other_shape Table d = is_none (as_table d)
has_other_shape Texts d = is_none (as_array d)
has_other_shape Integers d = is_none (as_array d)
has_other_shape Tables d = is_none (as_array d)

abbrev pub mistyped_members : FieldKind → PlacedTable → Text → List Spot
mistyped_members Texts p key = members_where (is_unfit NoText) p key
mistyped_members Integers p key = members_where (is_unfit NoInteger) p key
mistyped_members Tables p key = members_where (is_unfit NoTable) p key
mistyped_members _ p key = []

abbrev pub misshaped_at : FieldKind → Text → Members → Bool
misshaped_at kind key t = option_map_or (has_other_shape kind) (get_member key t) false

abbrev pub mistyped_field : PlacedTable → Rule → List Spot
mistyped_field p rule = field_where (misshaped_at rule.kind rule.key p.1) p rule.key ++ mistyped_members rule.kind p rule.key

abbrev pub mistyped_in : PlacedTable → List Spot
mistyped_in p =
    flat_map (mistyped_field p) (rules_of (kind_of p.0)) ++ (if has_free_keys (kind_of p.0) then keys_where (is_odd NoTextAt) p.0 p.1 else [])
