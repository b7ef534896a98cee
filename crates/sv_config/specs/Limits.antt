-- LimitExceeded: each array past its limit, and an empty `ports`; each integer out of its range; each name, or that of a
-- parameter, of no byte or of more than 64; each setting whose name or value is too long.
use Rattle.std.specs.Prelude.{ℕ, ℤ, pos, negsuc, Bool, false, ◌||◌, ◌++◌, nat_lt, ◌==◌, List, [], length, codes}
use Rattle.std.specs.Option.{option_map_or}
use Rattle.toml.specs.Data.{Members}
use Rattle.sv_mapping.specs.Path.{Text}
use Rattle.sv_config.specs.Document.{size, is_empty_at, values_at, text_at, integer_at, all_patterns}
use Rattle.sv_config.specs.Keys.{is_odd, is_outside, is_unfit}
use Rattle.sv_config.specs.Place.{Spot, PlacedTable, field_where, count_where, members_where, keys_where}
use Rattle.sv_config.specs.declared.keys.OddKey.TheVariants.{BadSetting}
use Rattle.sv_config.specs.declared.members.Unfit.TheVariants.{NoPort}
use Rattle.sv_config.specs.declared.rules.TableKind.{TableKind}
use Rattle.sv_config.specs.declared.rules.TableKind.TheVariants.{Top, Cluster, Context, Servlet, Filter, Listener, Page, Once, Cookie, Settings}

-- the array at a key has more members than the limit
abbrev pub has_over : ℕ → Text → Members → Bool
has_over limit key t = nat_lt limit (length (values_at key t))

-- the integer at a key lies outside the range
abbrev pub is_outside_at : ℤ → ℤ → Text → Members → Bool
is_outside_at least most key t = option_map_or (is_outside least most) (integer_at key t) false

-- the name at a key has no byte, or more than 64
abbrev pub has_bad_length : Text → Members → Bool
has_bad_length key t = option_map_or (λ name. length name == 0 || nat_lt 64 (length name)) (text_at key t) false

abbrev pub counted : Bool → PlacedTable → Text → List Spot
counted holds p key = count_where holds p key (length (values_at key p.1))

abbrev pub too_many_at : ℕ → PlacedTable → Text → List Spot
too_many_at limit p key = counted (has_over limit key p.1) p key

-- 256 patterns
abbrev pub has_too_many_patterns : Members → Bool
has_too_many_patterns t = nat_lt 256 (length (all_patterns t))

abbrev pub too_many_patterns : PlacedTable → List Spot
too_many_patterns p = count_where (has_too_many_patterns p.1) p (codes "patterns") (length (all_patterns p.1))

-- 1 to 8 ports, each from 1 to 65535; a deadline of a second to a day; 1 to 1048576 keys
unfoldable pub exceeding_in_cluster : PlacedTable → List Spot
exceeding_in_cluster p =
    counted (is_empty_at (codes "ports") p.1 || has_over 8 (codes "ports") p.1) p (codes "ports")
    ++ members_where (is_unfit NoPort) p (codes "ports")
    ++ field_where (is_outside_at (pos 1) (pos 86400) (codes "deadline") p.1) p (codes "deadline")
    ++ field_where (is_outside_at (pos 1) (pos 1048576) (codes "keys") p.1) p (codes "keys")

-- an interval of 32 bits with sign; 64 servlets, 32 filters, 64 filter mappings, 16 listeners, 32 error pages and 64 file
-- mappings
unfoldable pub exceeding_in_context : PlacedTable → List Spot
exceeding_in_context p =
    field_where (is_outside_at (negsuc 2147483647) (pos 2147483647) (codes "interval") p.1) p (codes "interval")
    ++ too_many_at 64 p (codes "servlet") ++ too_many_at 32 p (codes "filter") ++ too_many_at 64 p (codes "filter-mapping")
    ++ too_many_at 16 p (codes "listener") ++ too_many_at 32 p (codes "error-page")
    ++ too_many_at 64 p (codes "file") ++ too_many_patterns p

-- 64 settings
abbrev pub has_too_many_settings : Members → Bool
has_too_many_settings t = nat_lt 64 (size t)

abbrev pub exceeding_in : TableKind → PlacedTable → List Spot
exceeding_in Top p = too_many_at 16 p (codes "context")
exceeding_in Cluster p = exceeding_in_cluster p
exceeding_in Context p = exceeding_in_context p
exceeding_in Servlet p = field_where (has_bad_length (codes "name") p.1) p (codes "name")
exceeding_in Filter p = field_where (has_bad_length (codes "name") p.1) p (codes "name")
exceeding_in Listener p = field_where (has_bad_length (codes "name") p.1) p (codes "name")
exceeding_in Page p = field_where (is_outside_at (pos 400) (pos 599) (codes "status") p.1) p (codes "status")
exceeding_in Once p =
    field_where (is_outside_at (pos 1) (pos 16) (codes "answers") p.1) p (codes "answers")
    ++ field_where (has_bad_length (codes "parameter") p.1) p (codes "parameter")
exceeding_in Cookie p = field_where (has_bad_length (codes "name") p.1) p (codes "name")
exceeding_in Settings p = count_where (has_too_many_settings p.1) p [] (size p.1) ++ keys_where (is_odd BadSetting) p.0 p.1
exceeding_in _ p = []
