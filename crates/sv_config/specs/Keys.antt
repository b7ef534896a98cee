-- What may be wrong with a key of a table, with what stands there, or with a member of an array.
use Rattle.std.specs.Prelude.{ℤ, pos, Bool, false, ◌||◌, not, List, nat_lt, ◌==◌, length, bytes_eq, is_none}
use Rattle.std.specs.Option.{option_map_or}
use Rattle.std.specs.List.{list_any}
use lib.Signed.{lt_z}
use Rattle.toml.specs.Data.{Data, as_str, as_integer, as_table}
use Rattle.sv_mapping.specs.Dispatcher.{dispatcher_of}
use Rattle.sv_mapping.specs.Path.{Text}
use Rattle.sv_mapping.specs.Pattern.{is_pattern}
use Rattle.sv_config.specs.Rules.{Rule, rules_of, has_free_keys}
use Rattle.sv_config.specs.declared.keys.OddKey.{OddKey}
use Rattle.sv_config.specs.declared.keys.OddKey.TheVariants.{NotListed, NoText, BadSetting}
use Rattle.sv_config.specs.declared.members.Unfit.{Unfit}
use Rattle.sv_config.specs.declared.members.Unfit.TheVariants.{NoPattern, NoDispatcher, NoPort, NoText as NoTextIn, NoInteger, NoTable}
use Rattle.sv_config.specs.declared.rules.TableKind.{TableKind}

-- a rule has the key
abbrev pub has_rule : List Rule → Text → Bool
has_rule rules key = list_any (λ rule. bytes_eq rule.key key) rules

-- a table of the kind may have the key
abbrev pub is_listed : TableKind → Text → Bool
is_listed kind key = has_free_keys kind || has_rule (rules_of kind) key

-- a setting's name of no byte or of more than 128, or a value of more than 8192
abbrev pub is_bad_setting : Text → Data → Bool
is_bad_setting name d = length name == 0 || (nat_lt 128 (length name) || option_map_or (λ value. nat_lt 8192 (length value)) (as_str d) false)

-- the number lies outside the range
abbrev pub is_outside : ℤ → ℤ → ℤ → Bool
is_outside least most z = lt_z z least || lt_z most z

abbrev pub is_odd : OddKey → Text → Data → Bool
is_odd (NotListed kind) key d = not (is_listed kind key)
is_odd NoText key d = is_none (as_str d)
is_odd BadSetting key d = is_bad_setting key d

-- what is wrong with a member of an array; one of another kind is no bad pattern, dispatcher or port
abbrev pub is_unfit : Unfit → Data → Bool
is_unfit NoPattern d = option_map_or (λ pattern. not (is_pattern pattern)) (as_str d) false
is_unfit NoDispatcher d = option_map_or (λ word. is_none (dispatcher_of word)) (as_str d) false
is_unfit NoPort d = option_map_or (is_outside (pos 1) (pos 65535)) (as_integer d) false
is_unfit NoTextIn d = is_none (as_str d)
is_unfit NoInteger d = is_none (as_integer d)
is_unfit NoTable d = is_none (as_table d)
