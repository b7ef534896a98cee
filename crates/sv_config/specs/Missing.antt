-- MissingField, at each field that is lacking: a table lacks a required field; `context` is empty; a filter mapping has
-- neither `pattern` nor `servlet`; a file mapping has neither `file` nor `folder`; a cookie that wants `secure` is not.
use Rattle.std.specs.Prelude.{Bool, ◌&&◌, ◌++◌, not, List, [], codes}
use Rattle.std.specs.List.{flat_map}
use Rattle.toml.specs.Data.{Members}
use Rattle.sv_config.specs.Cookie.{lacks_secure}
use Rattle.sv_config.specs.Document.{has, has_neither, is_empty_at}
use Rattle.sv_config.specs.Place.{Spot, PlacedTable, kind_of, field_where}
use Rattle.sv_config.specs.Rules.{Rule, rules_of}
use Rattle.sv_config.specs.declared.rules.TableKind.{TableKind}
use Rattle.sv_config.specs.declared.rules.TableKind.TheVariants.{Top, Mapping, File, Cookie}

-- the table lacks the field of the rule
abbrev pub lacks : Members → Rule → Bool
lacks t rule = rule.required && not (has rule.key t)

-- what is missing beside single fields
abbrev pub lacking_in : TableKind → PlacedTable → List Spot
lacking_in Top p = field_where (is_empty_at (codes "context") p.1) p (codes "context")
lacking_in Mapping p = field_where (has_neither (codes "pattern") (codes "servlet") p.1) p (codes "pattern")
lacking_in File p = field_where (has_neither (codes "file") (codes "folder") p.1) p (codes "file")
lacking_in Cookie p = field_where (lacks_secure p.1) p (codes "secure")
lacking_in _ p = []

abbrev pub missing_in : PlacedTable → List Spot
missing_in p = flat_map (λ rule. field_where (lacks p.1 rule) p rule.key) (rules_of (kind_of p.0)) ++ lacking_in (kind_of p.0) p
