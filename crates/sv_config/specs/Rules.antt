-- The tables of a descriptor, and the fields that each kind of table may have.
use Rattle.std.specs.Prelude.{Bool, true, false, List, [], ◌∷◌, codes}
use Rattle.sv_mapping.specs.Path.{Text}
use Rattle.sv_config.specs.declared.rules.FieldKind.{FieldKind}
use Rattle.sv_config.specs.declared.rules.FieldKind.TheVariants.{Text as TextKind, Integer, Boolean, Texts, Integers, Table, Tables}
use Rattle.sv_config.specs.declared.rules.FieldRule.{FieldRule}
use Rattle.sv_config.specs.declared.rules.TableKind.{TableKind}
use Rattle.sv_config.specs.declared.rules.TableKind.TheVariants.{Top, Cluster, Context, Servlet, Filter, Mapping, Listener, Page, File, Once, Cookie, Settings}

-- a field that a table may have, its kind, and whether it must be there
pub record Rule : Type 0 where
  pub key : Text
  pub kind : FieldKind
  pub required : Bool

abbrev pub needed : Text → FieldKind → Rule
needed key kind = record { key = key; kind = kind; required = true }

abbrev pub optional : Text → FieldKind → Rule
optional key kind = record { key = key; kind = kind; required = false }

-- the fields of each kind of table
unfoldable pub rules_of : TableKind → List Rule
rules_of Top = needed (codes "context") Tables ∷ optional (codes "cluster") Table ∷ []
rules_of Cluster =
    optional (codes "ports") Integers ∷ optional (codes "deadline") Integer ∷ optional (codes "secrets") TextKind
    ∷ optional (codes "keys") Integer ∷ optional (codes "forget") Boolean ∷ []
rules_of Context =
    needed (codes "path") TextKind ∷ optional (codes "interval") Integer ∷ optional (codes "servlet") Tables
    ∷ optional (codes "filter") Tables ∷ optional (codes "filter-mapping") Tables ∷ optional (codes "listener") Tables
    ∷ optional (codes "error-page") Tables ∷ optional (codes "file") Tables ∷ optional (codes "once") Table
    ∷ optional (codes "cookie") Table ∷ optional (codes "settings") Table ∷ []
rules_of Servlet = needed (codes "name") TextKind ∷ needed (codes "patterns") Texts ∷ []
rules_of Filter = needed (codes "name") TextKind ∷ []
rules_of Mapping =
    needed (codes "filter") TextKind ∷ optional (codes "pattern") TextKind ∷ optional (codes "servlet") TextKind
    ∷ optional (codes "dispatch") Texts ∷ []
rules_of Listener = needed (codes "name") TextKind ∷ []
rules_of Page = needed (codes "path") TextKind ∷ optional (codes "status") Integer ∷ optional (codes "fault") TextKind ∷ []
rules_of File =
    needed (codes "path") TextKind ∷ optional (codes "file") TextKind ∷ optional (codes "folder") TextKind
    ∷ optional (codes "cache") TextKind ∷ []
rules_of Once = needed (codes "answers") Integer ∷ optional (codes "parameter") TextKind ∷ []
rules_of Cookie = optional (codes "name") TextKind ∷ optional (codes "secure") Boolean ∷ optional (codes "same-site") TextKind ∷ []
rules_of Settings = []

-- tables of the kind have whatever keys their author likes, each with a text
abbrev pub has_free_keys : TableKind → Bool
has_free_keys Settings = true
has_free_keys _ = false

-- a rule of the code
abbrev pub rule_of : FieldRule → Rule
rule_of r = record { key = r.key.now; kind = r.kind; required = r.required }
