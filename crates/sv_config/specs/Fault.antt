-- The faults of a document, each with the places at which it stands, and the least of them.
use Rattle.std.specs.Prelude.{◌≡◌, ◌⊎◌, Bool, List, [], ◌∷◌, Option, Some, None, option_map, if◌then◌else◌}
use Rattle.std.specs.List.{flat_map}
use Rattle.toml.specs.Data.{Members}
use Rattle.toml.specs.Parse.{parse_document}
use Rattle.sv_mapping.specs.Path.{Text}
use Rattle.sv_config.specs.Kinds.{mistyped_in}
use Rattle.sv_config.specs.Limits.{exceeding_in}
use Rattle.sv_config.specs.Missing.{missing_in}
use Rattle.sv_config.specs.Place.{Spot, PlacedTable, kind_of, placed_tables, is_some_place}
use Rattle.sv_config.specs.Repeats.{repeated_in}
use Rattle.sv_config.specs.Spelling.{misspelled_in}
use Rattle.sv_config.specs.Unknown.{unknown_in}
use Rattle.sv_config.specs.declared.fault.ConfigFault.{ConfigFault}
use Rattle.sv_config.specs.declared.fault.ConfigFault.TheVariants.{NotToml, MissingField, WrongKind, UnknownName, BadPattern, Duplicate, LimitExceeded, Memory}

-- the places in a table at which a fault stands
abbrev pub places_in : ConfigFault → PlacedTable → List Spot
places_in NotToml p = []
places_in MissingField p = missing_in p
places_in WrongKind p = mistyped_in p
places_in UnknownName p = unknown_in p
places_in BadPattern p = misspelled_in (kind_of p.0) p
places_in Duplicate p = repeated_in (kind_of p.0) p
places_in LimitExceeded p = exceeding_in (kind_of p.0) p
places_in Memory p = []

-- those in some tables, in the order of the tables
abbrev pub places_among : List PlacedTable → ConfigFault → List Spot
places_among tables fault = flat_map (places_in fault) tables

abbrev pub with_places : List PlacedTable → ConfigFault → ConfigFault × List Spot
with_places tables fault = (fault, places_among tables fault)

-- the tables have the fault: it stands at some place
abbrev pub has_fault : List PlacedTable → ConfigFault → Bool
has_fault tables fault = is_some_place (places_among tables fault)

-- the faults of tables, the least first
abbrev pub faults : List ConfigFault
faults = MissingField ∷ WrongKind ∷ UnknownName ∷ BadPattern ∷ Duplicate ∷ LimitExceeded ∷ []

-- the first of the faults that the tables have
abbrev pub first_fault : List ConfigFault → List PlacedTable → Option ConfigFault
first_fault [] tables = None
first_fault (fault ∷ others) tables = if has_fault tables fault then Some fault else first_fault others tables

-- the least fault of a document
unfoldable pub fault_of : Members → Option ConfigFault
fault_of t = first_fault faults (placed_tables t)

-- the same with its places
abbrev pub faults_of : Members → Option (ConfigFault × List Spot)
faults_of t = option_map (with_places (placed_tables t)) (fault_of t)

-- the text is no document of TOML, or the fault is the least of its document
abbrev pub IsFaultOf : Text → ConfigFault → Type 0
IsFaultOf text fault =
    ((fault ≡ NotToml) × (parse_document text ≡ None))
    ⊎ ((t : Members) × (parse_document text ≡ Some t) × (fault_of t ≡ Some fault))
