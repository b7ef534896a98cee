-- Why a container is not started.
use Rattle.std.specs.Prelude.{ℕ, ◌<◌, ◌≤◌, ◌⊎◌, ◌==◌, ◌&&◌, Bool, List, bytes_eq, count_by}
use Rattle.sv_config.specs.declared.deployment.Context.{Context}
use Rattle.sv_container.specs.Deployment.{declared, labels_of}
use Rattle.sv_container.specs.declared.arrange.Kind.TheVariants.{Servlet, Filter, Listener}
use Rattle.sv_container.specs.declared.named.Named.{Named}
use Rattle.sv_container.specs.declared.named.StartFault.{StartFault}
use Rattle.sv_container.specs.declared.named.StartFault.TheVariants.{MissingObject, ExtraObject, Memory}

-- a label: the number of a context, and a name
abbrev pub is_label : ℕ × List ℕ → ℕ × List ℕ → Bool
is_label its other = (its.0 == other.0) && bytes_eq its.1 other.1

-- how often a label stands among others
unfoldable pub times : ℕ × List ℕ → List (ℕ × List ℕ) → ℕ
times its labels = count_by (is_label its) labels

-- of no label there are fewer than are wanted
abbrev pub HasAll : (had wanted : List (ℕ × List ℕ)) → Type 0
HasAll had wanted = (its : ℕ × List ℕ) → times its wanted ≤ times its had

-- of some label there are fewer than are wanted
pub record Lacks (had wanted : List (ℕ × List ℕ)) : Type 0 where
  pub its : ℕ × List ℕ
  pub fewer : times its had < times its wanted

-- the labels of a kind that are declared, and those of the objects that were handed in
pub record Labels : Type 0 where
  pub declared : List (ℕ × List ℕ)
  pub handed : List (ℕ × List ℕ)

-- an object is missing, or one is too many
abbrev pub IsMissing : Labels → Type 0
IsMissing l = Lacks l.handed l.declared

abbrev pub IsExtra : Labels → Type 0
IsExtra l = Lacks l.declared l.handed

-- no object is missing, and none is too many
abbrev pub IsComplete : Labels → Type 0
IsComplete l = HasAll l.handed l.declared

abbrev pub IsExact : Labels → Type 0
IsExact l = HasAll l.declared l.handed

-- MissingObject comes exactly where an object of a label that is declared was not handed in; where none is missing,
-- ExtraObject exactly where one was handed in whose label is not declared, or one more of a label than are declared;
-- and Memory only where what was handed in is what is declared.
abbrev pub IsFaultFor : StartFault → (servlets filters listeners : Labels) → Type 0
IsFaultFor MissingObject s f l = IsMissing s ⊎ (IsMissing f ⊎ IsMissing l)
IsFaultFor ExtraObject s f l = (IsComplete s × IsComplete f × IsComplete l) × (IsExtra s ⊎ (IsExtra f ⊎ IsExtra l))
IsFaultFor Memory s f l = (IsComplete s × IsComplete f × IsComplete l) × (IsExact s × IsExact f × IsExact l)

-- the labels of the servlets, of the filters and of the listeners of a deployment
abbrev pub servlet_labels : {O : Type 0} → List Context → List (Named O) → Labels
servlet_labels contexts handed = record { declared = declared Servlet contexts; handed = labels_of handed }

abbrev pub filter_labels : {O : Type 0} → List Context → List (Named O) → Labels
filter_labels contexts handed = record { declared = declared Filter contexts; handed = labels_of handed }

abbrev pub listener_labels : {O : Type 0} → List Context → List (Named O) → Labels
listener_labels contexts handed = record { declared = declared Listener contexts; handed = labels_of handed }
