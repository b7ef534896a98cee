-- The objects of a context, as contracts know them.
use Rattle.std.specs.Prelude.{◌≡◌, ℕ, ◌<◌, List, [], map, length, Bool, slice_get, IfSome, Option, Some, None, if◌then◌else◌}
use Rattle.sv_servlet.specs.Call.{Asked}
use Rattle.sv_servlet.specs.Filter.{Filters, Verdict, verdict}
use Rattle.sv_servlet.specs.Servlet.{Serves, Lent, Answer, answer}
use Rattle.sv_servlet.specs.declared.filter.Before.TheVariants.{Stop}
use Rattle.sv_servlet.specs.declared.servlet.Next.TheVariants.{Done}
use Rattle.sv_servlet.specs.declared.servlet.Phase.{Phase}
use Rattle.sv_servlet.specs.declared.servlet.Phase.TheVariants.{Ready}
use Rattle.sv_dispatch.specs.declared.hosted.Hosted.{Hosted}

-- an object: its name, its meaning, its phase, and whether it is marked as ready
pub record Row (M : Type 0) : Type 0 where
  pub name : List ℕ
  pub meaning : M
  pub phase : Phase
  pub is_ready : Bool

abbrev pub row : {O M : Type 0} → (O → M) → (O → Phase) → Hosted O → Row M
row meaning phase h = record { name = h.name; meaning = meaning h.object; phase = phase h.object; is_ready = h.is_ready }

unfoldable pub rows : {O M : Type 0} → (O → M) → (O → Phase) → List (Hosted O) → List (Row M)
rows meaning phase hs = map (row meaning phase) hs

-- the object at a place is there and may be called
pub record IsReadyAt {M : Type 0} (rs : List (Row M)) (at : ℕ) : Type 0 where
  pub within : at < length rs
  pub ready : IfSome (slice_get rs at) (λ r. r.phase ≡ Ready)

abbrev pub served_by : Option (Row Serves) → Asked → Lent → Answer
served_by None call l = answer l Done
served_by (Some r) call l = r.meaning call l

-- what the servlet at a place answers; nothing past the end
unfoldable pub served : List (Row Serves) → ℕ → Asked → Lent → Answer
served rs at call l = served_by (slice_get rs at) call l

abbrev pub before_by : Option (Row Filters) → Asked → Lent → Verdict
before_by None call l = verdict l Stop
before_by (Some r) call l = r.meaning.before call l

-- what a filter's `before` says
unfoldable pub before_at : List (Row Filters) → ℕ → Asked → Lent → Verdict
before_at rs at call l = before_by (slice_get rs at) call l

abbrev pub after_by : Option (Row Filters) → Asked → Lent → Lent
after_by None call l = l
after_by (Some r) call l = r.meaning.after call l

-- what a filter's `after` leaves
unfoldable pub after_at : List (Row Filters) → ℕ → Asked → Lent → Lent
after_at rs at call l = after_by (slice_get rs at) call l

-- what a look-up reads of an object
pub record Label : Type 0 where
  pub name : List ℕ
  pub is_ready : Bool

abbrev pub label : {O : Type 0} → Hosted O → Label
label h = record { name = h.name; is_ready = h.is_ready }

abbrev pub label_of_row : {M : Type 0} → Row M → Label
label_of_row r = record { name = r.name; is_ready = r.is_ready }

-- the labels of a list of objects, and of its rows
unfoldable pub labels : {O : Type 0} → List (Hosted O) → List Label
labels hs = map label hs

unfoldable pub labels_of_rows : {M : Type 0} → List (Row M) → List Label
labels_of_rows rs = map label_of_row rs

abbrev pub ready_by : ℕ → Option Label → Option ℕ
ready_by at None = None
ready_by at (Some l) = if l.is_ready then Some at else None

-- the number of a servlet, where it is there and marked
unfoldable pub ready_at : List Label → Option ℕ → Option ℕ
ready_at ls None = None
ready_at ls (Some at) = ready_by at (slice_get ls at)

abbrev pub name_by : Option Label → List ℕ
name_by None = []
name_by (Some l) = l.name

-- the name of a servlet, empty where there is none
unfoldable pub name_at : List Label → Option ℕ → List ℕ
name_at ls None = []
name_at ls (Some at) = name_by (slice_get ls at)
