-- The lives of objects (Jakarta Servlet 6.0, sections "Servlet Life Cycle" and "Filter Lifecycle").
use Rattle.std.specs.Prelude.{◌≡◌, ℕ, ◌+◌, List, [], ◌∷◌, if◌then◌else◌, All, false, string_bytes}
use Rattle.sv_servlet.specs.declared.servlet.Phase.{Phase}
use Rattle.sv_servlet.specs.declared.servlet.Phase.TheVariants.{New}
use Rattle.sv_dispatch.specs.declared.hosted.Hosted.{Hosted}
use Rattle.sv_dispatch.specs.Rows.{Row}
use Rattle.sv_container.specs.Application.{App, is_able, phase_of_mark}
use Rattle.sv_container.specs.declared.named.Named.{Named}

-- an object that has not been initialised
abbrev pub hosted_of : {O : Type 0} → Named O → Hosted O
hosted_of n = record { name = string_bytes n.name; object = n.object; is_ready = false }

-- each of the objects that are handed in is as it was made
abbrev pub AreNamedNew : {O : Type 0} → (O → Phase) → List (Named O) → Type 0
AreNamedNew phase ns = All (λ n. phase n.object ≡ New) ns

-- each of the objects is as it was made
abbrev pub AreNew : {O : Type 0} → (O → Phase) → List (Hosted O) → Type 0
AreNew phase hs = All (λ h. phase h.object ≡ New) hs

-- an object after its initialisation: its name and its meaning stay, and its mark tells its phase
pub record IsInitialised {O M : Type 0} (meaning : O → M) (phase : O → Phase) (Keeps : M → Type 0) (old new : Hosted O) : Type 0 where
  pub name : new.name ≡ old.name
  pub same : meaning new.object ≡ meaning old.object
  pub marked : phase new.object ≡ phase_of_mark new.is_ready
  pub keeps : Keeps (meaning new.object)

-- an object that was initialised
abbrev pub IsLive : {O : Type 0} → (O → Phase) → Hosted O → Type 0
IsLive phase h = phase h.object ≡ phase_of_mark h.is_ready

-- how many objects are ready
unfoldable pub ready_count : {M : Type 0} → List (Row M) → ℕ
ready_count [] = 0
ready_count (r ∷ rs) = (if r.is_ready then 1 else 0) + ready_count rs

-- how many servlets, and how many filters, of all applications
unfoldable pub ready_servlets : List App → ℕ
ready_servlets [] = 0
ready_servlets (a ∷ others) = ready_count a.table.servlets + ready_servlets others

unfoldable pub ready_filters : List App → ℕ
ready_filters [] = 0
ready_filters (a ∷ others) = ready_count a.table.filters + ready_filters others

-- each application is in service where it can be
abbrev pub AreAble : List App → Type 0
AreAble apps = All (λ a. a.is_in_service ≡ is_able a) apps
