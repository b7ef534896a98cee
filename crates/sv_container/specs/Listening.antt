-- What listeners note (Jakarta Servlet 6.0, chapter "Application Lifecycle Events").
use Rattle.std.specs.Prelude.{ℕ, ◌==◌, List, [], ◌∷◌, map, if◌then◌else◌}
use Rattle.sv_model.specs.declared.event.Told.{Told}
use Rattle.sv_container.specs.declared.named.Named.{Named}

-- a listener: its context, and what an event makes of the numbers that it has noted
pub record Ear : Type 0 where
  pub context : ℕ
  pub hears : Told → List ℕ → List ℕ

abbrev pub ear_of : {L : Type 0} → (L → Told → List ℕ → List ℕ) → Named L → Ear
ear_of hears l = record { context = l.context; hears = hears l.object }

unfoldable pub ears_of : {L : Type 0} → (L → Told → List ℕ → List ℕ) → List (Named L) → List Ear
ears_of hears ls = map (ear_of hears) ls

unfoldable pub noted_of : {L : Type 0} → (L → List ℕ) → List (Named L) → List (List ℕ)
noted_of noted ls = map (λ l. noted l.object) ls

-- a listener is told the events of its context alone
abbrev pub heard_by : Ear → Told → List ℕ → List ℕ
heard_by e t numbers = if e.context == t.context then e.hears t numbers else numbers

-- what an event makes of the numbers of all listeners
unfoldable pub heard_by_all : List Ear → List (List ℕ) → Told → List (List ℕ)
heard_by_all [] heard t = []
heard_by_all (e ∷ es) [] t = []
heard_by_all (e ∷ es) (h ∷ hs) t = heard_by e t h ∷ heard_by_all es hs t

-- what events in order make of them
unfoldable pub heard_of : List Ear → List (List ℕ) → List Told → List (List ℕ)
heard_of ears heard [] = heard
heard_of ears heard (t ∷ ts) = heard_of ears (heard_by_all ears heard t) ts
