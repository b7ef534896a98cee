-- What an engine means.
use Rattle.std.specs.Prelude.{◌≡◌, ℕ, Option, None, List, [], ◌∷◌}
use Rattle.sv_model.specs.declared.key.Key.{Key}
use Rattle.sv_model.specs.declared.key.Secret.{Secret}
use Rattle.sv_model.specs.declared.request.Request.{Request}
use Rattle.sv_model.specs.declared.session.Session.{Session}
use Rattle.sv_model.specs.declared.event.Told.{Told}
use Rattle.sv_model.specs.declared.outcome.Outcome.{Outcome}
use Rattle.sv_model.specs.declared.outcome.Fate.TheVariants.{Untouched}

-- what an engine answers, and what its listeners note
pub record EngineMeaning : Type 0 where
  -- the key and the secret of the session that a request names
  pub names : Request → Option (Key × Secret)
  -- a request, the session that it names where that is at hand, the seconds, and the key and secret of a birth
  pub serve : Request → Option (Key × Session) → ℕ → Key × Secret → Outcome
  -- each listener's numbers after an event
  pub hear : List (List ℕ) → Told → List (List ℕ)

-- each listener's numbers after a list of events
abbrev pub heard_all : EngineMeaning → List (List ℕ) → List Told → List (List ℕ)
heard_all m heard [] = heard
heard_all m heard (t ∷ ts) = heard_all m (m.hear heard t) ts

-- with no session handed in the fate is Untouched
abbrev pub TouchesOnlyHanded : EngineMeaning → Type 0
TouchesOnlyHanded m = (r : Request) (now : ℕ) (fresh : Key × Secret) → (m.serve r None now fresh).fate ≡ Untouched
