-- What comes of a request in a context: the events in order, and what became of sessions.
use Rattle.std.specs.Prelude.{ℕ, List, [], ◌∷◌, ◌++◌, Option, Some, None}
use Rattle.sv_model.specs.declared.key.Key.{Key}
use Rattle.sv_model.specs.declared.request.Request.{Request}
use Rattle.sv_model.specs.declared.response.Response.{Response}
use Rattle.sv_model.specs.declared.event.Event.{Event}
use Rattle.sv_model.specs.declared.event.Event.TheVariants.{RequestIn, RequestOut, Destroyed}
use Rattle.sv_model.specs.declared.event.Told.{Told}
use Rattle.sv_model.specs.declared.outcome.Outcome.{Outcome}
use Rattle.sv_model.specs.declared.outcome.Fate.{Fate}
use Rattle.sv_model.specs.declared.outcome.Fate.TheVariants.{Untouched, Ended}
use Rattle.sv_model.specs.declared.outcome.Birth.{Birth}
use Rattle.sv_model.specs.declared.outcome.Birth.TheVariants.{Absent}
use Rattle.sv_model.specs.Method.{is_head}
use Rattle.sv_model.specs.Page.{plain_page}

-- an event of a context
abbrev pub told : ℕ → Event → Told
told context event = record { context = context; event = event }

-- a session that has expired is told first
abbrev pub destroyed_of : ℕ → Option Key → List Told
destroyed_of context None = []
destroyed_of context (Some key) = told context (Destroyed key) ∷ []

-- then the request comes in, what the edit did is told, and the request goes out (chapter "Application Lifecycle Events")
abbrev pub events_for : ℕ → Option Key → List Told → List Told
events_for context expired edited = destroyed_of context expired ++ told context RequestIn ∷ [] ++ edited ++ told context RequestOut ∷ []

-- what became of the session that was handed in: it has expired, or it is what the edit made of it
abbrev pub fate_for : Option Key → Fate → Fate
fate_for None fate = fate
fate_for (Some key) fate = Ended

-- what comes of a request to a context of a number, by the session that had expired, the response, and what the edit left
abbrev pub outcome_of : ℕ → Option Key → Response → Fate → Birth → List Told → Outcome
outcome_of context expired response fate birth events =
    record { response = response; fate = fate_for expired fate; birth = birth; events = events_for context expired events }

-- what comes of a request that is answered and not served: its session stays as it came, and nothing is told but that one expired
abbrev pub unserved_of : ℕ → Option Key → Response → Fate → Outcome
unserved_of context expired response fate =
    record { response = response; fate = fate_for expired fate; birth = Absent; events = destroyed_of context expired }

-- the plain page where no context serves
abbrev pub missing_page : Request → Response
missing_page r = plain_page 404 [] (is_head r.method) r.close

-- a request that no context serves: no session is touched, and nothing is told
abbrev pub served_outside : Request → Outcome
served_outside r = record { response = missing_page r; fate = Untouched; birth = Absent; events = [] }
