-- The container function: what comes of a request to the applications of a deployment (Jakarta Servlet 6.0, chapters
-- "Servlet Context", "Mapping Requests to Servlets" and "Sessions").
use Rattle.std.specs.Prelude.{◌≡◌, ℕ, Bool, true, false, ◌&&◌, Option, Some, None, option_map, is_some, List, [], ◌∷◌, ◌++◌, slice_get, option_and_then, if◌then◌else◌, map, string_bytes, All}
use Rattle.sv_model.specs.declared.key.Key.{Key}
use Rattle.sv_model.specs.declared.key.Secret.{Secret}
use Rattle.sv_model.specs.declared.request.Request.{Request}
use Rattle.sv_model.specs.declared.response.Response.{Response}
use Rattle.sv_model.specs.declared.session.Session.{Session}
use Rattle.sv_model.specs.declared.event.Told.{Told}
use Rattle.sv_model.specs.declared.event.Event.TheVariants.{Destroyed}
use Rattle.sv_model.specs.declared.outcome.Birth.{Birth}
use Rattle.sv_model.specs.declared.outcome.Birth.TheVariants.{Absent, Alive, Ended as BirthEnded}
use Rattle.sv_model.specs.declared.outcome.Fate.{Fate}
use Rattle.sv_model.specs.declared.outcome.Fate.TheVariants.{Untouched, Kept, Ended as FateEnded}
use Rattle.sv_model.specs.declared.outcome.Outcome.{Outcome}
use Rattle.sv_model.specs.Engine.{EngineMeaning}
use Rattle.sv_model.specs.Method.{is_head}
use Rattle.sv_model.specs.Page.{plain_page}
use Rattle.sv_mapping.specs.Context.{chosen_context, context_at, path_in_context}
use Rattle.sv_once.specs.Asked.{is_safe}
use Rattle.sv_once.specs.Room.{bare, session_with}
use Rattle.sv_once.specs.declared.choice.Choice.{Choice}
use Rattle.sv_session.specs.Edit.{Edit, begun, fate_of}
use Rattle.sv_session.specs.declared.edit.Edited.{Edited}
use Rattle.sv_servlet.specs.Call.{Asked}
use Rattle.sv_servlet.specs.Reply.{new_reply}
use Rattle.sv_servlet.specs.ReplyState.{ReplyState}
use Rattle.sv_servlet.specs.Servlet.{lent}
use Rattle.sv_target.specs.SessionCookie.{session_cookie}
use Rattle.sv_dispatch.specs.Pages.{Ran, served as served_by_table}
use Rattle.sv_dispatch.specs.MappedPath.{mapped_path_of}
use Rattle.sv_dispatch.specs.declared.request.Ended.{Ended}
use Rattle.sv_dispatch.specs.declared.request.Ended.TheVariants.{Normal, ErrorPage, Plain}
use Rattle.sv_container.specs.declared.admission.Admission.{Admission}
use Rattle.sv_container.specs.declared.admission.Arrival.{Arrival}
use Rattle.sv_container.specs.declared.container.Container.{Container}
use Rattle.sv_container.specs.declared.recall.Recall.{Recall}
use Rattle.sv_container.specs.declared.recall.Recall.TheVariants.{Known, New}
use Rattle.sv_container.specs.declared.recall.Refusal.TheVariants.{Full}
use Rattle.sv_container.specs.Admission.{admission, expired_of, held_of, is_away, joined_of, renamed_of, secret_of}
use Rattle.sv_container.specs.Application.{App, IsSoundApp, apps_of}
use Rattle.sv_container.specs.Listening.{Ear, ears_of, heard_by_all}
use Rattle.sv_container.specs.Outcome.{outcome_of, served_outside, told, unserved_of}
use Rattle.sv_container.specs.Recalling.{held_memory, next_memory, old_secret, recalled, refused}
use Rattle.sv_container.specs.SetCookie.{announced, with_cookie}
use Rattle.sv_servlet.specs.declared.servlet.Servlet as servlet_trait
use Rattle.sv_servlet.specs.declared.filter.Filter as filter_trait

-- what is deployed: the context path of each application by its number, the applications, and the listeners
pub record Deployed : Type 0 where
  pub paths : List (List ℕ)
  pub apps : List App
  pub ears : List Ear

-- a container, by the members of the three traits
abbrev pub deployed : {S F L : Type 0} → servlet_trait.Ghosts S → filter_trait.Ghosts F → (L → Told → List ℕ → List ℕ) → Container S F L → Deployed
deployed servlet filter hears c = record {
  paths = map string_bytes c.paths.items;
  apps = apps_of servlet filter c.applications.items;
  ears = ears_of hears c.listeners.items;
}

-- each application of a container is sound
abbrev pub IsSound : Deployed → Type 0
IsSound d = All IsSoundApp d.apps

-- ---- the context

abbrev pub in_service : ℕ → Option App → Option ℕ
in_service place None = None
in_service place (Some a) = if a.is_in_service then Some place else None

-- the place of the application whose context has the path, where it is in service
unfoldable pub place_for : Deployed → List ℕ → Option ℕ
place_for d path = option_and_then (λ place. in_service place (slice_get d.apps place)) (chosen_context d.paths path)

abbrev pub named_in : Option App → Request → Option (Key × Secret)
named_in None r = None
named_in (Some a) r = session_cookie a.cookie.name r.cookies a.number

abbrev pub named_at : Deployed → Request → Option ℕ → Option (Key × Secret)
named_at d r None = None
named_at d r (Some place) = named_in (slice_get d.apps place) r

-- the session of its context that a request's cookies name (chapter "Sessions", section "Cookies")
abbrev pub named_by : Deployed → Request → Option (Key × Secret)
named_by d r = named_at d r (place_for d r.path)

-- ---- the dispatch

-- what the servlet of a path within the context is asked (section "Request Path Elements")
abbrev pub asked : App → Request → List ℕ → Asked
asked a r path =
    let place = mapped_path_of a.table.patterns path in
    record {
      method = r.method;
      request_uri = r.raw_path;
      context_path = a.path;
      servlet_path = place.servlet_path;
      path_info = place.path_info;
      query = r.query;
      params = r.params;
      fields = r.fields;
      cookies = r.cookies;
      body = r.body;
      settings = a.settings;
      attributes = [];
      resume = 0;
    }

abbrev pub reply_of : Request → ReplyState → Response
reply_of r reply = record { status = reply.status; fields = reply.fields; body = reply.body; head_only = is_head r.method; close = r.close }

-- the reply as the response, or the plain page of its status after its fields
abbrev pub replied : Request → Ended → ReplyState → Response
replied r Normal reply = reply_of r reply
replied r (ErrorPage status) reply = reply_of r reply
replied r (Plain status) reply = plain_page reply.status reply.fields (is_head r.method) r.close

-- a response, and the edit after it
pub record Answered : Type 0 where
  pub response : Response
  pub edit : Edit

abbrev pub answered : Response → Edit → Answered
answered response edit = record { response = response; edit = edit }

abbrev pub answered_with : Request → Ran → Answered
answered_with r ran = answered (replied r ran.ended ran.lent.reply) ran.lent.edit

-- a request is dispatched with a new reply; edits stand, whatever follows
unfoldable pub answered_by : App → Request → List ℕ → Edit → Answered
answered_by a r path e = answered_with r (served_by_table a.table (asked a r path) (lent e new_reply))

-- what an edit leaves
abbrev pub edited_of : Edit → Edited
edited_of e = record { fate = e.fate; birth = e.birth; id_changed = e.id_changed; events = e.events }

-- ---- what is remembered

-- the session with which a dispatch begins, where what it remembers is taken away
abbrev pub bare_held : Option (Key × Session) → Option (Key × Session)
bare_held None = None
bare_held (Some held) = Some (held.0, bare held.1)

abbrev pub bared : Bool → Option (Key × Session) → Option (Key × Session)
bared true held = bare_held held
bared false held = held

abbrev pub memory_if : Bool → Option (Key × Session) → List ℕ
memory_if true held = held_memory held
memory_if false held = []

-- what is recalled of a request that came with a session: how it was answered before; or that it is new, the session with which its
-- dispatch begins, and what that remembers
abbrev pub Recalls : Option Choice → Request → Admission → Admission → Recall → Type 0
Recalls once r joined bare (Known response) = (recalled once r (held_of joined) ≡ Some response) × (bare ≡ joined)
Recalls once r joined bare (New memory) =
    ((recalled once r (held_of joined) ≡ None) × (memory ≡ memory_if (is_some once) (held_of joined)))
    × ((held_of bare ≡ bared (is_some once) (held_of joined)) × (expired_of bare ≡ expired_of joined))

-- a request whose session was turned away, and which is to change nothing, leaves no new session in its place
abbrev pub without_birth : ℕ → Key → Edited → Birth → Edited
without_birth context key e Absent = e
without_birth context key e (Alive s) = record e { birth = BirthEnded; events = e.events ++ told context (Destroyed key) ∷ [] }
without_birth context key e BirthEnded = e

abbrev pub settled_birth : ℕ → Key → Bool → Edited → Edited
settled_birth context key true e = without_birth context key e e.birth
settled_birth context key false e = e

-- the session that is kept, and the one that was made, with what they remember; none where there is no room for it
abbrev pub fate_with : List ℕ → Fate → Option Fate
fate_with memory Untouched = Some Untouched
fate_with memory (Kept s) = option_map Kept (session_with memory s)
fate_with memory FateEnded = Some FateEnded

abbrev pub birth_with : List ℕ → Birth → Option Birth
birth_with memory Absent = Some Absent
birth_with memory (Alive s) = option_map Alive (session_with memory s)
birth_with memory BirthEnded = Some BirthEnded

abbrev pub edited_with : Edited → Option Fate → Option Birth → Option Edited
edited_with e None birth = None
edited_with e (Some fate) None = None
edited_with e (Some fate) (Some birth) = Some (record e { fate = fate; birth = birth })

abbrev pub remembering_by : Choice → Request → List ℕ → Response → List ℕ → Edited → Option Edited
remembering_by c r old response memory e =
    edited_with e (fate_with (next_memory c r old response memory) e.fate) (birth_with (next_memory c r old response []) e.birth)

-- what an edit leaves, as it is kept
abbrev pub remembering_with : Option Choice → ℕ → Request → Bool → Option Secret → List ℕ → Key → Response → Edited → Option Edited
remembering_with None context r is_away secret memory key response e = Some e
remembering_with (Some c) context r is_away secret memory key response e =
    let settled = settled_birth context key (is_away && is_safe r.method) e in
    remembering_by c r (old_secret settled.id_changed secret) response memory settled

unfoldable pub remembering : App → Request → Admission → Key → Answered → Option Edited
remembering a r joined key w =
    remembering_with a.once a.number r (is_away joined) (secret_of joined) (memory_if (is_some a.once) (held_of joined)) key w.response (edited_of w.edit)

-- ---- the request

-- what comes of a request that was served, by its answer and what its edit leaves
abbrev pub plain_parts : App → Option Key → Option Key → Key × Secret → Response → Edited → Outcome
plain_parts a joined expired fresh response e =
    outcome_of a.number expired (with_cookie a.cookie a.number a.path (announced joined fresh e.fate e.birth e.id_changed) response) e.fate e.birth e.events

-- the same, of a session with what became of it
abbrev pub outcome_by : App → Admission → Key × Secret → Response → Edited → Outcome
outcome_by a joined fresh response e = plain_parts a (joined_of joined) (expired_of joined) fresh response e

-- a request that is answered and not served
abbrev pub unserved : App → Admission → Response → Outcome
unserved a joined response =
    unserved_of a.number (expired_of joined) (with_cookie a.cookie a.number a.path (renamed_of joined) response) (fate_of (held_of joined))

-- the same, by what is known of its session, with what its sessions are to remember
abbrev pub served_parts : App → Request → Arrival → Option Key → List ℕ → Key × Secret → Response → Edited → Option Outcome
served_parts a r arrival expired memory fresh response e =
    option_map (plain_parts a arrival.joined expired fresh response)
    (remembering_with a.once a.number r arrival.is_away arrival.secret memory fresh.0 response e)

abbrev pub served_with : App → Request → Admission → Key × Secret → Answered → Option Outcome
served_with a r joined fresh w = option_map (outcome_by a joined fresh w.response) (remembering a r joined fresh.0 w)

-- a request that is served: nothing comes of it where its session has no room for what it is to remember
unfoldable pub served_new : App → Request → List ℕ → Admission → ℕ → Key × Secret → Option Outcome
served_new a r path joined now fresh =
    served_with a r joined fresh (answered_by a r path (begun (bared (is_some a.once) (held_of joined)) a.number a.interval now fresh))

abbrev pub or_full : App → Request → Admission → Option Outcome → Outcome
or_full a r joined None = unserved a joined (refused Full r)
or_full a r joined (Some outcome) = outcome

-- the same, by what is known of its session, the session with which its dispatch begins, and what that remembers
abbrev pub served_apart : App → Request → List ℕ → Arrival → Admission → List ℕ → Admission → ℕ → Key × Secret → Outcome
served_apart a r path arrival bare memory joined now fresh =
    let w = answered_by a r path (begun (held_of bare) a.number a.interval now fresh) in
    or_full a r joined (served_parts a r arrival (expired_of bare) memory fresh w.response (edited_of w.edit))

abbrev pub served_unless : App → Request → List ℕ → Admission → ℕ → Key × Secret → Option Response → Outcome
served_unless a r path joined now fresh None = or_full a r joined (served_new a r path joined now fresh)
served_unless a r path joined now fresh (Some response) = unserved a joined response

-- a request for a path within an application's context, with what became of the session that was handed in: one that the session
-- remembers is answered from its memory, and any other is served
unfoldable pub served_in : App → Request → List ℕ → Admission → ℕ → Key × Secret → Outcome
served_in a r path joined now fresh = served_unless a r path joined now fresh (recalled a.once r (held_of joined))

abbrev pub served_by : Option App → Request → List ℕ → Option (Key × Session) → ℕ → Key × Secret → Outcome
served_by None r path handed now fresh = served_outside r
served_by (Some a) r path handed now fresh =
    served_in a r path (admission a.once a.number r (session_cookie a.cookie.name r.cookies a.number) handed now) now fresh

abbrev pub served_at : Deployed → Request → Option (Key × Session) → ℕ → Key × Secret → Option ℕ → Outcome
served_at d r handed now fresh None = served_outside r
served_at d r handed now fresh (Some place) =
    served_by (slice_get d.apps place) r (path_in_context (context_at d.paths place) r.path) handed now fresh

-- what comes of a request, with the session that it names where that is at hand, at `now`, and the key and the secret of
-- a session that is made; one whose id is changed takes the secret alone
abbrev pub served : Deployed → Request → Option (Key × Session) → ℕ → Key × Secret → Outcome
served d r handed now fresh = served_at d r handed now fresh (place_for d r.path)

abbrev pub container_meaning : Deployed → EngineMeaning
container_meaning d = record { names = named_by d; serve = served d; hear = heard_by_all d.ears }
