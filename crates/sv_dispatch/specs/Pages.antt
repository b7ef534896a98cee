-- What the dispatch of a request gives, with the error pages of its context (Jakarta Servlet 6.0, section 10.9).
use Rattle.std.specs.Prelude.{ℕ, ◌++◌, ◌||◌, ◌==◌, Bool, true, false, List, [], ◌∷◌, Option, Some, None, nat_lt, bytes_eq, if◌then◌else◌}
use Rattle.sv_mapping.specs.declared.dispatcher.Dispatcher.TheVariants.{Request, Error}
use Rattle.sv_servlet.specs.Call.{Asked}
use Rattle.sv_servlet.specs.ReplyState.{ReplyState}
use Rattle.sv_servlet.specs.Servlet.{Lent, lent}
use Rattle.sv_dispatch.specs.Dispatching.{Table, Outcome, ask, dispatched}
use Rattle.sv_dispatch.specs.MappedPath.{mapped_path_of}
use Rattle.sv_dispatch.specs.Rows.{labels_of_rows, name_at}
use Rattle.sv_dispatch.specs.Sight.{first_sight, errored}
use Rattle.sv_dispatch.specs.declared.request.Ended.{Ended}
use Rattle.sv_dispatch.specs.declared.request.Ended.TheVariants.{Normal, ErrorPage as ByPage, Plain}
use Rattle.sv_dispatch.specs.declared.mode.Ending.{Ending}
use Rattle.sv_dispatch.specs.declared.mode.Ending.TheVariants.{Finished, Failed, Faulted, Abandoned}
use Rattle.sv_dispatch.specs.declared.page.ErrorPage.{ErrorPage}
use Rattle.sv_dispatch.specs.declared.page.PageFor.{PageFor}
use Rattle.sv_dispatch.specs.declared.page.PageFor.TheVariants.{Status, Fault, Default}

-- how it ended, and what it leaves of what was lent
pub record Ran : Type 0 where
  pub ended : Ended
  pub lent : Lent

abbrev pub ran : Ended → Lent → Ran
ran ended l = record { ended = ended; lent = l }

-- ---- which page

-- 500 for a code outside 400 to 599
abbrev pub status_of : ℕ → ℕ
status_of code = if nat_lt code 400 || nat_lt 599 code then 500 else code

abbrev pub is_for_status : ℕ → PageFor → Bool
is_for_status status (Status its) = its == status
is_for_status status (Fault its) = false
is_for_status status Default = false

abbrev pub is_for_fault : List ℕ → PageFor → Bool
is_for_fault name (Status its) = false
is_for_fault name (Fault its) = bytes_eq its name
is_for_fault name Default = false

abbrev pub is_default : PageFor → Bool
is_default (Status its) = false
is_default (Fault its) = false
is_default Default = true

-- the path of the first page for an error
unfoldable pub first_page : (PageFor → Bool) → List ErrorPage → Option (List ℕ)
first_page is_for [] = None
first_page is_for (p ∷ ps) = if is_for p.page_for then Some p.path else first_page is_for ps

abbrev pub or_page : Option (List ℕ) → Option (List ℕ) → Option (List ℕ)
or_page (Some path) other = Some path
or_page None other = other

-- that of the status, then the default
abbrev pub page_of_error : List ErrorPage → ℕ → Option (List ℕ)
page_of_error pages status = or_page (first_page (is_for_status status) pages) (first_page is_default pages)

-- that of the fault, then that of status 500, then the default
abbrev pub page_of_fault : List ErrorPage → List ℕ → Option (List ℕ)
page_of_fault pages name = or_page (first_page (is_for_fault name) pages) (page_of_error pages 500)

-- ---- the page

-- the reply as a page finds it: no body, not held, and the status; the fields stay
abbrev pub readied_reply : ReplyState → ℕ → ReplyState
readied_reply r status = record { status = status; fields = r.fields; body = []; is_held = false }

abbrev pub readied : ℕ → Lent → Lent
readied status l = lent l.edit (readied_reply l.reply status)

-- the plain page of a status stands at the end
abbrev pub plain : ℕ → Lent → Ran
plain status l = ran (Plain status) (readied status l)

-- the path of a request within its context
abbrev pub joined_path : List ℕ → Option (List ℕ) → List ℕ
joined_path servlet_path None = servlet_path
joined_path servlet_path (Some info) = servlet_path ++ info

abbrev pub path_of : Asked → List ℕ
path_of call = joined_path call.servlet_path call.path_info

-- the name of the servlet that the request is mapped to
abbrev pub servlet_name : Table → Asked → List ℕ
servlet_name t call = name_at (labels_of_rows t.servlets) (mapped_path_of t.patterns (path_of call)).servlet

-- an error in an error page gives the plain page of 500
abbrev pub shown_by : ℕ → Outcome → Ending → Ran
shown_by status o Finished = ran (ByPage status) o.lent
shown_by status o (Failed code text) = plain 500 o.lent
shown_by status o (Faulted name) = plain 500 o.lent
shown_by status o Abandoned = plain 500 o.lent

abbrev pub shown_page : ℕ → Outcome → Ran
shown_page status o = shown_by status o o.ended

-- an error dispatch from the request as it came, with the service calls that are left
abbrev pub paged : Table → Asked → ℕ → List ℕ → ℕ → Lent → Option (List ℕ) → Ran
paged t call status message left l None = plain status l
paged t call status message left l (Some path) =
    shown_page status (dispatched t 16 (ask Error (errored (first_sight call) status message (servlet_name t call)) path) left (readied status l))

abbrev pub settled : Table → Asked → Outcome → Ending → Ran
settled t call o Finished = ran Normal o.lent
settled t call o (Failed code text) = paged t call (status_of code) text o.left o.lent (page_of_error t.pages (status_of code))
settled t call o (Faulted name) = paged t call 500 name o.left o.lent (page_of_fault t.pages name)
settled t call o Abandoned = plain 500 o.lent

abbrev pub settled_all : Table → Asked → Outcome → Ran
settled_all t call o = settled t call o o.ended

-- a request is dispatched, with 64 service calls and a depth of 16, and an error that comes of it is settled
abbrev pub served : Table → Asked → Lent → Ran
served t call l = settled_all t call (dispatched t 16 (ask Request (first_sight call) (path_of call)) 64 l)
