-- What a dispatch gives: a big step, by recursion on what the servlets answer (Jakarta Servlet 6.0, chapters
-- "Dispatching Requests" and "Filtering").
use Rattle.std.specs.Prelude.{ℕ, zero, suc, Bool, true, false, List, [], ◌∷◌, Option, Some, None, Result, Ok, Err, codes, if◌then◌else◌}
use Rattle.sv_mapping.specs.Filter.{chain}
use Rattle.sv_mapping.specs.Mappings as mappings
use Rattle.sv_mapping.specs.declared.dispatcher.Dispatcher.{Dispatcher}
use Rattle.sv_mapping.specs.declared.dispatcher.Dispatcher.TheVariants.{Request, Forward as ByForward, Include as ByInclude, Error}
use Rattle.sv_mapping.specs.declared.filter.FilterMapping.{FilterMapping}
use Rattle.sv_servlet.specs.Call.{Asked}
use Rattle.sv_servlet.specs.Filter.{Filters}
use Rattle.sv_servlet.specs.Reply.{cleared, held}
use Rattle.sv_servlet.specs.Servlet.{Serves, Lent, lent}
use Rattle.sv_servlet.specs.declared.filter.Before.{Before}
use Rattle.sv_servlet.specs.declared.filter.Before.TheVariants.{Pass, PassWith, Stop, SendError as RefuseBy, Fault as RefuseFor}
use Rattle.sv_servlet.specs.declared.servlet.Next.{Next}
use Rattle.sv_servlet.specs.declared.servlet.Next.TheVariants.{Done, Forward, Include, SendError, Fault}
use Rattle.sv_dispatch.specs.MappedPath.{mapped_path_of}
use Rattle.sv_dispatch.specs.Rows.{Row, served, before_at, after_at, labels_of_rows, ready_at}
use Rattle.sv_dispatch.specs.Sight.{Sight, attributed, call_of, forwarded, included}
use Rattle.sv_dispatch.specs.Destination.{destination_of}
use Rattle.sv_dispatch.specs.declared.mapped_path.MappedPath.{MappedPath}
use Rattle.sv_dispatch.specs.declared.visit.Ask.{Ask}
use Rattle.sv_dispatch.specs.declared.mode.Ending.{Ending}
use Rattle.sv_dispatch.specs.declared.mode.Ending.TheVariants.{Finished, Failed, Faulted, Abandoned}
use Rattle.sv_dispatch.specs.declared.page.ErrorPage.{ErrorPage}
use Rattle.sv_dispatch.specs.declared.visit.Visit.{Visit}
use Rattle.sv_dispatch.specs.declared.destination.Destination.{Destination}

-- the objects of a context, and what leads to them
pub record Table : Type 0 where
  pub servlets : List (Row Serves)
  pub filters : List (Row Filters)
  pub patterns : mappings.Table
  pub chains : List FilterMapping
  pub pages : List ErrorPage

-- how a dispatch ended, the service calls that are left, and what it leaves of what was lent
pub record Outcome : Type 0 where
  pub ended : Ending
  pub left : ℕ
  pub lent : Lent

abbrev pub outcome : Ending → ℕ → Lent → Outcome
outcome e n l = record { ended = e; left = n; lent = l }

-- below an include an error that is sent is the end of the dispatch, and nothing more
unfoldable pub sent : Sight → ℕ → List ℕ → Ending
sent s code text = if s.is_included then Finished else Failed code text

-- ---- the reply round another dispatch

-- the body is emptied before a forward
abbrev pub emptied : Lent → Lent
emptied l = lent l.edit (cleared l.reply)

-- the reply is held before an include, and after it as it was
abbrev pub holding : Bool → Lent → Lent
holding is_held l = lent l.edit (held l.reply is_held)

-- ---- filters

-- the filters that passed, what the dispatch then shows, the last word, and what they leave
pub record Begun : Type 0 where
  pub passed : List ℕ
  pub view : Sight
  pub before : Before
  pub lent : Lent

abbrev pub begun : List ℕ → Sight → Before → Lent → Begun
begun ps s b l = record { passed = ps; view = s; before = b; lent = l }

-- what the dispatch shows after a filter
abbrev pub shown_behind : Sight → Before → Sight
shown_behind s Pass = s
shown_behind s (PassWith name value) = attributed s name value
shown_behind s Stop = s
shown_behind s (RefuseBy code text) = s
shown_behind s (RefuseFor name) = s

-- what stands after the filter is called
abbrev pub passes : Before → Bool
passes Pass = true
passes (PassWith name value) = true
passes Stop = false
passes (RefuseBy code text) = false
passes (RefuseFor name) = false

abbrev pub begun_after : ℕ → Sight → Lent → Begun → Before → Begun
begun_after k s l rest b = if passes b then begun (k ∷ rest.passed) rest.view rest.before rest.lent else begun [] s b l

-- `before` along a chain, until one does not pass
unfoldable pub befores : List (Row Filters) → List ℕ → Sight → Lent → Begun
befores fs [] s l = begun [] s Pass l
befores fs (k ∷ ks) s l =
    let v = before_at fs k (call_of s 0) l in
    begun_after k s v.lent (befores fs ks (shown_behind s v.before) v.lent) v.before

-- `after` of the filters that passed, in reverse
unfoldable pub afters : List (Row Filters) → List ℕ → Asked → Lent → Lent
afters fs [] call l = l
afters fs (k ∷ ks) call l = after_at fs k call (afters fs ks call l)

abbrev pub closed_by : List (Row Filters) → List ℕ → Asked → Outcome → Ending → Outcome
closed_by fs ps call o Finished = outcome o.ended o.left (afters fs ps call o.lent)
closed_by fs ps call o (Failed code text) = outcome o.ended o.left (afters fs ps call o.lent)
closed_by fs ps call o (Faulted name) = outcome o.ended o.left (afters fs ps call o.lent)
closed_by fs ps call o Abandoned = o

-- the end of a dispatch: `after`, unless it was abandoned
unfoldable pub closed : List (Row Filters) → List ℕ → Asked → Outcome → Outcome
closed fs ps call o = closed_by fs ps call o o.ended

-- ---- the servlet

abbrev pub resumed_by : (ℕ → ℕ → Lent → Outcome) → ℕ → Outcome → Ending → Outcome
resumed_by again r o Finished = again r o.left o.lent
resumed_by again r o (Failed code text) = again r o.left o.lent
resumed_by again r o (Faulted name) = o
resumed_by again r o Abandoned = o

abbrev pub let_go : Bool → Outcome → Outcome
let_go is_held o = outcome o.ended o.left (holding is_held o.lent)

-- after an included dispatch the reply is held as before, and the servlet goes on, unless that was abandoned or faulted
unfoldable pub resumed : (ℕ → ℕ → Lent → Outcome) → Bool → ℕ → Outcome → Outcome
resumed again is_held r o = resumed_by again r (let_go is_held o) o.ended

abbrev pub ask : Dispatcher → Sight → List ℕ → Ask
ask dispatcher s path = record { dispatcher = dispatcher; view = s; path = path }

-- what follows a servlet's answer
abbrev pub answered : (Ask → ℕ → Lent → Outcome) → (ℕ → ℕ → Lent → Outcome) → Sight → ℕ → Lent → Next → Outcome
answered inner again s left l Done = outcome Finished left l
answered inner again s left l (SendError code text) = outcome (sent s code text) left l
answered inner again s left l (Fault name) = outcome (Faulted name) left l
answered inner again s left l (Forward path) = inner (ask ByForward s path) left (emptied l)
answered inner again s left l (Include path r) = resumed again s.is_included r (inner (ask ByInclude s path) left (holding true l))

abbrev pub spent_or : ℕ → Lent → (ℕ → Outcome) → Outcome
spent_or zero l go = outcome Abandoned zero l
spent_or (suc left) l go = go left

-- a servlet is called, at most `turns` times, with `left` service calls left in all
unfoldable pub serving : (Ask → ℕ → Lent → Outcome) → List (Row Serves) → ℕ → ℕ → Sight → ℕ → ℕ → Lent → Outcome
serving inner rs zero k s r left l = outcome Abandoned left l
serving inner rs (suc turns) k s r left l =
    spent_or left l (λ rest.
    let a = served rs k (call_of s r) l in
    answered inner (λ r' left' l'. serving inner rs turns k s r' left' l') s rest a.lent a.next)

-- the servlet of a dispatch; one that is missing is an error of its own, and no call
abbrev pub placed : (Ask → ℕ → Lent → Outcome) → List (Row Serves) → Sight → ℕ → Lent → Option ℕ → Outcome
placed inner rs s left l None = outcome (sent s 404 []) left l
placed inner rs s left l (Some k) = serving inner rs left k s 0 left l

abbrev pub begun_by : (Ask → ℕ → Lent → Outcome) → List (Row Serves) → Visit → ℕ → Lent → Before → Outcome
begun_by inner rs v left l Pass = placed inner rs v.view left l (ready_at (labels_of_rows rs) v.servlet)
begun_by inner rs v left l (PassWith name value) = placed inner rs v.view left l (ready_at (labels_of_rows rs) v.servlet)
begun_by inner rs v left l Stop = outcome Finished left l
begun_by inner rs v left l (RefuseBy code text) = outcome (sent v.view code text) left l
begun_by inner rs v left l (RefuseFor name) = outcome (Faulted name) left l

abbrev pub found_or_sent : Sight → Option ℕ → Result ℕ Ending
found_or_sent s None = Err (sent s 404 [])
found_or_sent s (Some k) = Ok k

-- the servlet that is to be called after the filters, or how the dispatch ends without it
abbrev pub to_serve : List (Row Serves) → Sight → Option ℕ → Before → Result ℕ Ending
to_serve rs s servlet Pass = found_or_sent s (ready_at (labels_of_rows rs) servlet)
to_serve rs s servlet (PassWith name value) = found_or_sent s (ready_at (labels_of_rows rs) servlet)
to_serve rs s servlet Stop = Err Finished
to_serve rs s servlet (RefuseBy code text) = Err (sent s code text)
to_serve rs s servlet (RefuseFor name) = Err (Faulted name)

-- ---- the dispatch

abbrev pub chain_of : Table → Visit → List ℕ
chain_of t v = chain t.chains v.path v.servlet v.dispatcher

-- the same dispatch, which shows this
abbrev pub showing : Sight → Visit → Visit
showing s v = record v { view = s }

-- filters, servlet, filters
unfoldable pub performed : Table → (Ask → ℕ → Lent → Outcome) → Visit → ℕ → Lent → Outcome
performed t inner v left l =
    let b = befores t.filters (chain_of t v) v.view l in
    closed t.filters b.passed (call_of b.view 0) (begun_by inner t.servlets (showing b.view v) left b.lent b.before)

abbrev pub visit : Dispatcher → Sight → List ℕ → Option ℕ → Visit
visit dispatcher s path servlet = record { dispatcher = dispatcher; view = s; path = path; servlet = servlet }

-- what a dispatch to a target shows
abbrev pub shown_at : Dispatcher → Sight → Destination → MappedPath → Sight
shown_at Request s target p = s
shown_at ByForward s target p = forwarded s target p.servlet_path p.path_info
shown_at ByInclude s target p = included s target p.servlet_path p.path_info
shown_at Error s target p = forwarded s target p.servlet_path p.path_info

abbrev pub visit_at : Ask → Destination → MappedPath → Dispatcher → Visit
visit_at a target p dispatcher = visit dispatcher (shown_at dispatcher a.view target p) target.path p.servlet

abbrev pub visit_to : Table → Ask → Option Destination → Option Visit
visit_to t a None = None
visit_to t a (Some target) = Some (visit_at a target (mapped_path_of t.patterns target.path) a.dispatcher)

abbrev pub visit_by : Table → Ask → Dispatcher → Option Visit
visit_by t a Request = Some (visit Request a.view a.path (mapped_path_of t.patterns a.path).servlet)
visit_by t a ByForward = visit_to t a (destination_of a.view.request.context_path a.path)
visit_by t a ByInclude = visit_to t a (destination_of a.view.request.context_path a.path)
visit_by t a Error = visit_to t a (destination_of a.view.request.context_path a.path)

-- the dispatch that is asked for, or none where its path is refused
unfoldable pub visit_of : Table → Ask → Option Visit
visit_of t a = visit_by t a a.dispatcher

abbrev pub bad_path : List ℕ
bad_path = codes "bad-path"

abbrev pub entered : Table → (Ask → ℕ → Lent → Outcome) → ℕ → Lent → Option Visit → Outcome
entered t inner left l None = outcome (Faulted bad_path) left l
entered t inner left l (Some v) = performed t inner v left l

-- a dispatch that is asked for, at most `depth` deep
unfoldable pub dispatched : Table → ℕ → Ask → ℕ → Lent → Outcome
dispatched t zero a left l = outcome Abandoned left l
dispatched t (suc depth) a left l = entered t (dispatched t depth) left l (visit_of t a)
