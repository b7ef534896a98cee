-- A dispatch goes on with what it was lent.
use Rattle.sv_dispatch.proofs.Prelude.{◌≡◌, ℕ, zero, suc, Bool, true, false, cond, List, [], ◌∷◌, Option, Some, None, slice_get, All, refl, sym, ◌∙◌, subst}
use Rattle.sv_dispatch.proofs.Prelude.{IfSome, get_or_from_slice_get, slice_get_within, Dispatcher, Request, Error, Asked, Filters, Lent, Serves, Before, Pass}
use Rattle.sv_dispatch.proofs.Prelude.{PassWith, Stop, Next, Done, Forward, Include, SendError, Fault, Begun, Outcome, Table, afters, answered, ask, befores}
use Rattle.sv_dispatch.proofs.Prelude.{begun, begun_by, chain_of, closed, closed_by, dispatched, emptied, entered, holding, let_go, passes, performed, placed}
use Rattle.sv_dispatch.proofs.Prelude.{resumed, resumed_by, serving, showing, shown_behind, visit_of, mapped_path_of, Row, after_at, after_by, before_at}
use Rattle.sv_dispatch.proofs.Prelude.{before_by, labels_of_rows, ready_at, served, served_by, Sight, call_of, Ending, Finished, Failed, Faulted, Abandoned}
use Rattle.sv_dispatch.proofs.Prelude.{MappedPath, Ask, Visit}
use Rattle.sv_mapping.specs.declared.dispatcher.Dispatcher.TheVariants.{Forward as ByForward, Include as ByInclude}
use Rattle.sv_session.proofs.EditLemmas.{KeepsEdit-refl}
use Rattle.sv_servlet.proofs.KeepsLemmas.{KeepsLent-refl, KeepsLent-trans, cleared_keeps}
use Rattle.sv_servlet.specs.Filter.{FilterKeeps, Verdict}
use Rattle.sv_servlet.specs.Servlet.{KeepsLent}
use Rattle.sv_servlet.specs.declared.filter.Before.TheVariants.{SendError as RefuseBy, Fault as RefuseFor}
use Rattle.sv_dispatch.specs.Dispatching.{visit_at, visit_by, visit_to}
use Rattle.sv_dispatch.specs.Keeping.{ServletKeeps, TableKeeps, dispatch_keeps, includes_by, is_below_include}
use Rattle.sv_dispatch.specs.Sight.{forwarded, is_forwarded, values_of_request, with_params}
use Rattle.sv_dispatch.specs.Attributes.{with_values}
use Rattle.sv_dispatch.specs.Destination.{destination_of}
use Rattle.sv_dispatch.specs.declared.attributes.Group.TheVariants.{Forward as ForwardGroup}
use Rattle.sv_dispatch.specs.declared.destination.Destination.{Destination}

there : {X : Type 0} (P : X → Type 0) (xs : List X) (k : ℕ) (found : Option X) → slice_get xs k ≡ found → All P xs → IfSome found P
there P xs k None is all = tt
there P xs k (Some x) is all = subst P (get_or_from_slice_get xs k x x is) (all k x (slice_get_within xs k x is))

-- ---- objects

served_by_keeps : (found : Option (Row Serves)) (call : Asked) (l : Lent) → IfSome found (λ r. ServletKeeps r.meaning) → KeepsLent l (served_by found call l).lent
served_by_keeps None call l h = KeepsLent-refl l
served_by_keeps (Some r) call l h = h call l

before_by_keeps : (found : Option (Row Filters)) (call : Asked) (l : Lent) → IfSome found (λ r. FilterKeeps r.meaning) → KeepsLent l (before_by found call l).lent
before_by_keeps None call l h = KeepsLent-refl l
before_by_keeps (Some r) call l h = h.before call l

after_by_keeps : (found : Option (Row Filters)) (call : Asked) (l : Lent) → IfSome found (λ r. FilterKeeps r.meaning) → KeepsLent l (after_by found call l)
after_by_keeps None call l h = KeepsLent-refl l
after_by_keeps (Some r) call l h = h.after call l

begun_after_keeps : (k : ℕ) (s : Sight) (l m : Lent) (rest : Begun) (b : Before) (p : Bool) → KeepsLent l m → KeepsLent m rest.lent
    → KeepsLent l (cond p (begun (k ∷ rest.passed) rest.view rest.before rest.lent) (begun [] s b m)).lent
begun_after_keeps k s l m rest b true h more = KeepsLent-trans l m rest.lent h more
begun_after_keeps k s l m rest b false h more = h

closed_by_keeps : (fs : List (Row Filters)) (ps : List ℕ) (call : Asked) (l : Lent) (o : Outcome) (ended : Ending) → KeepsLent l o.lent → KeepsLent o.lent (afters fs ps call o.lent)
    → KeepsLent l (closed_by fs ps call o ended).lent
closed_by_keeps fs ps call l o Finished h more = KeepsLent-trans l o.lent (afters fs ps call o.lent) h more
closed_by_keeps fs ps call l o (Failed code text) h more = KeepsLent-trans l o.lent (afters fs ps call o.lent) h more
closed_by_keeps fs ps call l o (Faulted name) h more = KeepsLent-trans l o.lent (afters fs ps call o.lent) h more
closed_by_keeps fs ps call l o Abandoned h more = h

-- ---- the reply round another dispatch

emptied_keeps : (l : Lent) → KeepsLent l (emptied l)
emptied_keeps l = record { edit = KeepsEdit-refl l.edit; reply = cleared_keeps l.reply }

-- what is held round a dispatch is let go after it
held_keeps : (l m : Lent) (b : Bool) → l.reply.is_held ≡ b → KeepsLent (holding true l) m → KeepsLent l (holding b m)
held_keeps l m b is h =
    record { edit = h.edit; reply = record { hold = sym is; status = λ on. h.reply.status refl; fields = λ on. h.reply.fields refl } }

resumed_by_keeps : (again : ℕ → ℕ → Lent → Outcome) (l : Lent) (r : ℕ) (o : Outcome) (ended : Ending) → KeepsLent l o.lent → KeepsLent o.lent (again r o.left o.lent).lent
    → KeepsLent l (resumed_by again r o ended).lent
resumed_by_keeps again l r o Finished h more = KeepsLent-trans l o.lent (again r o.left o.lent).lent h more
resumed_by_keeps again l r o (Failed code text) h more = KeepsLent-trans l o.lent (again r o.left o.lent).lent h more
resumed_by_keeps again l r o (Faulted name) h more = h
resumed_by_keeps again l r o Abandoned h more = h

-- ---- what a dispatch shows after its filters

shown_included : (s : Sight) (b : Before) → (shown_behind s b).is_included ≡ s.is_included
shown_included s Pass = refl
shown_included s (PassWith name value) = refl
shown_included s Stop = refl
shown_included s (RefuseBy code text) = refl
shown_included s (RefuseFor name) = refl

begun_included : (k : ℕ) (s : Sight) (m : Lent) (rest : Begun) (b : Before) (p : Bool) → rest.view.is_included ≡ s.is_included
    → (cond p (begun (k ∷ rest.passed) rest.view rest.before rest.lent) (begun [] s b m)).view.is_included ≡ s.is_included
begun_included k s m rest b true same = same
begun_included k s m rest b false same = refl

befores_included : (fs : List (Row Filters)) (ks : List ℕ) (s : Sight) (l : Lent) → (befores fs ks s l).view.is_included ≡ s.is_included
unfolding befores
befores_included fs [] s l = refl
befores_included fs (k ∷ ks) s l =
    let v : Verdict = before_at fs k (call_of s 0) l in
    begun_included k s v.lent (befores fs ks (shown_behind s v.before) v.lent) v.before (passes v.before)
    (befores_included fs ks (shown_behind s v.before) v.lent ∙ shown_included s v.before)

-- ---- what a visit shows

either_included : (b : Bool) (x y : Sight) (i : Bool) → x.is_included ≡ i → y.is_included ≡ i → (cond b x y).is_included ≡ i
either_included true x y i hx hy = hx
either_included false x y i hx hy = hy

forwarded_included : (s : Sight) (target : Destination) (path : List ℕ) (info : Option (List ℕ)) → (forwarded s target path info).is_included ≡ s.is_included
forwarded_included s target path info =
    let p : Sight = with_params s target.params in
    either_included (is_forwarded p) p (record p { attributes = with_values ForwardGroup (values_of_request p.request) p.attributes }) s.is_included refl refl

visit_included : (a : Ask) (target : Destination) (p : MappedPath) (d : Dispatcher) → (visit_at a target p d).view.is_included ≡ includes_by d a.view
visit_included a target p Request = refl
visit_included a target p ByForward = forwarded_included a.view target p.servlet_path p.path_info
visit_included a target p ByInclude = refl
visit_included a target p Error = forwarded_included a.view target p.servlet_path p.path_info

module _ (t : Table) (a : Ask) where
  visited_to : (d : Dispatcher) (found : Option Destination) → IfSome (visit_to t (record a { dispatcher = d }) found) (λ v. v.view.is_included ≡ includes_by d a.view)
  visited_to d None = tt
  visited_to d (Some target) = visit_included (record a { dispatcher = d }) target (mapped_path_of t.patterns target.path) d

  visited_by : (d : Dispatcher) → IfSome (visit_by t (record a { dispatcher = d }) d) (λ v. v.view.is_included ≡ includes_by d a.view)
  visited_by Request = refl
  visited_by ByForward = visited_to ByForward (destination_of a.view.request.context_path a.path)
  visited_by ByInclude = visited_to ByInclude (destination_of a.view.request.context_path a.path)
  visited_by Error = visited_to Error (destination_of a.view.request.context_path a.path)

  visited : IfSome (visit_of t a) (λ v. v.view.is_included ≡ is_below_include a)
  unfolding visit_of
  visited = visited_by a.dispatcher

-- ---- the dispatch

abbrev Keeps : (Ask → ℕ → Lent → Outcome) → Type 0
Keeps inner = (a : Ask) (left : ℕ) (l : Lent) → l.reply.is_held ≡ is_below_include a → KeepsLent l (inner a left l).lent

module _ (t : Table) (keeps : TableKeeps t) where
  served_keeps : (k : ℕ) (call : Asked) (l : Lent) → KeepsLent l (served t.servlets k call l).lent
  unfolding served
  served_keeps k call l = served_by_keeps (slice_get t.servlets k) call l (there (λ r. ServletKeeps r.meaning) t.servlets k (slice_get t.servlets k) refl keeps.servlets)

  before_keeps : (k : ℕ) (call : Asked) (l : Lent) → KeepsLent l (before_at t.filters k call l).lent
  unfolding before_at
  before_keeps k call l = before_by_keeps (slice_get t.filters k) call l (there (λ r. FilterKeeps r.meaning) t.filters k (slice_get t.filters k) refl keeps.filters)

  after_keeps : (k : ℕ) (call : Asked) (l : Lent) → KeepsLent l (after_at t.filters k call l)
  unfolding after_at
  after_keeps k call l = after_by_keeps (slice_get t.filters k) call l (there (λ r. FilterKeeps r.meaning) t.filters k (slice_get t.filters k) refl keeps.filters)

  befores_keep : (ks : List ℕ) (s : Sight) (l : Lent) → KeepsLent l (befores t.filters ks s l).lent
  unfolding befores
  befores_keep [] s l = KeepsLent-refl l
  befores_keep (k ∷ ks) s l =
      let v : Verdict = before_at t.filters k (call_of s 0) l in
      begun_after_keeps k s l v.lent (befores t.filters ks (shown_behind s v.before) v.lent) v.before (passes v.before)
      (before_keeps k (call_of s 0) l) (befores_keep ks (shown_behind s v.before) v.lent)

  afters_keep : (ks : List ℕ) (call : Asked) (l : Lent) → KeepsLent l (afters t.filters ks call l)
  unfolding afters
  afters_keep [] call l = KeepsLent-refl l
  afters_keep (k ∷ ks) call l =
      KeepsLent-trans l (afters t.filters ks call l) (after_at t.filters k call (afters t.filters ks call l)) (afters_keep ks call l) (after_keeps k call (afters t.filters ks call l))

  closed_keeps : (ps : List ℕ) (call : Asked) (l : Lent) (o : Outcome) → KeepsLent l o.lent → KeepsLent l (closed t.filters ps call o).lent
  unfolding closed
  closed_keeps ps call l o h = closed_by_keeps t.filters ps call l o o.ended h (afters_keep ps call o.lent)

  module _ (inner : Ask → ℕ → Lent → Outcome) (within : Keeps inner) where
    answered_keeps : (again : ℕ → ℕ → Lent → Outcome) (s : Sight) (left : ℕ) (l : Lent) (next : Next)
        → ((r n : ℕ) (m : Lent) → m.reply.is_held ≡ s.is_included → KeepsLent m (again r n m).lent)
        → l.reply.is_held ≡ s.is_included → KeepsLent l (answered inner again s left l next).lent
    unfolding resumed
    answered_keeps again s left l Done more is = KeepsLent-refl l
    answered_keeps again s left l (SendError code text) more is = KeepsLent-refl l
    answered_keeps again s left l (Fault name) more is = KeepsLent-refl l
    answered_keeps again s left l (Forward path) more is =
        KeepsLent-trans l (emptied l) (inner (ask ByForward s path) left (emptied l)).lent (emptied_keeps l) (within (ask ByForward s path) left (emptied l) is)
    answered_keeps again s left l (Include path r) more is =
        let o : Outcome = inner (ask ByInclude s path) left (holding true l) in
        let free : Outcome = let_go s.is_included o in
        resumed_by_keeps again l r free o.ended (held_keeps l o.lent s.is_included is (within (ask ByInclude s path) left (holding true l) refl)) (more r free.left free.lent refl)

    serving_keeps : (turns k : ℕ) (s : Sight) (r left : ℕ) (l : Lent) → l.reply.is_held ≡ s.is_included → KeepsLent l (serving inner t.servlets turns k s r left l).lent
    unfolding serving
    serving_keeps zero k s r left l is = KeepsLent-refl l
    serving_keeps (suc turns) k s r zero l is = KeepsLent-refl l
    serving_keeps (suc turns) k s r (suc rest) l is =
        let first : KeepsLent l (served t.servlets k (call_of s r) l).lent = served_keeps k (call_of s r) l in
        KeepsLent-trans l (served t.servlets k (call_of s r) l).lent _ first
        (answered_keeps (λ r' left' l'. serving inner t.servlets turns k s r' left' l') s rest (served t.servlets k (call_of s r) l).lent (served t.servlets k (call_of s r) l).next
        (λ r' left' l' on. serving_keeps turns k s r' left' l' on) (first.reply.hold ∙ is))

    placed_keeps : (s : Sight) (left : ℕ) (l : Lent) (found : Option ℕ) → l.reply.is_held ≡ s.is_included → KeepsLent l (placed inner t.servlets s left l found).lent
    placed_keeps s left l None is = KeepsLent-refl l
    placed_keeps s left l (Some k) is = serving_keeps left k s 0 left l is

    begun_by_keeps : (v : Visit) (left : ℕ) (l : Lent) (b : Before) → l.reply.is_held ≡ v.view.is_included → KeepsLent l (begun_by inner t.servlets v left l b).lent
    begun_by_keeps v left l Pass is = placed_keeps v.view left l (ready_at (labels_of_rows t.servlets) v.servlet) is
    begun_by_keeps v left l (PassWith name value) is = placed_keeps v.view left l (ready_at (labels_of_rows t.servlets) v.servlet) is
    begun_by_keeps v left l Stop is = KeepsLent-refl l
    begun_by_keeps v left l (RefuseBy code text) is = KeepsLent-refl l
    begun_by_keeps v left l (RefuseFor name) is = KeepsLent-refl l

    performed_keeps : (v : Visit) (left : ℕ) (l : Lent) → l.reply.is_held ≡ v.view.is_included → KeepsLent l (performed t inner v left l).lent
    unfolding performed
    performed_keeps v left l is =
        let b : Begun = befores t.filters (chain_of t v) v.view l in
        let o : Outcome = begun_by inner t.servlets (showing b.view v) left b.lent b.before in
        let first : KeepsLent l b.lent = befores_keep (chain_of t v) v.view l in
        closed_keeps b.passed (call_of b.view 0) l o
        (KeepsLent-trans l b.lent o.lent first
        (begun_by_keeps (showing b.view v) left b.lent b.before (first.reply.hold ∙ is ∙ sym (befores_included t.filters (chain_of t v) v.view l))))

    entered_keeps : (a : Ask) (left : ℕ) (l : Lent) (found : Option Visit) → IfSome found (λ v. v.view.is_included ≡ is_below_include a) → l.reply.is_held ≡ is_below_include a
        → KeepsLent l (entered t inner left l found).lent
    entered_keeps a left l None shows is = KeepsLent-refl l
    entered_keeps a left l (Some v) shows is = performed_keeps v left l (is ∙ sym shows)

  dispatched_keeps : (depth : ℕ) → Keeps (dispatched t depth)
  unfolding dispatched
  dispatched_keeps zero a left l is = KeepsLent-refl l
  dispatched_keeps (suc depth) a left l is = entered_keeps (dispatched t depth) (dispatched_keeps depth) a left l (visit_of t a) (visited t a) is

-- what is promised of each dispatch
pub keeping : dispatch_keeps
keeping t depth a left l keeps is = dispatched_keeps t keeps depth a left l is
