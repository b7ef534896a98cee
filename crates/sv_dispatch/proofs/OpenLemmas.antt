-- The filters before a servlet, and the servlet that is found.
use Rattle.sv_dispatch.proofs.Prelude.{◌≡◌, ℕ, suc, Bool, true, false, cond, List, [], ◌∷◌, arith, sym, ◌∙◌, ap, refl, Some, None, Option, Result, Ok, Err}
use Rattle.sv_dispatch.proofs.Prelude.{IfOk, subst, All, All-cons, All-nil, Asked, Filters, Lent, Before, Pass, PassWith, Stop, Table, outcome, Begun}
use Rattle.sv_dispatch.proofs.Prelude.{begun, befores, afters, begun_by, chain_of, closed, dispatched, performed, placed, showing, entered, visit_of}
use Rattle.sv_dispatch.proofs.Prelude.{Row, IsReadyAt, labels_of_rows, ready_at, Sight, call_of, opened, IsOpen, Ask, Ending, Finished, Failed, Faulted}
use Rattle.sv_dispatch.proofs.Prelude.{Abandoned, Open, Visit}
use Rattle.std.proofs.Common.{◌≢◌}
use Rattle.sv_servlet.specs.declared.filter.Before.TheVariants.{SendError, Fault}
use Rattle.sv_dispatch.specs.Dispatching.{found_or_sent, bad_path, to_serve}
use Rattle.sv_dispatch.specs.Stack.{behind_filters, continued}
use Rattle.sv_dispatch.specs.Stages.{IsSound}
use Rattle.sv_dispatch.proofs.SoundLemmas.{chain_all, servlet_ready}

-- a dispatch that was not abandoned ends by `after`
pub closed_kept : (fs : List (Row Filters)) (ps : List ℕ) (call : Asked) (ended : Ending) (l m : Lent) → ended ≢ Abandoned → m ≡ afters fs ps call l →
    (left : ℕ) → outcome ended left m ≡ closed fs ps call (outcome ended left l)
unfolding closed
closed_kept fs ps call Finished l m k e left = ap (outcome Finished left) e
closed_kept fs ps call (Failed code text) l m k e left = ap (outcome (Failed code text) left) e
closed_kept fs ps call (Faulted name) l m k e left = ap (outcome (Faulted name) left) e
closed_kept fs ps call Abandoned l m k e left = absurd (k refl)

abbrev pub began : Table → Visit → Lent → Begun
began t v l = befores t.filters (chain_of t v) v.view l

-- a dispatch by what its filters gave
performed_by : (t : Table) (e : ℕ) (v : Visit) (s : Sight) (left : ℕ) (l m : Lent) (ps : List ℕ) (b : Before) → begun ps s b m ≡ began t v l →
    closed t.filters ps (call_of s 0) (begun_by (dispatched t e) t.servlets (showing s v) left m b) ≡ performed t (dispatched t e) v left l
unfolding performed
performed_by t e v s left l m ps b h =
    ap (λ (g : Begun). closed t.filters g.passed (call_of g.view 0) (begun_by (dispatched t e) t.servlets (showing g.view v) left g.lent g.before)) h

placed_on : (t : Table) (e : ℕ) (s : Sight) (left : ℕ) (m : Lent) (found : Option ℕ) → placed (dispatched t e) t.servlets s left m found ≡ continued t e s left m (found_or_sent s found)
placed_on t e s left m None = refl
placed_on t e s left m (Some k) = refl

begun_on : (t : Table) (e : ℕ) (v : Visit) (left : ℕ) (m : Lent) (b : Before) → begun_by (dispatched t e) t.servlets v left m b ≡ continued t e v.view left m (to_serve t.servlets v.view v.servlet b)
begun_on t e v left m Pass = placed_on t e v.view left m (ready_at (labels_of_rows t.servlets) v.servlet)
begun_on t e v left m (PassWith name value) = placed_on t e v.view left m (ready_at (labels_of_rows t.servlets) v.servlet)
begun_on t e v left m Stop = refl
begun_on t e v left m (SendError code text) = refl
begun_on t e v left m (Fault name) = refl

-- what follows the filters
opens_on : (t u : Table) (e : ℕ) (v : Visit) (s : Sight) (left : ℕ) (l m : Lent) (ps : List ℕ) (b : Before) (r : Result ℕ Ending) → begun ps s b m ≡ began t v l → u ≡ t
    → r ≡ to_serve u.servlets s v.servlet b → closed t.filters ps (call_of s 0) (continued t e s left m r) ≡ performed t (dispatched t e) v left l
opens_on t u e v s left l m ps b r h w q =
    ap (closed t.filters ps (call_of s 0))
    (ap (continued t e s left m) (q ∙ ap (λ (x : Table). to_serve x.servlets s v.servlet b) w) ∙ sym (begun_on t e (showing s v) left m b)) ∙ performed_by t e v s left l m ps b h

-- there is a servlet
pub opens_at : (t u : Table) (e : ℕ) (v : Visit) (left : ℕ) (l m : Lent) (b : Before) (o : Open) → begun o.passed.items o.view b m ≡ began t v l → o.resume ≡ 0 → u ≡ t
    → Ok o.servlet ≡ to_serve u.servlets o.view v.servlet b → opened t e o left m ≡ performed t (dispatched t e) v left l
unfolding opened
opens_at t u e v left l m b o h r w q = rw r (opens_on t u e v o.view left l m o.passed.items b (Ok o.servlet) h w q)

-- or there is none to be called
pub opens_not : (t u : Table) (e : ℕ) (v : Visit) (s : Sight) (left : ℕ) (l m : Lent) (ps : List ℕ) (b : Before) (ended : Ending) → begun ps s b m ≡ began t v l → u ≡ t
    → Err ended ≡ to_serve u.servlets s v.servlet b → closed u.filters ps (call_of s 0) (outcome ended left m) ≡ performed t (dispatched t e) v left l
opens_not t u e v s left l m ps b ended h w q =
    ap (λ (x : Table). closed x.filters ps (call_of s 0) (outcome ended left m)) w ∙ opens_on t u e v s left l m ps b (Err ended) h w q

-- the filters are called, and then what follows them
pub performs : (t : Table) (e : ℕ) (v : Visit) (left : ℕ) (l : Lent) (g : Begun) → g ≡ began t v l → behind_filters t e v.servlet left g ≡ performed t (dispatched t e) v left l
performs t e v left l g h = opens_on t t e v g.view left l g.lent g.passed g.before (to_serve t.servlets g.view v.servlet g.before) h refl refl

-- no filter is there
pub none_before : (fs : List (Row Filters)) (ks : List ℕ) (s : Sight) (l : Lent) → ks ≡ [] → begun ks s Pass l ≡ befores fs ks s l
unfolding befores
none_before fs ks s l e = rw e

-- what follows the filters: the servlet is called, or none is
pub behind_ok : (t : Table) (e left : ℕ) (l : Lent) (servlet : Option ℕ) (b : Before) (o : Open) → o.resume ≡ 0 → Ok o.servlet ≡ to_serve t.servlets o.view servlet b
    → opened t e o left l ≡ behind_filters t e servlet left (begun o.passed.items o.view b l)
unfolding opened
behind_ok t e left l servlet b o r q = rw r (ap (λ (x : Result ℕ Ending). closed t.filters o.passed.items (call_of o.view 0) (continued t e o.view left l x)) q)

pub behind_err : (t : Table) (e left : ℕ) (s : Sight) (l : Lent) (servlet : Option ℕ) (ps : List ℕ) (b : Before) (ended : Ending) → Err ended ≡ to_serve t.servlets s servlet b
    → closed t.filters ps (call_of s 0) (outcome ended left l) ≡ behind_filters t e servlet left (begun ps s b l)
behind_err t e left s l servlet ps b ended q = ap (λ (x : Result ℕ Ending). closed t.filters ps (call_of s 0) (continued t e s left l x)) q

-- the path of a dispatch was read, or refused
pub enters : (t : Table) (e : ℕ) (a : Ask) (v : Visit) (left : ℕ) (l : Lent) → Some v ≡ visit_of t a → performed t (dispatched t e) v left l ≡ dispatched t (suc e) a left l
unfolding dispatched
enters t e a v left l h = ap (entered t (dispatched t e) left l) h

pub enters_not : (t : Table) (e : ℕ) (a : Ask) (name : List ℕ) (left : ℕ) (l : Lent) → None ≡ visit_of t a → name ≡ bad_path → outcome (Faulted name) left l ≡ dispatched t (suc e) a left l
unfolding dispatched
enters_not t e a name left l h n = ap (λ (x : List ℕ). outcome (Faulted x) left l) n ∙ ap (entered t (dispatched t e) left l) h

passed_if : (P : ℕ → Type 0) (k : ℕ) (s : Sight) (m : Lent) (rest : Begun) (b : Before) (p : Bool) → P k → All P rest.passed
    → All P (cond p (begun (k ∷ rest.passed) rest.view rest.before rest.lent) (begun [] s b m)).passed
passed_if P k s m rest b true h a = All-cons P k rest.passed h a
passed_if P k s m rest b false h a = All-nil P

-- what passed was in the chain
befores_passed : (fs : List (Row Filters)) (P : ℕ → Type 0) (ks : List ℕ) (s : Sight) (l : Lent) → All P ks → All P (befores fs ks s l).passed
unfolding befores
befores_passed fs P [] s l a = a
befores_passed fs P (k ∷ ks) s l a =
    passed_if P k s _ _ _ _ (a 0 k (omega arith)) (befores_passed fs P ks _ _ (λ i d h. a (suc i) d (omega (arith, h))))

pub passed_ready : (fs gs : List (Row Filters)) (s z : Sight) (ks ps : List ℕ) (l m : Lent) (b : Before) → gs ≡ fs → All (IsReadyAt fs) ks → begun ps z b m ≡ befores fs ks s l → All (IsReadyAt gs) ps
passed_ready fs gs s z ks ps l m b e a h =
    subst (λ (us : List (Row Filters)). All (IsReadyAt us) ps) (sym e)
    (subst (λ (g : Begun). All (IsReadyAt fs) g.passed) (sym h) (befores_passed fs (IsReadyAt fs) ks s l a))

-- a sound table's chain is ready
pub chain_ready : (t : Table) (ks : List ℕ) (v : Visit) → IsSound t → ks ≡ chain_of t v → All (IsReadyAt t.filters) ks
chain_ready t ks v s e = subst (All (IsReadyAt t.filters)) (sym e) (chain_all (IsReadyAt t.filters) t.chains v.path v.servlet v.dispatcher s.filters)

found_ready : (t : Table) (s : Sight) (servlet found : Option ℕ) → IsSound t → ready_at (labels_of_rows t.servlets) servlet ≡ found → IfOk (found_or_sent s found) (IsReadyAt t.servlets)
found_ready t s servlet None sound h = tt
found_ready t s servlet (Some k) sound h = servlet_ready t.servlets servlet k sound.servlets h

to_serve_ready : (t : Table) (s : Sight) (servlet : Option ℕ) (b : Before) → IsSound t → IfOk (to_serve t.servlets s servlet b) (IsReadyAt t.servlets)
to_serve_ready t s servlet Pass sound = found_ready t s servlet (ready_at (labels_of_rows t.servlets) servlet) sound refl
to_serve_ready t s servlet (PassWith name value) sound = found_ready t s servlet (ready_at (labels_of_rows t.servlets) servlet) sound refl
to_serve_ready t s servlet Stop sound = tt
to_serve_ready t s servlet (SendError code text) sound = tt
to_serve_ready t s servlet (Fault name) sound = tt

-- a sound table's servlet is ready, and so are the filters that passed
pub opens : (t u : Table) (s : Sight) (servlet : Option ℕ) (b : Before) (o : Open) → IsSound t → u ≡ t → Ok o.servlet ≡ to_serve u.servlets s servlet b → All (IsReadyAt u.filters) o.passed.items → IsOpen t o
opens t u s servlet b o sound w q a = record {
  servlet = subst (λ (r : Result ℕ Ending). IfOk r (IsReadyAt t.servlets)) (sym (q ∙ ap (λ (x : Table). to_serve x.servlets s servlet b) w)) (to_serve_ready t s servlet b sound);
  passed = subst (λ (x : Table). All (IsReadyAt x.filters) o.passed.items) w a;
}
