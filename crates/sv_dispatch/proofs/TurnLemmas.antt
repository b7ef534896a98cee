-- Service calls: a dispatch leaves no more than there were, and more turns than calls change nothing.
use Rattle.sv_dispatch.proofs.Prelude.{◌≡◌, ℕ, zero, suc, ◌≤◌, true, List, arith, refl, Option, Some, None, Asked, Filters, Serves, Lent, Before, Pass}
use Rattle.sv_dispatch.proofs.Prelude.{PassWith, Stop, Next, Done, Forward, Include, SendError, Fault, Table, Outcome, ask, answered, begun_by, befores}
use Rattle.sv_dispatch.proofs.Prelude.{chain_of, closed, closed_by, dispatched, emptied, entered, holding, let_go, performed, placed, resumed, resumed_by}
use Rattle.sv_dispatch.proofs.Prelude.{serving, showing, visit_of, Row, served, labels_of_rows, ready_at, Sight, call_of, Ask, Ending, Finished, Failed}
use Rattle.sv_dispatch.proofs.Prelude.{Faulted, Abandoned, Visit}
use Rattle.sv_mapping.specs.declared.dispatcher.Dispatcher.TheVariants.{Forward as ByForward, Include as ByInclude}
use Rattle.sv_servlet.specs.declared.filter.Before.TheVariants.{SendError as RefuseBy, Fault as RefuseFor}

-- a nested dispatch leaves no more service calls than there were
abbrev pub Spends : (Ask → ℕ → Lent → Outcome) → Type 0
Spends inner = (a : Ask) (left : ℕ) (l : Lent) → (inner a left l).left ≤ left

resumed_left : (again : ℕ → ℕ → Lent → Outcome) (r : ℕ) (o : Outcome) (ended : Ending) (n : ℕ) → o.left ≤ n → (again r o.left o.lent).left ≤ o.left → (resumed_by again r o ended).left ≤ n
resumed_left again r o Finished n h a = omega arith
resumed_left again r o (Failed code text) n h a = omega arith
resumed_left again r o (Faulted name) n h a = h
resumed_left again r o Abandoned n h a = h

answered_left : (inner : Ask → ℕ → Lent → Outcome) (again : ℕ → ℕ → Lent → Outcome) (s : Sight) (n : ℕ) (m : Lent) (next : Next) → Spends inner →
    ((r left : ℕ) (l : Lent) → (again r left l).left ≤ left) → (answered inner again s n m next).left ≤ n
unfolding resumed
answered_left inner again s n m Done i a = omega arith
answered_left inner again s n m (SendError code text) i a = omega arith
answered_left inner again s n m (Fault name) i a = omega arith
answered_left inner again s n m (Forward path) i a = i (ask ByForward s path) n (emptied m)
answered_left inner again s n m (Include path r) i a =
    let o = inner (ask ByInclude s path) n (holding true m) in
    resumed_left again r (let_go s.is_included o) o.ended n (i (ask ByInclude s path) n (holding true m)) (a r _ _)

serving_left : (inner : Ask → ℕ → Lent → Outcome) (rs : List (Row Serves)) → Spends inner → (turns k : ℕ) (s : Sight) (r left : ℕ) (l : Lent) → (serving inner rs turns k s r left l).left ≤ left
unfolding serving
serving_left inner rs i zero k s r left l = omega arith
serving_left inner rs i (suc turns) k s r zero l = omega arith
serving_left inner rs i (suc turns) k s r (suc n) l =
    let a = served rs k (call_of s r) l in
    let h : (answered inner (λ r' left' l'. serving inner rs turns k s r' left' l') s n a.lent a.next).left ≤ n
    = answered_left inner (λ r' left' l'. serving inner rs turns k s r' left' l') s n a.lent a.next i (λ r' left' l'. serving_left inner rs i turns k s r' left' l') in
    omega (arith, h)

closed_left : (fs : List (Row Filters)) (ps : List ℕ) (call : Asked) (o : Outcome) (ended : Ending) → (closed_by fs ps call o ended).left ≡ o.left
closed_left fs ps call o Finished = refl
closed_left fs ps call o (Failed code text) = refl
closed_left fs ps call o (Faulted name) = refl
closed_left fs ps call o Abandoned = refl

placed_left : (inner : Ask → ℕ → Lent → Outcome) (rs : List (Row Serves)) (s : Sight) (left : ℕ) (l : Lent) (place : Option ℕ) → Spends inner → (placed inner rs s left l place).left ≤ left
placed_left inner rs s left l None i = omega arith
placed_left inner rs s left l (Some k) i = serving_left inner rs i left k s 0 left l

begun_left : (inner : Ask → ℕ → Lent → Outcome) (rs : List (Row Serves)) (v : Visit) (left : ℕ) (l : Lent) (b : Before) → Spends inner → (begun_by inner rs v left l b).left ≤ left
begun_left inner rs v left l Pass i = placed_left inner rs v.view left l (ready_at (labels_of_rows rs) v.servlet) i
begun_left inner rs v left l (PassWith name value) i = placed_left inner rs v.view left l (ready_at (labels_of_rows rs) v.servlet) i
begun_left inner rs v left l Stop i = omega arith
begun_left inner rs v left l (RefuseBy code text) i = omega arith
begun_left inner rs v left l (RefuseFor name) i = omega arith

performed_left : (t : Table) (inner : Ask → ℕ → Lent → Outcome) (v : Visit) (left : ℕ) (l : Lent) → Spends inner → (performed t inner v left l).left ≤ left
unfolding performed closed
performed_left t inner v left l i =
    let b = befores t.filters (chain_of t v) v.view l in
    let o = begun_by inner t.servlets (showing b.view v) left b.lent b.before in
    let h : o.left ≤ left = begun_left inner t.servlets (showing b.view v) left b.lent b.before i in
    let q : (closed_by t.filters b.passed (call_of b.view 0) o o.ended).left ≡ o.left = closed_left t.filters b.passed (call_of b.view 0) o o.ended in
    omega (arith, h, q)

entered_left : (t : Table) (inner : Ask → ℕ → Lent → Outcome) (left : ℕ) (l : Lent) (v : Option Visit) → Spends inner → (entered t inner left l v).left ≤ left
entered_left t inner left l None i = omega arith
entered_left t inner left l (Some v) i = performed_left t inner v left l i

pub dispatched_left : (t : Table) (e : ℕ) → Spends (dispatched t e)
unfolding dispatched
dispatched_left t zero a left l = omega arith
dispatched_left t (suc e) a left l = entered_left t (dispatched t e) left l (visit_of t a) (dispatched_left t e)

pub resumed_same : (again again' : ℕ → ℕ → Lent → Outcome) (r : ℕ) (o : Outcome) (ended : Ending) → again r o.left o.lent ≡ again' r o.left o.lent → resumed_by again r o ended ≡ resumed_by again' r o ended
resumed_same again again' r o Finished h = h
resumed_same again again' r o (Failed code text) h = h
resumed_same again again' r o (Faulted name) h = refl
resumed_same again again' r o Abandoned h = refl

answered_same : (inner : Ask → ℕ → Lent → Outcome) (again again' : ℕ → ℕ → Lent → Outcome) (s : Sight) (n : ℕ) (m : Lent) (next : Next) →
    ((path : List ℕ) (r : ℕ) (l : Lent) → again r (inner (ask ByInclude s path) n (holding true m)).left l ≡ again' r (inner (ask ByInclude s path) n (holding true m)).left l) →
    answered inner again s n m next ≡ answered inner again' s n m next
unfolding resumed
answered_same inner again again' s n m Done h = refl
answered_same inner again again' s n m (SendError code text) h = refl
answered_same inner again again' s n m (Fault name) h = refl
answered_same inner again again' s n m (Forward path) h = refl
answered_same inner again again' s n m (Include path r) h =
    let o = inner (ask ByInclude s path) n (holding true m) in
    resumed_same again again' r (let_go s.is_included o) o.ended (h path r (holding s.is_included o.lent))

-- more turns than service calls change nothing
pub serving_turns : (inner : Ask → ℕ → Lent → Outcome) (rs : List (Row Serves)) → Spends inner → (a b k : ℕ) (s : Sight) (r left : ℕ) (l : Lent) → left ≤ a → left ≤ b →
    serving inner rs a k s r left l ≡ serving inner rs b k s r left l
unfolding serving
serving_turns inner rs i zero zero k s r left l h g = refl
serving_turns inner rs i zero (suc b) k s r zero l h g = refl
serving_turns inner rs i zero (suc b) k s r (suc n) l h g = absurd (omega arith)
serving_turns inner rs i (suc a) zero k s r zero l h g = refl
serving_turns inner rs i (suc a) zero k s r (suc n) l h g = absurd (omega arith)
serving_turns inner rs i (suc a) (suc b) k s r zero l h g = refl
serving_turns inner rs i (suc a) (suc b) k s r (suc n) l h g =
    let w = served rs k (call_of s r) l in
    answered_same inner (λ r' left' l'. serving inner rs a k s r' left' l') (λ r' left' l'. serving inner rs b k s r' left' l') s n w.lent w.next (λ path r' l'.
    let s' : (inner (ask ByInclude s path) n (holding true w.lent)).left ≤ n = i (ask ByInclude s path) n (holding true w.lent) in
    let p : (inner (ask ByInclude s path) n (holding true w.lent)).left ≤ a = omega (arith, s') in
    let q : (inner (ask ByInclude s path) n (holding true w.lent)).left ≤ b = omega (arith, s') in
    serving_turns inner rs i a b k s r' (inner (ask ByInclude s path) n (holding true w.lent)).left l' p q)
