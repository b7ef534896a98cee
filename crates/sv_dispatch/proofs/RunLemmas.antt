-- One call of a servlet, and one return from a dispatch that was asked for.
use Rattle.sv_dispatch.proofs.Prelude.{◌≡◌, ℕ, zero, suc, ◌≤◌, ◌+◌, ◌-◌, true, List, arith, add-one, sym, ◌∙◌, ap, refl, subst, Result, Ok, Err, IfOk, OnOk}
use Rattle.sv_dispatch.proofs.Prelude.{Dispatcher, Asked, held, ReplyState, Lent, lent, Next, Forward, Include, SendError, Table, Outcome, outcome, ask, closed}
use Rattle.sv_dispatch.proofs.Prelude.{dispatched, holding, let_go, resumed, serving, served, call_of, current, opened, reentered, IsOpen, IsModeOf, Open}
use Rattle.sv_dispatch.proofs.Prelude.{Frame, Mode, Leave, Ending, Finished, Failed, Faulted, Abandoned}
use Rattle.sv_mapping.specs.declared.dispatcher.Dispatcher.TheVariants.{Forward as ByForward, Include as ByInclude}
use Rattle.sv_servlet.specs.Reply.{cleared}
use Rattle.sv_servlet.specs.Servlet.{Answer, answer}
use Rattle.sv_dispatch.specs.Dispatching.{sent}
use Rattle.sv_dispatch.specs.Stack.{followed, closed_open, serving_open, nesting}
use Rattle.sv_dispatch.proofs.TurnLemmas.{dispatched_left, serving_turns, resumed_same}
use Rattle.sv_dispatch.specs.declared.mode.Then.{Then}
use Rattle.sv_dispatch.specs.declared.mode.Then.TheVariants.{Return, Resume}

pub one_less : (n : ℕ) → (n ≡ 0 → ⊥) → n ≡ (n - 1) + 1
one_less zero h = absurd (h refl)
one_less (suc n) h = omega arith

-- no service call is left
pub serve_none : (t : Table) (e : ℕ) (o : Open) (left : ℕ) (l : Lent) → left ≡ 0 → outcome Abandoned left l ≡ opened t e o left l
unfolding opened serving closed
serve_none t e o zero l h = refl
serve_none t e o (suc n) l h = absurd (omega arith)

pub serve_one : (t : Table) (e : ℕ) (o : Open) (left n : ℕ) (l m : Lent) (next : Next) (seen : Asked) → left ≡ n + 1 →
    answer m next ≡ served t.servlets o.servlet seen l → seen ≡ call_of o.view o.resume → followed t e o n m next ≡ opened t e o left l
unfolding opened serving
serve_one t e o left n l m next seen h a v =
    rw (h, add-one) (ap (λ (x : Answer). followed t e o n x.lent x.next) (a ∙ ap (λ (x : Asked). served t.servlets o.servlet x l) v))

abbrev pub frame : Open → Then → Frame
frame o then = record { held = o; then = then }

-- an included dispatch is awaited
nest_include : (t : Table) (e : ℕ) (o : Open) (n : ℕ) (m : Lent) (path : List ℕ) (r : ℕ) →
    reentered t e (frame o (Resume r)) (dispatched t e (ask ByInclude o.view path) n (holding true m)) ≡ followed t e o n m (Include path r)
unfolding reentered resumed
nest_include t e o n m path r =
    let w = dispatched t e (ask ByInclude o.view path) n (holding true m) in
    let s : w.left ≤ n = dispatched_left t e (ask ByInclude o.view path) n (holding true m) in
    let z : w.left ≤ w.left = omega arith in
    ap (closed_open t o)
    (resumed_same (λ r' left' l'. serving_open t e o left' r' left' l') (λ r' left' l'. serving_open t e o n r' left' l') r (let_go o.view.is_included w) w.ended
    (serving_turns (dispatched t e) t.servlets (dispatched_left t e) w.left n o.servlet o.view r w.left (holding o.view.is_included w.lent) z s))

nest_forward : (t : Table) (e : ℕ) (o : Open) (n : ℕ) (m : Lent) (path : List ℕ) →
    reentered t e (frame o Return) (dispatched t e (ask ByForward o.view path) n (lent m.edit (cleared m.reply))) ≡ followed t e o n m (Forward path)
unfolding reentered
nest_forward t e o n m path = refl

-- a servlet that waits for another dispatch
pub follow_forward : (t : Table) (e : ℕ) (o : Open) (n : ℕ) (m : Lent) (next : Next) (path : List ℕ) (reply : ReplyState) → next ≡ Forward path → reply ≡ cleared m.reply →
    reentered t e (frame o Return) (dispatched t e (ask ByForward o.view path) n (lent m.edit reply)) ≡ followed t e o n m next
follow_forward t e o n m next path reply f z =
    ap (λ (x : ReplyState). reentered t e (frame o Return) (dispatched t e (ask ByForward o.view path) n (lent m.edit x))) z
    ∙ (nest_forward t e o n m path ∙ ap (followed t e o n m) (sym f))

pub follow_include : (t : Table) (e : ℕ) (o : Open) (n : ℕ) (m : Lent) (next : Next) (path : List ℕ) (r : ℕ) (reply : ReplyState) → next ≡ Include path r → reply ≡ held m.reply true →
    reentered t e (frame o (Resume r)) (dispatched t e (ask ByInclude o.view path) n (lent m.edit reply)) ≡ followed t e o n m next
follow_include t e o n m next path r reply f z =
    ap (λ (x : ReplyState). reentered t e (frame o (Resume r)) (dispatched t e (ask ByInclude o.view path) n (lent m.edit x))) z
    ∙ (nest_include t e o n m path r ∙ ap (followed t e o n m) (sym f))

-- a servlet that ended its dispatch
pub follow_end : (t : Table) (e : ℕ) (o : Open) (n : ℕ) (m : Lent) (ended : Ending) (next last : Next) → next ≡ last → closed_open t o (outcome ended n m) ≡ followed t e o n m last →
    closed_open t o (outcome ended n m) ≡ followed t e o n m next
follow_end t e o n m ended next last f g = g ∙ ap (followed t e o n m) (sym f)

pub follow_error : (t : Table) (e : ℕ) (o : Open) (n : ℕ) (m : Lent) (ended : Ending) (next : Next) (code : ℕ) (text : List ℕ) → next ≡ SendError code text → ended ≡ sent o.view code text →
    closed_open t o (outcome ended n m) ≡ followed t e o n m next
follow_error t e o n m ended next code text f s =
    follow_end t e o n m ended next (SendError code text) f (ap (λ (x : Ending). closed_open t o (outcome x n m)) s)

-- one call less is left behind what follows the answer
pub serves : {E : Type 0} (r : Result Mode E) (t u : Table) (o : Open) (left n : ℕ) (l m k : Lent) (next : Next) (seen : Asked) →
    IfOk r (λ mode. (e left' : ℕ) → current u (suc e) mode left' k ≡ followed u e o left' m next) → u ≡ t → left ≡ n + 1 → answer m next ≡ served t.servlets o.servlet seen l → seen ≡ call_of o.view o.resume →
    IfOk r (λ mode. (e : ℕ) → current t (suc e) mode n k ≡ opened t e o left l)
serves (Ok mode) t u o left n l m k next seen f w h a v =
    λ e. subst (λ (x : Table). (e left' : ℕ) → current x (suc e) mode left' k ≡ followed x e o left' m next) w f e n ∙ serve_one t e o left n l m next seen h a v
serves (Err x) t u o left n l m k next seen f w h a v = tt

-- an open dispatch stays open
pub stays_open : (t u : Table) (o : Open) → u ≡ t → IsOpen t o → IsOpen u o
stays_open t u o w h = subst (λ (x : Table). IsOpen x o) (sym w) h

pub stays_mode : {E : Type 0} (r : Result Mode E) (t u : Table) → u ≡ t → IfOk r (IsModeOf u) → IfOk r (IsModeOf t)
stays_mode r t u w h = subst (λ (x : Table). IfOk r (IsModeOf x)) w h

-- what leaves a dispatch is its result
pub left_by : {E P : Type 0} (r : Result Mode E) (t : Table) (ended : Ending) (m : Lent) (target : ℕ → ℕ → Outcome) →
    IfOk r (λ mode. mode ≡ Leave ended) → OnOk r P → (P → (e left : ℕ) → outcome ended left m ≡ target e left) →
    IfOk r (λ mode. (e left : ℕ) → current t (suc e) mode left m ≡ target e left)
left_by (Ok mode) t ended m target h p f = λ e left. ap (λ (x : Mode). current t (suc e) x left m) h ∙ f p e left
left_by (Err x) t ended m target h p f = tt

-- a dispatch that waits for the one that it asks for
pub nests : {E : Type 0} (r : Result Mode E) (t : Table) (m : Lent) (target : ℕ → ℕ → Outcome) (o : Open) (then : Then) (d : Dispatcher) (path : List ℕ) →
    IfOk r (λ mode. mode ≡ nesting o then d path) → ((e left : ℕ) → reentered t e (frame o then) (dispatched t e (ask d o.view path) left m) ≡ target e left) →
    IfOk r (λ mode. (e left : ℕ) → current t (suc e) mode left m ≡ target e left)
nests (Ok mode) t m target o then d path h f = λ e left. ap (λ (x : Mode). current t (suc e) x left m) h ∙ f e left
nests (Err x) t m target o then d path h f = tt

-- ---- a dispatch that waited

-- a forward's result is that of the forwarder, closed
pub leave_return : (t : Table) (e : ℕ) (f : Frame) (ended : Ending) (left : ℕ) (l : Lent) → f.then ≡ Return → closed_open t f.held (outcome ended left l) ≡ reentered t e f (outcome ended left l)
unfolding reentered
leave_return t e f ended left l h = rw h

abandoned_return : (t : Table) (e : ℕ) (f : Frame) (left : ℕ) (l : Lent) → f.then ≡ Return → outcome Abandoned left l ≡ reentered t e f (outcome Abandoned left l)
unfolding reentered closed
abandoned_return t e f left l h = rw h

abandoned_resume : (t : Table) (e : ℕ) (f : Frame) (left : ℕ) (l : Lent) (r : ℕ) → f.then ≡ Resume r → outcome Abandoned left (holding f.held.view.is_included l) ≡ reentered t e f (outcome Abandoned left l)
unfolding reentered resumed closed
abandoned_resume t e f left l r h = rw h

pub abandon_return : (t : Table) (e : ℕ) (f : Frame) (ended : Ending) (left : ℕ) (l : Lent) → f.then ≡ Return → ended ≡ Abandoned → outcome Abandoned left l ≡ reentered t e f (outcome ended left l)
abandon_return t e f ended left l h q = abandoned_return t e f left l h ∙ ap (λ (x : Ending). reentered t e f (outcome x left l)) (sym q)

pub abandon_resume : (t : Table) (e : ℕ) (f : Frame) (ended : Ending) (left : ℕ) (l : Lent) (reply : ReplyState) (r : ℕ) → f.then ≡ Resume r → reply ≡ held l.reply f.held.view.is_included → ended ≡ Abandoned →
    outcome Abandoned left (lent l.edit reply) ≡ reentered t e f (outcome ended left l)
abandon_resume t e f ended left l reply r h p q =
    ap (λ (x : ReplyState). outcome Abandoned left (lent l.edit x)) p ∙ (abandoned_resume t e f left l r h ∙ ap (λ (x : Ending). reentered t e f (outcome x left l)) (sym q))

pub fault_resume : (t : Table) (e : ℕ) (f : Frame) (ended : Ending) (left : ℕ) (l : Lent) (reply : ReplyState) (r : ℕ) (name : List ℕ) → f.then ≡ Resume r → reply ≡ held l.reply f.held.view.is_included → ended ≡ Faulted name →
    closed_open t f.held (outcome (Faulted name) left (lent l.edit reply)) ≡ reentered t e f (outcome ended left l)
unfolding reentered resumed
fault_resume t e f ended left l reply r name h p q = rw (h, q, p)

finished_resume : (t : Table) (e : ℕ) (f : Frame) (left : ℕ) (l : Lent) (r : ℕ) → f.then ≡ Resume r →
    opened t e (record f.held { resume = r }) left (holding f.held.view.is_included l) ≡ reentered t e f (outcome Finished left l)
unfolding reentered resumed opened
finished_resume t e f left l r h = rw h

failed_resume : (t : Table) (e : ℕ) (f : Frame) (left : ℕ) (l : Lent) (r code : ℕ) (text : List ℕ) → f.then ≡ Resume r →
    opened t e (record f.held { resume = r }) left (holding f.held.view.is_included l) ≡ reentered t e f (outcome (Failed code text) left l)
unfolding reentered resumed opened
failed_resume t e f left l r code text h = rw h

-- the servlet goes on
pub finish_resume : (t : Table) (e : ℕ) (f : Frame) (o : Open) (ended : Ending) (left : ℕ) (l : Lent) (reply : ReplyState) (r : ℕ) → o ≡ record f.held { resume = r } → f.then ≡ Resume r → reply ≡ held l.reply f.held.view.is_included → ended ≡ Finished →
    opened t e o left (lent l.edit reply) ≡ reentered t e f (outcome ended left l)
finish_resume t e f o ended left l reply r w h p q =
    ap (λ (x : Open). opened t e x left (lent l.edit reply)) w ∙ (ap (λ (x : ReplyState). opened t e (record f.held { resume = r }) left (lent l.edit x)) p
    ∙ (finished_resume t e f left l r h ∙ ap (λ (x : Ending). reentered t e f (outcome x left l)) (sym q)))

pub fail_resume : (t : Table) (e : ℕ) (f : Frame) (o : Open) (ended : Ending) (left : ℕ) (l : Lent) (reply : ReplyState) (r code : ℕ) (text : List ℕ) → o ≡ record f.held { resume = r } → f.then ≡ Resume r → reply ≡ held l.reply f.held.view.is_included → ended ≡ Failed code text →
    opened t e o left (lent l.edit reply) ≡ reentered t e f (outcome ended left l)
fail_resume t e f o ended left l reply r code text w h p q =
    ap (λ (x : Open). opened t e x left (lent l.edit reply)) w ∙ (ap (λ (x : ReplyState). opened t e (record f.held { resume = r }) left (lent l.edit x)) p
    ∙ (failed_resume t e f left l r code text h ∙ ap (λ (x : Ending). reentered t e f (outcome x left l)) (sym q)))
