-- The dispatch of a request by one call of a servlet.
use Rattle.sv_dispatch.proofs.Prelude.{◌≡◌, ℕ, suc, ◌+◌, List, ap, ◌∙◌, Option, Result, Ok, Err, IfOk, OnOk, IfOk-weaker, Request, Asked, Lent, Next, Table}
use Rattle.sv_dispatch.proofs.Prelude.{Outcome, outcome, ask, dispatched, performed, visit_of, mapped_path_of, served, Sight, call_of, current, opened, Open}
use Rattle.sv_dispatch.proofs.Prelude.{Mode, Ending, Visit, Begun}
use Rattle.sv_servlet.specs.Servlet.{answer}
use Rattle.sv_dispatch.specs.Dispatching.{visit}
use Rattle.sv_dispatch.specs.Stack.{behind_filters, followed}
use Rattle.sv_dispatch.proofs.OpenLemmas.{began, performs}
use Rattle.sv_dispatch.proofs.RunLemmas.{serve_one}

-- a dispatch that ended as it should
pub ended_by : {E P : Type 0} (r : Result Ending E) (ended : Ending) (left : ℕ) (m : Lent) (target : Outcome) →
    IfOk r (λ over. over ≡ ended) → OnOk r P → (P → outcome ended left m ≡ target) → IfOk r (λ over. outcome over left m ≡ target)
ended_by (Ok over) ended left m target h p f = ap (λ (x : Ending). outcome x left m) h ∙ f p
ended_by (Err x) ended left m target h p f = tt

-- what a servlet asks for is run to its end
pub goes_on : {E : Type 0} (r : Result Ending E) (t u : Table) (mode : Mode) (after : Ending → Outcome) (left : ℕ) (m : Lent) (target : Outcome) → u ≡ t →
    IfOk r (λ ended. after ended ≡ current u 16 mode left m) → current t 16 mode left m ≡ target → IfOk r (λ ended. after ended ≡ target)
goes_on r t u mode after left m target w h k = IfOk-weaker r _ _ (λ ended e. e ∙ ap (λ (x : Table). current x 16 mode left m) w ∙ k) h

-- a servlet is called, and what it asks for follows
pub serves_first : {E : Type 0} (r : Result Ending E) (t u : Table) (o : Open) (left n : ℕ) (l m : Lent) (after : Ending → Outcome) (next : Next) (seen : Asked) →
    IfOk r (λ ended. after ended ≡ followed u 15 o n m next) → u ≡ t → left ≡ n + 1 → answer m next ≡ served t.servlets o.servlet seen l → seen ≡ call_of o.view o.resume →
    IfOk r (λ ended. after ended ≡ opened t 15 o left l)
serves_first r t u o left n l m after next seen f w h a v =
    IfOk-weaker r _ _ (λ ended e. e ∙ ap (λ (x : Table). followed x 15 o n m next) w ∙ serve_one t 15 o left n l m next seen h a v) f

-- what follows a request's filters, where they leave the table as it was
pub behind_first : {E : Type 0} (r : Result Ending E) (t u : Table) (servlet : Option ℕ) (left : ℕ) (g h : Begun) (after : Ending → Outcome) →
    IfOk r (λ ended. after ended ≡ behind_filters u 15 servlet left g) → u ≡ t → g ≡ h → IfOk r (λ ended. after ended ≡ behind_filters t 15 servlet left h)
behind_first r t u servlet left g h after f w k =
    IfOk-weaker r _ _ (λ ended e. e ∙ ap (λ (x : Table). behind_filters x 15 servlet left g) w ∙ ap (behind_filters t 15 servlet left) k) f

-- and that is all of the request
pub performs_first : {E : Type 0} (r : Result Ending E) (t : Table) (v : Visit) (left : ℕ) (l : Lent) (g : Begun) (after : Ending → Outcome) (target : Outcome) →
    IfOk r (λ ended. after ended ≡ behind_filters t 15 v.servlet left g) → g ≡ began t v l → performed t (dispatched t 15) v left l ≡ target → IfOk r (λ ended. after ended ≡ target)
performs_first r t v left l g after target f h k = IfOk-weaker r _ _ (λ ended e. e ∙ performs t 15 v left l g h ∙ k) f

-- a request for a path that is mapped to a servlet
pub enters_mapped : (t : Table) (e : ℕ) (s : Sight) (path : List ℕ) (servlet : Option ℕ) (left : ℕ) (l : Lent) → servlet ≡ (mapped_path_of t.patterns path).servlet →
    performed t (dispatched t e) (visit Request s path servlet) left l ≡ dispatched t (suc e) (ask Request s path) left l
unfolding dispatched visit_of
enters_mapped t e s path servlet left l h = ap (λ (k : Option ℕ). performed t (dispatched t e) (visit Request s path k) left l) h
