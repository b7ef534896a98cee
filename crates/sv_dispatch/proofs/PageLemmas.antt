-- A page that is found, and an error dispatch that ended.
use Rattle.sv_dispatch.proofs.Prelude.{◌≡◌, ℕ, ◌<◌, ◌≤◌, ◌+◌, List, length, get_or, drop, drop-cons, add-one, sym, ◌∙◌, ap, Bool, true, false, Option, Some}
use Rattle.sv_dispatch.proofs.Prelude.{None, Result, Ok, Err, IfOk, drop_all, Request, Error, Asked, ReplyState, Lent, lent, Table, outcome, ask, dispatched}
use Rattle.sv_dispatch.proofs.Prelude.{first_page, paged, mapped_path_of, Label, labels_of_rows, name_at, Sight, errored, MappedPath, Ending}
use Rattle.sv_dispatch.specs.Pages.{servlet_name, path_of, shown_page, readied, readied_reply, ran, served, settled, settled_all}
use Rattle.sv_dispatch.specs.Sight.{first_sight}
use Rattle.sv_dispatch.specs.declared.request.Ended.{Ended}
use Rattle.sv_dispatch.specs.declared.page.ErrorPage.{ErrorPage}
use Rattle.sv_dispatch.specs.declared.page.PageFor.{PageFor}

pub page_hit : (f : PageFor → Bool) (ps : List ErrorPage) (i : ℕ) (p : ErrorPage) (all : Option (List ℕ)) → i < length ps → p ≡ get_or ps i p → f p.page_for ≡ true → first_page f (drop i ps) ≡ all → Some p.path ≡ all
unfolding first_page
page_hit f ps i p all h e t k = sym (rw (drop-cons ps i p h, ← e, t)) ∙ k

pub page_miss : (f : PageFor → Bool) (ps : List ErrorPage) (i : ℕ) (p : ErrorPage) (all : Option (List ℕ)) → i < length ps → p ≡ get_or ps i p → f p.page_for ≡ false → first_page f (drop i ps) ≡ all → first_page f (drop (i + 1) ps) ≡ all
unfolding first_page
page_miss f ps i p all h e t k = rw add-one (sym (rw (drop-cons ps i p h, ← e, t)) ∙ k)

pub page_none : (f : PageFor → Bool) (ps : List ErrorPage) (i : ℕ) (all : Option (List ℕ)) → length ps ≤ i → first_page f (drop i ps) ≡ all → None ≡ all
unfolding first_page
page_none f ps i all h k = rw (drop_all i ps h) at k

-- the name of the request's servlet, as the code finds it
pub name_is : (t : Table) (call : Asked) (ls : List Label) (place : MappedPath) (text path name : List ℕ) → name ≡ name_at ls place.servlet → labels_of_rows t.servlets ≡ ls → place ≡ mapped_path_of t.patterns text → text ≡ path → path ≡ path_of call →
    name ≡ servlet_name t call
name_is t call ls place text path name n l p s r =
    n ∙ (ap (λ (x : List Label). name_at x place.servlet) (sym l) ∙ ap (λ (x : MappedPath). name_at (labels_of_rows t.servlets) x.servlet) (p ∙ ap (mapped_path_of t.patterns) (s ∙ r)))

-- an error dispatch that ended
pub page_shown : (t u : Table) (call : Asked) (status : ℕ) (message : List ℕ) (left left' : ℕ) (l m : Lent) (reply : ReplyState) (path : List ℕ) (page : Option (List ℕ)) (view : Sight) (ended : Ending) → page ≡ Some path →
    u ≡ t → view ≡ errored (first_sight call) status message (servlet_name u call) → reply ≡ readied_reply l.reply status → outcome ended left' m ≡ dispatched u 16 (ask Error view path) left (lent l.edit reply) →
    shown_page status (outcome ended left' m) ≡ paged t call status message left l page
page_shown t u call status message left left' l m reply path page view ended g w v r o =
    let o' : outcome ended left' m ≡ dispatched u 16 (ask Error (errored (first_sight call) status message (servlet_name u call)) path) left (readied status l) =
    o ∙ (ap (λ (x : Sight). dispatched u 16 (ask Error x path) left (lent l.edit reply)) v ∙ ap (λ (x : ReplyState). dispatched u 16 (ask Error (errored (first_sight call) status message (servlet_name u call)) path) left (lent l.edit x)) r) in
    ap (shown_page status) o' ∙ (ap (λ (x : Table). paged x call status message left l (Some path)) w ∙ ap (paged t call status message left l) (sym g))

-- a request that is settled by a page
pub settled_paged : {E : Type 0} (r : Result Ended E) (t : Table) (call : Asked) (left : ℕ) (m n : Lent) (ended known : Ending) (status : ℕ) (message : List ℕ) (page : Option (List ℕ)) → IfOk r (λ e. ran e n ≡ paged t call status message left m page) →
    ended ≡ known → paged t call status message left m page ≡ settled t call (outcome known left m) known → IfOk r (λ e. ran e n ≡ settled_all t call (outcome ended left m))
settled_paged (Ok e) t call left m n ended known status message page h k s = h ∙ (s ∙ ap (λ (x : Ending). settled_all t call (outcome x left m)) (sym k))
settled_paged (Err x) t call left m n ended known status message page h k s = tt

-- a request that is settled by how its dispatch ended
pub run_settled : {E : Type 0} (r : Result Ended E) (t u : Table) (call : Asked) (view : Sight) (path : List ℕ) (left : ℕ) (l m n : Lent) (ended : Ending) → IfOk r (λ e. ran e n ≡ settled_all u call (outcome ended left m)) →
    u ≡ t → view ≡ first_sight call → path ≡ path_of call → outcome ended left m ≡ dispatched t 16 (ask Request view path) 64 l → IfOk r (λ e. ran e n ≡ served t call l)
run_settled (Ok e) t u call view path left l m n ended h w v p o =
    h ∙ (ap (λ (x : Table). settled_all x call (outcome ended left m)) w ∙ ap (settled_all t call) (o ∙ (λ i. dispatched t 16 (ask Request (v i) (p i)) 64 l)))
run_settled (Err x) t u call view path left l m n ended h w v p o = tt
