use Rattle.sv_container.proofs.Prelude.{◌∙◌, ap, None, Some, IfOk-weaker, session_cookie, admission, App, app_of, refused, unserved, Admission, Full}
use Rattle.std.proofs.Common.{option_map}
use Rattle.sv_container.proofs.ServeLemmas.{edited_is_of, served_apart_by}
use Rattle.sv_container.proofs.application.Application.serve_new.Goals as goal

pub returns-then-branch-clause-outcome : goal.returns-then-branch-clause-outcome
returns-then-branch-clause-outcome g c =
    let before : App = app_of g.S.Servlet g.F.Filter c.args.self.now in
    let behind : App = app_of g.S.Servlet g.F.Filter c.answer.new.self in
    let edited = edited_is_of c.finish-edited.result c.in_ok-response.edit c.finish-edited.ensures.fate c.finish-edited.ensures.birth
    c.finish-edited.ensures.id_changed c.finish-edited.ensures.events in
    IfOk-weaker c.plain_outcome.result _ _
    (λ o is. served_apart_by before behind c.args.request.now c.args.path.now c.args.arrival c.args.admission c.args.memory _ c.args.now c.args.fresh
    c.into_parts-expired.result.0 c.into_parts-expired.result.1 c.begin-edit.result c.in_ok-response.edit c.in_ok-response.response c.finish-edited.result
    (Some c.remember.new.edited) o c.answer.ensures.same c.into_parts-expired.ensures.expired c.into_parts-expired.ensures.held c.begin-edit.ensures
    c.in_ok-response.ensures.answer edited (c.in_ok-remember.ensures.kept c.if-branch.true) is)
    c.plain_outcome.ensures

pub returns-else-branch-clause-outcome : goal.returns-else-branch-clause-outcome
returns-else-branch-clause-outcome g c =
    let before : App = app_of g.S.Servlet g.F.Filter c.args.self.now in
    let behind : App = app_of g.S.Servlet g.F.Filter c.answer.new.self in
    let edited = edited_is_of c.finish-edited.result c.in_ok-response.edit c.finish-edited.ensures.fate c.finish-edited.ensures.birth
    c.finish-edited.ensures.id_changed c.finish-edited.ensures.events in
    let joined_at : App → Admission =
    λ a. admission a.once a.number c.args.request.now (session_cookie a.cookie.name c.args.request.now.cookies a.number) (option_map (λ s. (s.0, s.1.now)) c.args.handed) c.args.now in
    IfOk-weaker c.unserved_full.result _ _
    (λ o is. served_apart_by before behind c.args.request.now c.args.path.now c.args.arrival c.args.admission c.args.memory (joined_at before) c.args.now c.args.fresh
    c.into_parts-expired.result.0 c.into_parts-expired.result.1 c.begin-edit.result c.in_ok-response.edit c.in_ok-response.response c.finish-edited.result
    None o c.answer.ensures.same c.into_parts-expired.ensures.expired c.into_parts-expired.ensures.held c.begin-edit.ensures
    c.in_ok-response.ensures.answer edited (c.in_ok-remember.ensures.full c.if-branch.false)
    (is ∙ ap (λ (a : App). unserved behind (joined_at a) (refused Full c.args.request.now)) c.answer.ensures.same))
    c.unserved_full.ensures
