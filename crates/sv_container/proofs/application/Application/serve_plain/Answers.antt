use Rattle.sv_container.proofs.Prelude.{IfOk-weaker, App, app_of}
use Rattle.sv_container.proofs.PlainLemmas.{served_plain}
use Rattle.sv_container.proofs.ServeLemmas.{edited_is_of}
use Rattle.sv_container.proofs.application.Application.serve_plain.Goals as goal

pub returns-clause-outcome : goal.returns-clause-outcome
returns-clause-outcome g c =
    let before : App = app_of g.S.Servlet g.F.Filter c.args.self.now in
    let behind : App = app_of g.S.Servlet g.F.Filter c.answer.new.self in
    let edited = edited_is_of c.finish-edited.result c.in_ok-response.edit c.finish-edited.ensures.fate c.finish-edited.ensures.birth
    c.finish-edited.ensures.id_changed c.finish-edited.ensures.events in
    IfOk-weaker c.plain_outcome.result _ _
    (λ o is. served_plain before c.args.request.now c.args.path.now c.args.admission c.args.now c.args.fresh behind c.joined-joined.result
    c.into_parts-expired.result.0 c.into_parts-expired.result.1 c.begin-edit.result c.in_ok-response.edit c.in_ok-response.response c.finish-edited.result o
    c.answer.ensures.same c.requires.plain c.joined-joined.ensures c.into_parts-expired.ensures.expired c.into_parts-expired.ensures.held
    c.begin-edit.ensures c.in_ok-response.ensures.answer edited is)
    c.plain_outcome.ensures
