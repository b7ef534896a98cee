use Rattle.sv_dispatch.proofs.Prelude.{◌∙◌, IfOk-weaker, errored, table_of}
use Rattle.sv_dispatch.proofs.PageLemmas.{name_is}
use Rattle.sv_dispatch.proofs.ViewLemmas.{labels_rows}
use Rattle.sv_dispatch.proofs.request.error_view.Goals as goal

pub returns : goal.returns
returns g c = IfOk-weaker c.errored.result _ _ (λ v h. h ∙ (λ i. errored (c.of.ensures i) c.args.status c.args.message.now (name_is (table_of g.S.Servlet g.F.Filter c.args.stage.now) c.args.call.now _ _ _ _ _ c.name_at.ensures (labels_rows g.S.Servlet.serves g.S.Servlet.servlet_phase _) c.in_ok-place.ensures c.as_str.ensures c.in_ok-path.ensures i))) c.errored.ensures
