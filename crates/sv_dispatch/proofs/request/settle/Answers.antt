use Rattle.sv_dispatch.proofs.Prelude.{◌∙◌, paged, table_of, lent_of, Failed, Faulted}
use Rattle.sv_dispatch.proofs.PageLemmas.{settled_paged}
use Rattle.sv_dispatch.specs.Pages.{page_of_error, page_of_fault}
use Rattle.sv_dispatch.proofs.request.settle.Goals as goal

pub returns-in_ok-page-in-Failed-clause-ran : goal.returns-in_ok-page-in-Failed-clause-ran
returns-in_ok-page-in-Failed-clause-ran g c =
    let t = table_of g.S.Servlet g.F.Filter c.args.stage.now in
    settled_paged c.show_page.result t c.args.call.now c.args.left (lent_of c.args.stage.now) _ _ (Failed c.in-Failed.code c.in-Failed.text) _ _ _ c.show_page.ensures.ran c.in-Failed.is
    (λ i. paged t c.args.call.now (c.status_of-status.ensures.status i) (c.as_str.ensures i) c.args.left (lent_of c.args.stage.now) ((c.in_ok-page-in-Failed.ensures ∙ (λ j. page_of_error (c.as_slice.ensures.value j) (c.status_of-status.ensures.status j))) i))

pub returns-in_ok-page-in-Faulted-clause-ran : goal.returns-in_ok-page-in-Faulted-clause-ran
returns-in_ok-page-in-Faulted-clause-ran g c =
    let t = table_of g.S.Servlet g.F.Filter c.args.stage.now in
    settled_paged c.show_page-in-Faulted.result t c.args.call.now c.args.left (lent_of c.args.stage.now) _ _ (Faulted c.in-Faulted.name) _ _ _ c.show_page-in-Faulted.ensures.ran c.in-Faulted.is
    (λ i. paged t c.args.call.now 500 (c.as_str-in-Faulted-2.ensures i) c.args.left (lent_of c.args.stage.now) ((c.in_ok-page-in-Faulted.ensures ∙ (λ j. page_of_fault (c.as_slice-in-Faulted.ensures.value j) (c.as_str-in-Faulted.ensures j))) i))
