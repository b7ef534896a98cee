use Rattle.sv_dispatch.proofs.Prelude.{◌∙◌, refl, lent_of}
use Rattle.sv_dispatch.proofs.PageLemmas.{page_shown}
use Rattle.sv_dispatch.proofs.request.show_page.Goals as goal

pub returns-clause-ran : goal.returns-clause-ran
returns-clause-ran g c = c.page_ended.ensures.ran c.dispatch.new.left ∙ page_shown _ _ _ _ _ _ _ (lent_of c.args.stage.now) _ _ _ _ _ _ c.in-Some.is refl c.in_ok-view.ensures c.make_ready.ensures c.in_ok-ended.ensures.outcome
