use Rattle.sv_container.proofs.Prelude.{◌∙◌, ap, subst, sym, IfOk-weaker, App, app_of, served_apart, Admission}
use Rattle.sv_container.specs.Serving.{Recalls}
use Rattle.sv_container.specs.declared.recall.Recall.{Recall}
use Rattle.sv_container.specs.declared.recall.Recall.TheVariants.{New}
use Rattle.sv_container.proofs.ServeLemmas.{served_apart_is}
use Rattle.sv_container.proofs.application.Application.serve_unknown.Goals as goal

pub returns-in-New-clause-outcome : goal.returns-in-New-clause-outcome
returns-in-New-clause-outcome g c =
    let before : App = app_of g.S.Servlet g.F.Filter c.args.self.now in
    let recalls : Recalls before.once c.args.request.now c.args.admission c.recall.new.admission (New c.in-New.memory) =
    subst (λ (x : Recall). Recalls before.once c.args.request.now c.args.admission c.recall.new.admission x) c.in-New.is c.in_ok-response.ensures in
    IfOk-weaker c.serve_new.result _ _
    (λ o is. is
    ∙ ap (λ (j : Admission). served_apart before c.args.request.now c.args.path.now c.arrival-arrival.result c.recall.new.admission c.in-New.memory j c.args.now c.args.fresh)
    (sym c.requires.admitted)
    ∙ served_apart_is before c.args.request.now c.args.path.now c.args.admission c.args.now c.args.fresh c.recall.new.admission c.in-New.memory c.arrival-arrival.result
    c.arrival-arrival.ensures recalls.0.0 recalls.0.1 recalls.1.0 recalls.1.1)
    c.serve_new.ensures.outcome
