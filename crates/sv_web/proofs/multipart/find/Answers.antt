use Rattle.std.proofs.Common.{◌≡◌, sym, ap, ◌∙◌, ℕ, ◌+◌, ◌-◌, arith}
use Rattle.sv_web.specs.Multipart.{found, found_by}
use Rattle.sv_web.specs.declared.multipart.Search.{Search}
use Rattle.sv_web.proofs.FoundLemmas.{ended, stepped}
use Rattle.sv_web.proofs.multipart.find.Goals as goal

pub returns-in-Over : goal.returns-in-Over
returns-in-Over c =
    sym (ap (λ (s : Search). found_by s (63 - c.loop-past._past) c.args.delimiter.now c.args.name.now) c.in-Over.is)
    ∙ stepped _ _ _ c.loop-past._past c.loop-past.rest.now c.args.text.now c.loop-past-test.true c.loop-past.invariant c.in_ok-step.ensures

pub returns-in-Here : goal.returns-in-Here
returns-in-Here c =
    sym (ap (λ (s : Search). found_by s (63 - c.loop-past._past) c.args.delimiter.now c.args.name.now) c.in-Here.is)
    ∙ stepped _ _ _ c.loop-past._past c.loop-past.rest.now c.args.text.now c.loop-past-test.true c.loop-past.invariant c.in_ok-step.ensures

pub loop-past-preserved : goal.loop-past-preserved
loop-past-preserved c =
    let left : 64 - (c.loop-past._past + 1) ≡ 63 - c.loop-past._past = omega arith in
    ap (λ (k : ℕ). found k c.in-Further.next.now c.args.delimiter.now c.args.name.now) left
    ∙ sym (ap (λ (s : Search). found_by s (63 - c.loop-past._past) c.args.delimiter.now c.args.name.now) c.in-Further.is)
    ∙ stepped _ _ _ c.loop-past._past c.loop-past.rest.now c.args.text.now c.loop-past-test.true c.loop-past.invariant c.in_ok-step.ensures

pub returns : goal.returns
returns c = ended _ _ c.loop-past._past c.loop-past.rest.now c.args.text.now c.loop-past-test.false c.loop-past.invariant
