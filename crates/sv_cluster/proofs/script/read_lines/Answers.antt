use Rattle.std.proofs.Common.{◌<◌, [], List, ℕ, length, arith}
use Rattle.std.proofs.lemmas.Result.{err_from_is_err_and}
use Rattle.std.specs.Borrow.{Bor}
use Rattle.sv_cluster.proofs.ScriptLemmas.{faulty}
use Rattle.sv_cluster.proofs.script.read_lines.Goals as goal

pub returns-in_err-add_line-clause-fault : goal.returns-in_err-add_line-clause-fault
returns-in_err-add_line-clause-fault c =
    let p = err_from_is_err_and c.from_residual.result c.from_residual.ensures.1 in
    let none : Bor (List ℕ) = record { ref_ptr = (0, 0); now = [] } in
    let within : c.loop-text.text-index < length c.args.texts.now = omega (arith, c.loop-text-test.true, c.loop-text.auto.text-index-end) in
    rw (p.1, p.2)
    (λ other. faulty (λ (text : Bor (List ℕ)). text.now) c.args.texts.now c.loop-text.text-index none within (c.in_err-add_line.ensures.fault other))
