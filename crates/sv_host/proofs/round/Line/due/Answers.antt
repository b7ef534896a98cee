use Rattle.sv_host.proofs.Prelude.{ap, arith, packet_in, behind_by, behind_in, front_by, front_in}
use Rattle.std.proofs.Math.ListN.{drop_of_length-le}
use Rattle.sv_host.proofs.RoundLemmas.{sum_on}
use Rattle.sv_host.proofs.round.Line.due.Goals as goal

pub loop-output-preserved : goal.loop-output-preserved
loop-output-preserved c =
    let last = c.args.self.last in
    let wants = c.args.wants in
    let os = c.args.outputs.now in
    let i = c.loop-output.output-index in
    let o = c.output-item.result in
    let before = c.loop-output.invariant in
    let behind = sum_on (λ x. behind_by wants last (packet_in x)) os i o c.loop-output-test.true c.output-item.is in
    let front = sum_on (λ x. front_by wants last (packet_in x)) os i o c.loop-output-test.true c.output-item.is in
    record {
      behind = omega (arith, c.with-due.ensures.behind, c.due_of.ensures.behind, behind, before.behind);
      front = omega (arith, c.with-due.ensures.front, c.due_of.ensures.front, front, before.front);
      behind_fits = omega (arith, c.with-due.ensures.behind);
      front_fits = omega (arith, c.with-due.ensures.front);
    }

-- none is left
pub returns-clause-behind : goal.returns-clause-behind
returns-clause-behind c =
    let none = ap (λ xs. behind_in c.args.wants c.args.self.last xs) (drop_of_length-le c.args.outputs.now c.loop-output-test.false) in
    omega (arith, none, c.loop-output.invariant.behind, c.loop-output.invariant.behind_fits)

pub returns-clause-front : goal.returns-clause-front
returns-clause-front c =
    let none = ap (λ xs. front_in c.args.wants c.args.self.last xs) (drop_of_length-le c.args.outputs.now c.loop-output-test.false) in
    omega (arith, none, c.loop-output.invariant.front, c.loop-output.invariant.front_fits)
