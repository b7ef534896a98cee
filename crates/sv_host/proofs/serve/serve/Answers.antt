use Rattle.sv_host.proofs.Prelude.{sym, ◌∙◌}
use Rattle.sv_host.proofs.StoryLemmas.{carry_lifted, carry_stood, carry_taken}
use Rattle.sv_host.proofs.serve.serve.Goals as goal

-- whoever was taken out is gone on with
pub returns-in_err-go_on_with-clause-carried : goal.returns-in_err-go_on_with-clause-carried
returns-in_err-go_on_with-clause-carried c = λ first so_far.
    carry_lifted c.args.place c.in-Some.open c.loop.server.connections c.take.new.self c.go_on_with.new.server.connections (sym c.take.ensures.taken ∙ c.in-Some.is) c.take.ensures.places c.take.ensures.others
    c.go_on_with.ensures.with_one first (c.loop.invariant.carried first so_far)

pub returns-in-Done-clause-carried : goal.returns-in-Done-clause-carried
returns-in-Done-clause-carried c = λ first so_far.
    carry_lifted c.args.place c.in-Some.open c.loop.server.connections c.take.new.self c.go_on_with.new.server.connections (sym c.take.ensures.taken ∙ c.in-Some.is) c.take.ensures.places c.take.ensures.others
    c.go_on_with.ensures.with_one first (c.loop.invariant.carried first so_far)

pub returns-in-Came-clause-carried : goal.returns-in-Came-clause-carried
returns-in-Came-clause-carried c = λ first so_far.
    carry_lifted c.args.place c.in-Some.open c.loop.server.connections c.take.new.self c.go_on_with.new.server.connections (sym c.take.ensures.taken ∙ c.in-Some.is) c.take.ensures.places c.take.ensures.others
    c.go_on_with.ensures.with_one first (c.loop.invariant.carried first so_far)

pub loop-preserved : goal.loop-preserved
loop-preserved c = record {
  clients = λ token has. c.go_on_with.ensures.clients token (c.loop.invariant.clients token has);
  carried = λ first so_far.
      carry_lifted c.args.place c.in-Some.open c.loop.server.connections c.take.new.self c.go_on_with.new.server.connections (sym c.take.ensures.taken ∙ c.in-Some.is) c.take.ensures.places c.take.ensures.others
      c.go_on_with.ensures.with_one first (c.loop.invariant.carried first so_far);
}

-- more may be there
pub returns-clause-carried : goal.returns-clause-carried
returns-clause-carried c = λ first so_far.
    carry_stood c.args.place c.loop.server.connections c.call_again.new.self c.call_again.ensures.stood c.call_again.ensures.others first (c.loop.invariant.carried first so_far)

-- nobody stands there
pub returns-in_default-clause-carried : goal.returns-in_default-clause-carried
returns-in_default-clause-carried c = λ first so_far.
    carry_taken c.args.place c.loop.server.connections c.take.new.self c.take.ensures.places c.take.ensures.others first (c.loop.invariant.carried first so_far)
