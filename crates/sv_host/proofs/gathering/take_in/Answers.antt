use Rattle.sv_host.proofs.Prelude.{inl}
use Rattle.sv_host.proofs.StoryLemmas.{carry, newly, with_continue}
use Rattle.sv_host.proofs.gathering.take_in.Goals as goal

-- a newcomer is put off
pub returns-clause-carried : goal.returns-clause-carried
returns-clause-carried c = λ newcomer none.
    let place = c.args.newcomer.0 in
    let one = c.args.newcomer.1 in
    let old = c.args.server.now.connections in
    let new = c.put_off.new.self in
    carry old new (newly place one old new (inl newcomer) (with_continue place one old new c.put_off.ensures))
