use Rattle.sv_host.proofs.StoryLemmas.{all_same, carry, carry_continue}
use Rattle.sv_host.proofs.gathering.receive.Goals as goal

-- there is no memory for a place
pub returns-in_err-place-clause-carried : goal.returns-in_err-place-clause-carried
returns-in_err-place-clause-carried c = λ first so_far.
    carry c.look_at_clock.new.self c.free_place.new.self (all_same c.look_at_clock.new.self c.free_place.new.self c.free_place.ensures.same) first
    (carry_continue (record c.args.server.now.connections { report = c.note.new.self }) c.look_at_clock.new.self c.look_at_clock.ensures first so_far)

pub returns-clause-carried : goal.returns-clause-carried
returns-clause-carried c = λ first so_far.
    carry c.look_at_clock.new.self c.free_place.new.self (all_same c.look_at_clock.new.self c.free_place.new.self c.free_place.ensures.same) first
    (carry_continue (record c.args.server.now.connections { report = c.note.new.self }) c.look_at_clock.new.self c.look_at_clock.ensures first so_far)
