use Rattle.sv_host.proofs.StoryLemmas.{carry_continue}
use Rattle.sv_host.proofs.event_loop.wait.Goals as goal

-- it is looked who has taken too long
pub returns-then-not-server-clause-carried : goal.returns-then-not-server-clause-carried
returns-then-not-server-clause-carried g c = λ first so_far.
    carry_continue c.look_at_clock.new.self c.look_round.new.connections c.look_round.ensures first
    (carry_continue c.wait.new.connections c.look_at_clock.new.self c.look_at_clock.ensures first
    (carry_continue c.tell_operator.new.self.connections c.wait.new.connections c.wait.ensures first (c.tell_operator.ensures.carried first (c.count_kept_in_time.ensures.carried first so_far))))

pub returns-else-not-is_empty-clause-carried : goal.returns-else-not-is_empty-clause-carried
returns-else-not-is_empty-clause-carried g c = λ first so_far.
    carry_continue c.tell_operator.new.self.connections c.wait.new.connections c.wait.ensures first (c.tell_operator.ensures.carried first (c.count_kept_in_time.ensures.carried first so_far))
