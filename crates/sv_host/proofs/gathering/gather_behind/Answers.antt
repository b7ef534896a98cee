use Rattle.sv_host.proofs.StoryLemmas.{carry_stood}
use Rattle.sv_host.proofs.gathering.gather_behind.Goals as goal

-- it is gone on with later
pub returns-then-is_full-clause-carried : goal.returns-then-is_full-clause-carried
returns-then-is_full-clause-carried c =
    carry_stood c.args.place c.args.server.now.connections c.call_again.new.self c.call_again.ensures.stood c.call_again.ensures.others
