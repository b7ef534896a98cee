use Rattle.sv_host.proofs.AskedLemmas.{gathers_behind, gathers_on}
use Rattle.sv_host.proofs.StoryLemmas.{came_newly}
use Rattle.sv_host.proofs.gathering.gather_newcomer.Goals as goal

pub returns-in_err-add_some-clause-clients : goal.returns-in_err-add_some-clause-clients
returns-in_err-add_some-clause-clients c = gathers_behind c.args.group.now c.add_some.new.group _ _ _ c.requires c.serve_newcomer-came.ensures.clients c.add_some.ensures.clients

pub returns-then-branch-clause-clients : goal.returns-then-branch-clause-clients
returns-then-branch-clause-clients c =
    gathers_behind c.args.group.now c.gather_behind.new.group _ _ _ c.requires c.serve_newcomer-came.ensures.clients
    (gathers_on _ _ _ _ _ _ c.add_some.ensures.gathered.before c.add_some.ensures.clients c.gather_behind.ensures.clients)

pub returns-else-branch-clause-clients : goal.returns-else-branch-clause-clients
returns-else-branch-clause-clients c = gathers_behind c.args.group.now c.add_some.new.group _ _ _ c.requires c.serve_newcomer-came.ensures.clients c.add_some.ensures.clients

-- the newcomer
pub returns-in_err-add_some-clause-carried : goal.returns-in_err-add_some-clause-carried
returns-in_err-add_some-clause-carried c = λ newcomer none first so_far.
    c.add_some.ensures.carried first
    (came_newly c.args.newcomer.0 c.args.newcomer.1 c.args.server.now.connections c.serve_newcomer-came.new.server.connections newcomer none c.serve_newcomer-came.ensures.with_one first so_far)

pub returns-then-branch-clause-carried : goal.returns-then-branch-clause-carried
returns-then-branch-clause-carried c = λ newcomer none first so_far.
    c.gather_behind.ensures.carried first (c.add_some.ensures.carried first
    (came_newly c.args.newcomer.0 c.args.newcomer.1 c.args.server.now.connections c.serve_newcomer-came.new.server.connections newcomer none c.serve_newcomer-came.ensures.with_one first so_far))

pub returns-else-branch-clause-carried : goal.returns-else-branch-clause-carried
returns-else-branch-clause-carried c = λ newcomer none first so_far.
    c.add_some.ensures.carried first
    (came_newly c.args.newcomer.0 c.args.newcomer.1 c.args.server.now.connections c.serve_newcomer-came.new.server.connections newcomer none c.serve_newcomer-came.ensures.with_one first so_far)
