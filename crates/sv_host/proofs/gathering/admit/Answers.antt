use Rattle.sv_host.proofs.Prelude.{ap, Server, places_of}
use Rattle.sv_host.proofs.StoryLemmas.{carry_continue, carry_places}
use Rattle.sv_host.proofs.gathering.admit.Goals.{then-not-may_accept-via-then-not-may_accept, then-not-may_accept-via-else-not-may_accept+then-not-has_room}
use Rattle.sv_host.proofs.gathering.admit.Goals as goal

-- nobody is let in
pub returns-then-not-may_accept-clause-carried : goal.returns-then-not-may_accept-clause-carried
returns-then-not-may_accept-clause-carried c = λ first so_far.
    let old = c.args.server.now.connections in
    let new = c.then-not-may_accept.server.connections in
    elim c.then-not-may_accept.branch [
      | then-not-may_accept-via-then-not-may_accept w ↦ carry_places old new (ap (λ (s : Server). places_of s.connections) w.server-is) first so_far
      | then-not-may_accept-via-else-not-may_accept+then-not-has_room w ↦
          carry_places w.has_room.new.connections new (ap (λ (s : Server). places_of s.connections) w.server-is) first (carry_continue old w.has_room.new.connections w.has_room.ensures first so_far)
    ]

pub returns-in-Somebody-clause-carried : goal.returns-in-Somebody-clause-carried
returns-in-Somebody-clause-carried c = λ first so_far.
    c.receive.ensures.carried first (carry_continue c.args.server.now.connections c.has_room.new.connections c.has_room.ensures first so_far)

pub returns-in-Nobody-clause-carried : goal.returns-in-Nobody-clause-carried
returns-in-Nobody-clause-carried c = carry_continue c.args.server.now.connections c.has_room.new.connections c.has_room.ensures

pub returns-in-NoRoom-clause-carried : goal.returns-in-NoRoom-clause-carried
returns-in-NoRoom-clause-carried c = λ first so_far.
    c.lacks_room.ensures.carried first (carry_continue c.args.server.now.connections c.has_room.new.connections c.has_room.ensures first so_far)
