use Rattle.std.proofs.Common.{[]}
use Rattle.std.proofs.KnownBytes.{Consumes-nil}
use Rattle.sv_connection.specs.Connection.{held_by, is_closed, is_single}
use Rattle.sv_connection.specs.declared.received.Received.TheVariants.{Request, Refused}
use Rattle.sv_solo.proofs.UnreadLemmas.{lifted}
use Rattle.sv_solo.proofs.reading.arrive.Goals as goal

pub returns-in-Request-clause-arrived : goal.returns-in-Request-clause-arrived
returns-in-Request-clause-arrived g c =
    let to_come = g.R.Read.remaining c.args.reader.now in
    lifted (is_single c.args.connection.now) (held_by c.args.connection.now) [] (held_by c.receive.new.self) to_come to_come (is_closed c.args.connection.now) (is_closed c.receive.new.self)
    (Request c.in-Request.request) c.requires.was_open (Consumes-nil to_come) c.in-Request.ensures.received

pub returns-in-Refused-clause-arrived : goal.returns-in-Refused-clause-arrived
returns-in-Refused-clause-arrived g c =
    let to_come = g.R.Read.remaining c.args.reader.now in
    lifted (is_single c.args.connection.now) (held_by c.args.connection.now) [] (held_by c.receive.new.self) to_come to_come (is_closed c.args.connection.now) (is_closed c.receive.new.self)
    (Refused c.in-Refused.fault c.in-Refused.head_only) c.requires.was_open (Consumes-nil to_come) c.in-Refused.ensures.received
