use Rattle.std.proofs.Common.{ℕ, arith, subst}
use Rattle.std.specs.Prelude.{take}
use Rattle.std.specs.Io.KnownBytes.{Consumes}
use Rattle.sv_connection.specs.Connection.{held_by, is_closed, is_single}
use Rattle.sv_solo.proofs.UnreadLemmas.{ended, lifted}
use Rattle.sv_solo.proofs.reading.hear.Goals as goal

pub returns-in-Ok-eq0-clause-heard : goal.returns-in-Ok-eq0-clause-heard
returns-in-Ok-eq0-clause-heard g c =
    ended (is_single c.args.connection.now) (held_by c.args.connection.now) (held_by c.end.new.connection) (g.R.Read.remaining c.args.reader.now) (g.R.Read.remaining c.read.new.self)
    (is_closed c.args.connection.now) (is_closed c.end.new.connection) c.end.result c.requires.was_open
    (subst (λ (n : ℕ). Consumes (g.R.Read.remaining c.args.reader.now) (g.R.Read.remaining c.read.new.self) (take n c.read.new.buf)) c.in-Ok-eq0.field-0-test c.in-Ok-eq0.ensures.bytes.0)
    (c.in-Ok-eq0.ensures.bytes.1 c.in-Ok-eq0.field-0-test (omega (arith, c.read.auto.buf))) c.end.ensures.ended

pub returns-in-Ok-clause-heard : goal.returns-in-Ok-clause-heard
returns-in-Ok-clause-heard g c =
    lifted (is_single c.args.connection.now) (held_by c.args.connection.now) (take c.in-Ok.count c.read.new.buf) (held_by c.receive.new.self) (g.R.Read.remaining c.args.reader.now) (g.R.Read.remaining c.read.new.self)
    (is_closed c.args.connection.now) (is_closed c.receive.new.self) c.receive.result c.requires.was_open c.in-Ok.ensures.bytes.0 c.receive.ensures.received
