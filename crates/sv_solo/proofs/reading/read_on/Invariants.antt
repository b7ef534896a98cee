use Rattle.std.proofs.Common.{◌≡◌}
use Rattle.std.specs.Prelude.{false}
use Rattle.std.specs.Io.KnownBytes.{Keeps, prepend_known}
use Rattle.sv_connection.specs.Connection.{held_by, is_closed, is_single, is_waiting}
use Rattle.sv_solo.proofs.reading.read_on.Given as goal

-- the connection is open, waits for nothing, and what is unread stays
abbrev pub invariant-loop : goal.invariant-loop
invariant-loop g l = record {
  still_open : is_closed l.connection ≡ false;
  not_waiting : is_waiting l.connection ≡ false;
  single : is_single l.connection ≡ is_single l.fn.connection;
  kept : Keeps (prepend_known (held_by l.fn.connection) (g.R.Read.remaining l.fn.reader)) (prepend_known (held_by l.connection) (g.R.Read.remaining l.reader));
}
