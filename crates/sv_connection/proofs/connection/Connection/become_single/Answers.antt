use Rattle.std.proofs.Common.{rules}
use Rattle.sv_connection.proofs.connection.Connection.become_single.Goals as goal

pub returns-clause-leaving : goal.returns-clause-leaving
returns-clause-leaving c = search rules
