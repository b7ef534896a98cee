use Rattle.std.proofs.Common.{rules}
use Rattle.sv_connection.proofs.connection.Connection.receive.Goals as goal

pub returns-clause-received : goal.returns-clause-received
returns-clause-received c = search rules

pub returns-clause-found : goal.returns-clause-found
returns-clause-found c = search rules

pub returns-clause-asked : goal.returns-clause-asked
returns-clause-asked c = search rules

pub returns-clause-none_taken : goal.returns-clause-none_taken
returns-clause-none_taken c = search rules
