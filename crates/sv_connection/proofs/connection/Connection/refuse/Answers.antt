use Rattle.sv_connection.proofs.SaidLemmas.{page_shut}
use Rattle.sv_connection.proofs.connection.Connection.refuse.Goals as goal

pub returns-clause-page : goal.returns-clause-page
returns-clause-page g c = page_shut _ _ _ _ _ _ _ _ c.say_fault-page.ensures
