use Rattle.sv_connection.proofs.request.read_request.Goals as goal

pub returns-clause-target : goal.returns-clause-target
returns-clause-target c = c.in_ok-target.ensures.target
