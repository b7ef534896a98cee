use Rattle.sv_host.proofs.AskedLemmas.{gathers_behind}
use Rattle.sv_host.proofs.gathering.gather_one.Goals as goal

pub returns-in_err-has_come-clause-clients : goal.returns-in_err-has_come-clause-clients
returns-in_err-has_come-clause-clients c = gathers_behind c.args.group.now c.add_some.new.group _ _ _ c.requires c.serve-came.ensures.clients c.add_some.ensures.clients

pub returns-clause-clients : goal.returns-clause-clients
returns-clause-clients c = gathers_behind c.args.group.now c.add_some.new.group _ _ _ c.requires c.serve-came.ensures.clients c.add_some.ensures.clients
