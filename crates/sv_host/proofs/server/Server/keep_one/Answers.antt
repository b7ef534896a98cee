use Rattle.sv_host.proofs.Prelude.{sym}
use Rattle.sv_host.proofs.AskedLemmas.{gathers_refused}
use Rattle.sv_host.proofs.server.Server.keep_one.Goals as goal

pub returns-clause-clients : goal.returns-clause-clients
returns-clause-clients g c =
    gathers_refused c.args.group.now c.leave_out.new.self c.args.at c.in-Some.token c.in-Some.request.now _ _ c.requires (sym c.in-Some.ensures) c.leave_out.ensures.inputs c.leave_out.ensures.ways c.refuse.ensures.clients
