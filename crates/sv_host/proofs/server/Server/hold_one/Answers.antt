use Rattle.sv_host.proofs.Prelude.{ap, ◌∙◌, others_in}
use Rattle.sv_host.proofs.AskedLemmas.{gathers_less}
use Rattle.sv_host.proofs.HoldingLemmas.{others_stay, want_there}
use Rattle.sv_host.proofs.server.Server.hold_one.Goals as goal

pub returns-clause-others : goal.returns-clause-others
returns-clause-others c =
    ap (λ xs. others_in xs) c.leave_out.ensures.inputs
    ∙ others_stay c.args.group.now.inputs.items c.args.at (want_there _ c.in-Some.want c.in-Some.ensures)

pub returns-clause-clients : goal.returns-clause-clients
returns-clause-clients c = gathers_less c.args.group.now c.leave_out.new.self c.args.at _ c.leave_out.ensures.inputs c.leave_out.ensures.ways
