use Rattle.sv_host.proofs.Prelude.{◌∙◌}
use Rattle.sv_host.proofs.AskedLemmas.{gathers_on}
use Rattle.sv_host.proofs.server.Server.hold_wants.Goals as goal

pub loop-done-preserved : goal.loop-done-preserved
loop-done-preserved c =
    let was = c.loop-done.invariant in
    let one = c.look_at-count.ensures in
    record {
      gathered = record { rising = one.gathered.rising; before = one.gathered.before ∙ was.gathered.before };
      clients = gathers_on _ _ _ _ _ _ was.gathered.before was.clients one.clients;
      others = one.others ∙ was.others;
      carried = λ first so_far. one.carried first (was.carried first so_far);
    }
