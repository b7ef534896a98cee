use Rattle.std.proofs.Common.{◌≡◌}
use Rattle.std.proofs.lemmas.List.Elements.{All-push}
use Rattle.sv_servlet.specs.declared.servlet.Phase.TheVariants.{New}
use Rattle.test_requests.specs.declared.container.noting.NotingServlet.{NotingServlet}
use Rattle.sv_container.specs.declared.named.Named.{Named}
use Rattle.test_requests.proofs.container.cast.servlets_of.Goals as goal

pub loop-part-preserved : goal.loop-part-preserved
loop-part-preserved g c =
    let fresh : c.named.result.object.phase ≡ New = rw c.named.ensures c.servlet_of-object.ensures in
    rw c.push.ensures (All-push (λ (n : Named NotingServlet). n.object.phase ≡ New) _ _ c.loop-part.invariant fresh)
