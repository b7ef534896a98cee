use Rattle.sv_core.proofs.Prelude.{None, refl, places_in}
use Rattle.sv_core.proofs.CoreLemmas.{knows_nothing}
use Rattle.sv_core.proofs.node.Core.new.Goals as goal

pub returns : goal.returns
returns g c =
    record {
      over = refl;
      setting = refl;
      stage = refl;
      node = λ i. record { durable = record { keys = knows_nothing c.new.result.states.items (places_in c.new.result.places) c.new.ensures i; boot = 0; next = 1; home = None }; parked = c.new-2.ensures.items i; next_want = 1 };
    }
