use Rattle.sv_world.specs.Starts.{meanings_of, cluster_of}
use Rattle.sv_world.proofs.JoinLemmas.{all_touch, of_lives}
use Rattle.sv_world.proofs.laws.upgrades.Goals as goal

pub returns : goal.returns
returns k other touches ps calls are =
    k.processes.ensures (meanings_of other ps) (all_touch other ps calls are touches) (cluster_of ps) calls (of_lives other ps calls are)
