-- A census counts each key of a snapshot once.
use Rattle.std.proofs.Common.{◌≡◌, ◌∙◌, ◌+◌, length, arith}
use Rattle.std.proofs.lemmas.List.{length-map}
use Rattle.std.specs.FinMap.{entries}
use Rattle.sv_model.specs.NodeState.{Durable}
use Rattle.sv_core.specs.Census.{nobody, total, census_of}
use Rattle.sv_core.specs.Snapshot.{snapshot_of, state_record}
use Rattle.sv_core.proofs.CensusLemmas.{total_all}
use Rattle.sv_control.specs.Room.{known_in}

pub total_known : (d : Durable) → total (census_of d) ≡ known_in (snapshot_of d)
total_known d = total_all (entries d.keys) nobody ∙ omega (arith, length-map (entries d.keys) state_record)
