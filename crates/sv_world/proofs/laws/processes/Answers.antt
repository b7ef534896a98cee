use Rattle.sv_world.proofs.DiskLemmas.{are_world}
use Rattle.sv_world.proofs.ProcessLemmas.{of_processes}
use Rattle.sv_world.proofs.laws.processes.Goals as goal

pub returns : goal.returns
returns k m touches c calls are = are_world m touches c calls (of_processes m c calls are)
