-- Why the program ends before its script does.
use Rattle.std.specs.Prelude.{ℕ}
use Rattle.sv_cluster.specs.declared.fault.Fault.{Fault}
use Rattle.sv_cluster.specs.declared.fault.Fault.TheVariants.{Arguments, Script, Process, Socket}

-- the exit status
abbrev pub status_of : Fault → ℕ
status_of Arguments = 2
status_of Script = 3
status_of Process = 4
status_of Socket = 5
