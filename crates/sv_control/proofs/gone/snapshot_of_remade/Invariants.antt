use Rattle.std.proofs.Common.{◌≡◌, ◌++◌}
use Rattle.sv_control.specs.Gone.{remade, rows_of}
use Rattle.sv_control.proofs.gone.snapshot_of_remade.Given as goal

abbrev pub invariant-loop-key : goal.invariant-loop-key
invariant-loop-key l = l.records.items ++ rows_of l.node l.key-iterator ≡ remade l.node l.boot l.next l.seen.entries
