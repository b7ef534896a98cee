use Rattle.sv_core.proofs.PlaceLemmas.{NoneOver}
use Rattle.sv_core.proofs.table.Table.first_among.Given as goal

abbrev pub invariant-loop-key : goal.invariant-loop-key
invariant-loop-key l = NoneOver l.now l.self.states.items l.places l.key-index
