use Rattle.sv_core.proofs.Prelude.{◌≡◌, ◌++◌, map, take, state_record, seen}
use Rattle.sv_core.proofs.kept.Kept.add_states.Given as goal

abbrev pub invariant-loop-key : goal.invariant-loop-key
invariant-loop-key l = l.records.items ≡ l.initial.records.items ++ map state_record (seen l.self.keys.states.items (take l.key-index l.places))
