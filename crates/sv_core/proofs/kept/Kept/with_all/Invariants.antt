use Rattle.sv_core.proofs.Prelude.{◌≡◌, take, seen, with_all}
use Rattle.sv_core.proofs.kept.Kept.with_all.Given as goal

abbrev pub invariant-loop-key : goal.invariant-loop-key
invariant-loop-key l = l.census ≡ with_all (seen l.self.keys.states.items (take l.key-index l.places)) l.initial.census
