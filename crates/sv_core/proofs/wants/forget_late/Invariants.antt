use Rattle.sv_core.proofs.Prelude.{◌≡◌, Bool, cond, false, Parked, is_late, wants_where}
use Rattle.sv_core.proofs.WantLemmas.{walked}
use Rattle.sv_core.proofs.wants.forget_late.Given as goal

abbrev pub invariant-loop-parked : goal.invariant-loop-parked
invariant-loop-parked l =
    (test : Parked → Bool) → l.initial.wants.items ≡ wants_where test l.all → l.wants.items ≡ walked (λ p. cond (is_late l.setting l.steady p) false (test p)) test l.parked-index l.all
