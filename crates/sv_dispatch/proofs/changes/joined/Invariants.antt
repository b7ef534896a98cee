use Rattle.sv_dispatch.proofs.Prelude.{◌≡◌, ◌++◌, drop}
use Rattle.sv_dispatch.proofs.changes.joined.Given as goal

abbrev pub invariant-loop-param : goal.invariant-loop-param
invariant-loop-param l = l.all ++ drop l.param-index l.others ≡ l.front ++ l.others
