use Rattle.sv_world.proofs.Prelude.{◌≡◌, drop, list_any, is_of, Line}
use Rattle.sv_world.proofs.used.is_used.Given as goal

abbrev pub invariant-loop-line : goal.invariant-loop-line
invariant-loop-line l = list_any (λ (x : Line). is_of l.token x.asked) (drop l.line-index l.trace) ≡ list_any (λ (x : Line). is_of l.token x.asked) l.trace
