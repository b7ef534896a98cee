use Rattle.sv_connection.specs.Speak.{AppendsPart}
use Rattle.sv_connection.proofs.speak.write_whole.Given as goal

-- what is gone from the rest was written
abbrev pub invariant-loop : goal.invariant-loop
invariant-loop g l = AppendsPart (g.W.Write.contents l.fn.writer) (g.W.Write.contents l.writer) l.fn.text l.rest
