use denote.Text.{Utf8}
use denote.Shadow.{shadow}
use Rattle.test_host.proofs.log.lines.number_in.Given as goal

-- what is found is text
abbrev pub invariant-loop-line : goal.invariant-loop-line
invariant-loop-line l = shadow (Utf8 l.found)
