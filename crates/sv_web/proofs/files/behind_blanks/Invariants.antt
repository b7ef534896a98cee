use Rattle.std.proofs.Common.{◌≡◌, length}
use Rattle.sv_web.specs.Files.{behind_blanks}
use Rattle.sv_web.proofs.files.behind_blanks.Given as goal

-- what stands after the blanks of the rest
abbrev pub invariant-loop-rest : goal.invariant-loop-rest
invariant-loop-rest l = behind_blanks l.rest ≡ behind_blanks l.fn.text

abbrev pub decreases-loop-rest : goal.decreases-loop-rest
decreases-loop-rest l = length l.rest
