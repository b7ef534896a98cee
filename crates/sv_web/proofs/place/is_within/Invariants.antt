use Rattle.std.proofs.Common.{◌≡◌, length}
use Rattle.sv_web.specs.Place.{is_within}
use Rattle.sv_web.proofs.place.is_within.Given as goal

-- the rest decides
abbrev pub invariant-loop-rest : goal.invariant-loop-rest
invariant-loop-rest l = is_within l.rest ≡ is_within l.fn.text

abbrev pub decreases-loop-rest : goal.decreases-loop-rest
decreases-loop-rest l = length l.rest
