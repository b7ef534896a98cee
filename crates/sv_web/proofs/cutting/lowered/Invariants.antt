use Rattle.std.proofs.Common.{◌≡◌, take}
use Rattle.sv_web.specs.Cutting.{lowered}
use Rattle.sv_web.proofs.cutting.lowered.Given as goal

-- the bytes so far
abbrev pub invariant-loop-byte : goal.invariant-loop-byte
invariant-loop-byte l = l.lower.items ≡ lowered (take l.byte-index l.text)
