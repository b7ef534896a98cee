use Rattle.std.proofs.Common.{◌≡◌, ◌-◌}
use Rattle.sv_web.specs.Multipart.{found}
use Rattle.sv_web.proofs.multipart.find.Given as goal

-- the rest is searched as the whole text is
abbrev pub invariant-loop-past : goal.invariant-loop-past
invariant-loop-past l = found (64 - l._past) l.rest l.fn.delimiter l.fn.name ≡ found 64 l.fn.text l.fn.delimiter l.fn.name
