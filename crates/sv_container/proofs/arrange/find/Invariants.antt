use Rattle.sv_container.proofs.Prelude.{◌≡◌, take, label, labels_of, times}
use Rattle.sv_container.proofs.arrange.find.Given as goal

-- none stands between the first place and this one
abbrev pub invariant-loop-at : goal.invariant-loop-at
invariant-loop-at g l = times (label l.context l.name) (labels_of (take l.at l.objects)) ≡ times (label l.context l.name) (labels_of (take l.from l.objects))
