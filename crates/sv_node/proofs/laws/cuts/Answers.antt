use Rattle.sv_node.specs.Node.{setting_of, state_of, engine_of, journal_of}
use Rattle.sv_node.proofs.CutLemmas.{step_cut, step_failed, opening_refused, opening_cut, opening_again}
use Rattle.sv_node.proofs.laws.cuts.Goals as goal

pub returns-clause-step : goal.returns-clause-step
returns-clause-step g k old new at input answer s live told image left =
    step_cut (g.E.Engine.meaning (engine_of old)) (setting_of old) (state_of old) at input image (g.D.Disk.seen (journal_of old).other) ((s.any_moment live told).each image left)

pub returns-clause-device : goal.returns-clause-device
returns-clause-device g k old new at input s live told a b left_a left_b =
    step_failed (g.E.Engine.meaning (engine_of old)) (setting_of old) (state_of old) at input a b (s.left live told a b left_a left_b)

pub returns-clause-compaction : goal.returns-clause-compaction
returns-clause-compaction g k old new answer s live told image left = (s.any_moment live told).each image left

pub returns-clause-opening : goal.returns-clause-opening
returns-clause-opening g k m fault set d a b new_a new_b all r x y left_a left_b = opening_refused g.D.Disk.may_leave m set d a b new_a new_b all fault r x y left_a left_b

pub returns-clause-opening_cut : goal.returns-clause-opening_cut
returns-clause-opening_cut g k m set d a b new_a new_b all w x y t =
    opening_cut g.D.Disk.may_leave m set d a b new_a new_b all g.D.Disk.seen g.D.Disk.moment g.D.Disk.left_since w x y t

pub returns-clause-opening_again : goal.returns-clause-opening_again
returns-clause-opening_again g k m fault set before after d a b new_a new_b all now same r x y left_a left_b =
    opening_again g.D.Disk.may_leave m set before after d a b new_a new_b all now fault same r x y left_a left_b
