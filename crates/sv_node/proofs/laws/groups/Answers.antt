use Rattle.sv_node.specs.Node.{journal_of}
use Rattle.sv_node.proofs.GroupCallLemmas.{group_done, group_torn, group_torn_on, group_gone}
use Rattle.sv_node.proofs.laws.groups.Goals as goal

pub returns-clause-done : goal.returns-clause-done
returns-clause-done g k old new inputs answers s live = group_done g.E.Engine.meaning g.E.Engine.heard g.D.Disk.failed old new inputs live answers s.ends

pub returns-clause-device : goal.returns-clause-device
returns-clause-device g k old new inputs s live told =
    (s.ends.0.0, λ a b left_a left_b. group_torn g.E.Engine.meaning g.E.Engine.heard g.D.Disk.failed old new inputs live s.ends.0.0 s.ends.0.2 a b (s.left live told a b left_a left_b))

pub returns-clause-cut : goal.returns-clause-cut
returns-clause-cut g k old new inputs answers s live told image left =
    group_torn_on g.E.Engine.meaning g.E.Engine.heard g.D.Disk.failed old new inputs live answers s.ends.1 image (g.D.Disk.seen (journal_of old).other) ((s.any_moment live told).each image left)

pub returns-clause-cut_device : goal.returns-clause-cut_device
returns-clause-cut_device g k old new inputs s live told =
    (s.ends.0.0, λ image left. group_torn_on g.E.Engine.meaning g.E.Engine.heard g.D.Disk.failed old new inputs live s.ends.0.0 s.ends.0.2 image (g.D.Disk.seen (journal_of old).other) ((s.any_moment live told).each image left))

pub returns-clause-gone : goal.returns-clause-gone
returns-clause-gone g k old new inputs answer low s live rise =
    let d = g.D.Disk in
    group_gone g.E.Engine.meaning g.E.Engine.heard d.tells d.seen d.may_leave d.moment d.left_since d.failed old new inputs live low rise answer s
