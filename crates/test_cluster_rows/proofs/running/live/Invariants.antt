use Rattle.sv_journal.specs.MemoryDisk.{tells_all, disk_bytes, may_be_left}
use Rattle.sv_node.specs.Node.{IsNode}
use Rattle.test_cluster_rows.proofs.running.live.Given as goal

-- the node may go on
abbrev pub invariant-loop-place : goal.invariant-loop-place
invariant-loop-place g l = IsNode g.E.Engine.valid tells_all disk_bytes may_be_left l.node.value
