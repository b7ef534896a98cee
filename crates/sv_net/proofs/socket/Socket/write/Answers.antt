use Rattle.sv_net.proofs.WritingLemmas.{leaves_more}
use Rattle.sv_net.proofs.socket.Socket.write.Goals as goal

pub loop-preserved : goal.loop-preserved
loop-preserved c = leaves_more _ _ _ _ _ _ c.loop.invariant c.write_once.ensures

pub returns-in-Ok-eq0-clause-left : goal.returns-in-Ok-eq0-clause-left
returns-in-Ok-eq0-clause-left c = leaves_more _ _ _ _ _ _ c.loop.invariant c.write_once.ensures

pub returns-in-Err-clause-left : goal.returns-in-Err-clause-left
returns-in-Err-clause-left c = leaves_more _ _ _ _ _ _ c.loop.invariant c.write_once.ensures

pub returns-in-Err-2-clause-left : goal.returns-in-Err-2-clause-left
returns-in-Err-2-clause-left c = leaves_more _ _ _ _ _ _ c.loop.invariant c.write_once.ensures
