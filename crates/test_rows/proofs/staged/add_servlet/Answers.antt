use Rattle.test_rows.proofs.StageLemmas.{servlet_added}
use Rattle.test_rows.proofs.staged.add_servlet.Goals as goal

pub returns : goal.returns
returns g c = servlet_added _ _ _ _ _ _ _ _ _ _ _ _ c.in_ok-push.ensures.items c.requires.ready c.requires.sound
