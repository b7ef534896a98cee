use Rattle.std.proofs.Common.{arith}
use Rattle.test_rows.proofs.StageLemmas.{filter_added, filter_mapped}
use Rattle.test_rows.proofs.staged.add_filter.Goals as goal

pub returns-in_err-push-2 : goal.returns-in_err-push-2
returns-in_err-push-2 g c = filter_added _ _ _ _ _ _ _ _ _ _ _ _ c.in_ok-push.ensures.items c.in_err-push-2.ensures.items c.requires.sound

pub returns : goal.returns
returns g c =
    filter_mapped _ _ _ _ _ _ _ _ _ _ _ _ _ c.in_ok-push.ensures.items c.in_ok-push-2.ensures.items (omega (arith, c.len-at.ensures, c.args.stage.now.filters.ok.0)) c.requires.ready c.requires.sound
