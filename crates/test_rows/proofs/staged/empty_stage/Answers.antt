use Rattle.test_rows.proofs.StageLemmas.{empty_sound}
use Rattle.test_rows.proofs.staged.empty_stage.Goals as goal

pub returns : goal.returns
returns g c = empty_sound _ _ _ _ _ _ _ _ _ c.new.ensures.items c.new-4.ensures.items
