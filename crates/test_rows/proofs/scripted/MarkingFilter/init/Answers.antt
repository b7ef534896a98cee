use Rattle.test_rows.proofs.ScriptedLemmas.{marking_keeps}
use Rattle.test_rows.proofs.scripted.MarkingFilter.init.Goals as goal

pub returns-clause-keeps : goal.returns-clause-keeps
returns-clause-keeps c = marking_keeps _ _ _
