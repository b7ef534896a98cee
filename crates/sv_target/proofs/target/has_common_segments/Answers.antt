use Rattle.sv_target.proofs.Prelude.{sym, true, ◌∙◌}
use Rattle.sv_target.proofs.CommonLemmas.{common_bytes, common_segments}
use Rattle.sv_target.proofs.target.has_common_segments.Goals as goal

pub returns-clause-bytes : goal.returns-clause-bytes
returns-clause-bytes c is = common_bytes true c.args.text.now (sym c.is_undotted.ensures ∙ is)

pub returns-clause-segments : goal.returns-clause-segments
returns-clause-segments c is = common_segments true c.args.text.now (sym c.is_undotted.ensures ∙ is)
