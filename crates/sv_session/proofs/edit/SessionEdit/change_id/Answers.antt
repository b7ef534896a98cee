use Rattle.std.proofs.Common.{rules}
use Rattle.sv_session.proofs.edit.SessionEdit.change_id.Goals as goal

pub returns : goal.returns
unfolding Rattle.sv_session.specs.Calls.change_id_result
returns c = search rules
