use Rattle.sv_record.proofs.FrameLaws.{not_a_prefix}
use Rattle.sv_record.proofs.laws.no_frame_begins_another.Goals as goal

pub returns : goal.returns
returns c = not_a_prefix
