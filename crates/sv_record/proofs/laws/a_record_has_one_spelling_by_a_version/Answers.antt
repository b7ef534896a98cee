use Rattle.sv_record.specs.Record.{record_format}
use Rattle.sv_record.proofs.KindLaws.{record_lawful}
use Rattle.sv_record.proofs.WholeLaws.{one_spelling}
use Rattle.sv_record.proofs.laws.a_record_has_one_spelling_by_a_version.Goals as goal

pub returns : goal.returns
returns c = one_spelling record_format record_lawful
