use Rattle.sv_record.specs.Record.{record_format}
use Rattle.sv_record.proofs.KindLaws.{record_lawful}
use Rattle.sv_record.proofs.WholeLaws.{one_value}
use Rattle.sv_record.proofs.laws.a_spelling_is_of_one_record.Goals as goal

pub returns : goal.returns
returns c = one_value record_format record_lawful
