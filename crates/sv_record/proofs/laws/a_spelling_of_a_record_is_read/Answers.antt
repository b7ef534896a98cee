use Rattle.sv_record.specs.Record.{record_format}
use Rattle.sv_record.proofs.KindLaws.{record_lawful}
use Rattle.sv_record.proofs.WholeLaws.{whole_spelled}
use Rattle.sv_record.proofs.laws.a_spelling_of_a_record_is_read.Goals as goal

pub returns : goal.returns
returns c = whole_spelled record_format record_lawful
