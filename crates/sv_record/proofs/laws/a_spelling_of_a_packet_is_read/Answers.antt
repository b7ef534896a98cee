use Rattle.sv_record.specs.Packet.{packet_format}
use Rattle.sv_record.proofs.KindLaws.{packet_lawful}
use Rattle.sv_record.proofs.WholeLaws.{whole_spelled}
use Rattle.sv_record.proofs.laws.a_spelling_of_a_packet_is_read.Goals as goal

pub returns : goal.returns
returns c = whole_spelled packet_format packet_lawful
