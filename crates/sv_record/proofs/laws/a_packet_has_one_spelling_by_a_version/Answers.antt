use Rattle.sv_record.specs.Packet.{packet_format}
use Rattle.sv_record.proofs.KindLaws.{packet_lawful}
use Rattle.sv_record.proofs.WholeLaws.{one_spelling}
use Rattle.sv_record.proofs.laws.a_packet_has_one_spelling_by_a_version.Goals as goal

pub returns : goal.returns
returns c = one_spelling packet_format packet_lawful
