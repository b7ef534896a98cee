use Rattle.sv_record.proofs.WithinLemmas.{packet_by}
use Rattle.sv_record.proofs.laws.a_version_spells_packets_within_its_limits.Goals as goal

pub returns : goal.returns
returns c = packet_by
