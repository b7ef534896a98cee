use Rattle.sv_record.proofs.WithinLemmas.{record_by}
use Rattle.sv_record.proofs.laws.a_version_spells_records_within_its_limits.Goals as goal

pub returns : goal.returns
returns c = record_by
