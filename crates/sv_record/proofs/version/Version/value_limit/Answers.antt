use Rattle.std.proofs.Common.{refl}
use Rattle.sv_record.proofs.version.Version.value_limit.Goals as goal

pub returns-in-One : goal.returns-in-One
returns-in-One c = rw c.in-One.is refl
