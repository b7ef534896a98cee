use Rattle.sv_message.proofs.Prelude.{arith}
use Rattle.sv_message.proofs.HostLemmas.{host_byte_at}
use Rattle.sv_message.proofs.host.is_host_byte.Goals as goal

pub returns : goal.returns
returns c = host_byte_at c.args.byte (omega arith)
