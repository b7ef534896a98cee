use Rattle.sv_host.proofs.Prelude.{sym, arith}
use Rattle.sv_host.proofs.GroupLemmas.{nothing_there}
use Rattle.sv_host.proofs.group.cut_out.Goals as goal

pub returns-else-at-len : goal.returns-else-at-len
returns-else-at-len g c = sym (nothing_there c.args.items.now.items c.args.at (omega (arith, c.if-at-len.false, c.len.ensures, c.args.items.now.ok)))
