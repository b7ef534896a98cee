use Rattle.sv_target.proofs.CommonLemmas.{common_is_target}
use Rattle.sv_target.proofs.target.common_target.Goals as goal

pub returns : goal.returns
returns c = rw (c.in_ok-from_str.ensures, c.in_ok-from_str-2.ensures) (common_is_target c.args.raw.now c.utf8.raw c.requires)
