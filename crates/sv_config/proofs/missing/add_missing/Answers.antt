use Rattle.sv_config.proofs.Prelude.{append_assoc}
use Rattle.sv_config.proofs.missing.add_missing.Goals as goal

pub returns : goal.returns
returns c = rw (c.in_ok-add_contents.ensures, c.in_ok-add_required.ensures, c.rules.ensures, c.kind_of.ensures) (simp append_assoc)
