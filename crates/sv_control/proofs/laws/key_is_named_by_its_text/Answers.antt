use Rattle.sv_control.proofs.NamingLemmas.{names_itself}
use Rattle.sv_control.proofs.laws.key_is_named_by_its_text.Goals as goal

pub returns : goal.returns
returns c = names_itself
