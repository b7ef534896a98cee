use Rattle.sv_solo.proofs.TraceLemmas.{heard}
use Rattle.sv_solo.proofs.laws.heard.Goals as goal

pub returns : goal.returns
returns c = heard
