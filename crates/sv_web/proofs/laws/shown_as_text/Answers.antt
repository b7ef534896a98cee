use Rattle.sv_web.proofs.HtmlLemmas.{harmless, reads}
use Rattle.sv_web.proofs.laws.shown_as_text.Goals as goal

pub returns-clause-read : goal.returns-clause-read
returns-clause-read c = reads

pub returns-clause-harmless : goal.returns-clause-harmless
returns-clause-harmless c = harmless
