use Rattle.sv_web.proofs.NumeralLemmas.{no_text}
use Rattle.sv_web.proofs.attributes.number_in.Goals as goal

pub returns-in-Err : goal.returns-in-Err
returns-in-Err c = no_text 64 c.args.bytes.now c.in-Err.ensures.cases.0
