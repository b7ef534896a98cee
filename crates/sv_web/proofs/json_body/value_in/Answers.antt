use Rattle.std.proofs.lemmas.Bool.{false≢true}
use Rattle.sv_web.proofs.JsonLemmas.{no_value, some_value}
use Rattle.sv_web.proofs.json_body.value_in.Goals as goal

pub returns-in-Ok : goal.returns-in-Ok
returns-in-Ok c = some_value c.args.text.now _ c.in-Ok.ensures.ok.0 c.in-Ok.ensures.ok.1

pub returns-in-Err-2 : goal.returns-in-Err-2
returns-in-Err-2 c = no_value c.args.text.now (c.in-Err.ensures.err (λ is. false≢true (c.if-is_memory.ensures.1 is)))
