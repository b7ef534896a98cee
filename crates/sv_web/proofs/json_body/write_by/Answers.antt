use Rattle.sv_web.specs.Json.{written}
use Rattle.sv_web.specs.Steps.{set_status}
use Rattle.sv_web.proofs.PartLemmas.{part_ends, part_then}
use Rattle.sv_web.proofs.json_body.write_by.Goals as goal

pub returns-in-Ok : goal.returns-in-Ok
returns-in-Ok c =
    part_then (λ more. set_status c.args.code more) (λ more. written c.args.text.now more) c.args.web.now c.set_code.new.web c.write_text.new.web tt c.write_text.result c.in-Ok.ensures c.write_text.ensures

pub returns-in-Err : goal.returns-in-Err
returns-in-Err c = part_ends (λ more. set_status c.args.code more) (λ more. written c.args.text.now more) c.args.web.now c.set_code.new.web c.in-Err.refusal c.in-Err.ensures
