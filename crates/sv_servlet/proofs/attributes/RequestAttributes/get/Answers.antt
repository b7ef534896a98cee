use Rattle.std.proofs.Common.{◌∙◌, ap, Some, None}
use Rattle.sv_servlet.proofs.AttributesLemmas.{looked_up}
use Rattle.sv_servlet.proofs.attributes.RequestAttributes.get.Goals as goal

pub returns-in-Some : goal.returns-in-Some
returns-in-Some c =
    let es = c.self.inside.by_name.entries in
    ap Some c.as_str.ensures.value ∙ looked_up es es c.args.self.now c.args.name.now (Some c.in-Some.value.now) c.self.view_is c.in-Some.ensures.value

pub returns-in-None : goal.returns-in-None
returns-in-None c =
    let es = c.self.inside.by_name.entries in
    looked_up es es c.args.self.now c.args.name.now None c.self.view_is c.in-None.ensures.value
