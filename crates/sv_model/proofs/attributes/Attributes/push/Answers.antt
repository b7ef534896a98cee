use Rattle.std.proofs.Common.{◌∙◌, ap, arith, List}
use Rattle.sv_model.specs.Attributes.{Attribute, attributes_size}
use Rattle.sv_model.proofs.AttributesLemmas.{with_attribute-last, attributes_size-push}
use Rattle.sv_model.proofs.attributes.Attributes.push.Goals as goal

pub insert-requires : goal.insert-requires
insert-requires c =
    let last = with_attribute-last c.args.name c.args.value c.args.self.now c.requires.above in
    omega (arith, ap (λ (l : List Attribute). attributes_size l) last, attributes_size-push c.args.self.now (c.args.name, c.args.value), c.requires.fits)

pub returns-clause-ok : goal.returns-clause-ok
returns-clause-ok c = c.in_ok-insert.ensures.ok ∙ with_attribute-last c.args.name c.args.value c.args.self.now c.requires.above
