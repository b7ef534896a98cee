use Rattle.std.proofs.Common.{ap, arith, List, sym, subst}
use Rattle.sv_model.specs.Attributes.{Attribute, attributes_size, IsAboveAll}
use Rattle.sv_model.proofs.AttributesLemmas.{attributes_size-nil, IsAboveAll-nil}
use Rattle.test_data.proofs.model.attributes.single.Goals as goal

pub push-requires-clause-above : goal.push-requires-clause-above
push-requires-clause-above g c = subst (IsAboveAll c.name_of-name.result) (sym c.new-attributes.ensures) (IsAboveAll-nil c.name_of-name.result)

pub push-requires-clause-fits : goal.push-requires-clause-fits
push-requires-clause-fits g c = omega (arith, attributes_size-nil, ap (λ (l : List Attribute). attributes_size l) c.new-attributes.ensures, c.name_of-name.ensures, c.value_of-value.ensures)
