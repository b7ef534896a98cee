use Rattle.std.proofs.Common.{arith}
use Rattle.sv_model.proofs.AttributesLemmas.{size_with_attribute}
use Rattle.test_data.proofs.model.attributes.put.Goals as goal

pub insert-requires : goal.insert-requires
insert-requires g c = omega (arith, size_with_attribute c.name_of-name.result c.value_of-value.result c.args.attributes.now, c.size.ensures, c.name_of-name.ensures, c.value_of-value.ensures)
