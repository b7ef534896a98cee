use Rattle.std.proofs.Common.{arith, refl}
use Rattle.sv_model.proofs.AttributesLemmas.{size_removed}
use Rattle.sv_model.specs.Attributes.{attributes_size}
use Rattle.sv_session.proofs.LimitLemmas.{too_many_replaced, too_large_replaced, too_many_added, too_large_added}
use Rattle.sv_session.proofs.edit.attributes.is_too_large.Goals as goal

pub overflow_sub-result : goal.overflow_sub-result
overflow_sub-result c = omega (arith, (size_removed c.args.attributes.now c.args.name.now c.in-Some.old.now c.in-Some.ensures).0, c.size.ensures)

pub returns-then-len-gt-ATTRIBUTE_LIMIT : goal.returns-then-len-gt-ATTRIBUTE_LIMIT
returns-then-len-gt-ATTRIBUTE_LIMIT c =
    too_many_replaced c.args.attributes.now c.len.result (attributes_size c.args.attributes.now) c.len.ensures.count refl c.len.ensures.rising c.args.name.now c.args.value.now c.in-Some.old.now c.in-Some.ensures c.if-len-gt-ATTRIBUTE_LIMIT.true

pub returns-else-len-gt-ATTRIBUTE_LIMIT : goal.returns-else-len-gt-ATTRIBUTE_LIMIT
returns-else-len-gt-ATTRIBUTE_LIMIT c =
    too_large_replaced c.args.attributes.now c.len.result c.size.result c.len.ensures.count c.size.ensures c.len.ensures.rising c.args.name.now c.args.value.now c.in-Some.old.now c.in-Some.ensures c.if-len-gt-ATTRIBUTE_LIMIT.false c.requires.value

pub returns-then-len-ge-ATTRIBUTE_LIMIT : goal.returns-then-len-ge-ATTRIBUTE_LIMIT
returns-then-len-ge-ATTRIBUTE_LIMIT c =
    too_many_added c.args.attributes.now c.len-in-None.result (attributes_size c.args.attributes.now) c.len-in-None.ensures.count refl c.len-in-None.ensures.rising c.args.name.now c.args.value.now c.in-None.ensures c.if-len-ge-ATTRIBUTE_LIMIT.true

pub returns-else-len-ge-ATTRIBUTE_LIMIT : goal.returns-else-len-ge-ATTRIBUTE_LIMIT
returns-else-len-ge-ATTRIBUTE_LIMIT c =
    too_large_added c.args.attributes.now c.len-in-None.result c.size-else-len-ge-ATTRIBUTE_LIMIT.result c.len-in-None.ensures.count c.size-else-len-ge-ATTRIBUTE_LIMIT.ensures c.len-in-None.ensures.rising c.args.name.now c.args.value.now c.in-None.ensures c.if-len-ge-ATTRIBUTE_LIMIT.false c.requires.name c.requires.value
