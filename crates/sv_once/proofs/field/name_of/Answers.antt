use Rattle.std.proofs.Common.{Err, ap, ◌∙◌}
use Rattle.sv_once.proofs.AnswerLemmas.{field_lowered, field_name}
use Rattle.sv_once.proofs.field.name_of.Goals as goal

pub unreachable-requires : goal.unreachable-requires
unreachable-requires c =
    c.from_bytes.ensures.invalid.0 (c.in-Err-Invalid.is ∙ ap Err c.in-Err-Invalid.field-0-is) (field_name (c.args.name.now, c.args.value.now) c.requires)

pub returns-in-Ok : goal.returns-in-Ok
returns-in-Ok c = c.in-Ok.ensures.ok ∙ field_lowered (c.args.name.now, c.args.value.now) c.requires
