use Rattle.std.proofs.Common.{subst}
use Rattle.sv_model.specs.declared.field.Field.{Field}
use Rattle.sv_servlet.specs.Reply.{Answers, field_result}
use Rattle.sv_web.proofs.header.set_header.Goals as goal

pub returns : goal.returns
returns c =
    subst (λ (f : Field). Answers c.args.reply.now (field_result c.args.reply.now f) c.set.result c.set.new.self) c.header.ensures c.set.ensures.answer
