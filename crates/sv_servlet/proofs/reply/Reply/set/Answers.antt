use Rattle.std.proofs.Common.{◌∙◌, ap, sym, List}
use Rattle.sv_model.specs.declared.field.Field.{Field}
use Rattle.sv_servlet.specs.Reply.{is_full}
use Rattle.sv_servlet.proofs.FieldsLemmas.{length_with_only}
use Rattle.sv_servlet.proofs.reply.Reply.set.Goals as goal

pub invariant_of-self-2 : goal.invariant_of-self-2
invariant_of-self-2 c =
    let room = sym (c.if-is_full.ensures ∙ ap (λ (l : List Field). is_full l c.args.field.name) c.as_slice.ensures.value) in
    record {
      few = rw c.in_ok-set_only.ensures.ok (length_with_only c.self.inside.fields.items c.args.field 64 c.self.invariant.few room);
      short = c.self.invariant.short;
    }
