use Rattle.sv_message.proofs.Prelude.{sym, ◌∙◌}
use Rattle.sv_message.proofs.FramingLemmas.{framing_of_none}
use Rattle.sv_message.proofs.framing.framing_without_host.Goals as goal

pub returns-else-any_of_body : goal.returns-else-any_of_body
returns-else-any_of_body c = sym (framing_of_none c.args.minor c.args.fields.now (sym c.any_of_body.ensures ∙ c.if-any_of_body.false))
