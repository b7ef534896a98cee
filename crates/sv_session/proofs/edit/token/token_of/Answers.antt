use Rattle.std.proofs.Common.{◌∙◌, ap}
use Rattle.sv_session.specs.Token.{token_content, token_of}
use Rattle.sv_session.proofs.edit.token.token_of.Goals as goal

pub returns : goal.returns
unfolding token_content
returns c =
    c.finalize.ensures _ (c.update-2.ensures _ (c.add_part.ensures _ (c.update.ensures _ c.new-hasher.ensures)))
    ∙ ap (token_of c.args.secret) c.as_bytes.ensures.value
