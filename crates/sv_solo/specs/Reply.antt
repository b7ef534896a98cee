-- What is said to a token: an answer, or a refusal with its cause in its body.
use Rattle.std.specs.Prelude.{ℕ, ◌==◌, Bool, false}
use Rattle.sv_model.specs.declared.response.Response.{Response}
use Rattle.sv_model.specs.declared.output.Cause.{Cause}
use Rattle.sv_model.specs.declared.output.Output.{Output}
use Rattle.sv_model.specs.declared.output.Output.TheVariants.{Answer, Refuse, Send, Moved, MoveRefused}
use Rattle.sv_connection.specs.declared.reply.Naming.TheVariants.{InBody}
use Rattle.sv_connection.specs.Reply.{refusal_by}

-- by the body alone
abbrev pub refusal : Cause → Bool → Bool → Response
refusal cause head_only close = refusal_by InBody cause head_only close

-- the output answers or refuses the token
abbrev pub speaks_to : ℕ → Output → Bool
speaks_to token (Answer to response) = to == token
speaks_to token (Refuse to cause) = to == token
speaks_to token (Send packet) = false
speaks_to token Moved = false
speaks_to token (MoveRefused why) = false
