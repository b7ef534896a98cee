-- What the proofs of this crate cite of definitions and types, its own and those of the crates below it, from one place.
pub use Rattle.sv_connection.specs.Connection.{held_by, is_closed, is_single}
pub use Rattle.sv_connection.specs.Receive.{GivesRequest, IsRefused}
pub use Rattle.sv_connection.specs.Speak.{IsSaid}
pub use Rattle.sv_connection.specs.declared.outcome.Outcome.TheVariants.{Answered}
pub use Rattle.sv_connection.specs.declared.outcome.RequestFault.{RequestFault}
pub use Rattle.sv_connection.specs.declared.outcome.RequestFault.TheVariants.{Read, Target}
pub use Rattle.sv_model.specs.Alone.{item_of, trace_of}
pub use Rattle.sv_model.specs.Decision.{Decision, idle, left}
pub use Rattle.sv_model.specs.Engine.{EngineMeaning, TouchesOnlyHanded, heard_all}
pub use Rattle.sv_model.specs.Limits.{NamesKeys}
pub use Rattle.sv_model.specs.Migration.{on_move, on_packet}
pub use Rattle.sv_model.specs.Node.{decided}
pub use Rattle.sv_model.specs.NodeState.{Node, known, last_number, session_in}
pub use Rattle.sv_model.specs.OneContainer.{IsFit}
pub use Rattle.sv_model.specs.Serving.{answer_of, answered_unless, held_in, kept_with, no_birth}
pub use Rattle.sv_model.specs.Session.{is_expired}
pub use Rattle.sv_model.specs.Time.{expire, first_over, grant_again, on_tick}
pub use Rattle.sv_model.specs.Waiting.{on_ask}
pub use Rattle.sv_model.specs.declared.commit.Commit.{Commit}
pub use Rattle.sv_model.specs.declared.commit.Commit.TheVariants.{Served}
pub use Rattle.sv_model.specs.declared.event.Told.{Told}
pub use Rattle.sv_model.specs.declared.input.Input.{Input}
pub use Rattle.sv_model.specs.declared.input.Input.TheVariants.{Ask}
pub use Rattle.sv_model.specs.declared.key.Key.{Key}
pub use Rattle.sv_model.specs.declared.key.Moment.{Moment}
pub use Rattle.sv_model.specs.declared.key.Secret.{Secret}
pub use Rattle.sv_model.specs.declared.key.Token.{Token}
pub use Rattle.sv_model.specs.declared.outcome.Birth.{Birth}
pub use Rattle.sv_model.specs.declared.outcome.Fate.{Fate}
pub use Rattle.sv_model.specs.declared.outcome.Fate.TheVariants.{Untouched}
pub use Rattle.sv_model.specs.declared.outcome.Outcome.{Outcome}
pub use Rattle.sv_model.specs.declared.output.Cause.{Cause}
pub use Rattle.sv_model.specs.declared.output.Output.{Output}
pub use Rattle.sv_model.specs.declared.output.Output.TheVariants.{Answer, MoveRefused, Refuse}
pub use Rattle.sv_model.specs.declared.packet.Packet.{Packet}
pub use Rattle.sv_model.specs.declared.request.Request.{Request}
pub use Rattle.sv_model.specs.declared.response.Response.{Response}
pub use Rattle.sv_model.specs.declared.session.Session.{Session}
pub use Rattle.sv_model.specs.declared.site.StepFault.{StepFault}
pub use Rattle.sv_model.specs.declared.state.KeyState.{KeyState}
pub use Rattle.sv_model.specs.declared.state.KeyState.TheVariants.{Active, Ended, Gone, Sent}
pub use Rattle.sv_solo.specs.Serve.{Follows, how, verdict}
pub use Rattle.sv_solo.specs.Table.{IsMade, IsPlace, alone, born_behind, fated_at, if_active, is_past, keys_of, node_of, numbered, own_key, refusal_for, state_of}
