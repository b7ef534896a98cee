-- What the proofs of this crate cite of definitions and types, its own and those of the crates below it, from one place.
pub use Rattle.sv_model.specs.Decision.{Decision, idle}
pub use Rattle.sv_model.specs.Engine.{EngineMeaning}
pub use Rattle.sv_model.specs.Keys.{key_cmp, same_key, set_key}
pub use Rattle.sv_model.specs.Membership.{In}
pub use Rattle.sv_model.specs.Migration.{hands_over, is_ours, is_wanted, no_if_unmade, on_ack, on_grant, on_move, on_ours, on_want, says_no, takes_over}
pub use Rattle.sv_model.specs.Node.{decided}
pub use Rattle.sv_model.specs.NodeState.{Durable, Keys, Node, epoch_in, has_space, is_crowded, is_dead, is_full, is_own, is_settled, is_unmade, known, lacks_room, last_number, session_in, was_given}
pub use Rattle.sv_model.specs.Serving.{born_keys, ended_at, fated_keys, held_in, kept_at, over_at}
pub use Rattle.sv_model.specs.Time.{expire, first_over}
pub use Rattle.sv_model.specs.Waiting.{first_of, on_ask, serve_first, serve_parked, waits, without}
pub use Rattle.sv_model.specs.declared.event.Told.{Told}
pub use Rattle.sv_model.specs.declared.input.Input.{Input}
pub use Rattle.sv_model.specs.declared.input.Input.TheVariants.{Ask, Poke}
pub use Rattle.sv_model.specs.declared.key.Key.{Key}
pub use Rattle.sv_model.specs.declared.key.Moment.{Moment}
pub use Rattle.sv_model.specs.declared.key.Secret.{Secret}
pub use Rattle.sv_model.specs.declared.node.Parked.{Parked}
pub use Rattle.sv_model.specs.declared.node.Setting.{Setting}
pub use Rattle.sv_model.specs.declared.outcome.Birth.{Birth}
pub use Rattle.sv_model.specs.declared.outcome.Birth.TheVariants.{Absent, Alive}
pub use Rattle.sv_model.specs.declared.outcome.Fate.{Fate}
pub use Rattle.sv_model.specs.declared.outcome.Fate.TheVariants.{Kept, Untouched}
pub use Rattle.sv_model.specs.declared.output.Cause.{Cause}
pub use Rattle.sv_model.specs.declared.output.Cause.TheVariants.{SerialsSpent, TableFull}
pub use Rattle.sv_model.specs.declared.output.Output.{Output}
pub use Rattle.sv_model.specs.declared.packet.Packet.{Packet}
pub use Rattle.sv_model.specs.declared.packet.Packet.TheVariants.{Ack, Grant, No, Want}
pub use Rattle.sv_model.specs.declared.record.Change.{Change}
pub use Rattle.sv_model.specs.declared.request.Request.{Request}
pub use Rattle.sv_model.specs.declared.session.Session.{Session}
pub use Rattle.sv_model.specs.declared.state.KeyState.{KeyState}
pub use Rattle.sv_model.specs.declared.state.KeyState.TheVariants.{Active, Ended, Gone, Sent}
pub use Rattle.sv_model.specs.declared.state.TheConstants.{PARK_LIMIT}
