-- What the proofs of this crate cite of definitions and types, its own and those of the crates below it, from one place.
unfoldable pub use Rattle.sv_model.specs.Attributes.{attributes_size}
pub use Rattle.sv_model.specs.Ranges.{is_absent}
pub use Rattle.sv_model.specs.declared.key.Key.{Key}
pub use Rattle.sv_model.specs.declared.packet.Packet.{Packet}
pub use Rattle.sv_model.specs.declared.packet.Packet.TheVariants.{Ack, Grant, No, Want}
pub use Rattle.sv_model.specs.declared.record.Change.{Change}
pub use Rattle.sv_model.specs.declared.record.Change.TheVariants.{Absent, Alive, Ended}
pub use Rattle.sv_model.specs.declared.record.Record.{Record}
pub use Rattle.sv_model.specs.declared.session.Session.{Session}
pub use Rattle.sv_model.specs.declared.session.TheConstants.{ATTRIBUTE_LIMIT, CONTEXT_LIMIT, NAME_LIMIT, SESSION_LIMIT, VALUE_LIMIT}
pub use Rattle.sv_model.specs.declared.state.KeyState.{KeyState}
unfoldable pub use Rattle.sv_record.specs.Field.{counting, flag, key, long, node, signed}
pub use Rattle.sv_record.specs.Format.{FitAll, Format, nothing, number, pair, raw, reads, sized, such_that, texts}
pub use Rattle.sv_record.specs.Frame.{IsFrame}
pub use Rattle.sv_record.specs.Greeting.{greeting_of}
unfoldable pub use Rattle.sv_record.specs.Packet.{packet_format}
pub use Rattle.sv_record.specs.Reading.{Fails, Gives, IsBytes, Reading, ended, number_at, ◌>>=◌}
pub use Rattle.sv_record.specs.Record.{handover}
unfoldable pub use Rattle.sv_record.specs.Record.{change, commit, key_state, record_format}
pub use Rattle.sv_record.specs.Session.{Attribute, Before, at_first, behind, is_below, is_name_length, is_value_length}
unfoldable pub use Rattle.sv_record.specs.Session.{attribute, attributes, context, name, session, value}
pub use Rattle.sv_record.specs.Version.{session_limit, value_limit, value_width}
pub use Rattle.sv_record.specs.declared.fault.RecordFault.{RecordFault}
pub use Rattle.sv_record.specs.declared.fault.RecordFault.TheVariants.{BadField, BadVersion, Foreign, Truncated}
pub use Rattle.sv_record.specs.declared.frame.Frame.{Frame}
pub use Rattle.sv_record.specs.declared.frame.Frame.TheVariants.{Halt, Move, Peer, Tick}
pub use Rattle.sv_record.specs.declared.version.Version.{Version}
pub use Rattle.sv_record.specs.declared.version.Version.TheVariants.{One, Two}
