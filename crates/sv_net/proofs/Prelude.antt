-- What the proofs of this crate cite of definitions and types, its own and those of the crates below it, from one place.
pub use Rattle.std.proofs.Common.{Bool, List, None, Option, Some, Vec, [], ap, false, inl, inr, length, refl, slice_set, subst, suc, sym, take, true}
pub use Rattle.std.proofs.Common.{true≢false, zero, ℕ, ◌++◌, ◌<◌, ◌∙◌, ◌∷◌, ◌≡◌, ◌⊎◌}
pub use Rattle.std.proofs.lemmas.List.{append-nil, append_assoc}
pub use Rattle.std.specs.Prelude.{IfSome, slice_get}
pub use Rattle.std.specs.declared.alloc.Global.{Global}
pub use Rattle.sv_connection.specs.Connection.{held_by}
pub use Rattle.sv_net.specs.Bytes.{Leaves, came_of, went_of}
pub use Rattle.sv_net.specs.Exchange.{AllContinue, Continues, Obeys, parts, said_on, unread, unsent}
pub use Rattle.sv_net.specs.Places.{HasStood, IsKept, Keeps, elsewhere, held_at, held_in, places_of, waits, with_at}
pub use Rattle.sv_net.specs.Saying.{Follows, FollowsOn, HearsNext, Says, Tells}
pub use Rattle.sv_net.specs.Sending.{IsOnItsWay, SendsBehind}
pub use Rattle.sv_net.specs.declared.connections.Connections.{Connections}
pub use Rattle.sv_net.specs.declared.open.Open.{Open}
pub use Rattle.sv_net.specs.declared.socket.Socket.{Socket}
pub use Rattle.sv_net.specs.declared.state.Next.{Next}
pub use Rattle.sv_net.specs.declared.state.Next.TheVariants.{Close, Listen, Part}
pub use Rattle.sv_net.specs.declared.state.State.{State}
pub use Rattle.sv_net.specs.declared.tape.Tape.{Tape}
