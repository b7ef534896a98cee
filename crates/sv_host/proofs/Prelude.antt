-- What the proofs of this crate cite of definitions and types, its own and those of the crates below it, from one place.
pub use Rattle.std.proofs.Common.{Bool, Err, List, None, Ok, Option, Result, Some, Vec, [], add-one, ap, append_assoc, arith, cond, drop, drop-cons, false}
pub use Rattle.std.proofs.Common.{get_or, inl, inr, length, map, min, not, refl, slice_set, subst, suc, sym, take, true, true≢false, vec_items, zero, ℕ, ◌&&◌}
pub use Rattle.std.proofs.Common.{◌++◌, ◌+◌, ◌-◌, ◌<◌, ◌^◌, ◌||◌, ◌∙◌, ◌∷◌, ◌≡◌, ◌≢◌, ◌≤◌, ◌⊎◌}
pub use Rattle.std.proofs.lemmas.Bool.{not-true, or_parts}
pub use Rattle.std.proofs.lemmas.Bool.Decides.{nat_tests}
pub use Rattle.std.proofs.lemmas.List.{append-nil}
pub use Rattle.std.proofs.lemmas.List.Sums.{sum_by-cons}
pub use Rattle.std.specs.List.{AllByRecursion, sum_by}
pub use Rattle.std.specs.Option.{option_map}
pub use Rattle.std.specs.Prelude.{IfErr, IfOk, IfSome, IsTrue, OnOk, nat_lt, remove, slice_get, ⊤}
pub use Rattle.std.specs.Vec.Iter.{into_iter_items, into_iter_len}
pub use Rattle.std.specs.declared.alloc.Global.{Global}
pub use Rattle.sv_connection.specs.Connection.{held_by}
pub use Rattle.sv_host.specs.Clients.{AskedFor, GathersFor, Has, HasAsked, HaveClients, HaveWays, KeepsAll, KeepsOthers, MayAsk, WaitFor, refused_of}
pub use Rattle.sv_host.specs.Group.{Comes, HasMore, HasOneMore, IsRising, IsSame, before_of, inputs_of, number_of, ways_of}
pub use Rattle.sv_host.specs.HandingOut.{Concludes, ConcludesRefused, HandsOn, HandsOnAll, HandsOut, HandsOutFrom, HandsOutGroup, RefusesAll, way_at}
pub use Rattle.sv_host.specs.Held.{HasMoreWants, others_in}
pub use Rattle.sv_host.specs.Nudges.{HasNudges, IsInTime, input_of, second_of}
pub use Rattle.sv_host.specs.Outcome.{last_taken}
pub use Rattle.sv_host.specs.Outputs.{AreSendable, IsHandedOn}
pub use Rattle.sv_host.specs.Packets.{sending_end}
pub use Rattle.sv_host.specs.Parked.{clients_of, without}
pub use Rattle.sv_host.specs.Room.{awaited_by, left_of}
pub use Rattle.sv_host.specs.Round.{IsPartOf, behind_by, behind_in, front_by, front_in, is_behind, is_next, lets, part_of, sent_of, share_after, share_end}
pub use Rattle.sv_host.specs.Secrets.{last_of}
pub use Rattle.sv_host.specs.Serve.{HearsOn, IsLeftBy, IsSilent}
pub use Rattle.sv_host.specs.Serving.{HasGathered, HasServed}
pub use Rattle.sv_host.specs.Stops.{HasFailed, LacksSecrets}
pub use Rattle.sv_host.specs.Stories.{AllGoOn, CarryOn, Deed, GoesBack, HasStory, Hears, Parts, Rests, Story}
pub use Rattle.sv_host.specs.Time.{seconds_of, steady_of}
pub use Rattle.sv_host.specs.Turns.{is_same, ranks_in, stands_in}
pub use Rattle.sv_host.specs.declared.fault.Stop.{Stop}
pub use Rattle.sv_host.specs.declared.group.Asker.{Asker}
pub use Rattle.sv_host.specs.declared.group.Asker.TheVariants.{Client, Command, Nobody}
pub use Rattle.sv_host.specs.declared.group.Came.{Came}
pub use Rattle.sv_host.specs.declared.group.Group.{Group}
pub use Rattle.sv_host.specs.declared.group.Way.{Way}
pub use Rattle.sv_host.specs.declared.nudges.Nudge.{Nudge}
pub use Rattle.sv_host.specs.declared.nudges.Nudge.TheVariants.{LateTick, Poke, Tick}
pub use Rattle.sv_host.specs.declared.outcome.Taken.{Taken}
pub use Rattle.sv_host.specs.declared.outcome.Taken.TheVariants.{Quiet, Refused}
pub use Rattle.sv_host.specs.declared.packets.Packets.{Packets}
pub use Rattle.sv_host.specs.declared.packets.Sending.{Sending}
pub use Rattle.sv_host.specs.declared.packets.Sending.TheVariants.{All, Nothing, Share}
pub use Rattle.sv_host.specs.declared.parked.ParkedClient.{ParkedClient}
pub use Rattle.sv_host.specs.declared.peers.Peers.{Peers}
pub use Rattle.sv_host.specs.declared.round.Line.{Line}
pub use Rattle.sv_host.specs.declared.round.Part.{Part}
pub use Rattle.sv_host.specs.declared.round.Rank.{Rank}
pub use Rattle.sv_host.specs.declared.serve.Progress.{Progress}
pub use Rattle.sv_host.specs.declared.server.Server.{Server}
pub use Rattle.sv_journal.specs.declared.journal_fault.JournalFault.{JournalFault}
pub use Rattle.sv_model.specs.Decision.{left}
pub use Rattle.sv_model.specs.Engine.{EngineMeaning}
pub use Rattle.sv_model.specs.Node.{decided}
pub use Rattle.sv_model.specs.NodeState.{is_settled, known}
pub use Rattle.sv_model.specs.Outputs.{packet_in}
pub use Rattle.sv_model.specs.Ranges.{IsInput}
pub use Rattle.sv_model.specs.Serving.{answer_of, answered_unless, no_birth}
pub use Rattle.sv_model.specs.Site.{with_list}
pub use Rattle.sv_model.specs.Time.{is_late}
pub use Rattle.sv_model.specs.Waiting.{first_of, serve_first}
pub use Rattle.sv_model.specs.declared.input.Input.{Input}
pub use Rattle.sv_model.specs.declared.key.Key.{Key}
pub use Rattle.sv_model.specs.declared.key.Moment.{Moment}
pub use Rattle.sv_model.specs.declared.node.Parked.{Parked}
pub use Rattle.sv_model.specs.declared.node.Setting.{Setting}
pub use Rattle.sv_model.specs.declared.output.Cause.{Cause}
pub use Rattle.sv_model.specs.declared.output.Output.{Output}
pub use Rattle.sv_model.specs.declared.output.Output.TheVariants.{Answer, MoveRefused, Moved, Refuse, Send}
pub use Rattle.sv_model.specs.declared.packet.Packet.{Packet}
pub use Rattle.sv_model.specs.declared.request.Request.{Request}
pub use Rattle.sv_model.specs.declared.site.StepFault.{StepFault}
pub use Rattle.sv_net.proofs.PlaceLemmas.{put_holds, same_held}
pub use Rattle.sv_net.specs.Bytes.{IsQuiet, came_of, went_of}
pub use Rattle.sv_net.specs.Exchange.{Continues, GoOnBut, ObeysThere, parts, said_on, turn_of, unread, unsent}
pub use Rattle.sv_net.specs.Hearing.{Finds, HearsAt}
pub use Rattle.sv_net.specs.Places.{elsewhere, held_at, held_in, naming_of, places_of}
pub use Rattle.sv_net.specs.Saying.{Answers, Tells, refused_as}
pub use Rattle.sv_net.specs.declared.connections.Connections.{Connections}
pub use Rattle.sv_net.specs.declared.hearing.Heard.{Heard}
pub use Rattle.sv_net.specs.declared.open.Open.{Open}
pub use Rattle.sv_net.specs.declared.socket.Socket.{Socket}
pub use Rattle.sv_net.specs.declared.state.State.{State}
pub use Rattle.sv_node.proofs.HistoryLemmas.{goes_nowhere, gone_join, gone_on}
pub use Rattle.sv_node.proofs.MomentLemmas.{runs_join, runs_nowhere}
pub use Rattle.sv_node.specs.Call.{step_ends}
pub use Rattle.sv_node.specs.Compaction.{IsCompaction}
pub use Rattle.sv_node.specs.Group.{Answered, GroupEnds, IsAnswer, behind, left_by}
pub use Rattle.sv_node.specs.GroupCalls.{all_given}
pub use Rattle.sv_node.specs.History.{GoesOn, HasGone, IsAbove, IsLife, RiseIn, number_in, numbers_in}
pub use Rattle.sv_node.specs.Moments.{RunsWithoutLoss}
pub use Rattle.sv_node.specs.Node.{durable_of, engine_of, journal_of, setting_of, state_of}
pub use Rattle.sv_node.specs.declared.node.Node.{Node}
