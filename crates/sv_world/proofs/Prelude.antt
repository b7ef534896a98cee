-- What the proofs of this crate cite of definitions and types, its own and those of the crates below it, from one place.
pub use Rattle.std.proofs.Common.{Bool, List, None, OnOk, Option, Some, [], add-one, ap, append-nil, append_assoc, arith, cond, drop, eq-eqb, false, get_or}
pub use Rattle.std.proofs.Common.{inl, inr, length-append, refl, rules, subst, sym, true, ℕ, ⊎_elim, ◌++◌, ◌<◌, ◌==◌, ◌∙◌, ◌∷◌, ◌≡◌, ◌≢◌, ◌≤◌}
pub use Rattle.std.proofs.lemmas.Bool.{and_from, and_left, and_parts, and_right, cases_eq, cases_lt, cond-false, cond-true, cond_both, eqb-false, eqb-true}
pub use Rattle.std.proofs.lemmas.Bool.{false_from_ne_true, le-leb, le-ltb, leb-false, leb-true, lt-leb, lt-ltb, ltb-true, ne_eqb, or_cases, true≢false}
pub use Rattle.std.proofs.lemmas.List.{map-append, take-append-le}
pub use Rattle.std.proofs.lemmas.List.Concat.{flat_map-append}
pub use Rattle.std.proofs.lemmas.List.Elements.{All-set, filter_map-append}
pub use Rattle.std.proofs.lemmas.Option.{same_Some, slice_get_cases, slice_get_read, slice_get_within}
pub use Rattle.std.proofs.lemmas.Result.{IfOk-weaker}
pub use Rattle.std.specs.FinMap.{empty, entries, find, get, get-empty, get-entries, get-insert, get-remove, insert, len, len-empty, remove}
pub use Rattle.std.specs.List.{All, AllByRecursion, cons_option, filter, filter_map, flat_map, list_any}
pub use Rattle.std.specs.Option.{option_map, option_to_list}
pub use Rattle.std.specs.Prelude.{Err, IfErr, IfOk, IfSome, IsSome, Ok, OnErr, Result, is_none, is_some, length, map, nat_le, nat_lt, not, slice_get, suc, take}
pub use Rattle.std.specs.Prelude.{vec_capacity, zero, ◌&&◌, ◌+◌, ◌||◌, ◌⊎◌}
pub use Rattle.sv_core.specs.Core.{decision_at, engine_of, node_at}
pub use Rattle.sv_core.specs.declared.node.Core.{Core}
pub use Rattle.sv_model.proofs.EntryLemmas.{Entry, entry_kept, no_entries, over_in}
pub use Rattle.sv_model.proofs.JournalLemmas.{journaled}
pub use Rattle.sv_model.proofs.KeyLemmas.{keys_tell, keys_total}
pub use Rattle.sv_model.proofs.KnownLemmas.{IsOwnHome, active_kept, kept_known, known_begun, known_born, known_insert, known_remove, known_spent, next_key}
pub use Rattle.sv_model.proofs.KnownLemmas.{plainly_known, sent_kept}
pub use Rattle.sv_model.specs.Container.{AllMayStand, AllTouchOnlyHanded, AreLawful, IsExcused, IsLawful, IsNewKey, MayStand, Meanings, Store, after, always}
pub use Rattle.sv_model.specs.Container.{born, committed, events_with, expiry_events, fated, handed_if, held_by, made_with, nothing_stored, outcome_of}
pub use Rattle.sv_model.specs.Container.{replies_with, reply_of, store_with, stored}
pub use Rattle.sv_model.specs.Decision.{Decision, idle, left, with_record}
pub use Rattle.sv_model.specs.Engine.{EngineMeaning, TouchesOnlyHanded, heard_all}
pub use Rattle.sv_model.specs.Fitting.{AllFit, Fits, FitsSent, fits_born, fits_gone, fits_named, fits_state, is_active, is_next, stage_behind}
pub use Rattle.sv_model.specs.Journaled.{IsJournaled}
pub use Rattle.sv_model.specs.Keys.{key_cmp, same_key, set_key}
pub use Rattle.sv_model.specs.Membership.{In, with_last}
pub use Rattle.sv_model.specs.Migration.{addressee, hands_over, is_ours, is_wanted, move_refused, no_if_unmade, on_ack, on_grant, on_move, on_ours, on_packet}
pub use Rattle.sv_model.specs.Migration.{on_want, says_no, sender, takes_over}
pub use Rattle.sv_model.specs.Node.{decided}
pub use Rattle.sv_model.specs.NodeState.{Durable, Keys, Node, bound, epoch_in, has_space, is_crowded, is_dead, is_full, is_own, is_settled, is_unmade, known}
pub use Rattle.sv_model.specs.NodeState.{known_by, lacks_room, last_number, session_in, was_given}
pub use Rattle.sv_model.specs.Opening.{Opening, born_opening, mark_of, opening_of}
pub use Rattle.sv_model.specs.Outputs.{packet_in, sends_in}
pub use Rattle.sv_model.specs.Replay.{applied, applied_if, blank, boot_record, next_by, replayed, with_born, with_named}
pub use Rattle.sv_model.specs.Serving.{answer_of, answered, answered_unless, born_change, born_keys, ended_at, entry_of, fated_keys, fresh_of, held_in, kept_at}
pub use Rattle.sv_model.specs.Serving.{named_change, next_with, no_birth, over_at, refused, served, token_of}
pub use Rattle.sv_model.specs.Time.{deadlines, expire, first_over, grant_again, is_late, is_over, is_quiet, on_tick, wants_again}
pub use Rattle.sv_model.specs.Trace.{Item, arrival_behind, asked_by, asked_of, commits_of, is_of, refusal_in, refused_of, replies_of, reply_in, same_token}
pub use Rattle.sv_model.specs.Trace.{served_by, served_of, times, tokens_in, told_of}
pub use Rattle.sv_model.specs.Waiting.{first_of, numbers, on_ask, others, parks, serve_first, serve_parked, waits, wants, without}
pub use Rattle.sv_model.specs.declared.commit.Commit.{Commit}
pub use Rattle.sv_model.specs.declared.commit.Commit.TheVariants.{Expired, Served}
pub use Rattle.sv_model.specs.declared.event.Told.{Told}
pub use Rattle.sv_model.specs.declared.input.Input.{Input}
pub use Rattle.sv_model.specs.declared.input.Input.TheVariants.{Move, Packet as Incoming}
pub use Rattle.sv_model.specs.declared.key.Key.{Key}
pub use Rattle.sv_model.specs.declared.key.Moment.{Moment}
pub use Rattle.sv_model.specs.declared.key.Secret.{Secret}
pub use Rattle.sv_model.specs.declared.key.Token.{Token}
pub use Rattle.sv_model.specs.declared.node.Parked.{Parked}
pub use Rattle.sv_model.specs.declared.node.Setting.{Setting}
pub use Rattle.sv_model.specs.declared.node.Stage.{Stage}
pub use Rattle.sv_model.specs.declared.node.Stage.TheVariants.{Blank, Past, Snapshot}
pub use Rattle.sv_model.specs.declared.outcome.Birth.TheVariants.{Absent, Alive, Ended as BirthEnded}
pub use Rattle.sv_model.specs.declared.outcome.Fate.{Fate}
pub use Rattle.sv_model.specs.declared.outcome.Fate.TheVariants.{Ended as FateEnded, Kept, Untouched}
pub use Rattle.sv_model.specs.declared.output.Cause.{Cause}
pub use Rattle.sv_model.specs.declared.output.Cause.TheVariants.{Deadline, ParkFull, SerialsSpent, TableFull, WantsSpent}
pub use Rattle.sv_model.specs.declared.output.Output.{Output}
pub use Rattle.sv_model.specs.declared.output.Output.TheVariants.{Moved, Refuse, Send}
pub use Rattle.sv_model.specs.declared.packet.Packet.{Packet}
pub use Rattle.sv_model.specs.declared.packet.Packet.TheVariants.{Ack, Grant, No, Want}
pub use Rattle.sv_model.specs.declared.record.Change.{Change}
pub use Rattle.sv_model.specs.declared.record.Change.TheVariants.{Absent as Unchanged, Alive as ChangeAlive, Ended as ChangeEnded}
pub use Rattle.sv_model.specs.declared.record.Record.{Record}
pub use Rattle.sv_model.specs.declared.record.Record.TheVariants.{Boot, Commit as CommitRecord, Counted, Counters, Forgets, Gone as GoneRecord}
pub use Rattle.sv_model.specs.declared.record.Record.TheVariants.{Sent as SentRecord, State, Taken}
pub use Rattle.sv_model.specs.declared.request.Request.{Request}
pub use Rattle.sv_model.specs.declared.response.Response.{Response}
pub use Rattle.sv_model.specs.declared.session.Session.{Session}
pub use Rattle.sv_model.specs.declared.state.KeyState.{KeyState}
pub use Rattle.sv_model.specs.declared.state.KeyState.TheVariants.{Active, Ended, Gone, Sent}
pub use Rattle.sv_model.specs.declared.state.TheConstants.{KEY_LIMIT, KEY_MOST, PARK_LIMIT}
pub use Rattle.sv_node.specs.Call.{After, Compact, Cut, Does, Done as Finished, Ending, Given, Open, Refused, Step, Stop, StopsStart, StopsStep, Unsaid}
pub use Rattle.sv_node.specs.Call.{carried_out, compaction_ends, goes_on, kept, node_behind, quiet, runs_behind, step_ends}
pub use Rattle.sv_node.specs.History.{AreTurns, IsAbove, Rise, RiseIn, RisesAt, Stand, Turn, behind_all, lowest_behind, number_in, numbers_in}
pub use Rattle.sv_node.specs.Opened.{restarted}
pub use Rattle.sv_world.specs.Action.{action_of, silent_action, torn_action, whole_action}
pub use Rattle.sv_world.specs.CoreStep.{MayFollow}
unfoldable pub use Rattle.sv_world.specs.CoreStep.{row_at}
pub use Rattle.sv_world.specs.Deed.{Done, booted, deed, halted, heading_at, heading_by, line_of, number_for, quiet_at, start_by, told_by, wants_up}
pub use Rattle.sv_world.specs.Disks.{AllMayCome, AreCalls, AreEventsOf, AreOfAll, AreOfInput, AreOfStop, AreOpenedInTurn, AreWorld, InTurnAt, IsCall, IsNew}
pub use Rattle.sv_world.specs.Disks.{MayCome, NodeCall, Seen, WasSent, all_numbers, nothing_called, numbers_behind, seen_as, shown_at, shown_by, silent_event}
pub use Rattle.sv_world.specs.Disks.{start_at, with_number}
pub use Rattle.sv_world.specs.Faults.{IsFaulty, call_fault, fault_of, start_fault, step_fault, stop_fault}
pub use Rattle.sv_world.specs.Happened.{AreUndone, HaveDone, HaveHappened, IsRefused, IsStill, by_node, events_in, refusal, restarts, told_at}
pub use Rattle.sv_world.specs.Headline.{AllServed, AreAnswers, AreLines, AtMostOne, IsAnswer, IsAnswered, IsHeadline, IsHeard, IsLive, IsLiveAt, IsOpening}
pub use Rattle.sv_world.specs.Headline.{IsReplay, IsTold, IsToldLine, IsUnanswered, IsUnheard, WasAsked, granted, opened, request_in, request_of, states}
pub use Rattle.sv_world.specs.Headline.{whole_events, wholes}
pub use Rattle.sv_world.specs.Journals.{AreWithin, HaveFitted, IsWithin}
pub use Rattle.sv_world.specs.Life.{Away, Changes, Here, IsBehind, IsBelow, Life, Over, Phase, Stands, Unborn, session_of, top}
pub use Rattle.sv_world.specs.Making.{AreFilled, IsIdle}
pub use Rattle.sv_world.specs.Planned.{AreInstalled, IsPlanned, Ran, fault_by, since}
pub use Rattle.sv_world.specs.Processes.{AreOfLives, AreOfProcesses, BringAll, BringSent, BringsSent, turn_of, turns_at}
pub use Rattle.sv_world.specs.Progress.{AllRun, AlwaysElsewhere, AreFair, AreRounds, AreSteps, AreWindows, ArrivesByTick, ArrivesInARound, CanCome, EpochsRise}
pub use Rattle.sv_world.specs.Progress.{HasArrived, HasExpired, HasRoom, HasRoomAt, HasRoomIn, IsDeniedInTwo, IsDoneInTwo, IsKept, IsOff, IsOnItsWay}
pub use Rattle.sv_world.specs.Progress.{IsProgress, IsRound, IsServed, IsServedAtLast, IsServedInTwo, IsStep, NobodyIsForgotten, NoneExpires, PokesServe, Round}
pub use Rattle.sv_world.specs.Progress.{Runs, ServedInARound, StaysAtHand, TicksAsk, TicksEndSessions, TicksEndWaiting, WantsAreAnswered, WasHanded, Went}
pub use Rattle.sv_world.specs.Progress.{WentElsewhere, WentElsewhereIn, Window, accounted_in, behind, behind_windows, is_tick, nodes_told, rounds_of}
pub use Rattle.sv_world.specs.Progress.{setting_at, ticked, ticks_in, waiting}
pub use Rattle.sv_world.specs.Rolling.{AreInTurn, IsTurn, start_in}
pub use Rattle.sv_world.specs.Rules.{rules_for, setting_by}
pub use Rattle.sv_world.specs.Sane.{IsUnmade, Sane, acked, store_of}
pub use Rattle.sv_world.specs.Sent.{may_come, same_attribute, same_packet, same_session}
pub use Rattle.sv_world.specs.Slot.{HasDone, IsSlot, RunsOver, boot_if_up, durable_of, engine_by, engine_in, member_by, member_of}
pub use Rattle.sv_world.specs.Starts.{AreTurnsBy, FollowOn, Process, meaning_in, nodes_in, number_of, process_of, turns_of}
pub use Rattle.sv_world.specs.Traced.{parted}
pub use Rattle.sv_world.specs.Waits.{IsParked, IsPast, Waits, boot_of, tok}
pub use Rattle.sv_world.specs.World.{AlwaysKnows, Cluster, KnowsAll, Member, World, becomes, boots, call_of, commit_with, commits_in, decision, durable_at}
pub use Rattle.sv_world.specs.World.{halt, happens, is_ready, is_spent, is_there, is_unused, item_at, items, nothing_happened, openings_of, quiet_line}
pub use Rattle.sv_world.specs.World.{record_of_start, records_at, run, set_member, setting_of, silences, silent, started, starts, steady, steps, stopped, tears}
pub use Rattle.sv_world.specs.World.{token_of_call, torn, whole, whole_line}
pub use Rattle.sv_world.specs.Worlds.{AllMean, AreSet, IsSet, IsWorld, cluster_by, cluster_of, heard_of, meanings_by, meanings_of, meant_in, member_in}
pub use Rattle.sv_world.specs.Worlds.{members_by, noted_in, rules_in, setting_in, settings_by, size_of, state_by, world_of}
pub use Rattle.sv_world.specs.declared.action.Action.{Action}
pub use Rattle.sv_world.specs.declared.call.Call.{Call, Call as Asked}
pub use Rattle.sv_world.specs.declared.event.WorldEvent.{WorldEvent}
pub use Rattle.sv_world.specs.declared.event.WorldEvent.TheVariants.{Ask, Crash, Deliver, Poke, Restart, Silent, Tick, Torn, TornRestart}
pub use Rattle.sv_world.specs.declared.fault.WorldFault.{WorldFault}
pub use Rattle.sv_world.specs.declared.fault.WorldFault.TheVariants.{NoNode, NoPacket, NotRunning, Running, TokenUsed}
pub use Rattle.sv_world.specs.declared.installing.InstallFault.{InstallFault}
pub use Rattle.sv_world.specs.declared.line.Effect.{Effect}
pub use Rattle.sv_world.specs.declared.line.Line.{Line}
pub use Rattle.sv_world.specs.declared.rules.Rules.{Rules}
pub use Rattle.sv_world.specs.declared.slot.Slot.{Slot}
pub use Rattle.sv_world.specs.declared.task.Task.{Task}
