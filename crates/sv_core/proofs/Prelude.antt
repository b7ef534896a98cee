-- What the proofs of this crate cite of definitions and types, its own and those of the crates below it, from one place.
pub use Rattle.std.proofs.Common.{Bool, Err, IfErr, IfOk, List, None, Ok, Option, Result, Some, [], ap, arith, cond, drop, false, get_or, inl, inr, length, map}
pub use Rattle.std.proofs.Common.{refl, rules, set, subst, suc, sym, take, true, zero, ℕ, ⊎_elim, ◌++◌, ◌+◌, ◌-◌, ◌<◌, ◌∙◌, ◌∷◌, ◌≡◌, ◌≢◌, ◌≤◌}
pub use Rattle.std.proofs.lemmas.Bool.{cond_both, eqb-false}
pub use Rattle.std.proofs.lemmas.Bool.Decides.{leb_tells, nat_tests}
pub use Rattle.std.proofs.lemmas.Iterator.Adapters.{position_from-zero}
pub use Rattle.std.proofs.lemmas.List.{append-nil, append_assoc, length-set, map-append, take_all, take_more}
pub use Rattle.std.proofs.lemmas.List.Elements.{filter-append}
pub use Rattle.std.proofs.lemmas.List.Sorted.{answers_always, searchable_from_sorted}
pub use Rattle.std.proofs.lemmas.Option.{same_Some}
pub use Rattle.std.proofs.lemmas.Result.{IfOk-weaker}
pub use Rattle.std.specs.FinMap.{empty, entries, entries-insert, entries_sorted, find, from_entries, get, get-empty, get-entries, get-from_entries, get-insert}
pub use Rattle.std.specs.FinMap.{get-remove, insert, is_sorted, len, len-empty, len-entries, put, remove, same_entries_map, same_map}
pub use Rattle.std.specs.FinMap.Entries.{below_all, by_order, is_sorted-put}
pub use Rattle.std.specs.List.{AllWithin, filter, filter_map, list_any, position_from}
pub use Rattle.std.specs.List.Sorted.{IsBinarySearchResult, IsSearchInRange, IsSortedBy}
pub use Rattle.std.specs.Option.{option_map, unwrap_or}
pub use Rattle.std.specs.Ordering.{is_eq, is_lt, nat_cmp}
pub use Rattle.std.specs.Prelude.{T, is_none, is_some, nat_le, nat_lt, not, option_copied, position, slice_get, vec_capacity, vec_len, ◌&&◌, ◌==◌, ◌||◌}
pub use Rattle.std.specs.declared.cmp.Ordering.{Ordering}
pub use Rattle.std.specs.declared.cmp.Ordering.TheVariants.{Equal, Greater, Less}
pub use Rattle.sv_core.specs.Census.{total, with_all}
pub use Rattle.sv_core.specs.Core.{IsWithin, starts}
pub use Rattle.sv_core.specs.Decision.{decision_of}
pub use Rattle.sv_core.specs.Directory.{places_in}
pub use Rattle.sv_core.specs.Effect.{HasSerial}
pub use Rattle.sv_core.specs.Kept.{node_of}
pub use Rattle.sv_core.specs.Order.{Entry}
pub use Rattle.sv_core.specs.Places.{AreApart, AreBelow, AreHigh, AreLow, AreSpare, AreWithin, IsFound, IsGap, Place, Rises, are_apart, are_within, erase}
pub use Rattle.sv_core.specs.Places.{is_free, is_handed_over, marked, seen, sent_among, state_at}
pub use Rattle.sv_core.specs.Plain.{ticked}
pub use Rattle.sv_core.specs.Snapshot.{staged, state_record}
pub use Rattle.sv_core.specs.Table.{durable_by, keys_of}
pub use Rattle.sv_core.specs.Time.{wants_of}
pub use Rattle.sv_core.specs.Wants.{IsLine, Rise, around, is_here, keys_in, settled_by, settles, wants_here, wants_in, wants_where, with_key}
pub use Rattle.sv_core.specs.declared.directory.Directory.{Directory}
pub use Rattle.sv_model.proofs.KeyLemmas.{exact_keys, keys_tell, keys_total}
pub use Rattle.sv_model.specs.Decision.{Decision, idle}
pub use Rattle.sv_model.specs.Engine.{EngineMeaning}
pub use Rattle.sv_model.specs.Fitting.{AllFit, Fits, fits_born, fits_named, is_next, stage_behind}
pub use Rattle.sv_model.specs.Journaled.{IsJournaled}
pub use Rattle.sv_model.specs.Keys.{key_cmp, same_key}
pub use Rattle.sv_model.specs.Migration.{is_wanted}
pub use Rattle.sv_model.specs.Node.{decided}
pub use Rattle.sv_model.specs.NodeState.{Durable, Keys, Node, bound, epoch_in, has_space, is_own, is_settled, is_unmade, last_number}
pub use Rattle.sv_model.specs.Ranges.{IsRanged, IsRangedStep, IsSetting}
pub use Rattle.sv_model.specs.Replay.{applied, blank, home_behind, keys_behind, next_behind, next_by, replayed, with_born, with_named}
pub use Rattle.sv_model.specs.Serving.{born_change, ended_at, entry_of, kept_at, named_change, next_with, over_at, served}
pub use Rattle.sv_model.specs.Time.{deadlines, expire, first_over, grant_again, is_late, is_over, on_tick}
pub use Rattle.sv_model.specs.Waiting.{first_of, numbers, serve_first, serve_parked, without}
pub use Rattle.sv_model.specs.declared.commit.Commit.TheVariants.{Served}
pub use Rattle.sv_model.specs.declared.key.Key.{Key}
pub use Rattle.sv_model.specs.declared.key.Moment.{Moment}
pub use Rattle.sv_model.specs.declared.key.Secret.{Secret}
pub use Rattle.sv_model.specs.declared.node.Parked.{Parked}
pub use Rattle.sv_model.specs.declared.node.Setting.{Setting}
pub use Rattle.sv_model.specs.declared.node.Stage.{Stage}
pub use Rattle.sv_model.specs.declared.node.Stage.TheVariants.{Blank, Snapshot}
pub use Rattle.sv_model.specs.declared.outcome.Birth.{Birth}
pub use Rattle.sv_model.specs.declared.outcome.Birth.TheVariants.{Absent, Alive}
pub use Rattle.sv_model.specs.declared.outcome.Outcome.{Outcome}
pub use Rattle.sv_model.specs.declared.output.Output.{Output}
pub use Rattle.sv_model.specs.declared.output.Output.TheVariants.{Answer, Send}
pub use Rattle.sv_model.specs.declared.packet.Packet.{Packet}
pub use Rattle.sv_model.specs.declared.packet.Packet.TheVariants.{Want}
pub use Rattle.sv_model.specs.declared.record.Change.{Change}
pub use Rattle.sv_model.specs.declared.record.Record.{Record}
pub use Rattle.sv_model.specs.declared.record.Record.TheVariants.{Boot, Commit, Counted, Counters, Expired, Forgets, State, Taken}
pub use Rattle.sv_model.specs.declared.request.Request.{Request}
pub use Rattle.sv_model.specs.declared.session.Session.{Session}
pub use Rattle.sv_model.specs.declared.state.KeyState.{KeyState}
pub use Rattle.sv_model.specs.declared.state.KeyState.TheVariants.{Active, Ended, Gone, Sent}
