-- What the proofs of this crate cite of definitions and types, its own and those of the crates below it, from one place.
pub use Rattle.http_header.specs.FieldValue.{IsFieldValue}
pub use Rattle.std.proofs.Common.{All, Bool, List, None, Option, Some, [], ap, arith, cond, drop, false, get_or, inl, inr, length, length-set, map, min, refl}
pub use Rattle.std.proofs.Common.{set, string_bytes, subst, suc, sym, take, true, zero, ℕ, ⊎_elim, ◌&&◌, ◌++◌, ◌+◌, ◌-◌, ◌<◌, ◌∙◌, ◌∷◌, ◌≡◌, ◌≢◌, ◌≤◌, ◌⊎◌}
pub use Rattle.std.proofs.lemmas.Bool.{cases_eq}
pub use Rattle.std.proofs.lemmas.Bool.Decides.{nat_tests}
pub use Rattle.std.proofs.lemmas.List.{append-nil, append_assoc, drop_all, drop_more, get_or-map, get_or-set_other, get_or-set_same, length-map, map-append}
pub use Rattle.std.proofs.lemmas.List.{map_more, take_all, take_more_set}
pub use Rattle.std.proofs.lemmas.List.Elements.{All-append, All-cons, All-map}
pub use Rattle.std.proofs.lemmas.List.Sorted.{IsPermutation-trans}
pub use Rattle.std.proofs.lemmas.Option.{get_or_from_slice_get, slice_get-get_or}
pub use Rattle.std.proofs.lemmas.Result.{IfOk-weaker}
pub use Rattle.std.proofs.lemmas.Slice.Eq.{bytes_eq-Decides}
pub use Rattle.std.specs.List.Sorted.{IsPermutation}
pub use Rattle.std.specs.Prelude.{IfSome, is_some, option_map, slice_get}
pub use Rattle.std.specs.Str.{bytes_eq}
pub use Rattle.std.specs.Vec.{vec_capacity}
pub use Rattle.std.specs.Vec.Iter.{into_iter_items}
pub use Rattle.sv_config.specs.declared.deployment.Context.{Context}
pub use Rattle.sv_container.specs.Admission.{admission, expired_of, held_of, is_turned_away}
pub use Rattle.sv_container.specs.Application.{App, IsLaunched, IsSoundApp, app_of, identity_of}
unfoldable pub use Rattle.sv_container.specs.Application.{apps_of}
pub use Rattle.sv_container.specs.Deployment.{IsFoundAt, frame_of, label, label_of, names_of, plan_with}
unfoldable pub use Rattle.sv_container.specs.Deployment.{declared_from, identities_of, labels_of}
pub use Rattle.sv_container.specs.Life.{AreNamedNew, IsInitialised, IsLive, hosted_of}
unfoldable pub use Rattle.sv_container.specs.Life.{ready_count, ready_filters, ready_servlets}
unfoldable pub use Rattle.sv_container.specs.Listening.{ears_of, heard_by_all, heard_of, noted_of}
pub use Rattle.sv_container.specs.Once.{Ask, after, kept_in, left_by, outcome_at}
pub use Rattle.sv_container.specs.Pairs.{Pairwise}
pub use Rattle.sv_container.specs.Recalling.{recalled_by, refused, repeated, told_again}
unfoldable pub use Rattle.sv_container.specs.Recalling.{recalled}
pub use Rattle.sv_container.specs.Serving.{Answered, Deployed, IsSound, answered, bared, container_meaning, deployed, edited_of, memory_if, or_full, outcome_by}
pub use Rattle.sv_container.specs.Serving.{plain_parts, remembering_with, served, served_apart, served_by, served_unless, unserved}
unfoldable pub use Rattle.sv_container.specs.Serving.{answered_by, place_for, remembering, served_in, served_new}
pub use Rattle.sv_container.specs.SetCookie.{is_sendable}
pub use Rattle.sv_container.specs.Starting.{is_label}
unfoldable pub use Rattle.sv_container.specs.Starting.{times}
pub use Rattle.sv_container.specs.declared.admission.Admission.{Admission}
pub use Rattle.sv_container.specs.declared.application.Application.{Application}
pub use Rattle.sv_container.specs.declared.named.Named.{Named}
pub use Rattle.sv_container.specs.declared.recall.Refusal.TheVariants.{BadKey, Full, Gone, Reused}
pub use Rattle.sv_dispatch.specs.Keeping.{ServletKeeps}
pub use Rattle.sv_dispatch.specs.Rows.{row}
unfoldable pub use Rattle.sv_dispatch.specs.Rows.{rows}
pub use Rattle.sv_dispatch.specs.declared.hosted.Hosted.{Hosted}
pub use Rattle.sv_mapping.specs.Context.{context_at, path_in_context}
pub use Rattle.sv_model.specs.Session.{is_expired}
pub use Rattle.sv_model.specs.declared.event.Told.{Told}
pub use Rattle.sv_model.specs.declared.key.Key.{Key}
pub use Rattle.sv_model.specs.declared.key.Secret.{Secret}
pub use Rattle.sv_model.specs.declared.outcome.Birth.{Birth}
pub use Rattle.sv_model.specs.declared.outcome.Fate.{Fate}
pub use Rattle.sv_model.specs.declared.outcome.Fate.TheVariants.{Ended, Kept, Untouched}
pub use Rattle.sv_model.specs.declared.outcome.Outcome.{Outcome}
pub use Rattle.sv_model.specs.declared.request.Request.{Request}
pub use Rattle.sv_model.specs.declared.response.Response.{Response}
pub use Rattle.sv_model.specs.declared.session.Session.{Session}
unfoldable pub use Rattle.sv_once.specs.Answer.{answer_in}
pub use Rattle.sv_once.specs.Asked.{is_key}
unfoldable pub use Rattle.sv_once.specs.Asked.{key_of, mark_of}
pub use Rattle.sv_once.specs.Entries.{IsSmall, known}
unfoldable pub use Rattle.sv_once.specs.Entries.{memory_in}
pub use Rattle.sv_once.specs.declared.choice.Choice.{Choice}
pub use Rattle.sv_once.specs.declared.entry.Entry.{Entry}
pub use Rattle.sv_servlet.specs.Filter.{FilterKeeps}
pub use Rattle.sv_servlet.specs.declared.servlet.Phase.{Phase}
pub use Rattle.sv_servlet.specs.declared.servlet.Phase.TheVariants.{New}
pub use Rattle.sv_session.specs.Edit.{Edit, begun}
pub use Rattle.sv_session.specs.Expiry.{joined}
pub use Rattle.sv_session.specs.declared.edit.Edited.{Edited}
unfoldable pub use Rattle.sv_target.specs.SessionCookie.{session_cookie}
