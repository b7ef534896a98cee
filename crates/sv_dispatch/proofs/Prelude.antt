-- What the proofs of this crate cite of definitions and types, its own and those of the crates below it, from one place.
pub use Rattle.std.proofs.Common.{All, Bool, Err, IfOk, List, None, Ok, OnOk, Option, Result, Some, [], add-one, ap, arith, cond, drop, drop-cons, false}
pub use Rattle.std.proofs.Common.{get_or, length, option_map, refl, slice_get, subst, suc, sym, true, zero, ℕ, ◌++◌, ◌+◌, ◌-◌, ◌<◌, ◌∙◌, ◌∷◌, ◌≡◌, ◌≤◌}
pub use Rattle.std.proofs.lemmas.Bool.{ltb-false}
pub use Rattle.std.proofs.lemmas.List.{drop_all}
pub use Rattle.std.proofs.lemmas.List.Elements.{All-cons, All-nil, All-pop}
pub use Rattle.std.proofs.lemmas.Option.{get_or_from_slice_get, slice_get-get_or, slice_get-map, slice_get_within}
pub use Rattle.std.proofs.lemmas.Result.{IfOk-weaker}
pub use Rattle.std.specs.Prelude.{IfSome}
pub use Rattle.sv_dispatch.specs.Dispatching.{Begun, Outcome, Table, answered, ask, begun, begun_by, chain_of, closed_by, emptied, entered, holding, let_go}
pub use Rattle.sv_dispatch.specs.Dispatching.{outcome, passes, placed, resumed_by, showing, shown_behind}
unfoldable pub use Rattle.sv_dispatch.specs.Dispatching.{afters, befores, closed, dispatched, performed, resumed, serving, visit_of}
unfoldable pub use Rattle.sv_dispatch.specs.MappedPath.{mapped_path_of}
pub use Rattle.sv_dispatch.specs.Pages.{paged}
unfoldable pub use Rattle.sv_dispatch.specs.Pages.{first_page}
pub use Rattle.sv_dispatch.specs.Rows.{IsReadyAt, Label, Row, after_by, before_by, ready_by, served_by}
unfoldable pub use Rattle.sv_dispatch.specs.Rows.{after_at, before_at, labels_of_rows, name_at, ready_at, rows, served}
pub use Rattle.sv_dispatch.specs.Sight.{Sight, call_of, errored}
pub use Rattle.sv_dispatch.specs.Stack.{IsModeOf, IsOpen, IsRunning, current, need, weight, work}
unfoldable pub use Rattle.sv_dispatch.specs.Stack.{opened, reentered, whole}
pub use Rattle.sv_dispatch.specs.Stages.{lent_of, table_of}
pub use Rattle.sv_dispatch.specs.declared.hosted.Hosted.{Hosted}
pub use Rattle.sv_dispatch.specs.declared.mapped_path.MappedPath.{MappedPath}
pub use Rattle.sv_dispatch.specs.declared.mode.Ending.{Ending}
pub use Rattle.sv_dispatch.specs.declared.mode.Ending.TheVariants.{Abandoned, Failed, Faulted, Finished}
pub use Rattle.sv_dispatch.specs.declared.mode.Frame.{Frame}
pub use Rattle.sv_dispatch.specs.declared.mode.Mode.{Mode}
pub use Rattle.sv_dispatch.specs.declared.mode.Mode.TheVariants.{Enter, Leave}
pub use Rattle.sv_dispatch.specs.declared.mode.Open.{Open}
pub use Rattle.sv_dispatch.specs.declared.visit.Ask.{Ask}
pub use Rattle.sv_dispatch.specs.declared.visit.Visit.{Visit}
pub use Rattle.sv_mapping.specs.declared.dispatcher.Dispatcher.{Dispatcher}
pub use Rattle.sv_mapping.specs.declared.dispatcher.Dispatcher.TheVariants.{Error, Request}
pub use Rattle.sv_servlet.specs.Call.{Asked}
pub use Rattle.sv_servlet.specs.Filter.{Filters}
pub use Rattle.sv_servlet.specs.Reply.{held}
pub use Rattle.sv_servlet.specs.ReplyState.{ReplyState}
pub use Rattle.sv_servlet.specs.Servlet.{Lent, Serves, lent}
pub use Rattle.sv_servlet.specs.declared.filter.Before.{Before}
pub use Rattle.sv_servlet.specs.declared.filter.Before.TheVariants.{Pass, PassWith, Stop}
pub use Rattle.sv_servlet.specs.declared.servlet.Next.{Next}
pub use Rattle.sv_servlet.specs.declared.servlet.Next.TheVariants.{Done, Fault, Forward, Include, SendError}
pub use Rattle.sv_servlet.specs.declared.servlet.Phase.{Phase}
pub use Rattle.sv_servlet.specs.declared.servlet.Phase.TheVariants.{Ready}
