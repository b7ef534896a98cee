-- What the proofs of this crate cite of definitions and types, its own and those of the crates below it, from one place.
pub use Rattle.std.proofs.Common.{BTreeMap, Bor, Global, List, String, [], ap, append_assoc, arith, bytes_eq, cond, drop, get_or, length, map, refl, take, true}
pub use Rattle.std.proofs.Common.{ℕ, ◌++◌, ◌+◌, ◌<◌, ◌∙◌, ◌∷◌, ◌≡◌}
pub use Rattle.std.proofs.lemmas.List.{drop_more, map-append}
pub use Rattle.std.specs.BTreeSet.{contains}
pub use Rattle.std.specs.Cmp.Lexicographic.{slice_cmp}
pub use Rattle.std.specs.List.{filter_map, flat_map, list_all, list_any}
pub use Rattle.std.specs.Ordering.{eq_by_cmp}
pub use Rattle.std.specs.Prelude.{codes, fold, not, string_bytes, ◌||◌}
pub use Rattle.sv_config.specs.Document.{texts_at}
pub use Rattle.sv_config.specs.Place.{Spot, child, placed, spot}
pub use Rattle.sv_config.specs.Repeats.{repeated, repeated_behind}
pub use Rattle.sv_config.specs.Rules.{rule_of}
pub use Rattle.sv_config.specs.Values.{mapped_from, with_pattern}
pub use Rattle.sv_mapping.specs.Path.{Text}
pub use Rattle.toml.specs.View.{members_view, table_view, view}
pub use Rattle.toml.specs.declared.value.Value.{Value}
