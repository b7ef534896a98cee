-- What the proofs of this crate cite of definitions and types, its own and those of the crates below it, from one place.
pub use Rattle.std.proofs.Common.{Bool, IfSome, IsNone, IsTrue, List, MatchOption, None, Option, Some, [], ap, append-nil, append_assoc, arith, codes, cond}
pub use Rattle.std.proofs.Common.{drop, eqb, false, get_or, inl, inr, leb, length, length-append, map, not, refl, rules, string_bytes, subst, suc, sym, take}
pub use Rattle.std.proofs.Common.{true, zero, ℕ, ◌&&◌, ◌++◌, ◌+◌, ◌-◌, ◌<◌, ◌||◌, ◌↔◌, ◌∙◌, ◌∷◌, ◌≡◌, ◌≢◌, ◌≤◌, ◌⊎◌}
pub use Rattle.std.proofs.lemmas.Bool.{and_parts, cases_lt, false_from_ne_true, false≢true}
pub use Rattle.std.proofs.lemmas.Bool.Decides.{Decides-eqb, nat_tests}
pub use Rattle.std.proofs.lemmas.List.{drop_more, get_or-drop, take-append-le, take_all}
pub use Rattle.std.proofs.lemmas.Option.{none-some, same_Some}
pub use Rattle.std.proofs.lemmas.Slice.Eq.{bytes_eq-Decides, starts_is}
pub use Rattle.std.proofs.lemmas.Str.{IsCharBoundary-before_ascii, IsCharBoundary-end}
pub use Rattle.std.proofs.lemmas.Str.Pattern.{rfind_char}
pub use Rattle.std.specs.Cmp.{tied_itself}
pub use Rattle.std.specs.Cmp.Lexicographic.{nat_list_cmp_total}
pub use Rattle.std.specs.FinMap.{contains_key, entries-from_sorted, find, from_sorted, get, get-from_sorted, is_sorted, len}
pub use Rattle.std.specs.List.{ends_with, insert, list_all, list_any, starts_with}
pub use Rattle.std.specs.Option.{is_some, option_map}
pub use Rattle.std.specs.Ordering.{is_eq}
pub use Rattle.std.specs.Str.{bytes_eq}
pub use Rattle.std.specs.declared.cmp.Ordering.{Ordering}
pub use Rattle.std.specs.declared.cmp.Ordering.TheVariants.{Equal, Greater, Less}
pub use Rattle.sv_mapping.specs.Chain.{added_where}
pub use Rattle.sv_mapping.specs.Context.{chosen_context}
pub use Rattle.sv_mapping.specs.Dispatcher.{carries}
pub use Rattle.sv_mapping.specs.Filter.{matches_path, names_servlet}
pub use Rattle.sv_mapping.specs.Mappings.{AnswersByRule, IsBestByRule, Table}
pub use Rattle.sv_mapping.specs.Path.{Text, stripped}
unfoldable pub use Rattle.sv_mapping.specs.Path.{extension_of, is_at_or_below}
pub use Rattle.sv_mapping.specs.Pattern.{prefix_of, suffix_of}
unfoldable pub use Rattle.sv_mapping.specs.Pattern.{form_of, is_pattern, matches, rule_of}
pub use Rattle.sv_mapping.specs.Search.{IsGapFor, IsPlaceOf, text_cmp}
pub use Rattle.sv_mapping.specs.ServletMatch.{path_info_by, servlet_path_by}
unfoldable pub use Rattle.sv_mapping.specs.ServletMatch.{mapped_by, shown}
pub use Rattle.sv_mapping.specs.declared.pattern.PatternForm.{PatternForm}
pub use Rattle.sv_mapping.specs.declared.pattern.PatternForm.TheVariants.{ContextRoot, Default, Exact, Extension, Prefix}
pub use Rattle.sv_mapping.specs.declared.servlet_match.Match.{Match}
