-- What the proofs of this crate cite of definitions and types, its own and those of the crates below it, from one place.
pub use Rattle.hex.specs.Hex.{IsBytes, encode_lower, lower_digits}
pub use Rattle.http_uri.specs.ByteClasses.{index_of, is_path_byte}
pub use Rattle.http_uri.specs.Grammar.{query_of}
pub use Rattle.http_uri.specs.Uri.{Spells}
unfoldable pub use Rattle.percent_encoding.specs.Percent.{percent_decode}
pub use Rattle.std.proofs.Common.{Bool, List, None, Option, Some, [], ap, arith, cond, drop, false, get_or, inl, inr, length, lit<, map, refl, rules}
pub use Rattle.std.proofs.Common.{slice_index, subst, suc, sym, take, tests, true, zero, ℕ, ◌*◌, ◌++◌, ◌+◌, ◌<◌, ◌==◌, ◌^◌, ◌∙◌, ◌∷◌, ◌≡◌, ◌≢◌, ◌≤◌}
pub use Rattle.std.proofs.Math.Seq.{take-length}
pub use Rattle.std.proofs.lemmas.Bool.{and_parts, cases_Bool, cond-true, eqb-true, ltb-true, not-true, or_parts}
pub use Rattle.std.proofs.lemmas.Bool.Decides.{nat_tests}
pub use Rattle.std.proofs.lemmas.Iterator.Search.{all_from_yields_List}
pub use Rattle.std.proofs.lemmas.Iterator.Splits.{YieldsList-from_slice_split}
pub use Rattle.std.proofs.lemmas.List.{append-nil, append_assoc, take_all, take_rest}
pub use Rattle.std.proofs.lemmas.List.Elements.{All-cons, All-nil, All-tail}
pub use Rattle.std.proofs.lemmas.Option.{cond_some, option_and_then_some}
pub use Rattle.std.proofs.lemmas.Result.{IfOk-weaker}
pub use Rattle.std.proofs.lemmas.Slice.Eq.{bytes_eq-Decides}
pub use Rattle.std.proofs.lemmas.Str.Pattern.{strip_prefix_char}
pub use Rattle.std.specs.Borrow.{Bor}
pub use Rattle.std.specs.Cow.{cow_str_bytes}
pub use Rattle.std.specs.Int.{bytes_high_first, from_be_bytes, w64}
pub use Rattle.std.specs.List.{cons_option, filter_map, list_all, list_any, onto_first, position_or_len, slice_split}
pub use Rattle.std.specs.Option.{option_and_then}
pub use Rattle.std.specs.Prelude.{All, IsUtf8, bytes_eq, codes, fold, if◌then◌else◌, is_some, nat_le, nat_lt, not, slice_get, ◌&&◌, ◌||◌}
unfoldable pub use Rattle.sv_model.specs.Blanks.{trim}
pub use Rattle.sv_model.specs.declared.key.Key.{Key}
pub use Rattle.sv_model.specs.declared.key.Secret.{Secret}
pub use Rattle.sv_model.specs.declared.request.Cookie.{Cookie}
pub use Rattle.sv_target.specs.Cookies.{is_equals, is_semicolon, pairs_among}
unfoldable pub use Rattle.sv_target.specs.Cookies.{is_pair, pair_of, pairs_of}
unfoldable pub use Rattle.sv_target.specs.Digits.{bytes_of, spelled_bytes}
pub use Rattle.sv_target.specs.Path.{ends_in_dots, is_plain_byte, is_plain_segment, is_slash, resolved, step}
unfoldable pub use Rattle.sv_target.specs.Path.{canonical_path, segments}
pub use Rattle.sv_target.specs.Segment.{cut, hides_dots, is_percent}
unfoldable pub use Rattle.sv_target.specs.Segment.{are_escapes, has_good_escapes, is_dots, is_good_segment}
pub use Rattle.sv_target.specs.SessionCookie.{IsCookieOf, IsNameable, key_of, names_session, secret_of, session_bytes}
unfoldable pub use Rattle.sv_target.specs.SessionCookie.{cookie_text, session_cookie, session_of_bytes, session_of_cookie}
pub use Rattle.sv_target.specs.Target.{IsBadTarget, IsTarget, common_from, is_refused_byte}
unfoldable pub use Rattle.sv_target.specs.Target.{is_origin_form, target_at, target_within}
pub use Rattle.sv_target.specs.declared.target.Target.{Target}
