-- What the proofs of this crate cite of definitions and types, its own and those of the crates below it, from one place.
pub use Rattle.httparse.proofs.GrammarLemmas.{ReadsRequest-append, request_unique}
pub use Rattle.httparse.proofs.PieceLemmas.{Section_skip}
pub use Rattle.httparse.specs.Grammar.{ChunkLine, HasNoChunkLine, HasNoRequest, HasNoSection, IsField, IsRequestHead, LineEnd, NeverHasRequest, ReadsRequest}
pub use Rattle.httparse.specs.Grammar.{RequestHead, chunk_size, crlf, lf, print_end, print_field, print_section}
unfoldable pub use Rattle.httparse.specs.Grammar.{print_chunk_line, print_request}
pub use Rattle.httparse.specs.Spans.{RequestExceeds, SectionExceeds, header_bytes, name_and_value}
pub use Rattle.httparse.specs.declared.spans.HeaderSpan.{HeaderSpan}
pub use Rattle.std.proofs.Common.{Bool, List, [], ap, arith, drop, false, get_or, inl, inr, length, map, min, refl, rules, subst, suc, sym, take, take_all}
pub use Rattle.std.proofs.Common.{tests, true, zero, ℕ, ◌++◌, ◌+◌, ◌-◌, ◌<◌, ◌∙◌, ◌∷◌, ◌≡◌, ◌≢◌, ◌≤◌, ◌⊎◌}
pub use Rattle.std.proofs.Math.Seq.{drop-append_seam, take-append-add, take-append_seam}
pub use Rattle.std.proofs.lemmas.Iterator.Splits.{YieldsList-from_slice_split}
pub use Rattle.std.proofs.lemmas.List.{append-nil, append_assoc, drop-append-le, drop-drop, get_or-map, length-append, length-map, length-take, nil_from_length}
pub use Rattle.std.proofs.lemmas.List.{take-append-drop, take-take}
pub use Rattle.std.proofs.lemmas.List.Elements.{All-head, All-tail}
pub use Rattle.std.proofs.lemmas.Result.{err_from_is_err_and}
pub use Rattle.std.specs.List.{flat_map, list_any}
pub use Rattle.std.specs.Prelude.{All, Any, Err, IsTrue, IsUtf8, None, Ok, Result, Some, count_by, fold, if◌then◌else◌, slice_index, ◌==◌}
pub use Rattle.sv_message.specs.Calls.{BeginsNoMessage}
pub use Rattle.sv_message.specs.Chunked.{Chunk, HasLine, HasLongTrailer, IsBadPlace, IsBadTrailer, IsChunk, IsOpenPlace, IsOpenTrailer, IsTooMuch, LacksEnd}
pub use Rattle.sv_message.specs.Chunked.{Leads, content_of, print_chunk, print_chunks}
unfoldable pub use Rattle.sv_message.specs.Coding.{is_coding}
pub use Rattle.sv_message.specs.Fault.{HasFaultyBody, HasFaultyFields, HasNoMessage, IsBadHead, IsFaultAt, IsHeadTooLong, IsOpenBody}
pub use Rattle.sv_message.specs.Found.{FindsFault, FindsHead, HasMessage, HasRefusedSpan, window}
pub use Rattle.sv_message.specs.Framing.{framing_of}
pub use Rattle.sv_message.specs.Head.{BeginsHead, HasRefusedField, IsRefused, fields_of, kept_field}
pub use Rattle.sv_message.specs.Length.{declared_length, number}
unfoldable pub use Rattle.sv_message.specs.Length.{is_length}
pub use Rattle.sv_message.specs.Message.{BeginsBody, IsBody, IsMessage, request_of}
pub use Rattle.sv_message.specs.Partial.{InBody, IsPartial}
pub use Rattle.sv_message.specs.Pieces.{FindsLine, FindsTrailer, IsTrailer}
pub use Rattle.sv_message.specs.Reader.{Reads, closes_stream}
pub use Rattle.sv_message.specs.Response.{field_line}
pub use Rattle.sv_message.specs.Stream.{Stream}
pub use Rattle.sv_message.specs.declared.body.Part.{Part}
pub use Rattle.sv_message.specs.declared.body.Part.TheVariants.{Line, Missing}
pub use Rattle.sv_message.specs.declared.fault.ReadFault.{ReadFault}
pub use Rattle.sv_message.specs.declared.fault.ReadFault.TheVariants.{BadFraming, BadHead, BadHost, BodyTooLong, Closed, Coding, Expectation, HeadTooLong}
pub use Rattle.sv_message.specs.declared.fault.ReadFault.TheVariants.{Memory}
pub use Rattle.sv_message.specs.declared.framing.Framing.{Framing}
pub use Rattle.sv_message.specs.declared.framing.Framing.TheVariants.{Chunked, Declared}
pub use Rattle.sv_message.specs.declared.head.Head.{Head}
pub use Rattle.sv_message.specs.declared.request.RawRequest.{RawRequest}
pub use Rattle.sv_model.specs.declared.field.Field.{Field}
