-- How many bytes may wait where a reader answers none.
use Rattle.sv_message.proofs.Prelude.{◌≡◌, ℕ, ◌+◌, ◌<◌, ◌≤◌, ◌⊎◌, Bool, true, false, List, [], ◌∷◌, ◌++◌, length, ap, inl, inr, refl, arith, All, Ok, Err}
use Rattle.sv_message.proofs.Prelude.{if◌then◌else◌, All-head, All-tail, print_chunk_line, print_request, Field, BadHost, BadFraming, BodyTooLong, Coding}
use Rattle.sv_message.proofs.Prelude.{Expectation, Framing, Declared, Chunked, fields_of, declared_length, framing_of, Chunk, IsChunk, print_chunk}
use Rattle.sv_message.proofs.Prelude.{print_chunks, content_of, IsOpenPlace, IsOpenBody}
use Rattle.std.proofs.Common.{◌*◌, length-append}
use Rattle.std.proofs.lemmas.Bool.{ltb-false}
use Rattle.sv_message.specs.Calls.{IsBounded}

-- a chunk has at most 256 bytes of its line and two after its content
chunk_short : (c : Chunk) → IsChunk c → length (print_chunk c) ≤ 258 + length c.content
chunk_short c valid =
    omega (arith, valid.line.short, length-append (print_chunk_line c.line) (c.content ++ 13 ∷ 10 ∷ []), length-append c.content (13 ∷ 10 ∷ []))

chunks_short : (cs : List Chunk) → All IsChunk cs → length (print_chunks cs) ≤ 259 * length (content_of cs)
chunks_short [] all = omega arith
chunks_short (c ∷ cs) all =
    let first = All-head IsChunk c cs all in
    omega (
      arith,
      first.some,
      chunk_short c first,
      chunks_short cs (All-tail IsChunk c cs all),
      length-append (print_chunk c) (print_chunks cs),
      length-append c.content (content_of cs),
    )

-- the same of a chunk that more bytes can complete
rest_short : (size : ℕ) (rest : List ℕ) → (length rest ≤ size) ⊎ ((content : List ℕ) × (length content ≡ size) × (rest ≡ content ++ 13 ∷ []))
    → length rest ≤ size + 1
rest_short size rest (inl short) = omega arith
rest_short size rest (inr (content, len, is)) = omega (arith, ap length is, length-append content (13 ∷ []))

-- what stands at a place that more bytes can complete
place_short : (total : ℕ) (place : List ℕ) → total ≤ 65536 → IsOpenPlace total place → length place + total < 73984
place_short total place fits (inl line) = omega (arith, line.short)
place_short total place fits (inr (inl x)) =
    omega (
      arith,
      x.begins.line.short,
      x.fits,
      rest_short _ x.rest x.short,
      ap length x.begins.text_is,
      length-append (print_chunk_line x.line) x.rest,
    )
place_short total place fits (inr (inr (l, rest, has, zero, trailer))) =
    omega (arith, has.line.short, trailer.short, ap length has.text_is, length-append (print_chunk_line l) rest)

-- a declared length is within the limit
declared_of : (a b c d e f : Bool) (m n : ℕ)
    → (if a then Err BadHost else (if b then Err BadFraming else (if c then Err Coding else (if d then Err Expectation
    else (if e then Err BodyTooLong else (if f then Ok Chunked else Ok (Declared m))))))) ≡ Ok (Declared n)
    → (e ≡ false) × (m ≡ n)
declared_of true b c d e f m n is = cc
declared_of false true c d e f m n is = cc
declared_of false false true d e f m n is = cc
declared_of false false false true e f m n is = cc
declared_of false false false false true f m n is = cc
declared_of false false false false false true m n is = cc
declared_of false false false false false false m n is = (refl, cc)

declared_fits : (minor : ℕ) (fields : List Field) (n : ℕ) → framing_of minor fields ≡ Ok (Declared n) → n ≤ 65536
declared_fits minor fields n is =
    let of = declared_of _ _ _ _ _ _ _ n is in
    omega (arith, ltb-false 65536 (declared_length fields) of.0, of.1)

-- less than a body
body_short : (framing : Framing) (minor : ℕ) (fields : List Field) (text : List ℕ) → framing_of minor fields ≡ Ok framing
    → IsOpenBody framing text → length text < 16982272
body_short (Declared n) minor fields text is short = omega (arith, short, declared_fits minor fields n is)
body_short Chunked minor fields text is (content, place, leads, left) =
    omega (
      arith,
      leads.fits,
      place_short (length content) place leads.fits left,
      chunks_short leads.chunks leads.valid,
      ap length leads.text_is,
      ap length leads.content_is,
      length-append (print_chunks leads.chunks) place,
    )

pub bounded : IsBounded
bounded s (inl head) = omega (arith, head.short)
bounded s (inr (h, framing, text, begins, left)) =
    omega (
      arith,
      begins.head.short,
      ap length begins.head.reads.1,
      length-append (print_request h) text,
      body_short framing h.minor (fields_of h) text begins.framed left,
    )
