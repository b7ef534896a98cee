-- Frames: what is read is spelled so, what is spelled so is read, and what is too short is the front of a payload.
use Rattle.std.proofs.Common.{◌≡◌, ◌⊎◌, inl, inr, ℕ, zero, suc, ◌+◌, ◌-◌, ◌^◌, ◌<◌, ◌≤◌, Bool, true, false, cond, eqb, ltb, List, [], ◌∷◌, ◌++◌, length, take, drop, replicate, Option, Some, None, Result, Ok, Err, refl, sym, ap, subst, ◌∙◌, append_assoc, arith, lit<}
use Rattle.std.specs.Prelude.{◌||◌, IfOk, IfSome, IfNone}
use Rattle.std.specs.Int.{w8, w32, to_be_bytes, from_be_bytes}
use Rattle.std.proofs.lemmas.Bool.{cases_lt, ltb-false, le-ltb, lt-ltb, ltb-true, eqb-true}
use Rattle.std.proofs.lemmas.List.{append-nil, nil_from_length, take_at, drop_at, take-append-drop, take-append-le, drop-append-le, length-append, length-take, length-replicate}
use Rattle.sv_record.proofs.Prelude.{Key, RecordFault, Foreign, BadField, Frame, Peer, Move, Tick, Halt, ◌>>=◌, Reading, Gives, number_at, ended, nothing, pair}
use Rattle.sv_record.proofs.Prelude.{long, counting, node, key, Version, Two, IsFrame}
use Rattle.sv_record.specs.declared.frame.TheConstants.{PEER, CONTROL, PAYLOAD_LIMIT}
use Rattle.sv_record.specs.Packet as packet
use Rattle.sv_record.specs.Frame.{envelope, first_of, payload_by, spelling_by, HasSpellingBy, IsSpelling, command_by_kind, command_at, payload_at, so_many_at, sized_at, taken_at, frame_at, IsFront}
use Rattle.sv_record.proofs.FormatLaws.{AreBytes, AreBytes-take, AreBytes-drop, bind_ok, guard_ok, held_ok, chosen, ok_is, Lawful, number_lawful, nothing_lawful, pair_lawful, wide8, wide32, TakesByKind, kind_takes, no_kind_takes}
use Rattle.sv_record.proofs.FieldLaws.{node_lawful, key_lawful}
use Rattle.sv_record.proofs.KindLaws.{packet_lawful}
use Rattle.sv_record.proofs.RangeLemmas.{frame_range}
use Rattle.sv_record.proofs.SizeLemmas.{packet_size}
use Rattle.sv_record.proofs.WholeLaws.{ended_ok, whole_takes, whole_again}

-- ---- payloads

-- the kind of a command, and a kind that no command has for a packet
abbrev command_of : Frame → ℕ
command_of (Peer p) = 0
command_of (Move k to) = 1
command_of Tick = 2
command_of Halt = 3

-- what stands after the kind of a command
abbrev command_fields : Frame → List ℕ
command_fields (Peer p) = []
command_fields (Move k to) = (pair key node).text (k, to)
command_fields Tick = []
command_fields Halt = []

-- a command that has a spelling
abbrev IsCommand : Frame → Type 0
IsCommand (Peer p) = ⊥
IsCommand (Move k to) = (pair key node).Fits (k, to)
IsCommand Tick = Unit {0}
IsCommand Halt = Unit {0}

move_lawful : Lawful (pair key node)
move_lawful = pair_lawful key node key_lawful node_lawful

command_takes : TakesByKind command_of command_fields IsCommand command_by_kind
command_takes =
    kind_takes command_of command_fields IsCommand 1 (pair key node) (λ x. Move x.0 x.1) _ move_lawful (λ b. (refl, refl, λ fits. fits)) (
    kind_takes command_of command_fields IsCommand 2 nothing (λ _. Tick) _ nothing_lawful (λ b. (refl, refl, λ fits. fits)) (
    kind_takes command_of command_fields IsCommand 3 nothing (λ _. Halt) _ nothing_lawful (λ b. (refl, refl, λ fits. fits)) (
    no_kind_takes command_of command_fields IsCommand Foreign)))

-- what was read of a payload after this first byte
record IsPayload (first : ℕ) (payload : List ℕ) (frame : Frame) : Type 0 where
  version : Version
  has : HasSpellingBy version frame
  known : first_of frame ≡ first
  is : payload ≡ payload_by version frame

a_command : (payload : List ℕ) (frame : Frame) → IsCommand frame → payload ≡ command_of frame ∷ command_fields frame → IsPayload CONTROL payload frame
a_command payload (Peer p) is e = absurd is
a_command payload (Move k to) is e = record { version = Two; has = is; known = refl; is = e }
a_command payload Tick is e = record { version = Two; has = is; known = refl; is = e }
a_command payload Halt is e = record { version = Two; has = is; known = refl; is = e }

command_at_takes : (payload : List ℕ) (frame : Frame) → AreBytes payload → command_at payload ≡ Ok frame → IsPayload CONTROL payload frame
unfolding command_at
command_at_takes payload frame fits e =
    let k = bind_ok (number_at w8 payload) (λ kind. command_by_kind kind.0 kind.1 >>= ended) frame e in
    let x = bind_ok (command_by_kind k.0.0 k.0.1) ended frame k.2 in
    let z = ended_ok x.0 frame x.2 in
    let t = (number_lawful w8 wide8).takes payload k.0 fits k.1 in
    let u = command_takes k.0.0 k.0.1 x.0 t.0.rest_fits x.1 in
    let kind : to_be_bytes w8 k.0.0 ≡ command_of x.0.0 ∷ [] = subst (λ (n : ℕ). to_be_bytes w8 n ≡ command_of x.0.0 ∷ []) u.1 (command_byte x.0.0) in
    let text : payload ≡ command_of x.0.0 ∷ command_fields x.0.0 =
    t.0.parts ∙ ap (λ (l : List ℕ). l ++ k.0.1) kind ∙ ap (λ (l : List ℕ). command_of x.0.0 ∷ l) (u.0.parts ∙ ap (λ (l : List ℕ). command_fields x.0.0 ++ l) z.1 ∙ append-nil (command_fields x.0.0)) in
    subst (IsPayload CONTROL payload) z.0 (a_command payload x.0.0 u.2 text)
  where
    command_byte : (frame : Frame) → to_be_bytes w8 (command_of frame) ≡ command_of frame ∷ []
    command_byte (Peer p) = refl
    command_byte (Move k to) = refl
    command_byte Tick = refl
    command_byte Halt = refl

payload_takes : (first : ℕ) (payload : List ℕ) (frame : Frame) → AreBytes payload → (first ≡ PEER) ⊎ (first ≡ CONTROL) → payload_at first payload ≡ Ok frame → IsPayload first payload frame
unfolding payload_at
payload_takes first payload frame fits known e =
    elim (chosen (eqb first PEER) (packet.packet_of payload >>= λ p. Ok (Peer p)) (command_at payload) (Ok frame) e) [
      | inl peer ↦
          let p = bind_ok (packet.packet_of payload) (λ p. Ok (Peer p)) frame peer.1 in
          let t = whole_takes packet.packet_format packet_lawful payload p.0 fits p.1 in
          let is : first ≡ PEER = eqb-true first PEER peer.0 in
          let made : IsPayload first payload (Peer p.0) = record { version = t.version; has = t.has; known = sym is; is = t.is } in
          subst (IsPayload first payload) (ok_is (Peer p.0) frame p.2) made
      | inr control ↦ elim known [
        | inl is ↦ let both : true ≡ false = subst (λ (n : ℕ). eqb n PEER ≡ false) is control.0 in absurd cc
        | inr is ↦ subst (λ (n : ℕ). IsPayload n payload frame) (sym is) (command_at_takes payload frame fits control.1)
      ]
    ]

abbrev moved : (Key × ℕ) × List ℕ → Reading Frame
moved x = Ok (Move x.0.0 x.0.1, x.1)

command_again : (frame : Frame) → IsCommand frame → command_at (command_of frame ∷ command_fields frame) ≡ Ok frame
unfolding command_at
command_again (Peer p) is = absurd is
command_again (Move k to) is =
    let text = (pair key node).text (k, to) in
    let kind : number_at w8 (1 ∷ text) ≡ Ok (1, text) = (number_lawful w8 wide8).again 1 text (lit< tt) in
    let read : (pair key node).read text ≡ Ok ((k, to), []) = ap (pair key node).read (sym (append-nil text)) ∙ move_lawful.again (k, to) [] is in
    ap (λ (r : Reading ℕ). r >>= λ kind. command_by_kind kind.0 kind.1 >>= ended) kind
    ∙ ap (λ (r : Reading (Key × ℕ)). (r >>= λ x. moved x) >>= ended) read
command_again Tick is = refl
command_again Halt is = refl

payload_again : (v : Version) (frame : Frame) → HasSpellingBy v frame → payload_at (first_of frame) (payload_by v frame) ≡ Ok frame
unfolding payload_at
payload_again v (Peer p) fits = ap (λ (r : Result _ RecordFault). r >>= λ p. Ok (Peer p)) (whole_again packet.packet_format packet_lawful v p fits)
payload_again v (Move k to) fits = command_again (Move k to) fits
payload_again v Tick fits = command_again Tick fits
payload_again v Halt fits = command_again Halt fits

-- ---- lengths

abbrev Payload : Type 0
Payload = Result (Option (List ℕ)) RecordFault

abbrev whole_payload : List ℕ → Payload
whole_payload payload = Ok (Some payload)

abbrev the_none : Payload
the_none = Ok None

some_is : (a b : List ℕ) → whole_payload a ≡ whole_payload b → a ≡ b
some_is a b e = cc

-- what stands after the first byte of a frame
sized_takes : (bytes payload : List ℕ) → AreBytes bytes → sized_at bytes ≡ Ok (Some payload)
    → ((rest : List ℕ) × (bytes ≡ to_be_bytes w32 (length payload) ++ (payload ++ rest))) × AreBytes payload × (length payload ≤ PAYLOAD_LIMIT)
unfolding sized_at
sized_takes bytes payload fits e =
    let n = from_be_bytes w32 (take 4 bytes) in
    elim (chosen (ltb (length bytes) 4) the_none (so_many_at n (drop 4 bytes)) (Ok (Some payload)) e) [
      | inl few ↦ absurd cc
      | inr enough ↦
          let small = guard_ok (ltb PAYLOAD_LIMIT n) BadField (cond (ltb (length (drop 4 bytes)) n) the_none (whole_payload (take n (drop 4 bytes)))) (Some payload) enough.1 in
          elim (chosen (ltb (length (drop 4 bytes)) n) the_none (whole_payload (take n (drop 4 bytes))) (Ok (Some payload)) small.1) [
            | inl few ↦ absurd cc
            | inr there ↦
                let long : 4 ≤ length bytes = ltb-false _ _ enough.0 in
                let within : n ≤ PAYLOAD_LIMIT = ltb-false _ _ small.0 in
                let all : n ≤ length (drop 4 bytes) = ltb-false _ _ there.0 in
                let front : to_be_bytes w32 n ≡ take 4 bytes = wide32.back (take 4 bytes) (omega (arith, length-take 4 bytes)) (AreBytes-take 4 bytes fits) in
                let len : length (take n (drop 4 bytes)) ≡ n = omega (arith, length-take n (drop 4 bytes)) in
                let parts : bytes ≡ to_be_bytes w32 n ++ (take n (drop 4 bytes) ++ drop n (drop 4 bytes)) =
                sym (take-append-drop 4 bytes) ∙ ap (λ (l : List ℕ). l ++ drop 4 bytes) (sym front) ∙ ap (λ (l : List ℕ). to_be_bytes w32 n ++ l) (sym (take-append-drop n (drop 4 bytes))) in
                let sized : bytes ≡ to_be_bytes w32 (length (take n (drop 4 bytes))) ++ (take n (drop 4 bytes) ++ drop n (drop 4 bytes)) =
                subst (λ (k : ℕ). bytes ≡ to_be_bytes w32 k ++ (take n (drop 4 bytes) ++ drop n (drop 4 bytes))) (sym len) parts in
                let least : length (take n (drop 4 bytes)) ≤ PAYLOAD_LIMIT = omega arith in
                subst (λ (p : List ℕ). ((rest : List ℕ) × (bytes ≡ to_be_bytes w32 (length p) ++ (p ++ rest))) × AreBytes p × (length p ≤ PAYLOAD_LIMIT)) (some_is (take n (drop 4 bytes)) payload there.1)
                (((drop n (drop 4 bytes), sized), AreBytes-take n (drop 4 bytes) (AreBytes-drop 4 bytes fits), least))
          ]
    ]

sized_again : (payload rest : List ℕ) → length payload ≤ PAYLOAD_LIMIT → sized_at (to_be_bytes w32 (length payload) ++ (payload ++ rest)) ≡ Ok (Some payload)
unfolding sized_at
sized_again payload rest small =
    let n = length payload in
    let len : length (to_be_bytes w32 n) ≡ 4 = wide32.len n in
    let bytes = to_be_bytes w32 n ++ (payload ++ rest) in
    let long : ltb (length bytes) 4 ≡ false = le-ltb _ _ (omega (arith, length-append (to_be_bytes w32 n) (payload ++ rest))) in
    let number : from_be_bytes w32 (take 4 bytes) ≡ n = ap (from_be_bytes w32) (take_at (to_be_bytes w32 n) (payload ++ rest) 4 len) ∙ wide32.again n (omega arith) in
    let tail : drop 4 bytes ≡ payload ++ rest = drop_at (to_be_bytes w32 n) (payload ++ rest) 4 len in
    let within : ltb PAYLOAD_LIMIT n ≡ false = le-ltb _ _ small in
    let all : ltb (length (payload ++ rest)) n ≡ false = le-ltb _ _ (omega (arith, length-append payload rest)) in
    let there : so_many_at n (payload ++ rest) ≡ Ok (Some payload) = rw (within, all, take_at payload rest n refl) refl in
    ap (λ (b : Bool). cond b (the_none) (so_many_at (from_be_bytes w32 (take 4 bytes)) (drop 4 bytes))) long
    ∙ ap (λ (k : ℕ). so_many_at k (drop 4 bytes)) number ∙ ap (so_many_at n) tail ∙ there

-- ---- frames

pub payload_small : (v : Version) (frame : Frame) → HasSpellingBy v frame → length (payload_by v frame) ≤ PAYLOAD_LIMIT
unfolding key node long counting
payload_small v (Peer p) fits = packet_size v p fits
payload_small v (Move k to) fits = omega arith
payload_small v Tick fits = omega arith
payload_small v Halt fits = omega arith

known_by : (a b : Bool) → (a || b) ≡ true → (a ≡ true) ⊎ (b ≡ true)
known_by true b e = inl refl
known_by false b e = inr e

is_known : (frame : Frame) → (eqb (first_of frame) PEER || eqb (first_of frame) CONTROL) ≡ true
is_known (Peer p) = refl
is_known (Move k to) = refl
is_known Tick = refl
is_known Halt = refl

abbrev Found : Type 0
Found = Result (Option (Frame × ℕ)) RecordFault

abbrev found_frame : Frame × ℕ → Found
found_frame found = Ok (Some found)

found_is : (a b : Frame × ℕ) → found_frame a ≡ found_frame b → a ≡ b
found_is a b e = cc

-- what a frame that was read is
pub record IsFrameOf (bytes : List ℕ) (found : Frame × ℕ) : Type 0 where
  pub version : Version
  pub has : HasSpellingBy version found.0
  pub rest : List ℕ
  pub parts : bytes ≡ spelling_by version found.0 ++ rest
  pub size : found.1 ≡ length (spelling_by version found.0)

pub frame_takes : (bytes : List ℕ) (found : Frame × ℕ) → AreBytes bytes → frame_at bytes ≡ Ok (Some found) → IsFrameOf bytes found
unfolding frame_at
frame_takes [] found fits e = absurd cc
frame_takes (first ∷ bytes) found fits e =
    let h = held_ok (eqb first PEER || eqb first CONTROL) Foreign (sized_at bytes >>= taken_at first) (Some found) e in
    let o = bind_ok (sized_at bytes) (taken_at first) (Some found) h.1 in
    from_payload first bytes o.0 found (λ i. fits (suc i)) (known_by (eqb first PEER) (eqb first CONTROL) h.0) o.1 o.2
  where
    from_payload : (first : ℕ) (bytes : List ℕ) (o : Option (List ℕ)) (found : Frame × ℕ) → AreBytes bytes → (eqb first PEER ≡ true) ⊎ (eqb first CONTROL ≡ true) → sized_at bytes ≡ Ok o → taken_at first o ≡ Ok (Some found) → IsFrameOf (first ∷ bytes) found
    from_payload first bytes None found fits known e h = absurd cc
    from_payload first bytes (Some payload) found fits known e h =
        let f = bind_ok (payload_at first payload) (λ frame. found_frame (frame, 5 + length payload)) (Some found) h in
        let t = sized_takes bytes payload fits e in
        let is : (first ≡ PEER) ⊎ (first ≡ CONTROL) = elim known [
          | inl peer ↦ inl (eqb-true first PEER peer)
          | inr control ↦ inr (eqb-true first CONTROL control)
        ] in
        let p = payload_takes first payload f.0 t.1 is f.1 in
        let whole : first ∷ bytes ≡ spelling_by p.version f.0 ++ t.0.0 =
        ap (λ (l : List ℕ). first ∷ l) t.0.1
        ∙ ap (λ (n : ℕ). n ∷ to_be_bytes w32 (length payload) ++ (payload ++ t.0.0)) (sym p.known)
        ∙ ap (λ (l : List ℕ). first_of f.0 ∷ to_be_bytes w32 (length l) ++ (l ++ t.0.0)) p.is in
        let size : 5 + length payload ≡ length (spelling_by p.version f.0) = omega (arith, ap (λ (l : List ℕ). length l) p.is) in
        let made : IsFrameOf (first ∷ bytes) (f.0, 5 + length payload) = record { version = p.version; has = p.has; rest = t.0.0; parts = whole; size = size } in
        subst (IsFrameOf (first ∷ bytes)) (found_is (f.0, 5 + length payload) found f.2) made

pub frame_again : (v : Version) (frame : Frame) (rest : List ℕ) → HasSpellingBy v frame → frame_at (spelling_by v frame ++ rest) ≡ Ok (Some (frame, length (spelling_by v frame)))
unfolding frame_at
frame_again v frame rest fits =
    let payload = payload_by v frame in
    let first = first_of frame in
    let sized : sized_at (to_be_bytes w32 (length payload) ++ (payload ++ rest)) ≡ Ok (Some payload) = sized_again payload rest (payload_small v frame fits) in
    let bad : Found = Err Foreign in
    let size : 5 + length payload ≡ length (spelling_by v frame) = omega arith in
    ap (λ (b : Bool). cond b (sized_at (to_be_bytes w32 (length payload) ++ (payload ++ rest)) >>= taken_at first) bad) (is_known frame)
    ∙ ap (λ (r : Payload). r >>= taken_at first) sized
    ∙ ap (λ (r : Result Frame RecordFault). r >>= λ f. found_frame (f, 5 + length payload)) (payload_again v frame fits)
    ∙ ap (λ (n : ℕ). found_frame (frame, n)) size

pub frame_gives : (frame : Frame) (bytes text rest : List ℕ) → IsSpelling text frame → bytes ≡ text ++ rest → frame_at bytes ≡ Ok (Some (frame, length text))
frame_gives frame bytes text rest spells e =
    let all : bytes ≡ spelling_by spells.version frame ++ rest = e ∙ ap (λ (l : List ℕ). l ++ rest) spells.is in
    ap frame_at all ∙ frame_again spells.version frame rest spells.has ∙ ap (λ (l : List ℕ). found_frame (frame, length l)) (sym spells.is)

-- no frame is a proper prefix of another
pub not_a_prefix : (a b : Frame) (text more rest : List ℕ) → IsSpelling text a → IsSpelling more b → text ++ rest ≡ more → (a ≡ b) × (rest ≡ [])
not_a_prefix a b text more rest first second e =
    let same : found_frame (a, length text) ≡ found_frame (b, length more) =
    sym (frame_gives a more text rest first (sym e)) ∙ frame_gives b more more [] second (sym (append-nil more)) in
    let is = found_is (a, length text) (b, length more) same in
    let size : length text ≡ length more = ap (λ (x : Frame × ℕ). x.1) is in
    let sum : length text + length rest ≡ length more = sym (length-append text rest) ∙ ap (λ (l : List ℕ). length l) e in
    (ap (λ (x : Frame × ℕ). x.0) is, nil_from_length rest (omega arith))

-- ---- too few bytes

AreBytes-append : (a b : List ℕ) → AreBytes a → AreBytes b → AreBytes (a ++ b)
AreBytes-append [] b p q i = q i
AreBytes-append (x ∷ a) b p q zero = p 0
AreBytes-append (x ∷ a) b p q (suc i) = AreBytes-append a b (λ j. p (suc j)) q i

zeros : (n : ℕ) → AreBytes (replicate n 0)
zeros zero i = lit< tt
zeros (suc n) zero = lit< tt
zeros (suc n) (suc i) = zeros n i

-- the length isn't whole: with zeros after it is one of four bytes
no_length : (first : ℕ) (bytes : List ℕ) → AreBytes bytes → (first ≡ PEER) ⊎ (first ≡ CONTROL) → length bytes < 4 → IsFront (first ∷ bytes)
no_length first bytes fits known few =
    let pad : List ℕ = replicate (4 - length bytes) 0 in
    let pad_len : length pad ≡ 4 - length bytes = length-replicate (4 - length bytes) 0 in
    let four = bytes ++ pad in
    let four_len : length four ≡ 4 = omega (arith, length-append bytes pad) in
    let four_fits = AreBytes-append bytes pad fits (zeros (4 - length bytes)) in
    let n = from_be_bytes w32 four in
    let payload : List ℕ = replicate n 0 in
    let len : length payload ≡ n = length-replicate n 0 in
    let back : to_be_bytes w32 n ≡ four = wide32.back four four_len four_fits in
    let below : n < 2 ^ 32 = wide32.below four four_fits in
    record {
      first = first;
      payload = payload;
      missing = pad ++ payload;
      known = known;
      within = λ long. absurd (omega arith);
      short = omega arith;
      some = omega (arith, length-append pad payload);
      front = ap (λ (l : List ℕ). first ∷ l) (sym (append_assoc bytes pad payload) ∙ ap (λ (l : List ℕ). l ++ payload) (sym back) ∙ ap (λ (k : ℕ). to_be_bytes w32 k ++ payload) (sym len));
    }

-- the payload isn't whole: zeros are missing
no_payload : (first : ℕ) (bytes : List ℕ) → AreBytes bytes → (first ≡ PEER) ⊎ (first ≡ CONTROL) → 4 ≤ length bytes
    → from_be_bytes w32 (take 4 bytes) ≤ PAYLOAD_LIMIT → length (drop 4 bytes) < from_be_bytes w32 (take 4 bytes) → IsFront (first ∷ bytes)
no_payload first bytes fits known long small few =
    let n = from_be_bytes w32 (take 4 bytes) in
    let rest = drop 4 bytes in
    let more : List ℕ = replicate (n - length rest) 0 in
    let more_len : length more ≡ n - length rest = length-replicate (n - length rest) 0 in
    let payload = rest ++ more in
    let len : length payload ≡ n = omega (arith, length-append rest more) in
    let back : to_be_bytes w32 n ≡ take 4 bytes = wide32.back (take 4 bytes) (omega (arith, length-take 4 bytes)) (AreBytes-take 4 bytes fits) in
    record {
      first = first;
      payload = payload;
      missing = more;
      known = known;
      within = λ _. omega arith;
      short = omega arith;
      some = omega arith;
      front = ap (λ (l : List ℕ). first ∷ l) (ap (λ (l : List ℕ). l ++ more) (sym (take-append-drop 4 bytes)) ∙ append_assoc (take 4 bytes) rest more
          ∙ ap (λ (l : List ℕ). l ++ payload) (sym back) ∙ ap (λ (k : ℕ). to_be_bytes w32 k ++ payload) (sym len));
    }

abbrev none_found : Found
none_found = Ok None

sized_none : (first : ℕ) (bytes : List ℕ) → AreBytes bytes → (first ≡ PEER) ⊎ (first ≡ CONTROL) → sized_at bytes ≡ Ok None → IsFront (first ∷ bytes)
unfolding sized_at
sized_none first bytes fits known e =
    let n = from_be_bytes w32 (take 4 bytes) in
    elim (chosen (ltb (length bytes) 4) the_none (so_many_at n (drop 4 bytes)) (Ok None) e) [
      | inl few ↦ no_length first bytes fits known (ltb-true _ _ few.0)
      | inr enough ↦
          let small = guard_ok (ltb PAYLOAD_LIMIT n) BadField (cond (ltb (length (drop 4 bytes)) n) the_none (whole_payload (take n (drop 4 bytes)))) None enough.1 in
          elim (chosen (ltb (length (drop 4 bytes)) n) the_none (whole_payload (take n (drop 4 bytes))) (Ok None) small.1) [
            | inl few ↦ no_payload first bytes fits known (ltb-false _ _ enough.0) (ltb-false _ _ small.0) (ltb-true _ _ few.0)
            | inr there ↦ absurd cc
          ]
    ]

pub none_is_front : (bytes : List ℕ) → AreBytes bytes → frame_at bytes ≡ Ok None → IsFront bytes
unfolding frame_at
none_is_front [] fits e = record {
  first = PEER;
  payload = [];
  missing = envelope PEER [];
  known = inl refl;
  within = λ long. absurd (omega arith);
  short = lit< tt;
  some = lit< tt;
  front = refl;
}
none_is_front (first ∷ bytes) fits e =
    let h = held_ok (eqb first PEER || eqb first CONTROL) Foreign (sized_at bytes >>= taken_at first) None e in
    let o = bind_ok (sized_at bytes) (taken_at first) None h.1 in
    let is : (first ≡ PEER) ⊎ (first ≡ CONTROL) = elim (known_by (eqb first PEER) (eqb first CONTROL) h.0) [
      | inl peer ↦ inl (eqb-true first PEER peer)
      | inr control ↦ inr (eqb-true first CONTROL control)
    ] in
    from_none first bytes o.0 (λ i. fits (suc i)) is o.1 o.2
  where
    from_none : (first : ℕ) (bytes : List ℕ) (o : Option (List ℕ)) → AreBytes bytes → (first ≡ PEER) ⊎ (first ≡ CONTROL) → sized_at bytes ≡ Ok o → taken_at first o ≡ Ok None → IsFront (first ∷ bytes)
    from_none first bytes None fits known e h = sized_none first bytes fits known e
    from_none first bytes (Some payload) fits known e h =
        let f = bind_ok (payload_at first payload) (λ frame. found_frame (frame, 5 + length payload)) None h in
        absurd (some_none (f.0, 5 + length payload) f.2)
      where
        some_none : (found : Frame × ℕ) → found_frame found ≡ none_found → ⊥
        some_none found e = absurd cc

-- the length is whole, and the payload that it says is not
sized_short : (bytes missing payload : List ℕ) → 4 ≤ length bytes → 0 < length missing → length payload ≤ PAYLOAD_LIMIT → length payload < 2 ^ 32
    → bytes ++ missing ≡ to_be_bytes w32 (length payload) ++ payload → sized_at bytes ≡ Ok None
unfolding sized_at
sized_short bytes missing payload long some within short e =
    let n = length payload in
    let len : length (to_be_bytes w32 n) ≡ 4 = wide32.len n in
    let front : take 4 bytes ≡ to_be_bytes w32 n = sym (take-append-le 4 bytes missing long) ∙ ap (take 4) e ∙ take_at (to_be_bytes w32 n) payload 4 len in
    let tail : drop 4 bytes ++ missing ≡ payload = sym (drop-append-le 4 bytes missing long) ∙ ap (drop 4) e ∙ drop_at (to_be_bytes w32 n) payload 4 len in
    let number : from_be_bytes w32 (take 4 bytes) ≡ n = ap (from_be_bytes w32) front ∙ wide32.again n short in
    let sum : length (drop 4 bytes) + length missing ≡ n = sym (length-append (drop 4 bytes) missing) ∙ ap (λ (l : List ℕ). length l) tail in
    let enough : ltb (length bytes) 4 ≡ false = le-ltb _ _ long in
    let small : ltb PAYLOAD_LIMIT n ≡ false = le-ltb _ _ within in
    let few : ltb (length (drop 4 bytes)) n ≡ true = lt-ltb _ _ (omega arith) in
    let there : so_many_at n (drop 4 bytes) ≡ Ok None = rw (small, few) refl in
    ap (λ (b : Bool). cond b the_none (so_many_at (from_be_bytes w32 (take 4 bytes)) (drop 4 bytes))) enough
    ∙ ap (λ (k : ℕ). so_many_at k (drop 4 bytes)) number ∙ there

-- the length isn't whole
few_none : (bytes : List ℕ) → length bytes < 4 → sized_at bytes ≡ Ok None
unfolding sized_at
few_none bytes few = rw (lt-ltb _ _ few) refl

pub front_is_none : (bytes : List ℕ) → IsFront bytes → frame_at bytes ≡ Ok None
unfolding frame_at
front_is_none [] is = refl
front_is_none (first ∷ bytes) is =
    let cells = cons_parts first is.first (bytes ++ is.missing) (to_be_bytes w32 (length is.payload) ++ is.payload) is.front in
    let test : (eqb first PEER || eqb first CONTROL) ≡ true = elim is.known [
      | inl peer ↦ subst (λ (n : ℕ). (eqb n PEER || eqb n CONTROL) ≡ true) (sym (cells.0 ∙ peer)) refl
      | inr control ↦ subst (λ (n : ℕ). (eqb n PEER || eqb n CONTROL) ≡ true) (sym (cells.0 ∙ control)) refl
    ] in
    let bad : Found = Err Foreign in
    let sized : sized_at bytes ≡ Ok None = elim (cases_lt (length bytes) 4) [
      | inl few ↦ few_none bytes few
      | inr long ↦ sized_short bytes is.missing is.payload long is.some (is.within (omega arith)) is.short cells.1
    ] in
    ap (λ (b : Bool). cond b (sized_at bytes >>= taken_at first) bad) test
    ∙ ap (λ (r : Payload). r >>= taken_at first) sized
  where
    cons_parts : (a b : ℕ) (xs ys : List ℕ) → a ∷ xs ≡ b ∷ ys → (a ≡ b) × (xs ≡ ys)
    cons_parts a b xs ys e = (cc, cc)

-- ---- what a function gave

module _ (bytes : List ℕ) where
  pub frame_found : (result : Found) → AreBytes bytes → Gives (λ x. x) result (frame_at bytes) → IfOk result (λ o. IfSome o (λ x. IsSpelling (take x.1 bytes) x.0))
  frame_found (Ok None) fits gives = tt
  frame_found (Ok (Some x)) fits gives =
      let t = frame_takes bytes x fits gives in
      let text = spelling_by t.version x.0 in
      let is : take x.1 bytes ≡ text = ap (take x.1) t.parts ∙ take_at text t.rest x.1 (sym t.size) in
      record { version = t.version; has = t.has; is = is }
  frame_found (Err fault) fits gives = tt

  pub frame_sized : (result : Found) → AreBytes bytes → Gives (λ x. x) result (frame_at bytes) → IfOk result (λ o. IfSome o (λ x. x.1 ≤ length bytes))
  frame_sized (Ok None) fits gives = tt
  frame_sized (Ok (Some x)) fits gives =
      let t = frame_takes bytes x fits gives in
      let sum : length bytes ≡ length (spelling_by t.version x.0) + length t.rest = ap (λ (l : List ℕ). length l) t.parts ∙ length-append (spelling_by t.version x.0) t.rest in
      omega (arith, sum, t.size)
  frame_sized (Err fault) fits gives = tt

  pub frame_none : (result : Found) → AreBytes bytes → Gives (λ x. x) result (frame_at bytes) → IfOk result (λ o. IfNone o (IsFront bytes))
  frame_none (Ok None) fits gives = none_is_front bytes fits gives
  frame_none (Ok (Some x)) fits gives = tt
  frame_none (Err fault) fits gives = tt

  pub frame_within : (result : Found) → AreBytes bytes → Gives (λ x. x) result (frame_at bytes) → IfOk result (λ o. IfSome o (λ x. IsFrame x.0))
  frame_within (Ok None) fits gives = tt
  frame_within (Ok (Some x)) fits gives = let t = frame_takes bytes x fits gives in frame_range t.version x.0 t.has
  frame_within (Err fault) fits gives = tt
