use Rattle.std.proofs.Common.{◌≡◌, ◌≤◌, ◌+◌, ◌<◌, ◌-◌, ◌++◌, ◌∷◌, [], List, ℕ, Vec, Global, length, take, drop, min, refl, ap, ◌∙◌, arith}
use Rattle.std.proofs.lemmas.List.{map_push, take_rest}
use Rattle.sv_journal.specs.Format.{IsHead, payloads}
use Rattle.sv_journal.proofs.ReadingLemmas.{piece_stuck, piece_shut, piece_on, piece_left, rest_of_rest, whole_part}
use Rattle.sv_journal.proofs.reading.gather.Goals.{else-rest-head+else-rest-remaining, in_ok-count+in-Some+then-size-rest, then-rest-head, else-rest-head+then-rest-remaining}
use Rattle.sv_journal.proofs.reading.gather.Goals as goal

pub loop-rest-init : goal.loop-rest-init
loop-rest-init c = record { within = omega arith; same = refl; part = whole_part c.args.piece.now; begins = λ bytes more b. b }

pub payload_len-requires-clause-within : goal.payload_len-requires-clause-within
payload_len-requires-clause-within c = omega (arith, c.loop-rest.invariant.same, c.requires.within)

pub returns-in_err-count-clause-damaged : goal.returns-in_err-count-clause-damaged
returns-in_err-count-clause-damaged c = λ e bytes more size b.
    let i = c.loop-rest.invariant in
    let r = c.loop-rest.rest.now in
    let enough : min 5 c.loop-rest.remaining ≤ length r = elim c.if-rest-head.branch [ then-rest-head w ↦ omega arith | else-rest-head+then-rest-remaining w ↦ omega arith ] in
    piece_stuck c.args.piece.now r c.args.left c.loop-rest.remaining (payloads c.args.entries.now.items) (payloads c.loop-rest.entries.items) i.same i.begins (c.in_err-count.ensures.damaged refl) enough bytes more size b

pub returns-in_default-clause-gathers : goal.returns-in_default-clause-gathers
returns-in_default-clause-gathers c =
    let i = c.loop-rest.invariant in
    piece_shut c.args.piece.now c.loop-rest.rest.now c.args.left c.loop-rest.remaining (payloads c.args.entries.now.items) (payloads c.loop-rest.entries.items) i.same i.begins (rw c.in_default.is at c.in_ok-count.ensures.closed)

pub loop-rest-smaller : goal.loop-rest-smaller
loop-rest-smaller c = omega arith

pub loop-rest-preserved : goal.loop-rest-preserved
loop-rest-preserved c =
    let i = c.loop-rest.invariant in
    let r = c.loop-rest.rest.now in
    let n = c.in-Some.count in
    let sofar = payloads c.loop-rest.entries.items in
    let found : IsHead r n × (n ≤ 524288) × (5 + n ≤ c.loop-rest.remaining) = rw c.in-Some.is at c.in_ok-count.ensures.entry in
    let room : 5 + n ≤ length r = omega arith in
    let p = c.split_at.result.0.now in
    let next = c.split_at.result.1.now in
    let p_is : p ≡ take n (drop 5 r) = c.split_at.ensures.front ∙ ap (λ (l : List ℕ). take n l) (take_rest r 5) in
    let next_is : next ≡ drop n (drop 5 r) = c.split_at.ensures.back ∙ ap (λ (l : List ℕ). drop n l) (take_rest r 5) in
    let grown : payloads c.push.new.self.items ≡ sofar ++ p ∷ [] = ap payloads c.in_ok-push.ensures.items ∙ map_push (λ (v : Vec ℕ Global). v.items) c.loop-rest.entries.items c.in_ok-from_slice.field-0 ∙ ap (λ (q : List ℕ). sofar ++ q ∷ []) c.in_ok-from_slice.ensures.items in
    record {
      within = omega (arith, i.within);
      same = omega (arith, i.same, i.within, room);
      part = rest_of_rest c.args.piece.now r next n i.within room i.part next_is;
      begins = piece_on c.args.piece.now r c.args.left c.loop-rest.remaining (payloads c.args.entries.now.items) sofar i.same i.begins n p next (payloads c.push.new.self.items) found.0 found.1 room p_is next_is grown;
    }

pub overflow_sub-result : goal.overflow_sub-result
overflow_sub-result c = c.loop-rest.invariant.within

pub returns-clause-gathers : goal.returns-clause-gathers
returns-clause-gathers c =
    let i = c.loop-rest.invariant in
    let taken : 0 < length c.args.piece.now - length c.loop-rest.rest.now =
    elim c.if-rest-head.branch [
      | else-rest-head+else-rest-remaining w ↦ omega (arith, i.same, i.within, c.requires.enough)
      | in_ok-count+in-Some+then-size-rest w ↦
          let found : IsHead c.loop-rest.rest.now w.in-Some.count × (w.in-Some.count ≤ 524288) × (5 + w.in-Some.count ≤ c.loop-rest.remaining) = rw w.in-Some.is at w.in_ok-count.ensures.entry in
          omega (arith, i.same, i.within, c.requires.enough, found.1, found.2)
    ] in (
      taken,
      omega arith,
      piece_left c.args.piece.now c.loop-rest.rest.now c.args.left c.loop-rest.remaining (payloads c.args.entries.now.items) (payloads c.loop-rest.entries.items) i.same i.begins i.part,
    )
