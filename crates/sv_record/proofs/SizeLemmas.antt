-- How many bytes a spelling has.
use Rattle.std.proofs.Common.{◌≡◌, ℕ, ◌+◌, ◌*◌, ◌≤◌, List, [], ◌∷◌, ◌++◌, length, arith}
use Rattle.std.specs.Int.{w16, w32, to_be_bytes}
use Rattle.std.proofs.lemmas.Bool.{ltb-false}
use Rattle.std.proofs.lemmas.List.{length-append}
use Rattle.sv_record.proofs.Prelude.{Session, ATTRIBUTE_LIMIT, SESSION_LIMIT, Packet, Want, Grant, Ack, No, Version, One, Two, session_limit, texts, FitAll}
use Rattle.sv_record.proofs.Prelude.{long, counting, node, key, flag, signed, Attribute, Before, at_first, behind, name, value, attribute, attributes, context}
use Rattle.sv_record.proofs.Prelude.{session, Change, Absent, Alive, Ended, Record, KeyState}
use Rattle.sv_record.specs.Packet as packet
use Rattle.sv_record.specs.Record as record_
use Rattle.sv_record.proofs.RangeLemmas.{limited, session_limit_least}
use Rattle.sv_model.specs.declared.record.Record.TheVariants as rec
use Rattle.sv_model.specs.declared.state.KeyState.TheVariants as kept

attribute_size : (v : Version) (b : Before) (x : Attribute) → length ((attribute v b).text x) ≤ 6 + length x.0 + length x.1
unfolding attribute name value
attribute_size One b x = omega (arith, length-append x.0 (to_be_bytes w16 (length x.1) ++ x.1), length-append (to_be_bytes w16 (length x.0) ++ x.0) (to_be_bytes w16 (length x.1) ++ x.1))
attribute_size Two b x = omega (arith, length-append x.0 (to_be_bytes w32 (length x.1) ++ x.1), length-append (to_be_bytes w16 (length x.0) ++ x.0) (to_be_bytes w32 (length x.1) ++ x.1))

texts_size : (v : Version) (b : Before) (xs : List Attribute) → FitAll (attribute v) behind b xs → b.total ≤ session_limit v → length (texts (attribute v) behind b xs) + b.total ≤ session_limit v + 6 * length xs
texts_size v b [] fits small = omega arith
texts_size v b (x ∷ xs) fits small =
    let more = texts_size v (behind b x) xs fits.1 (limited v b x fits.0).within in
    omega (arith, attribute_size v b x, length-append ((attribute v b).text x) (texts (attribute v) behind (behind b x) xs))

append_size : (a b : List ℕ) (m n : ℕ) → length a ≡ m → length b ≤ n → length (a ++ b) ≤ m + n
append_size a b m n e le = omega (arith, length-append a b)

session_size : (v : Version) (s : Session) → (session v).Fits s → length ((session v).text s) ≤ 40 + SESSION_LIMIT + 6 * ATTRIBUTE_LIMIT
unfolding session context long signed flag attributes
session_size v s fits =
    let named = fits.1.1.1.1.1.1 in
    let few : length s.attributes ≤ ATTRIBUTE_LIMIT = ltb-false _ _ named.1 in
    let size = texts_size v at_first s.attributes named.2 (omega arith) in
    append_size s.secret.0 _ 16 (24 + SESSION_LIMIT + 6 * ATTRIBUTE_LIMIT) fits.0 (omega (arith, few, size, session_limit_least v))

-- a packet is well within the limit of a frame
pub packet_size : (v : Version) (p : Packet) → packet.HasSpellingBy v p → length (packet.spelling_by v p) ≤ 262144
unfolding packet.packet_format key long counting node
packet_size v (Want from to k boot want) fits = omega arith
packet_size v (Grant from to k e s) fits = omega (arith, session_size v s fits.1.1.1)
packet_size v (Ack from to k e) fits = omega arith
packet_size v (No from to k boot want) fits = omega arith

change_size : (v : Version) (x : Change) → (record_.change v).Fits x → length ((record_.change v).text x) ≤ 140000
unfolding record_.change key long counting node
change_size v Absent fits = omega arith
change_size v (Alive k s) fits = omega (arith, session_size v s fits.1)
change_size v (Ended k) fits = omega arith

state_size : (v : Version) (x : KeyState) → (record_.key_state v).Fits x → length ((record_.key_state v).text x) ≤ 140000
unfolding record_.key_state long counting node
state_size v (kept.Active e s) fits = omega (arith, session_size v s fits.1)
state_size v (kept.Sent e s to) fits = omega (arith, session_size v s fits.1.1)
state_size v (kept.Gone e) fits = omega arith
state_size v (kept.Ended e) fits = omega arith

-- a record is well within the limit of an entry
pub record_size : (v : Version) (r : Record) → record_.HasSpellingBy v r → length (record_.spelling_by v r) ≤ 524288
unfolding record_.record_format record_.commit key long counting node
record_size v (rec.Boot b) fits = omega arith
record_size v (rec.Commit named born) fits = omega (arith, change_size v named fits.0.0, change_size v born fits.0.1, length-append ((record_.change v).text named) ((record_.change v).text born))
record_size v (rec.Expired k) fits = omega arith
record_size v (rec.Sent k e to s) fits = omega (arith, session_size v s fits.1.1.1)
record_size v (rec.Taken k e from s) fits = omega (arith, session_size v s fits.1.1.1)
record_size v (rec.Gone k e) fits = omega arith
record_size v (rec.State k s) fits = omega (arith, state_size v s fits.1)
record_size v (rec.Counters b next) fits = omega arith
record_size v (rec.Forgets home b) fits = omega arith
record_size v (rec.Counted home b next) fits = omega arith
