-- A version spells what the newest spells, within its own limits.
use Rattle.std.proofs.Common.{◌≡◌, ℕ, ◌+◌, ◌*◌, ◌<◌, ◌≤◌, ◌^◌, List, [], ◌∷◌, length, arith}
use Rattle.std.specs.Prelude.{◌↔◌, All}
use Rattle.std.specs.Int.{byte_len}
use Rattle.std.specs.List.{AllByRecursion}
use Rattle.std.proofs.lemmas.List.Elements.{All-from_recursion, recursion_from_All}
use Rattle.sv_record.proofs.Prelude.{attributes_size, Session, VALUE_LIMIT, SESSION_LIMIT, KeyState, Change, Absent, Alive, Ended, Record, Packet, Want, Grant}
use Rattle.sv_record.proofs.Prelude.{Ack, No, Version, One, Two, value_width, value_limit, session_limit, FitAll, Attribute, Before, at_first, behind, name}
use Rattle.sv_record.proofs.Prelude.{value, attribute, attributes, session, change, commit, key_state}
use Rattle.sv_model.specs.declared.state.KeyState.TheVariants as kept
use Rattle.sv_model.specs.declared.record.Record.TheVariants as rec
use Rattle.sv_model.proofs.AttributesLemmas.{attributes_size-cons}
use Rattle.sv_record.specs.Record as spec
use Rattle.sv_record.specs.Packet as packet
use Rattle.sv_record.specs.Within.{IsWithin, IsChangeWithin, IsStateWithin, IsRecordWithin, IsPacketWithin}
use Rattle.sv_record.proofs.RangeLemmas.{name_length, value_length, name_facts, limited, each_small, all_within, session_limit_least}

-- the length of a value within the limit fits in its width
value_short : (v : Version) (n : ℕ) → n ≤ value_limit v → n < 2 ^ (8 * byte_len (value_width v))
value_short One n le = omega arith
value_short Two n le = omega arith

-- ---- attributes that one version spells, by another

refit : (v w : Version) (before : Before) (a : Attribute) → (attribute w before).Fits a → length a.1 ≤ value_limit v → before.total + length a.0 + length a.1 ≤ session_limit v → (attribute v before).Fits a
unfolding attribute name value
refit v w before a fits small within =
    let n = name_facts w before.total (length a.0) fits.0.0.1 in (
      ((fits.0.0.0, name_length v before.total (length a.0) n.0 n.1 (omega (arith, within))), fits.0.1),
      (value_short v (length a.1) small, value_length v (before.total + length a.0) (length a.1) small within),
    )

refit_all : (v w : Version) (before : Before) (xs : List Attribute) → FitAll (attribute w) behind before xs → AllByRecursion (λ a. length a.1 ≤ value_limit v) xs → before.total + attributes_size xs ≤ session_limit v → FitAll (attribute v) behind before xs
refit_all v w before [] fits small within = tt
refit_all v w before (x ∷ xs) fits small within =
    let size = attributes_size-cons x xs in
    (refit v w before x fits.0 small.0 (omega (arith, size, within)), refit_all v w (behind before x) xs fits.1 small.1 (omega (arith, size, within)))

each_within : (v : Version) (before : Before) (xs : List Attribute) → FitAll (attribute v) behind before xs → AllByRecursion (λ a. length a.1 ≤ value_limit v) xs
each_within v before [] fits = tt
each_within v before (x ∷ xs) fits = ((limited v before x fits.0).small, each_within v (behind before x) xs fits.1)

-- ---- sessions

session_refit : (v w : Version) (s : Session) → (session w).Fits s → IsWithin v s → (session v).Fits s
unfolding session attributes
session_refit v w s fits is =
    let named = fits.1.1.1.1.1.1 in
    let each = recursion_from_All (λ (a : Attribute). length a.1 ≤ value_limit v) s.attributes is.values in
    (fits.0, (fits.1.0, (fits.1.1.0, (fits.1.1.1.0, (fits.1.1.1.1.0, (fits.1.1.1.1.1.0, (named.0, named.1, refit_all v w at_first s.attributes named.2 each (omega (arith, is.size)))))))))

session_within : (v : Version) (s : Session) → (session v).Fits s → IsWithin v s
unfolding session attributes
session_within v s fits =
    let named = fits.1.1.1.1.1.1 in
    let size = all_within v at_first s.attributes (omega arith) named.2 in
    record {
      values = All-from_recursion (λ (a : Attribute). length a.1 ≤ value_limit v) s.attributes (each_within v at_first s.attributes named.2);
      size = omega (arith, size);
    }

session_newest : (v : Version) (s : Session) → (session v).Fits s → (session Two).Fits s
unfolding session attributes
session_newest v s fits =
    let named = fits.1.1.1.1.1.1 in
    let size = all_within v at_first s.attributes (omega arith) named.2 in
    session_refit Two v s fits (record {
      values = All-from_recursion (λ (a : Attribute). length a.1 ≤ VALUE_LIMIT) s.attributes (each_small v at_first s.attributes named.2);
      size = omega (arith, size, session_limit_least v);
    })

-- ---- what has a session, or has none

change_there : (v : Version) (c : Change) → (change v).Fits c → (change Two).Fits c × IsChangeWithin v c
unfolding change
change_there v Absent fits = (tt, tt)
change_there v (Alive k s) fits = ((fits.0, session_newest v s fits.1), session_within v s fits.1)
change_there v (Ended k) fits = (fits, tt)

change_back : (v : Version) (c : Change) → (change Two).Fits c → IsChangeWithin v c → (change v).Fits c
unfolding change
change_back v Absent fits is = tt
change_back v (Alive k s) fits is = (fits.0, session_refit v Two s fits.1 is)
change_back v (Ended k) fits is = fits

state_there : (v : Version) (s : KeyState) → (key_state v).Fits s → (key_state Two).Fits s × IsStateWithin v s
unfolding key_state
state_there v (kept.Active e s) fits = ((fits.0, session_newest v s fits.1), session_within v s fits.1)
state_there v (kept.Sent e s to) fits = ((fits.0, (fits.1.0, session_newest v s fits.1.1)), session_within v s fits.1.1)
state_there v (kept.Gone e) fits = (fits, tt)
state_there v (kept.Ended e) fits = (fits, tt)

state_back : (v : Version) (s : KeyState) → (key_state Two).Fits s → IsStateWithin v s → (key_state v).Fits s
unfolding key_state
state_back v (kept.Active e s) fits is = (fits.0, session_refit v Two s fits.1 is)
state_back v (kept.Sent e s to) fits is = (fits.0, (fits.1.0, session_refit v Two s fits.1.1 is))
state_back v (kept.Gone e) fits is = fits
state_back v (kept.Ended e) fits is = fits

record_there : (v : Version) (r : Record) → spec.HasSpellingBy v r → spec.HasSpelling r × IsRecordWithin v r
unfolding spec.record_format commit
record_there v (rec.Boot b) fits = (fits, tt)
record_there v (rec.Commit named born) fits = let a = change_there v named fits.0.0 in let b = change_there v born fits.0.1 in (((a.0, b.0), fits.1), (a.1, b.1))
record_there v (rec.Expired k) fits = (fits, tt)
record_there v (rec.Sent k e to s) fits = ((fits.0, (fits.1.0, (fits.1.1.0, session_newest v s fits.1.1.1))), session_within v s fits.1.1.1)
record_there v (rec.Taken k e from s) fits = ((fits.0, (fits.1.0, (fits.1.1.0, session_newest v s fits.1.1.1))), session_within v s fits.1.1.1)
record_there v (rec.Gone k e) fits = (fits, tt)
record_there v (rec.State k s) fits = let a = state_there v s fits.1 in ((fits.0, a.0), a.1)
record_there v (rec.Counters b next) fits = (fits, tt)
record_there v (rec.Forgets home b) fits = (fits, tt)
record_there v (rec.Counted home b next) fits = (fits, tt)

record_back : (v : Version) (r : Record) → spec.HasSpelling r → IsRecordWithin v r → spec.HasSpellingBy v r
unfolding spec.record_format commit
record_back v (rec.Boot b) fits is = fits
record_back v (rec.Commit named born) fits is = ((change_back v named fits.0.0 is.0, change_back v born fits.0.1 is.1), fits.1)
record_back v (rec.Expired k) fits is = fits
record_back v (rec.Sent k e to s) fits is = (fits.0, (fits.1.0, (fits.1.1.0, session_refit v Two s fits.1.1.1 is)))
record_back v (rec.Taken k e from s) fits is = (fits.0, (fits.1.0, (fits.1.1.0, session_refit v Two s fits.1.1.1 is)))
record_back v (rec.Gone k e) fits is = fits
record_back v (rec.State k s) fits is = (fits.0, state_back v s fits.1 is)
record_back v (rec.Counters b next) fits is = fits
record_back v (rec.Forgets home b) fits is = fits
record_back v (rec.Counted home b next) fits is = fits

pub record_by : (v : Version) (r : Record) → spec.HasSpellingBy v r ↔ (spec.HasSpelling r × IsRecordWithin v r)
record_by v r = (λ fits. record_there v r fits, λ is. record_back v r is.0 is.1)

packet_there : (v : Version) (p : Packet) → packet.HasSpellingBy v p → packet.HasSpelling p × IsPacketWithin v p
unfolding packet.packet_format
packet_there v (Want from to k boot want) fits = (fits, tt)
packet_there v (Grant from to k e s) fits = ((fits.0, (fits.1.0, (fits.1.1.0, session_newest v s fits.1.1.1))), session_within v s fits.1.1.1)
packet_there v (Ack from to k e) fits = (fits, tt)
packet_there v (No from to k boot want) fits = (fits, tt)

packet_back : (v : Version) (p : Packet) → packet.HasSpelling p → IsPacketWithin v p → packet.HasSpellingBy v p
unfolding packet.packet_format
packet_back v (Want from to k boot want) fits is = fits
packet_back v (Grant from to k e s) fits is = (fits.0, (fits.1.0, (fits.1.1.0, session_refit v Two s fits.1.1.1 is)))
packet_back v (Ack from to k e) fits is = fits
packet_back v (No from to k boot want) fits is = fits

pub packet_by : (v : Version) (p : Packet) → packet.HasSpellingBy v p ↔ (packet.HasSpelling p × IsPacketWithin v p)
packet_by v p = (λ fits. packet_there v p fits, λ is. packet_back v p is.0 is.1)
