-- A value within the ranges has a spelling.
use Rattle.std.proofs.Common.{◌≡◌, ℕ, ◌+◌, ◌<◌, ◌≤◌, ◌^◌, lit<, Bool, true, false, ◌&&◌, not, List, [], ◌∷◌, length, refl, ap, arith}
use Rattle.std.specs.Prelude.{All, nat_lt, nat_le}
use Rattle.std.specs.List.{AllByRecursion}
use Rattle.std.specs.Ordering.{is_lt}
use Rattle.std.specs.Str.{is_utf8}
use Rattle.std.specs.declared.cmp.Ordering.TheVariants.{Less}
use Rattle.std.proofs.lemmas.Bool.{and_from, and_parts, le-ltb, ltb-false}
use Rattle.std.proofs.lemmas.Bool.Decides.{nat_tests}
use Rattle.std.proofs.lemmas.List.Elements.{All-from_recursion, recursion_from_All}
use Rattle.sv_model.specs.Attributes.{NamesRise, name_cmp, names_of, attributes_size}
use Rattle.sv_model.specs.Limits.{IsWithinLimits}
use Rattle.sv_record.proofs.Prelude.{Key, Session, KeyState, Change, Absent, Alive, Ended, Record, Packet, Want, Grant, Ack, No, CONTEXT_LIMIT, ATTRIBUTE_LIMIT}
use Rattle.sv_record.proofs.Prelude.{NAME_LIMIT, VALUE_LIMIT, SESSION_LIMIT, Version, One, Two, value_limit, session_limit, FitAll, Attribute, Before, at_first}
use Rattle.sv_record.proofs.Prelude.{behind, is_below, is_name_length, is_value_length, name, value, attribute, attributes, context, session, Frame, Peer, Move}
use Rattle.sv_record.proofs.Prelude.{Tick, Halt, counting, node, key, IsFrame, is_absent, change, commit, handover, key_state}
use Rattle.sv_model.specs.declared.state.KeyState.TheVariants as kept
use Rattle.sv_model.specs.declared.record.Record.TheVariants as rec
use Rattle.sv_model.proofs.AttributesLemmas.{NamesRise-head, NamesRise-tail, attributes_size-cons, attributes_size-nil}
use Rattle.sv_record.specs.Frame as frame
use Rattle.sv_record.specs.Packet as packet
use Rattle.sv_model.specs.Keys.{IsNode, IsCounting, IsKey}
use Rattle.sv_model.specs.Ranges.{IsChange, IsState, IsHandover, IsRecord, IsPacket}
use Rattle.sv_record.specs.Record as spec

pub name_length : (v : Version) (total n : ℕ) → 0 < n → n ≤ NAME_LIMIT → total + n ≤ session_limit v → is_name_length v total n ≡ true
name_length v total n some small within =
    let first : nat_lt 0 n ≡ true = grind (arith, nat_tests) in
    let second : nat_le n NAME_LIMIT ≡ true = grind (arith, nat_tests) in
    let third : nat_le (total + n) (session_limit v) ≡ true = grind (arith, nat_tests) in
    and_from (nat_lt 0 n && nat_le n NAME_LIMIT) (nat_le (total + n) (session_limit v)) (and_from (nat_lt 0 n) (nat_le n NAME_LIMIT) first second) third

pub value_length : (v : Version) (total n : ℕ) → n ≤ value_limit v → total + n ≤ session_limit v → is_value_length v total n ≡ true
value_length v total n small within =
    let first : nat_le n (value_limit v) ≡ true = grind (arith, nat_tests) in
    let second : nat_le (total + n) (session_limit v) ≡ true = grind (arith, nat_tests) in
    and_from (nat_le n (value_limit v)) (nat_le (total + n) (session_limit v)) first second

-- an attribute that may stand after others
attribute_fits : (before : Before) (a : Attribute) → 0 < length a.0 → length a.0 ≤ NAME_LIMIT → length a.1 ≤ VALUE_LIMIT → before.total + (length a.0 + length a.1) ≤ SESSION_LIMIT
    → is_utf8 a.0 ≡ true → name_cmp before.last a.0 ≡ Less → (attribute Two before).Fits a
unfolding attribute name value
attribute_fits before a some short small within text above = (
  ((omega arith, name_length Two before.total (length a.0) some short (omega arith)), and_from (is_utf8 a.0) (is_below before.last a.0) text (ap is_lt above)),
  (omega arith, value_length Two (before.total + length a.0) (length a.1) small (omega arith)),
)

-- attributes whose names rise from a name
fit_all : (before : Before) (xs : List Attribute) → AllByRecursion (λ a. 0 < length a.0) xs → AllByRecursion (λ a. length a.0 ≤ NAME_LIMIT) xs → AllByRecursion (λ a. length a.1 ≤ VALUE_LIMIT) xs
    → AllByRecursion (λ a. is_utf8 a.0 ≡ true) xs → before.total + attributes_size xs ≤ SESSION_LIMIT → AllByRecursion (λ n. name_cmp before.last n ≡ Less) (names_of xs) → NamesRise xs
    → FitAll (attribute Two) behind before xs
fit_all before [] some short small texts within above rise = tt
fit_all before (x ∷ xs) some short small texts within above rise =
    let size = attributes_size-cons x xs in (
      attribute_fits before x some.0 short.0 small.0 (omega (arith, size)) texts.0 above.0,
      fit_all (behind before x) xs some.1 short.1 small.1 texts.1 (omega (arith, size)) (NamesRise-head x xs rise) (NamesRise-tail x xs rise),
    )

-- the empty text is below each name
empty_below : (xs : List Attribute) → AllByRecursion (λ a. 0 < length a.0) xs → AllByRecursion (λ n. name_cmp [] n ≡ Less) (names_of xs)
empty_below [] some = tt
empty_below (([], v) ∷ xs) some = absurd (omega (arith, some.0))
empty_below ((c ∷ cs, v) ∷ xs) some = (refl, empty_below xs some.1)

pub attributes_fit : (xs : List Attribute) → length xs ≤ ATTRIBUTE_LIMIT → All (λ a. 0 < length a.0) xs → All (λ a. length a.0 ≤ NAME_LIMIT) xs → All (λ a. length a.1 ≤ VALUE_LIMIT) xs
    → attributes_size xs ≤ SESSION_LIMIT → AllByRecursion (λ a. is_utf8 a.0 ≡ true) xs → NamesRise xs → (attributes Two).Fits xs
unfolding attributes
attributes_fit xs few some short small within texts rise =
    let named = recursion_from_All (λ (a : Attribute). 0 < length a.0) xs some in (
      omega arith,
      le-ltb _ _ few,
      fit_all at_first xs named (recursion_from_All (λ (a : Attribute). length a.0 ≤ NAME_LIMIT) xs short) (recursion_from_All (λ (a : Attribute). length a.1 ≤ VALUE_LIMIT) xs small) texts (omega arith) (empty_below xs named) rise,
    )

-- ---- and back: what has a spelling is within the ranges

-- no version allows more than the ranges
value_limit_least : (v : Version) → value_limit v ≤ VALUE_LIMIT
value_limit_least One = omega arith
value_limit_least Two = omega arith

pub session_limit_least : (v : Version) → session_limit v ≤ SESSION_LIMIT
session_limit_least One = omega arith
session_limit_least Two = omega arith

pub name_facts : (v : Version) (total n : ℕ) → is_name_length v total n ≡ true → (0 < n) × (n ≤ NAME_LIMIT)
name_facts v total n e =
    let front = and_parts (nat_lt 0 n && nat_le n NAME_LIMIT) (nat_le (total + n) (session_limit v)) e in
    let parts = and_parts (nat_lt 0 n) (nat_le n NAME_LIMIT) front.0 in
    let some : nat_lt 0 n ≡ true = parts.0 in
    let small : nat_le n NAME_LIMIT ≡ true = parts.1 in
    (grind (arith, nat_tests), grind (arith, nat_tests))

value_facts : (v : Version) (total n : ℕ) → is_value_length v total n ≡ true → (n ≤ value_limit v) × (total + n ≤ session_limit v)
value_facts v total n e =
    let parts = and_parts (nat_le n (value_limit v)) (nat_le (total + n) (session_limit v)) e in
    let small : nat_le n (value_limit v) ≡ true = parts.0 in
    let within : nat_le (total + n) (session_limit v) ≡ true = parts.1 in
    (grind (arith, nat_tests), grind (arith, nat_tests))

-- the limits of one attribute after others
pub record IsLimited (v : Version) (before : Before) (a : Attribute) : Type 0 where
  pub some : 0 < length a.0
  pub short : length a.0 ≤ NAME_LIMIT
  pub small : length a.1 ≤ value_limit v
  pub within : before.total + length a.0 + length a.1 ≤ session_limit v

pub limited : (v : Version) (before : Before) (a : Attribute) → (attribute v before).Fits a → IsLimited v before a
unfolding attribute name value
limited v before a fits =
    let n = name_facts v before.total (length a.0) fits.0.0.1 in
    let m = value_facts v (before.total + length a.0) (length a.1) fits.1.1 in
    record { some = n.0; short = n.1; small = m.0; within = m.1 }

each_some : (v : Version) (before : Before) (xs : List Attribute) → FitAll (attribute v) behind before xs → AllByRecursion (λ a. 0 < length a.0) xs
each_some v before [] fits = tt
each_some v before (x ∷ xs) fits = ((limited v before x fits.0).some, each_some v (behind before x) xs fits.1)

each_short : (v : Version) (before : Before) (xs : List Attribute) → FitAll (attribute v) behind before xs → AllByRecursion (λ a. length a.0 ≤ NAME_LIMIT) xs
each_short v before [] fits = tt
each_short v before (x ∷ xs) fits = ((limited v before x fits.0).short, each_short v (behind before x) xs fits.1)

pub each_small : (v : Version) (before : Before) (xs : List Attribute) → FitAll (attribute v) behind before xs → AllByRecursion (λ a. length a.1 ≤ VALUE_LIMIT) xs
each_small v before [] fits = tt
each_small v before (x ∷ xs) fits = (omega (arith, (limited v before x fits.0).small, value_limit_least v), each_small v (behind before x) xs fits.1)

pub all_within : (v : Version) (before : Before) (xs : List Attribute) → before.total ≤ session_limit v → FitAll (attribute v) behind before xs → before.total + attributes_size xs ≤ session_limit v
all_within v before [] small fits = omega (arith, attributes_size-nil)
all_within v before (x ∷ xs) small fits =
    let here = (limited v before x fits.0).within in
    omega (arith, attributes_size-cons x xs, all_within v (behind before x) xs here fits.1)

pub node_range : (n : ℕ) → node.Fits n → IsNode n
unfolding node
node_range n fits = let small : nat_lt n 8 ≡ true = fits.1 in grind (arith, nat_tests)

counting_range : (n : ℕ) → counting.Fits n → IsCounting n
unfolding counting
counting_range n fits = let some : nat_lt 0 n ≡ true = fits.1 in grind (arith, nat_tests)

key_range : (k : Key) → key.Fits k → IsKey k
unfolding key
key_range k fits = (node_range k.home fits.0, counting_range k.serial fits.1)

context_range : (n : ℕ) → context.Fits n → n < CONTEXT_LIMIT
unfolding context
context_range n fits = let small : nat_lt n CONTEXT_LIMIT ≡ true = fits.1 in grind (arith, nat_tests)

session_range : (v : Version) (s : Session) → (session v).Fits s → IsWithinLimits s
unfolding session attributes
session_range v s fits =
    let named = fits.1.1.1.1.1.1 in
    let size = all_within v at_first s.attributes (omega arith) named.2 in
    record {
      context = context_range s.context fits.1.0;
      count = ltb-false _ _ named.1;
      named = All-from_recursion (λ (a : Attribute). 0 < length a.0) s.attributes (each_some v at_first s.attributes named.2);
      names = All-from_recursion (λ (a : Attribute). length a.0 ≤ NAME_LIMIT) s.attributes (each_short v at_first s.attributes named.2);
      values = All-from_recursion (λ (a : Attribute). length a.1 ≤ VALUE_LIMIT) s.attributes (each_small v at_first s.attributes named.2);
      size = omega (arith, size, session_limit_least v);
    }

change_range : (v : Version) (c : Change) → (change v).Fits c → IsChange c
unfolding change
change_range v Absent fits = tt
change_range v (Alive k s) fits = (key_range k fits.0, session_range v s fits.1)
change_range v (Ended k) fits = key_range k fits

one_there : (b : Bool) → not b ≡ true → b ≡ false
one_there true e = absurd cc
one_there false e = refl

state_range : (v : Version) (s : KeyState) → (key_state v).Fits s → IsState s
unfolding key_state
state_range v (kept.Active e s) fits = (counting_range e fits.0, session_range v s fits.1)
state_range v (kept.Sent e s to) fits = (counting_range e fits.0, session_range v s fits.1.1, node_range to fits.1.0)
state_range v (kept.Gone e) fits = counting_range e fits
state_range v (kept.Ended e) fits = counting_range e fits

handover_range : (v : Version) (k : Key) (e n : ℕ) (s : Session) → (handover v).Fits (k, (e, (n, s))) → IsHandover k e n s
handover_range v k e n s fits = (key_range k fits.0, counting_range e fits.1.0, node_range n fits.1.1.0, session_range v s fits.1.1.1)

pub record_range : (v : Version) (r : Record) → spec.HasSpellingBy v r → IsRecord r
unfolding spec.record_format commit
record_range v (rec.Boot b) fits = counting_range b fits
record_range v (rec.Commit named born) fits = (change_range v named fits.0.0, change_range v born fits.0.1, one_there (is_absent named && is_absent born) fits.1)
record_range v (rec.Expired k) fits = key_range k fits
record_range v (rec.Sent k e to s) fits = handover_range v k e to s fits
record_range v (rec.Taken k e from s) fits = handover_range v k e from s fits
record_range v (rec.Gone k e) fits = (key_range k fits.0, counting_range e fits.1)
record_range v (rec.State k s) fits = (key_range k fits.0, state_range v s fits.1)
record_range v (rec.Counters b next) fits = counting_range next fits.1
record_range v (rec.Forgets home b) fits = (node_range home fits.0, counting_range b fits.1)
record_range v (rec.Counted home b next) fits = (node_range home fits.0, counting_range next fits.1.1)

pub packet_range : (v : Version) (p : Packet) → packet.HasSpellingBy v p → IsPacket p
unfolding packet.packet_format
packet_range v (Want from to k boot want) fits = (node_range from fits.0.0, node_range to fits.0.1, key_range k fits.1.0)
packet_range v (Grant from to k e s) fits = (node_range from fits.0.0, node_range to fits.0.1, key_range k fits.1.0, counting_range e fits.1.1.0, session_range v s fits.1.1.1)
packet_range v (Ack from to k e) fits = (node_range from fits.0.0, node_range to fits.0.1, key_range k fits.1.0, counting_range e fits.1.1)
packet_range v (No from to k boot want) fits = (node_range from fits.0.0, node_range to fits.0.1, key_range k fits.1.0)

pub frame_range : (v : Version) (f : Frame) → frame.HasSpellingBy v f → IsFrame f
frame_range v (Peer p) fits = packet_range v p fits
frame_range v (Move k to) fits = (key_range k fits.0, node_range to fits.1)
frame_range v Tick fits = tt
frame_range v Halt fits = tt

pub session_limit_small : (v : Version) → session_limit v < 2 ^ 32
session_limit_small One = lit< tt
session_limit_small Two = lit< tt
