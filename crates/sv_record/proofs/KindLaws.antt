-- The laws of records and packets, kind by kind.
use Rattle.std.proofs.Common.{◌≡◌, ℕ, ◌<◌, ◌++◌, List, Ok, refl, lit<, not, ◌&&◌}
use Rattle.sv_record.proofs.Prelude.{Change, Absent, Alive, Ended, KeyState, Record, Packet, Want, Grant, Ack, No, Foreign, BadField, Version, nothing, pair}
use Rattle.sv_record.proofs.Prelude.{long, counting, node, key, session, is_absent}
use Rattle.sv_model.specs.declared.state.KeyState.TheVariants as kept
use Rattle.sv_model.specs.declared.record.Record.TheVariants as rec
use Rattle.sv_record.specs.Record.{kind_of_change, change_fields, ChangeFits, change_by_kind, change, commit, kind_of_state, state_fields, StateFits, state_by_kind, key_state, handover, record_format}
use Rattle.sv_record.specs.Record as spec
use Rattle.sv_record.specs.Packet.{ends, asked, granted, acknowledged, packet_format}
use Rattle.sv_record.specs.Packet as packet
use Rattle.sv_record.proofs.FormatLaws.{Lawful, nothing_lawful, pair_lawful, such_that_lawful, TakesByKind, no_kind_takes, kind_takes, tagged_lawful}
use Rattle.sv_record.proofs.FieldLaws.{long_lawful, counting_lawful, node_lawful, key_lawful, session_lawful}

-- ---- what a commit makes of a key

alive_lawful : (v : Version) → Lawful (pair key (session v))
alive_lawful v = pair_lawful key (session v) key_lawful (session_lawful v)

change_takes : (v : Version) → TakesByKind kind_of_change (change_fields v) (ChangeFits v) (change_by_kind v)
change_takes v =
    kind_takes kind_of_change (change_fields v) (ChangeFits v) 0 nothing (λ _. Absent) _ nothing_lawful (λ b. (refl, refl, λ fits. fits)) (
    kind_takes kind_of_change (change_fields v) (ChangeFits v) 1 (pair key (session v)) (λ x. Alive x.0 x.1) _ (alive_lawful v) (λ b. (refl, refl, λ fits. fits)) (
    kind_takes kind_of_change (change_fields v) (ChangeFits v) 2 key Ended _ key_lawful (λ b. (refl, refl, λ fits. fits)) (
    no_kind_takes kind_of_change (change_fields v) (ChangeFits v) BadField)))

change_small : (c : Change) → kind_of_change c < 256
change_small Absent = lit< tt
change_small (Alive k s) = lit< tt
change_small (Ended k) = lit< tt

change_again : (v : Version) (c : Change) (rest : List ℕ) → ChangeFits v c → change_by_kind v (kind_of_change c) (change_fields v c ++ rest) ≡ Ok (c, rest)
change_again v Absent rest fits = refl
change_again v (Alive k s) rest fits = rw ((alive_lawful v).again (k, s) rest fits) refl
change_again v (Ended k) rest fits = rw (key_lawful.again k rest fits) refl

pub change_lawful : (v : Version) → Lawful (change v)
unfolding change
change_lawful v = tagged_lawful kind_of_change (change_fields v) (ChangeFits v) (change_by_kind v) change_small (change_takes v) (change_again v)

pub commit_lawful : (v : Version) → Lawful (commit v)
unfolding commit
commit_lawful v = such_that_lawful (pair (change v) (change v)) (λ x. not (is_absent x.0 && is_absent x.1)) (pair_lawful (change v) (change v) (change_lawful v) (change_lawful v))

-- ---- what a node keeps of a key

active_lawful : (v : Version) → Lawful (pair counting (session v))
active_lawful v = pair_lawful counting (session v) counting_lawful (session_lawful v)

sent_lawful : (v : Version) → Lawful (pair counting (pair node (session v)))
sent_lawful v = pair_lawful counting (pair node (session v)) counting_lawful (pair_lawful node (session v) node_lawful (session_lawful v))

state_takes : (v : Version) → TakesByKind kind_of_state (state_fields v) (StateFits v) (state_by_kind v)
state_takes v =
    kind_takes kind_of_state (state_fields v) (StateFits v) 1 (pair counting (session v)) (λ x. kept.Active x.0 x.1) _ (active_lawful v) (λ b. (refl, refl, λ fits. fits)) (
    kind_takes kind_of_state (state_fields v) (StateFits v) 2 (pair counting (pair node (session v))) (λ x. kept.Sent x.0 x.1.1 x.1.0) _ (sent_lawful v) (λ b. (refl, refl, λ fits. fits)) (
    kind_takes kind_of_state (state_fields v) (StateFits v) 3 counting kept.Gone _ counting_lawful (λ b. (refl, refl, λ fits. fits)) (
    kind_takes kind_of_state (state_fields v) (StateFits v) 4 counting kept.Ended _ counting_lawful (λ b. (refl, refl, λ fits. fits)) (
    no_kind_takes kind_of_state (state_fields v) (StateFits v) BadField))))

state_small : (s : KeyState) → kind_of_state s < 256
state_small (kept.Active e s) = lit< tt
state_small (kept.Sent e s to) = lit< tt
state_small (kept.Gone e) = lit< tt
state_small (kept.Ended e) = lit< tt

state_again : (v : Version) (s : KeyState) (rest : List ℕ) → StateFits v s → state_by_kind v (kind_of_state s) (state_fields v s ++ rest) ≡ Ok (s, rest)
state_again v (kept.Active e s) rest fits = rw ((active_lawful v).again (e, s) rest fits) refl
state_again v (kept.Sent e s to) rest fits = rw ((sent_lawful v).again (e, (to, s)) rest fits) refl
state_again v (kept.Gone e) rest fits = rw (counting_lawful.again e rest fits) refl
state_again v (kept.Ended e) rest fits = rw (counting_lawful.again e rest fits) refl

pub state_lawful : (v : Version) → Lawful (key_state v)
unfolding key_state
state_lawful v = tagged_lawful kind_of_state (state_fields v) (StateFits v) (state_by_kind v) state_small (state_takes v) (state_again v)

-- ---- records

handover_lawful : (v : Version) → Lawful (handover v)
handover_lawful v = pair_lawful key (pair counting (pair node (session v))) key_lawful (sent_lawful v)

gone_lawful : Lawful (pair key counting)
gone_lawful = pair_lawful key counting key_lawful counting_lawful

kept_lawful : (v : Version) → Lawful (pair key (key_state v))
kept_lawful v = pair_lawful key (key_state v) key_lawful (state_lawful v)

counters_lawful : Lawful (pair long counting)
counters_lawful = pair_lawful long counting long_lawful counting_lawful

forgets_lawful : Lawful (pair node counting)
forgets_lawful = pair_lawful node counting node_lawful counting_lawful

counted_lawful : Lawful (pair node (pair long counting))
counted_lawful = pair_lawful node (pair long counting) node_lawful counters_lawful

record_takes : (v : Version) → TakesByKind spec.kind_of (spec.fields v) (spec.FieldsFit v) (spec.by_kind v)
record_takes v =
    kind_takes spec.kind_of (spec.fields v) (spec.FieldsFit v) 1 counting rec.Boot _ counting_lawful (λ b. (refl, refl, λ fits. fits)) (
    kind_takes spec.kind_of (spec.fields v) (spec.FieldsFit v) 2 (commit v) (λ x. rec.Commit x.0 x.1) _ (commit_lawful v) (λ b. (refl, refl, λ fits. fits)) (
    kind_takes spec.kind_of (spec.fields v) (spec.FieldsFit v) 3 key rec.Expired _ key_lawful (λ b. (refl, refl, λ fits. fits)) (
    kind_takes spec.kind_of (spec.fields v) (spec.FieldsFit v) 4 (handover v) (λ x. rec.Sent x.0 x.1.0 x.1.1.0 x.1.1.1) _ (handover_lawful v) (λ b. (refl, refl, λ fits. fits)) (
    kind_takes spec.kind_of (spec.fields v) (spec.FieldsFit v) 5 (handover v) (λ x. rec.Taken x.0 x.1.0 x.1.1.0 x.1.1.1) _ (handover_lawful v) (λ b. (refl, refl, λ fits. fits)) (
    kind_takes spec.kind_of (spec.fields v) (spec.FieldsFit v) 6 (pair key counting) (λ x. rec.Gone x.0 x.1) _ gone_lawful (λ b. (refl, refl, λ fits. fits)) (
    kind_takes spec.kind_of (spec.fields v) (spec.FieldsFit v) 7 (pair key (key_state v)) (λ x. rec.State x.0 x.1) _ (kept_lawful v) (λ b. (refl, refl, λ fits. fits)) (
    kind_takes spec.kind_of (spec.fields v) (spec.FieldsFit v) 8 (pair long counting) (λ x. rec.Counters x.0 x.1) _ counters_lawful (λ b. (refl, refl, λ fits. fits)) (
    kind_takes spec.kind_of (spec.fields v) (spec.FieldsFit v) 9 (pair node counting) (λ x. rec.Forgets x.0 x.1) _ forgets_lawful (λ b. (refl, refl, λ fits. fits)) (
    kind_takes spec.kind_of (spec.fields v) (spec.FieldsFit v) 10 (pair node (pair long counting)) (λ x. rec.Counted x.0 x.1.0 x.1.1) _ counted_lawful (λ b. (refl, refl, λ fits. fits)) (
    no_kind_takes spec.kind_of (spec.fields v) (spec.FieldsFit v) Foreign))))))))))

record_small : (r : Record) → spec.kind_of r < 256
record_small (rec.Boot b) = lit< tt
record_small (rec.Commit named born) = lit< tt
record_small (rec.Expired k) = lit< tt
record_small (rec.Sent k e to s) = lit< tt
record_small (rec.Taken k e from s) = lit< tt
record_small (rec.Gone k e) = lit< tt
record_small (rec.State k s) = lit< tt
record_small (rec.Counters b next) = lit< tt
record_small (rec.Forgets home b) = lit< tt
record_small (rec.Counted home b next) = lit< tt

record_again : (v : Version) (r : Record) (rest : List ℕ) → spec.FieldsFit v r → spec.by_kind v (spec.kind_of r) (spec.fields v r ++ rest) ≡ Ok (r, rest)
record_again v (rec.Boot b) rest fits = rw (counting_lawful.again b rest fits) refl
record_again v (rec.Commit named born) rest fits = rw ((commit_lawful v).again (named, born) rest fits) refl
record_again v (rec.Expired k) rest fits = rw (key_lawful.again k rest fits) refl
record_again v (rec.Sent k e to s) rest fits = rw ((handover_lawful v).again (k, (e, (to, s))) rest fits) refl
record_again v (rec.Taken k e from s) rest fits = rw ((handover_lawful v).again (k, (e, (from, s))) rest fits) refl
record_again v (rec.Gone k e) rest fits = rw (gone_lawful.again (k, e) rest fits) refl
record_again v (rec.State k s) rest fits = rw ((kept_lawful v).again (k, s) rest fits) refl
record_again v (rec.Counters b next) rest fits = rw (counters_lawful.again (b, next) rest fits) refl
record_again v (rec.Forgets home b) rest fits = rw (forgets_lawful.again (home, b) rest fits) refl
record_again v (rec.Counted home b next) rest fits = rw (counted_lawful.again (home, (b, next)) rest fits) refl

pub record_lawful : (v : Version) → Lawful (record_format v)
unfolding record_format
record_lawful v = tagged_lawful spec.kind_of (spec.fields v) (spec.FieldsFit v) (spec.by_kind v) record_small (record_takes v) (record_again v)

-- ---- packets

ends_lawful : Lawful ends
ends_lawful = pair_lawful node node node_lawful node_lawful

asked_lawful : Lawful asked
asked_lawful = pair_lawful ends (pair key (pair long long)) ends_lawful (pair_lawful key (pair long long) key_lawful (pair_lawful long long long_lawful long_lawful))

granted_lawful : (v : Version) → Lawful (granted v)
granted_lawful v = pair_lawful ends (pair key (pair counting (session v))) ends_lawful (pair_lawful key (pair counting (session v)) key_lawful (active_lawful v))

acknowledged_lawful : Lawful acknowledged
acknowledged_lawful = pair_lawful ends (pair key counting) ends_lawful gone_lawful

packet_takes : (v : Version) → TakesByKind packet.kind_of (packet.fields v) (packet.FieldsFit v) (packet.by_kind v)
packet_takes v =
    kind_takes packet.kind_of (packet.fields v) (packet.FieldsFit v) 1 asked (λ x. Want x.0.0 x.0.1 x.1.0 x.1.1.0 x.1.1.1) _ asked_lawful (λ b. (refl, refl, λ fits. fits)) (
    kind_takes packet.kind_of (packet.fields v) (packet.FieldsFit v) 2 (granted v) (λ x. Grant x.0.0 x.0.1 x.1.0 x.1.1.0 x.1.1.1) _ (granted_lawful v) (λ b. (refl, refl, λ fits. fits)) (
    kind_takes packet.kind_of (packet.fields v) (packet.FieldsFit v) 3 acknowledged (λ x. Ack x.0.0 x.0.1 x.1.0 x.1.1) _ acknowledged_lawful (λ b. (refl, refl, λ fits. fits)) (
    kind_takes packet.kind_of (packet.fields v) (packet.FieldsFit v) 4 asked (λ x. No x.0.0 x.0.1 x.1.0 x.1.1.0 x.1.1.1) _ asked_lawful (λ b. (refl, refl, λ fits. fits)) (
    no_kind_takes packet.kind_of (packet.fields v) (packet.FieldsFit v) Foreign))))

packet_small : (p : Packet) → packet.kind_of p < 256
packet_small (Want from to k boot want) = lit< tt
packet_small (Grant from to k e s) = lit< tt
packet_small (Ack from to k e) = lit< tt
packet_small (No from to k boot want) = lit< tt

packet_again : (v : Version) (p : Packet) (rest : List ℕ) → packet.FieldsFit v p → packet.by_kind v (packet.kind_of p) (packet.fields v p ++ rest) ≡ Ok (p, rest)
packet_again v (Want from to k boot want) rest fits = rw (asked_lawful.again ((from, to), (k, (boot, want))) rest fits) refl
packet_again v (Grant from to k e s) rest fits = rw ((granted_lawful v).again ((from, to), (k, (e, s))) rest fits) refl
packet_again v (Ack from to k e) rest fits = rw (acknowledged_lawful.again ((from, to), (k, e)) rest fits) refl
packet_again v (No from to k boot want) rest fits = rw (asked_lawful.again ((from, to), (k, (boot, want))) rest fits) refl

pub packet_lawful : (v : Version) → Lawful (packet_format v)
unfolding packet_format
packet_lawful v = tagged_lawful packet.kind_of (packet.fields v) (packet.FieldsFit v) (packet.by_kind v) packet_small (packet_takes v) (packet_again v)
