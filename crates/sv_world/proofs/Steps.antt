-- Each step of a node keeps the invariant: after its record, and when its packets have left.
use Rattle.sv_world.proofs.Prelude.{◌≡◌, ◌≢◌, ℕ, ◌<◌, ◌≤◌, ◌==◌, Bool, true, false, cond, Option, Some, None, List, [], ◌∷◌, ◌++◌, arith, refl, sym, ap, ◌∙◌}
use Rattle.sv_world.proofs.Prelude.{subst, inl, inr, ⊎_elim, eq-eqb, nat_le, nat_lt, not, ◌||◌, is_some, length, option_map, filter, filter_map, get, insert}
use Rattle.sv_world.proofs.Prelude.{remove, entries, cases_eq, cases_lt, lt-ltb, ne_eqb, cond-true, cond-false, false_from_ne_true, cond_both, eqb-true}
use Rattle.sv_world.proofs.Prelude.{eqb-false, leb-true, leb-false, and_parts, Key, Secret, Moment, Request, Session, Setting, Parked, KeyState, Active, Sent}
use Rattle.sv_world.proofs.Prelude.{Gone, Ended, PARK_LIMIT, Packet, Want, Grant, Ack, No, Input, Incoming, Move, Cause, TableFull, SerialsSpent, ParkFull}
use Rattle.sv_world.proofs.Prelude.{WantsSpent, Output, Send, Commit, Served, Expired, Fate, Untouched, Kept, FateEnded, Absent, Alive, BirthEnded, GoneRecord}
use Rattle.sv_world.proofs.Prelude.{Meanings, AllTouchOnlyHanded, committed, after, IsLawful, AreLawful, events_with, replies_with, Store, nothing_stored}
use Rattle.sv_world.proofs.Prelude.{held_by, handed_if, outcome_of, fated, born, made_with, stored, IsNewKey, expiry_events, set_key, Keys, Durable, Node}
use Rattle.sv_world.proofs.Prelude.{last_number, session_in, epoch_in, is_own, was_given, known, is_settled, is_unmade, is_full, lacks_room, is_crowded}
use Rattle.sv_world.proofs.Prelude.{Decision, idle, with_record, fresh_of, held_in, answer_of, kept_at, over_at, ended_at, fated_keys, born_keys, next_with}
use Rattle.sv_world.proofs.Prelude.{named_change, born_change, entry_of, token_of, answered, refused, no_birth, answered_unless, served, wants, parks, waits}
use Rattle.sv_world.proofs.Prelude.{on_ask, first_of, without, serve_first, serve_parked, hands_over, says_no, no_if_unmade, on_want, takes_over, on_grant}
use Rattle.sv_world.proofs.Prelude.{on_ack, is_wanted, sender, addressee, is_ours, on_ours, on_packet, move_refused, on_move, is_late, is_over, first_over}
use Rattle.sv_world.proofs.Prelude.{expire, deadlines, wants_again, grant_again, decided, applied_if, reply_in, keys_tell, active_kept, kept_known}
use Rattle.sv_world.proofs.Prelude.{known_insert, known_remove, known_born, known_spent, Entry, entry_kept, over_in, In, with_last, sends_in, Opening}
use Rattle.sv_world.proofs.Prelude.{born_opening, opening_of, mark_of, Life, Stands, Here, Away, top, Cluster, setting_of, Sane, IsUnmade, acked, store_of}
use Rattle.sv_world.proofs.Prelude.{IsLive, granted, opened, Record}
use Rattle.std.proofs.Common.{◌⊎◌, ◌+◌, ◌&&◌}
use Rattle.sv_model.specs.declared.input.Input.TheVariants.{Ask, Poke, Tick}
use Rattle.sv_model.specs.declared.outcome.Outcome.{Outcome}
use Rattle.sv_model.specs.declared.outcome.Birth.{Birth}
use Rattle.sv_world.proofs.Keys.{set_here, set_there, get_there, not_true}
use Rattle.sv_world.proofs.OneKey.{is_here, map_has_live}
use Rattle.sv_world.proofs.Rows.{LivesOf, RowChanges, FateFits, lives_same, lives_sends, lives_takes, lives_forgets, lives_keeps, lives_ends, lives_born}
use Rattle.sv_world.proofs.Rows.{lives_spent}
use Rattle.sv_world.proofs.Sending.{AllJustified}
use Rattle.sv_world.proofs.Plain.{IsPlain, plain_both, plain_wants, plain_deadlines, plain_again, plain_grants}

abbrev pub keys_of : (ℕ → Durable) → ℕ → Key → Option KeyState
keys_of disks x q = known (disks x) q

-- one key changes
abbrev pub with_key : Durable → Key → KeyState → Durable
with_key d k st = record d { keys = insert d.keys k st }

-- what is durable at node n becomes another
pub record Redisk (disks new : ℕ → Durable) (n : ℕ) (disk : Durable) : Type 0 where
  pub mine : new n ≡ disk
  pub others : (x : ℕ) → x ≢ n → new x ≡ disks x

next_of : (disks new : ℕ → Durable) (n : ℕ) (disk : Durable) → Redisk disks new n disk → (disks n).next ≤ disk.next → (y : ℕ) → (disks y).next ≤ (new y).next
next_of disks new n disk r l y = ⊎_elim
    (λ (e : y ≡ n). omega (arith, ap (λ (d : Durable). d.next) (ap new e ∙ r.mine), ap (λ z. (disks z).next) e))
    (λ (e : y ≢ n). omega (arith, ap (λ (d : Durable). d.next) (r.others y e)))
    (cases_eq y n)

-- what has no maker afterwards had none before
unmade_before : (disks new : ℕ → Durable) → ((y : ℕ) → (disks y).next ≤ (new y).next) → (q : Key) → IsUnmade new q → IsUnmade disks q
unmade_before disks new up q h = ⊎_elim (λ (l : (new q.home).next ≤ q.serial). inl (omega (arith, up q.home))) (λ (z : q.serial ≡ 0). inr z) h

-- ---- one key is known to be something else

set_some : (f : Key → Option KeyState) (k : Key) (st : KeyState) (q : Key) → f q ≢ None → set_key f k (Some st) q ≢ None
set_some f k st q there is = ⊎_elim
    (λ (t : (q ≡ k) × _). absurd (let no : Some st ≡ None = sym (set_here f k (Some st)) ∙ ap (set_key f k (Some st)) (sym t.0) ∙ is in cc))
    (λ (t : (q ≢ k) × _). there (sym (set_there f k (Some st) q t.0) ∙ is))
    (keys_tell q k)

-- what is durable now says of one key that its state is this, and of all others what it said
pub record IsRow (old disk : Durable) (k : Key) (st : KeyState) : Type 0 where
  pub known_is : (q : Key) → known disk q ≡ set_key (known old) k (Some st) q
  next_is : disk.next ≡ old.next
  home_is : disk.home ≡ old.home
  keeps : disk.home ≡ None → (q : Key) → get old.keys q ≢ None → get disk.keys q ≢ None

pub put_row : (d : Durable) (k : Key) (st : KeyState) → IsRow d (with_key d k st) k st
put_row d k st = record {
  known_is = known_insert d k st;
  next_is = refl;
  home_is = refl;
  keeps = λ none q there is. set_some (get d.keys) k st q there (sym (get_there d.keys k st q) ∙ is);
}

-- an end: the epoch that it leaves is the last one where the key is forgotten
abbrev pub over_epoch : Option ℕ → Key → ℕ → ℕ
over_epoch home k e = cond (is_own home k) last_number e

abbrev with_over : Durable → Key → ℕ → Durable
with_over d k e = record d { keys = over_at d.home k e d.keys }

over_by : (d : Durable) (k : Key) (e : ℕ) (b : Bool) → is_own d.home k ≡ b → (is_own d.home k ≡ true → was_given d k ≡ true)
    → IsRow d (record d { keys = cond b (remove d.keys k) (insert d.keys k (Ended e)) }) k (Ended (cond b last_number e))
over_by d k e true is given = record {
  known_is = λ q. known_remove d k q (given is);
  next_is = refl;
  home_is = refl;
  keeps = λ none q there. absurd (let no : true ≡ false = sym is ∙ ap (λ h. is_own h k) none in cc);
}
over_by d k e false is given = put_row d k (Ended e)

over_row : (d : Durable) (k : Key) (e : ℕ) → (is_own d.home k ≡ true → was_given d k ≡ true) → IsRow d (with_over d k e) k (Ended (over_epoch d.home k e))
over_row d k e given = over_by d k e (is_own d.home k) refl given

pub over_up : (home : Option ℕ) (k : Key) (e : ℕ) → e ≤ last_number → e ≤ over_epoch home k e
over_up home k e le = cond_both (is_own home k) last_number e (λ d. e ≤ d) (λ _. le) (λ _. omega arith)

over_last : (home : Option ℕ) (k : Key) (e : ℕ) → e ≤ last_number → over_epoch home k e ≤ last_number
over_last home k e le = cond_both (is_own home k) last_number e (λ d. d ≤ last_number) (λ _. omega arith) (λ _. le)

-- a key of the home whose keys are forgotten
own_home : (home : Option ℕ) (k : Key) → is_own home k ≡ true → (h : ℕ) × (home ≡ Some h) × (k.home ≡ h)
own_home None k is = absurd (let no : false ≡ true = is in cc)
own_home (Some h) k is = (h, refl, eqb-true k.home h is)

pub after_snoc : (m : Meanings) (st : Store) (cs : List Commit) (c : Commit) → after m st (cs ++ c ∷ []) ≡ committed m (after m st cs) c
after_snoc m st [] c = refl
after_snoc m st (x ∷ cs) c = after_snoc m (committed m st x) cs c

pub lawful_snoc : (m : Meanings) (st : Store) (cs : List Commit) (c : Commit) → AreLawful m st cs → IsLawful m (after m st cs) c → AreLawful m st (cs ++ c ∷ [])
lawful_snoc m st [] c h l = (l, tt)
lawful_snoc m st (x ∷ cs) c h l = (h.0, lawful_snoc m (committed m st x) cs c h.1 l)

-- ---- the record of a request

abbrev noted : Option (Key × Secret) → Key → Fate → Birth → Option Record
noted named k fate birth = entry_of (named_change named fate) (born_change k birth)

abbrev behind : Option (Key × Secret) → Key → Fate → Birth → Durable → Durable
behind named k fate birth d = record d { keys = born_keys d.home k birth (fated_keys d.home named fate d.keys); next = next_with birth d.next }

record IsNoted (named : Option (Key × Secret)) (k : Key) (fate : Fate) (birth : Birth) : Type 0 where
  opens : opening_of (noted named k fate birth) ≡ born_opening (born_change k birth)
  mark : mark_of (noted named k fate birth) ≡ None
  applies : (d : Durable) → applied_if (noted named k fate birth) d ≡ behind named k fate birth d

is_noted : (named : Option (Key × Secret)) (k : Key) (fate : Fate) (birth : Birth) → IsNoted named k fate birth
is_noted None k fate Absent = record { opens = refl; mark = refl; applies = λ d. refl }
is_noted None k fate (Alive s) = record { opens = refl; mark = refl; applies = λ d. refl }
is_noted None k fate BirthEnded = record { opens = refl; mark = refl; applies = λ d. refl }
is_noted (Some named) k Untouched Absent = record { opens = refl; mark = refl; applies = λ d. refl }
is_noted (Some named) k Untouched (Alive s) = record { opens = refl; mark = refl; applies = λ d. refl }
is_noted (Some named) k Untouched BirthEnded = record { opens = refl; mark = refl; applies = λ d. refl }
is_noted (Some named) k (Kept u) Absent = record { opens = refl; mark = refl; applies = λ d. refl }
is_noted (Some named) k (Kept u) (Alive s) = record { opens = refl; mark = refl; applies = λ d. refl }
is_noted (Some named) k (Kept u) BirthEnded = record { opens = refl; mark = refl; applies = λ d. refl }
is_noted (Some named) k FateEnded Absent = record { opens = refl; mark = refl; applies = λ d. refl }
is_noted (Some named) k FateEnded (Alive s) = record { opens = refl; mark = refl; applies = λ d. refl }
is_noted (Some named) k FateEnded BirthEnded = record { opens = refl; mark = refl; applies = λ d. refl }

-- ---- a birth

abbrev next_at : ℕ → Durable → Key
next_at n d = record { home = n; serial = d.next }

-- what is durable after a birth
abbrev with_birth : Durable → Key → Birth → Durable
with_birth d k b = record d { keys = born_keys d.home k b d.keys; next = next_with b d.next }

alive_row : (d : Durable) (n : ℕ) (k : Key) (s : Session) → ((h : ℕ) → d.home ≡ Some h → h ≡ n) → k ≡ next_at n d → (q : Key) → known (with_birth d k (Alive s)) q ≡ set_key (known d) k (Some (Active 1 s)) q
alive_row d n k s own is = subst (λ z. (q : Key) → known (with_birth d z (Alive s)) q ≡ set_key (known d) z (Some (Active 1 s)) q) (sym is) (λ q. known_born d n (Active 1 s) q own)

spent_by : (d : Durable) (n : ℕ) (b : Bool) → is_own d.home (next_at n d) ≡ b → 0 < d.next → ((h : ℕ) → d.home ≡ Some h → h ≡ n) → (q : Key)
    → known (record d { keys = cond b (remove d.keys (next_at n d)) (insert d.keys (next_at n d) (Ended 1)); next = d.next + 1 }) q ≡ set_key (known d) (next_at n d) (Some (Ended (cond b last_number 1))) q
spent_by d n true is some own q = let h = own_home d.home (next_at n d) is in known_spent d n q (h.1 ∙ ap Some (own h.0 h.1)) some own
spent_by d n false is some own q = known_born d n (Ended 1) q own

spent_row : (d : Durable) (n : ℕ) (k : Key) → 0 < d.next → ((h : ℕ) → d.home ≡ Some h → h ≡ n) → k ≡ next_at n d → (q : Key) → known (with_birth d k BirthEnded) q ≡ set_key (known d) k (Some (Ended (over_epoch d.home k 1))) q
spent_row d n k some own is = subst (λ z. (q : Key) → known (with_birth d z BirthEnded) q ≡ set_key (known d) z (Some (Ended (over_epoch d.home z 1))) q) (sym is) (λ q. spent_by d n (is_own d.home (next_at n d)) refl some own q)

-- a birth at a node lets all other keys live as before
born_lives : (disks new : ℕ → Durable) (ps : List Packet) (os : List Opening) (map : Key → Option Session) → LivesOf (keys_of disks) ps os map → (n : ℕ) (k : Key) (b : Birth) → (b ≢ Absent → (x : ℕ) → keys_of disks x k ≡ None)
    → 0 < (disks n).next → ((h : ℕ) → (disks n).home ≡ Some h → h ≡ n) → (b ≢ Absent → k ≡ next_at n (disks n))
    → RowChanges (keys_of disks) (keys_of new) n (known (with_birth (disks n) k b)) → LivesOf (keys_of new) ps (with_last os (born_opening (born_change k b))) (born k b map)
born_lives disks new ps os map j n k Absent none some own is c = lives_same (keys_of disks) (keys_of new) ps os map j n c
born_lives disks new ps os map j n k (Alive s) none some own is c = lives_born (keys_of disks) (keys_of new) ps os map j n k s (none (λ e. cc)) (record { mine = λ q. c.mine q ∙ alive_row (disks n) n k s own (is (λ e. cc)) q; others = c.others })
born_lives disks new ps os map j n k BirthEnded none some own is c = lives_spent (keys_of disks) (keys_of new) ps os map j n k (over_epoch (disks n).home k 1)
    (cond_both (is_own (disks n).home k) last_number 1 (λ d. 0 < d) (λ _. omega arith) (λ _. omega arith)) (over_last (disks n).home k 1 (omega arith)) (none (λ e. cc))
    (record { mine = λ q. c.mine q ∙ spent_row (disks n) n k some own (is (λ e. cc)) q; others = c.others })

next_raised : (b : Birth) (k : ℕ) → b ≢ Absent → next_with b k ≡ k + 1
next_raised Absent k ne = absurd (ne refl)
next_raised (Alive u) k ne = refl
next_raised BirthEnded k ne = refl

next_rises : (b : Birth) (k : ℕ) → k ≤ next_with b k
next_rises Absent k = omega arith
next_rises (Alive u) k = omega arith
next_rises BirthEnded k = omega arith

is_new : (st : Store) (k : Key) (b : Birth) → (b ≢ Absent → st.made k ≡ false) → IsNewKey st k b
is_new st k Absent h = tt
is_new st k (Alive u) h = h (λ e. cc)
is_new st k BirthEnded h = h (λ e. cc)

made_cases : (k : Key) (b : Birth) (made : Key → Bool) (q : Key) → made_with k b made q ≡ true → (made q ≡ true) ⊎ ((q ≡ k) × (b ≢ Absent))
made_cases k Absent made q h = inl h
made_cases k (Alive u) made q h = ⊎_elim (λ (t : (q ≡ k) × _). inr (t.0, λ e. cc)) (λ (t : (q ≢ k) × _). inl (sym (set_there made k true q t.0) ∙ h)) (keys_tell q k)
made_cases k BirthEnded made q h = ⊎_elim (λ (t : (q ≡ k) × _). inr (t.0, λ e. cc)) (λ (t : (q ≢ k) × _). inl (sym (set_there made k true q t.0) ∙ h)) (keys_tell q k)

born_unknown : (d : Durable) (n : ℕ) (k : Key) (b : Birth) (q : Key) → 0 < d.next → ((h : ℕ) → d.home ≡ Some h → h ≡ n) → (b ≢ Absent → k ≡ next_at n d) → (b ≢ Absent → q ≢ k) → known d q ≡ None → known (with_birth d k b) q ≡ None
born_unknown d n k Absent q some own is ne none = none
born_unknown d n k (Alive u) q some own is ne none = alive_row d n k u own (is (λ e. cc)) q ∙ set_there (known d) k (Some (Active 1 u)) q (ne (λ e. cc)) ∙ none
born_unknown d n k BirthEnded q some own is ne none = spent_row d n k some own (is (λ e. cc)) q ∙ set_there (known d) k (Some (Ended (over_epoch d.home k 1))) q (ne (λ e. cc)) ∙ none

-- at a node that forgets none a birth leaves all that is kept, and its key
born_full : (keys : Keys) (k : Key) (b : Birth) (q : Key) → get keys q ≢ None → get (born_keys None k b keys) q ≢ None
born_full keys k Absent q there is = there is
born_full keys k (Alive s) q there is = set_some (get keys) k (Active 1 s) q there (sym (get_there keys k (Active 1 s) q) ∙ is)
born_full keys k BirthEnded q there is = set_some (get keys) k (Ended 1) q there (sym (get_there keys k (Ended 1) q) ∙ is)

born_there : (keys : Keys) (k : Key) (b : Birth) → b ≢ Absent → get (born_keys None k b keys) k ≢ None
born_there keys k Absent some is = absurd (some refl)
born_there keys k (Alive s) some is = absurd (let no : Some (Active 1 s) ≡ None = sym (get_there keys k (Active 1 s) k ∙ set_here (get keys) k (Some (Active 1 s))) ∙ is in cc)
born_there keys k BirthEnded some is = absurd (let no : Some (Ended 1) ≡ None = sym (get_there keys k (Ended 1) k ∙ set_here (get keys) k (Some (Ended 1))) ∙ is in cc)

-- of a home that is none
born_kept : (home : Option ℕ) (keys : Keys) (k : Key) (b : Birth) (q : Key) → home ≡ None → get keys q ≢ None → get (born_keys home k b keys) q ≢ None
born_kept home keys k b q none there = subst (λ h. get (born_keys h k b keys) q ≢ None) (sym none) (born_full keys k b q there)

born_is : (home : Option ℕ) (keys : Keys) (k : Key) (b : Birth) (q : Key) → home ≡ None → b ≢ Absent → q ≡ k → get (born_keys home k b keys) q ≢ None
born_is home keys k b q none some same = subst (λ h. get (born_keys h k b keys) q ≢ None) (sym none) (subst (λ z. get (born_keys None k b keys) z ≢ None) (sym same) (born_there keys k b some))

-- a key that is active isn't unknown
apart_from : (d : Durable) (k q : Key) (e : ℕ) (s : Session) → get d.keys k ≡ Some (Active e s) → known d q ≡ None → q ≢ k
apart_from d k q e s is none same = let a : known d k ≡ Some (Active e s) = kept_known d k (Active e s) is in let b = ap (known d) same in absurd (cc)

-- what became of the session that is named
abbrev with_fate : Durable → Option (Key × Secret) → Fate → Durable
with_fate d named f = record d { keys = fated_keys d.home named f d.keys }

pub keeps_row : (d : Durable) (k : Key) (e : ℕ) (old s : Session) → get d.keys k ≡ Some (Active e old) → IsRow d (record d { keys = kept_at k s (get d.keys k) d.keys }) k (Active e s)
keeps_row d k e old s is = subst (λ st. IsRow d (record d { keys = kept_at k s st d.keys }) k (Active e s)) (sym is) (put_row d k (Active e s))

pub ends_row : (d : Durable) (k : Key) (e : ℕ) (old : Session) → get d.keys k ≡ Some (Active e old) → (is_own d.home k ≡ true → was_given d k ≡ true) → IsRow d (record d { keys = ended_at d.home k (get d.keys k) d.keys }) k (Ended (over_epoch d.home k e))
ends_row d k e old is given = subst (λ st. IsRow d (record d { keys = ended_at d.home k st d.keys }) k (Ended (over_epoch d.home k e))) (sym is) (over_row d k e given)

fated_unknown : (d : Durable) (named : Option (Key × Secret)) (f : Fate) (q : Key) → FateFits d.keys named f → ((k : Key) (e : ℕ) (s : Session) → get d.keys k ≡ Some (Active e s) → is_own d.home k ≡ true → was_given d k ≡ true)
    → known d q ≡ None → known (with_fate d named f) q ≡ None
fated_unknown d None f q h given is = is
fated_unknown d (Some k) Untouched q h given is = is
fated_unknown d (Some k) (Kept u) q h given is = (keeps_row d k.0 h.0 h.1 u h.2).known_is q ∙ set_there (known d) k.0 _ q (apart_from d k.0 q h.0 h.1 h.2 is) ∙ is
fated_unknown d (Some k) FateEnded q h given is = (ends_row d k.0 h.0 h.1 h.2 (given k.0 h.0 h.1 h.2)).known_is q ∙ set_there (known d) k.0 _ q (apart_from d k.0 q h.0 h.1 h.2 is) ∙ is

fated_full : (d : Durable) (named : Option (Key × Secret)) (f : Fate) (q : Key) → FateFits d.keys named f → ((k : Key) (e : ℕ) (s : Session) → get d.keys k ≡ Some (Active e s) → is_own d.home k ≡ true → was_given d k ≡ true)
    → d.home ≡ None → get d.keys q ≢ None → get (with_fate d named f).keys q ≢ None
fated_full d None f q h given none there = there
fated_full d (Some k) Untouched q h given none there = there
fated_full d (Some k) (Kept u) q h given none there = (keeps_row d k.0 h.0 h.1 u h.2).keeps none q there
fated_full d (Some k) FateEnded q h given none there = (ends_row d k.0 h.0 h.1 h.2 (given k.0 h.0 h.1 h.2)).keeps none q there

-- where a birth isn't refused a serial is left
left_by : (set : Setting) (d : Durable) (b : Bool) → cond b (Some SerialsSpent) (cond (is_full set d) (Some TableFull) None) ≡ None → b ≡ false
left_by set d true h = absurd (let no : Some SerialsSpent ≡ None = h in cc)
left_by set d false h = refl

serial_left : (set : Setting) (d : Durable) (b : Birth) → no_birth set d b ≡ None → b ≢ Absent → (d.next == last_number) ≡ false
serial_left set d Absent h ne = absurd (ne refl)
serial_left set d (Alive s) h ne = left_by set d (d.next == last_number) h
serial_left set d BirthEnded h ne = left_by set d (d.next == last_number) h

or_left : (a b : Bool) → (a || b) ≡ false → a ≡ false
or_left true b h = h
or_left false b h = refl

-- the decision keeps the invariant, once its record is there, and its packets may leave then
pub record Sound (m : Meanings) (c : Cluster) (disks : ℕ → Durable) (ps : List Packet) (os : List Opening) (cs : List Commit) (n : ℕ) (old : Durable) (d : Decision) : Type 0 where
  pub durable : (new : ℕ → Durable) → Redisk disks new n d.durable → Sane m c new ps (with_last os (opening_of d.entry)) (with_last cs d.commit)
  pub just : (new : ℕ → Durable) → Redisk disks new n d.durable → AllJustified (keys_of new) ps (sends_in d.outputs)
  pub events : d.events ≡ events_with m (store_of m cs) d.commit
  pub replies : filter_map (reply_in (token_of (setting_of c n old.boot) old)) d.outputs ≡ replies_with m (store_of m cs) d.commit
  pub mark : d.mark ≡ mark_of d.entry
  pub applies : d.durable ≡ applied_if d.entry old

module _ (m : Meanings) (touches : AllTouchOnlyHanded m) (c : Cluster) (disks : ℕ → Durable) (ps : List Packet) (os : List Opening) (cs : List Commit) (j : Sane m c disks ps os cs) (n : ℕ) (node : Node) (here : disks n ≡ node.durable) where
  all : LivesOf (keys_of disks) ps os (store_of m cs).map
  all = record { each = j.lives }

  -- nothing durable changes
  new_is : (new : ℕ → Durable) → Redisk disks new n node.durable → disks ≡ new
  new_is new r = λ i x. (⊎_elim {C = disks x ≡ new x} (λ (e : x ≡ n). ap disks e ∙ here ∙ sym (ap new e ∙ r.mine)) (λ (e : x ≢ n). sym (r.others x e)) (cases_eq x n)) i

  sane_same : (new : ℕ → Durable) → Redisk disks new n node.durable → Sane m c new ps os cs
  sane_same new r = subst (λ ds. Sane m c ds ps os cs) (new_is new r) j

  quiet_sound : (outs : List Output) (waiting : List Parked) (want : ℕ) → IsPlain (keys_of disks) ps (λ number. token_of (setting_of c n node.durable.boot) node.durable number) outs → Sound m c disks ps os cs n node.durable (record { entry = None; commit = None; events = []; mark = None; outputs = outs; durable = node.durable; parked = waiting; next_want = want })
  quiet_sound outs waiting want h = record { durable = sane_same; just = λ new r. subst (λ ds. AllJustified (keys_of ds) ps (sends_in outs)) (new_is new r) h.just; events = refl; replies = h.silent; mark = refl; applies = refl }

  idle_sound : (outs : List Output) → AllJustified (keys_of disks) ps (sends_in outs) → filter_map (reply_in (λ number. token_of (setting_of c n node.durable.boot) node.durable number)) outs ≡ [] → Sound m c disks ps os cs n node.durable (idle node outs)
  idle_sound outs h r = quiet_sound outs node.parked node.next_want (record { just = h; silent = r })

  nothing_sound : Sound m c disks ps os cs n node.durable (idle node [])
  nothing_sound = idle_sound [] tt refl

  home_here : (h : ℕ) → node.durable.home ≡ Some h → h ≡ n
  home_here h is = j.own n h (ap (λ (d : Durable). d.home) here ∙ is)

  next_here : 0 < node.durable.next
  next_here = omega (arith, j.counts n, ap (λ (d : Durable). d.next) here)

  full_here : node.durable.home ≡ None → (q : Key) → q.home ≡ n → 0 < q.serial → q.serial < node.durable.next → get node.durable.keys q ≢ None
  full_here none q home some less is =
      j.full n (ap (λ (d : Durable). d.home) here ∙ none) q home some (omega (arith, less, ap (λ (d : Durable). d.next) here)) (ap (λ (d : Durable). get d.keys q) here ∙ is)

  at_here : (k : Key) (st : Option KeyState) → known node.durable k ≡ st → keys_of disks n k ≡ st
  at_here k st is = ap (λ (d : Durable). known d k) here ∙ is

  kept_here : (k : Key) (st : KeyState) → get node.durable.keys k ≡ Some st → keys_of disks n k ≡ Some st
  kept_here k st is = at_here k (Some st) (kept_known node.durable k st is)

  -- an own key that is known was given here
  given_here : (k : Key) → known node.durable k ≢ None → is_own node.durable.home k ≡ true → was_given node.durable k ≡ true
  given_here k there is =
      let h = own_home node.durable.home k is in
      let home : k.home ≡ n = h.2 ∙ home_here h.0 h.1 in
      let unknown : IsUnmade disks k → known node.durable k ≡ None = λ u. ap (λ (d : Durable). known d k) (sym here) ∙ j.unmade n k u in
      let positive : nat_lt 0 k.serial ≡ true = ⊎_elim (λ (l : 0 < k.serial). lt-ltb 0 k.serial l) (λ (z : k.serial ≤ 0). absurd (there (unknown (inr (omega (arith, z)))))) (cases_lt 0 k.serial) in
      let below : nat_lt k.serial node.durable.next ≡ true = ⊎_elim (λ (l : k.serial < node.durable.next). lt-ltb k.serial node.durable.next l)
      (λ (z : node.durable.next ≤ k.serial). absurd (there (unknown (inl (omega (arith, z, ap (λ y. (disks y).next) home, ap (λ (d : Durable). d.next) here)))))) (cases_lt k.serial node.durable.next) in
      (λ i. is i && (positive i && below i))

  pub active_given : (k : Key) (e : ℕ) (s : Session) → get node.durable.keys k ≡ Some (Active e s) → is_own node.durable.home k ≡ true → was_given node.durable k ≡ true
  active_given k e s is own = given_here k (λ none. let a : known node.durable k ≡ Some (Active e s) = kept_known node.durable k (Active e s) is in cc) own

  -- no epoch is past the last
  pub active_within : (k : Key) (e : ℕ) (s : Session) → get node.durable.keys k ≡ Some (Active e s) → e ≤ last_number
  active_within k e s is =
      let l = j.lives k in
      let h : l.phase ≡ Here n e s = is_here l.phase (λ x. keys_of disks x k) n e s l.stands (kept_here k (Active e s) is) in
      omega (arith, l.within, ap top h)

  -- ---- what is durable at this node becomes another

  up_after : (disk : Durable) → node.durable.next ≤ disk.next → (new : ℕ → Durable) → Redisk disks new n disk → (y : ℕ) → (disks y).next ≤ (new y).next
  up_after disk le new r = next_of disks new n disk r (omega (arith, le, ap (λ (d : Durable). d.next) here))

  counts_after : (disk : Durable) → node.durable.next ≤ disk.next → (new : ℕ → Durable) → Redisk disks new n disk → (y : ℕ) → 0 < (new y).next
  counts_after disk le new r y = omega (arith, j.counts y, up_after disk le new r y)

  own_after : (disk : Durable) → disk.home ≡ node.durable.home → (new : ℕ → Durable) → Redisk disks new n disk → (y h : ℕ) → (new y).home ≡ Some h → h ≡ y
  own_after disk same new r y h is = ⊎_elim
      (λ (e : y ≡ n). j.own y h (ap (λ z. (disks z).home) e ∙ ap (λ (d : Durable). d.home) here ∙ sym same ∙ ap (λ (d : Durable). d.home) (sym r.mine) ∙ ap (λ z. (new z).home) (sym e) ∙ is))
      (λ (e : y ≢ n). j.own y h (ap (λ (d : Durable). d.home) (sym (r.others y e)) ∙ is))
      (cases_eq y n)

  full_after : (disk : Durable) → (disk.home ≡ None → (q : Key) → q.home ≡ n → 0 < q.serial → q.serial < disk.next → get disk.keys q ≢ None) → (new : ℕ → Durable) → Redisk disks new n disk
      → (y : ℕ) → (new y).home ≡ None → (q : Key) → q.home ≡ y → 0 < q.serial → q.serial < (new y).next → get (new y).keys q ≢ None
  full_after disk mine new r y none q home some less is = ⊎_elim
      (λ (e : y ≡ n). mine (ap (λ (d : Durable). d.home) (sym r.mine) ∙ ap (λ z. (new z).home) (sym e) ∙ none) q (home ∙ e) some (omega (arith, less, ap (λ z. (new z).next) e, ap (λ (d : Durable). d.next) r.mine)) (ap (λ (d : Durable). get d.keys q) (sym r.mine) ∙ ap (λ z. get (new z).keys q) (sym e) ∙ is))
      (λ (e : y ≢ n). j.full y (ap (λ (d : Durable). d.home) (sym (r.others y e)) ∙ none) q home some (omega (arith, less, ap (λ (d : Durable). d.next) (r.others y e))) (ap (λ (d : Durable). get d.keys q) (sym (r.others y e)) ∙ is))
      (cases_eq y n)

  -- ---- a key that some node knows changes at this one

  module _ (disk : Durable) (k : Key) (st : KeyState) (row : IsRow node.durable disk k st) (new : ℕ → Durable) (r : Redisk disks new n disk) where
    up_row : (y : ℕ) → (disks y).next ≤ (new y).next
    up_row = up_after disk (omega (arith, row.next_is)) new r

    unmade_row : (x : ℕ) → (keys_of disks x k ≢ None) → (y : ℕ) (q : Key) → IsUnmade new q → known (new y) q ≡ None
    unmade_row x there y q h =
        let before = unmade_before disks new up_row q h in
        let old = j.unmade y q before in
        let unknown : q ≢ k = λ e. there (ap (keys_of disks x) (sym e) ∙ j.unmade x q before) in
        ⊎_elim
        (λ (e : y ≡ n). ap (λ z. known (new z) q) e ∙ ap (λ (d : Durable). known d q) r.mine ∙ row.known_is q ∙ set_there (known node.durable) k (Some st) q unknown ∙ ap (λ (d : Durable). known d q) (sym here) ∙ ap (λ z. known (disks z) q) (sym e) ∙ old)
        (λ (e : y ≢ n). ap (λ (d : Durable). known d q) (r.others y e) ∙ old)
        (cases_eq y n)

    counts_row : (y : ℕ) → 0 < (new y).next
    counts_row = counts_after disk (omega (arith, row.next_is)) new r

    full_row : (y : ℕ) → (new y).home ≡ None → (q : Key) → q.home ≡ y → 0 < q.serial → q.serial < (new y).next → get (new y).keys q ≢ None
    full_row = full_after disk (λ none q home some less. row.keeps none q (full_here (sym row.home_is ∙ none) q home some (omega (arith, less, row.next_is)))) new r

    sane_row : (os' : List Opening) (x : ℕ) → (keys_of disks x k ≢ None) → LivesOf (keys_of new) ps os' (store_of m cs).map → Sane m c new ps os' cs
    sane_row os' x there l = record {
      lives = l.each;
      unmade = unmade_row x there;
      made = λ q h. omega (arith, up_row q.home, j.made q h);
      lawful = j.lawful;
      counts = counts_row;
      own = own_after disk row.home_is new r;
      full = full_row;
    }

    row_here : RowChanges (keys_of disks) (keys_of new) n (set_key (keys_of disks n) k (Some st))
    row_here = record {
      mine = λ q. ap (λ (d : Durable). known d q) r.mine ∙ row.known_is q ∙ ap (λ (d : Durable). set_key (known d) k (Some st) q) (sym here);
      others = λ x q ne. ap (λ (d : Durable). known d q) (r.others x ne);
    }

    at_new : keys_of new n k ≡ Some st
    at_new = ap (λ (d : Durable). known d k) r.mine ∙ row.known_is k ∙ set_here (known node.durable) k (Some st)

  hands_sound : (k : Key) (e : ℕ) (s : Session) (to : ℕ) (more : List Output) → sends_in more ≡ [] → filter_map (reply_in (λ number. token_of (setting_of c n node.durable.boot) node.durable number)) more ≡ [] → get node.durable.keys k ≡ Some (Active e s) → to ≢ n → e ≢ last_number → Sound m c disks ps os cs n node.durable (hands_over (setting_of c n node.durable.boot) node k e s to more)
  hands_sound k e s to more none silent is apart left =
      let row = put_row node.durable k (Sent (e + 1) s to) in
      let disk = with_key node.durable k (Sent (e + 1) s to) in
      record {
        durable = λ new r. sane_row disk k _ row new r _ n (λ h. let a = kept_here k _ is in cc) (lives_sends (keys_of disks) (keys_of new) ps os _ all n k e s to (kept_here k _ is) apart left (row_here disk k _ row new r));
        just = λ new r. (at_new disk k _ row new r, subst (AllJustified (keys_of new) ps) (sym none) tt);
        events = refl;
        replies = silent;
        mark = refl;
        applies = refl;
      }

  -- who granted a newer epoch knows the key
  granter_knows : (k : Key) (e : ℕ) (s : Session) (from : ℕ) → granted ps k e s from n → epoch_in (keys_of disks n k) < e → keys_of disks from k ≢ None
  granter_knows k e s from g newer h =
      let l = j.lives k in
      let away : l.phase ≡ Away from e s n = ⊎_elim (λ (x : e ≤ epoch_in (keys_of disks n k)). absurd (omega arith)) (λ (x : l.phase ≡ Away from e s n). x) (l.grant e s from n g) in
      let st = subst (λ p. Stands p (λ x. keys_of disks x k)) away l.stands in
      let a = st.0 in cc

  takes_sound : (k : Key) (e : ℕ) (s : Session) (from : ℕ) → granted ps k e s from n → epoch_in (known node.durable k) < e → Sound m c disks ps os cs n node.durable (takes_over (setting_of c n node.durable.boot) node from k e s)
  takes_sound k e s from g newer =
      let newer' : epoch_in (keys_of disks n k) < e = omega (arith, ap epoch_in (at_here k _ refl)) in
      let row = put_row node.durable k (Active e s) in
      let disk = with_key node.durable k (Active e s) in
      record {
        durable = λ new r. sane_row disk k _ row new r _ from (granter_knows k e s from g newer') (lives_takes (keys_of disks) (keys_of new) ps os _ all n k e s from g newer' (row_here disk k _ row new r));
        just = λ new r. ((s, g, omega (arith, ap epoch_in (at_new disk k _ row new r))), tt);
        events = refl;
        replies = refl;
        mark = refl;
        applies = refl;
      }

  forgets_sound : (k : Key) (e f : ℕ) (s : Session) (t : ℕ) → f ≡ e → known node.durable k ≡ Some (Sent f s t) → acked ps k e n → Sound m c disks ps os cs n node.durable (with_record node (GoneRecord k e) k (Gone e) None [])
  forgets_sound k e f s t same is' a =
      let is : known node.durable k ≡ Some (Sent e s t) = is' ∙ ap (λ z. Some (Sent z s t)) same in
      let row = put_row node.durable k (Gone e) in
      let disk = with_key node.durable k (Gone e) in
      record {
        durable = λ new r. sane_row disk k _ row new r _ n (λ h. let b = at_here k _ is in cc) (lives_forgets (keys_of disks) (keys_of new) ps os _ all n k e s t (at_here k _ is) a (row_here disk k _ row new r));
        just = λ new r. tt;
        events = refl;
        replies = refl;
        mark = refl;
        applies = refl;
      }

  -- a session expires, and this is put out beside it
  expires_sound : (k : Key) (now e : ℕ) (s : Session) (outs : List Output) (waiting : List Parked) → get node.durable.keys k ≡ Some (Active e s) → is_over now (Active e s) ≡ true
      → ((new : ℕ → Durable) → Redisk disks new n (with_over node.durable k e) → IsPlain (keys_of new) ps (λ number. token_of (setting_of c n node.durable.boot) node.durable number) outs)
      → filter_map (reply_in (λ number. token_of (setting_of c n node.durable.boot) node.durable number)) outs ≡ []
      → Sound m c disks ps os cs n node.durable (record (expire node now (Some (k, Active e s)) []) { outputs = outs; parked = waiting })
  expires_sound k now e s outs waiting is over plain silent =
      let held : (store_of m cs).map k ≡ Some s = map_has_live _ _ _ _ _ (j.lives k) n s (subst (λ st. IsLive (λ x. keys_of disks x k) st s) (sym (kept_here k _ is)) refl) in
      let le = active_within k e s is in
      let row = over_row node.durable k e (active_given k e s is) in
      let disk = with_over node.durable k e in
      record {
        durable = λ new r.
            let up = up_row disk k _ row new r in
            let l = lives_ends (keys_of disks) (keys_of new) ps os _ all n k e (over_epoch node.durable.home k e) s (over_up node.durable.home k e le) (over_last node.durable.home k e le) (kept_here k _ is) (row_here disk k _ row new r) in
            let same_store = after_snoc m nothing_stored cs (Expired k now) in
            record {
              lives = subst (λ (st : Store). (q : Key) → Life (λ x. known (new x) q) (granted ps q) (acked ps q) (opened os q) (st.map q)) (sym same_store) l.each;
              unmade = unmade_row disk k _ row new r n (λ h. let b = kept_here k _ is in cc);
              made = λ q h. omega (arith, up q.home, j.made q (ap (λ (st : Store). st.made q) (sym same_store) ∙ h));
              lawful = lawful_snoc m nothing_stored cs (Expired k now) j.lawful (record { session = s; there = held; expired = over });
              counts = counts_row disk k _ row new r;
              own = own_after disk row.home_is new r;
              full = full_row disk k _ row new r;
            };
        just = λ new r. (plain new r).just;
        events = ap (expiry_events k) (sym held);
        replies = silent;
        mark = refl;
        applies = λ i. record (node.durable) { keys = ended_at node.durable.home k (sym is i) node.durable.keys };
      }

  -- ---- a request is served

  -- what is handed in is what the map has
  handed_state : (k : Key) (st : Option KeyState) → get node.durable.keys k ≡ st → handed_if (is_some (option_map {U = Key × Session} (λ s. (k, s)) (session_in st))) (option_map (λ s. (k, s)) ((store_of m cs).map k)) ≡ option_map (λ s. (k, s)) (session_in st)
  handed_state k None is = refl
  handed_state k (Some (Active e s)) is = ap (option_map (λ s. (k, s))) (map_has_live _ _ _ _ _ (j.lives k) n s (subst (λ st. IsLive (λ x. keys_of disks x k) st s) (sym (kept_here k _ is)) refl))
  handed_state k (Some (Sent e s to)) is = refl
  handed_state k (Some (Gone e)) is = refl
  handed_state k (Some (Ended e)) is = refl

  handed_same : (named : Option (Key × Secret)) → handed_if (is_some (held_in node.durable.keys named)) (held_by (store_of m cs).map named) ≡ held_in node.durable.keys named
  handed_same None = refl
  handed_same (Some k) = handed_state k.0 (get node.durable.keys k.0) refl

  -- by the law, a session is touched only where the key is active
  fits_state : (k : Key × Secret) (st : Option KeyState) (r : Request) (now : ℕ) (fresh : Key × Secret) → get node.durable.keys k.0 ≡ st → FateFits node.durable.keys (Some k) ((m n node.durable.boot).serve r (option_map (λ s. (k.0, s)) (session_in st)) now fresh).fate
  fits_state k None r now fresh is = subst (FateFits node.durable.keys (Some k)) (sym (touches n node.durable.boot r now fresh)) tt
  fits_state k (Some (Active e s)) r now fresh is = touched ((m n node.durable.boot).serve r (Some (k.0, s)) now fresh).fate
    where
      touched : (f : Fate) → FateFits node.durable.keys (Some k) f
      touched Untouched = tt
      touched (Kept u) = (e, s, is)
      touched FateEnded = (e, s, is)
  fits_state k (Some (Sent e s to)) r now fresh is = subst (FateFits node.durable.keys (Some k)) (sym (touches n node.durable.boot r now fresh)) tt
  fits_state k (Some (Gone e)) r now fresh is = subst (FateFits node.durable.keys (Some k)) (sym (touches n node.durable.boot r now fresh)) tt
  fits_state k (Some (Ended e)) r now fresh is = subst (FateFits node.durable.keys (Some k)) (sym (touches n node.durable.boot r now fresh)) tt

  fits_named : (named : Option (Key × Secret)) (r : Request) (now : ℕ) (fresh : Key × Secret) → FateFits node.durable.keys named ((m n node.durable.boot).serve r (held_in node.durable.keys named) now fresh).fate
  fits_named None r now fresh = tt
  fits_named (Some k) r now fresh = fits_state k (get node.durable.keys k.0) r now fresh refl

  -- with the session's fate
  fate_lives : (named : Option (Key × Secret)) (fate : Fate) → FateFits node.durable.keys named fate → (new : ℕ → Durable) → ((q : Key) → keys_of new n q ≡ known (with_fate node.durable named fate) q) → ((x : ℕ) → x ≢ n → new x ≡ disks x) → LivesOf (keys_of new) ps os (fated named fate (store_of m cs).map)
  fate_lives None fate f new mine others = lives_same (keys_of disks) (keys_of new) ps os _ all n (record { mine = λ q. mine q ∙ ap (λ (d : Durable). known d q) (sym here); others = λ x q ne. ap (λ (d : Durable). known d q) (others x ne) })
  fate_lives (Some k) Untouched f new mine others = lives_same (keys_of disks) (keys_of new) ps os _ all n (record { mine = λ q. mine q ∙ ap (λ (d : Durable). known d q) (sym here); others = λ x q ne. ap (λ (d : Durable). known d q) (others x ne) })
  fate_lives (Some k) (Kept u) f new mine others = lives_keeps (keys_of disks) (keys_of new) ps os _ all n k.0 f.0 f.1 u (kept_here k.0 _ f.2) (record {
    mine = λ q. mine q ∙ (keeps_row node.durable k.0 f.0 f.1 u f.2).known_is q ∙ ap (λ (d : Durable). set_key (known d) k.0 (Some (Active f.0 u)) q) (sym here);
    others = λ x q ne. ap (λ (d : Durable). known d q) (others x ne);
  })
  fate_lives (Some k) FateEnded f new mine others =
      let le = active_within k.0 f.0 f.1 f.2 in
      lives_ends (keys_of disks) (keys_of new) ps os _ all n k.0 f.0 (over_epoch node.durable.home k.0 f.0) f.1 (over_up node.durable.home k.0 f.0 le) (over_last node.durable.home k.0 f.0 le) (kept_here k.0 _ f.2) (record {
        mine = λ q. mine q ∙ (ends_row node.durable k.0 f.0 f.1 f.2 (active_given k.0 f.0 f.1 f.2)).known_is q ∙ ap (λ (d : Durable). set_key (known d) k.0 (Some (Ended (over_epoch node.durable.home k.0 f.0))) q) (sym here);
        others = λ x q ne. ap (λ (d : Durable). known d q) (others x ne);
      })

  -- the next key is known nowhere
  next_unmade : IsUnmade disks (record { home = n; serial = node.durable.next })
  next_unmade = inl (omega (arith, ap (λ (d : Durable). d.next) here))

  next_new : (store_of m cs).made (record { home = n; serial = node.durable.next }) ≡ false
  next_new = false_from_ne_true _ (λ h. absurd (omega (arith, j.made (record { home = n; serial = node.durable.next }) h, ap (λ (d : Durable). d.next) here)))

  module _ (moment : Moment) (token : ℕ) (r : Request) (waiting : List Parked) where
    out : Outcome
    out = answer_of (m n node.durable.boot) (setting_of c n node.durable.boot) node.durable moment r

    fresh : Key × Secret
    fresh = fresh_of (setting_of c n node.durable.boot) node.durable moment

    fits : FateFits node.durable.keys ((m n node.durable.boot).names r) out.fate
    unfolding out
    fits = fits_named ((m n node.durable.boot).names r) r moment.now (fresh_of (setting_of c n node.durable.boot) node.durable moment)

    -- with the session's fate, before the birth
    middle : ℕ → Durable
    middle x = cond (x == n) (with_fate node.durable ((m n node.durable.boot).names r) out.fate) (disks x)

    middle_here : middle n ≡ with_fate node.durable ((m n node.durable.boot).names r) out.fate
    unfolding middle
    middle_here = cond-true _ _ _ (eq-eqb n n refl)

    middle_there : (x : ℕ) → x ≢ n → middle x ≡ disks x
    unfolding middle
    middle_there x ne = cond-false _ _ _ (ne_eqb x n ne)

    middle_lives : LivesOf (keys_of middle) ps os (fated ((m n node.durable.boot).names r) out.fate (store_of m cs).map)
    middle_lives = fate_lives ((m n node.durable.boot).names r) out.fate fits middle (λ q. ap (λ (d : Durable). known d q) middle_here) middle_there

    middle_unknown : (x : ℕ) (q : Key) → IsUnmade disks q → keys_of middle x q ≡ None
    middle_unknown x q un = ⊎_elim
        (λ (e : x ≡ n). ap (λ z. known (middle z) q) e ∙ ap (λ (d : Durable). known d q) middle_here ∙ fated_unknown node.durable ((m n node.durable.boot).names r) out.fate q fits active_given (ap (λ (d : Durable). known d q) (sym here) ∙ j.unmade n q un))
        (λ (e : x ≢ n). ap (λ (d : Durable). known d q) (middle_there x e) ∙ j.unmade x q un)
        (cases_eq x n)

    the_commit : Commit
    the_commit = Served (token_of (setting_of c n node.durable.boot) node.durable token) r moment.now (is_some (held_in node.durable.keys ((m n node.durable.boot).names r))) fresh

    -- the container's outcome is the node's
    outcome_same : outcome_of (m n node.durable.boot) (store_of m cs) r moment.now (is_some (held_in node.durable.keys ((m n node.durable.boot).names r))) fresh ≡ out
    unfolding out fresh
    outcome_same = ap (λ h. (m n node.durable.boot).serve r h moment.now (fresh_of (setting_of c n node.durable.boot) node.durable moment)) (handed_same ((m n node.durable.boot).names r))

    stored_served : store_of m (cs ++ the_commit ∷ []) ≡ stored ((m n node.durable.boot).names r) fresh.0 out (store_of m cs)
    unfolding the_commit
    stored_served = after_snoc m nothing_stored cs the_commit ∙ ap (λ o. stored ((m n node.durable.boot).names r) fresh.0 o (store_of m cs)) outcome_same

    module _ (allowed : no_birth (setting_of c n node.durable.boot) node.durable out.birth ≡ None) where
      fresh_is : out.birth ≢ Absent → fresh.0 ≡ record { home = n; serial = node.durable.next }
      unfolding fresh
      fresh_is some = let at : Bool → Key = λ b. record { home = n; serial = cond b 0 node.durable.next } in ap at (serial_left (setting_of c n node.durable.boot) node.durable out.birth allowed some)

      -- all that was handed out is kept, and the new key, at a node that forgets none
      full_birth : node.durable.home ≡ None → (q : Key) → q.home ≡ n → 0 < q.serial → q.serial < next_with out.birth node.durable.next → get (born_keys node.durable.home fresh.0 out.birth (with_fate node.durable ((m n node.durable.boot).names r) out.fate).keys) q ≢ None
      full_birth none q home some less = ⊎_elim
          (λ (l : q.serial < node.durable.next). born_kept node.durable.home _ fresh.0 out.birth q none (fated_full node.durable ((m n node.durable.boot).names r) out.fate q fits active_given none (full_here none q home some l)))
          (λ (l : node.durable.next ≤ q.serial).
          let birth : out.birth ≢ Absent = λ absent. absurd (omega (arith, less, l, ap (λ b. next_with b node.durable.next) absent)) in
          let serial : q.serial ≡ node.durable.next = omega (arith, l, less, next_raised out.birth node.durable.next birth) in
          let at : q ≡ fresh.0 = (λ i. record { home = home i; serial = serial i }) ∙ sym (fresh_is birth) in
          born_is node.durable.home _ fresh.0 out.birth q none birth at)
          (cases_lt q.serial node.durable.next)

      answered_sound : Sound m c disks ps os cs n node.durable (answered (m n node.durable.boot) (setting_of c n node.durable.boot) node moment token r out waiting)
      unfolding fresh the_commit
      answered_sound = record {
        durable = λ new red.
            let rises = next_rises out.birth node.durable.next in
            let up = up_after _ rises new red in
            let next_is : (new n).next ≡ next_with out.birth node.durable.next = ap (λ (d : Durable). d.next) red.mine in
            let lives = born_lives middle new ps os _ middle_lives n fresh.0 out.birth
            (λ some x. ap (keys_of middle x) (fresh_is some) ∙ middle_unknown x _ next_unmade)
            (omega (arith, next_here, ap (λ (d : Durable). d.next) middle_here))
            (λ h is. home_here h (ap (λ (d : Durable). d.home) (sym middle_here) ∙ is))
            (λ some. fresh_is some ∙ ap (λ (d : Durable). next_at n d) (sym middle_here))
            (record {
              mine = λ q. ap (λ (d : Durable). known d q) red.mine ∙ ap (λ (d : Durable). known (with_birth d fresh.0 out.birth) q) (sym middle_here);
              others = λ x q ne. ap (λ (d : Durable). known d q) (red.others x ne ∙ sym (middle_there x ne));
            }) in
            let raised : out.birth ≢ Absent → (new n).next ≡ node.durable.next + 1 = λ some. next_is ∙ next_raised out.birth node.durable.next some in
            record {
              lives = λ q. subst (λ (st : Store). Life (λ x. known (new x) q) (granted ps q) (acked ps q) (opened (with_last os (opening_of (entry_of (named_change ((m n node.durable.boot).names r) out.fate) (born_change fresh.0 out.birth)))) q) (st.map q)) (sym stored_served)
                  (subst (λ o. Life (λ x. known (new x) q) (granted ps q) (acked ps q) (opened (with_last os o) q) (born fresh.0 out.birth (fated ((m n node.durable.boot).names r) out.fate (store_of m cs).map) q)) (sym (is_noted ((m n node.durable.boot).names r) fresh.0 out.fate out.birth).opens) (lives.each q));
              unmade = λ y q h.
                  let before = unmade_before disks new up q h in
                  ⊎_elim
                  (λ (e : y ≡ n). ap (λ z. known (new z) q) e ∙ ap (λ (d : Durable). known d q) red.mine ∙ born_unknown (with_fate node.durable ((m n node.durable.boot).names r) out.fate) n fresh.0 out.birth q next_here home_here fresh_is
                  (λ some same. let at : q ≡ record { home = n; serial = node.durable.next } = same ∙ fresh_is some in ⊎_elim
                  (λ (l : (new q.home).next ≤ q.serial). absurd (omega (arith, raised some, ap (λ (z : Key). z.serial) at, ap (λ z. (new z).next) (ap (λ (z : Key). z.home) at))))
                  (λ (z : q.serial ≡ 0). absurd (omega (arith, z, next_here, ap (λ (z : Key). z.serial) at)))
                  h)
                  (ap (λ (d : Durable). known d q) (sym middle_here) ∙ middle_unknown n q before))
                  (λ (e : y ≢ n). ap (λ (d : Durable). known d q) (red.others y e) ∙ j.unmade y q before)
                  (cases_eq y n);
              made = λ q h. ⊎_elim
                  (λ (old : (store_of m cs).made q ≡ true). omega (arith, up q.home, j.made q old))
                  (λ (t : (q ≡ fresh.0) × (out.birth ≢ Absent)). let at : q ≡ record { home = n; serial = node.durable.next } = t.0 ∙ fresh_is t.1 in omega (arith, raised t.1, ap (λ (z : Key). z.serial) at, ap (λ z. (new z).next) (ap (λ (z : Key). z.home) at)))
                  (made_cases fresh.0 out.birth (store_of m cs).made q (ap (λ (st : Store). st.made q) (sym stored_served) ∙ h));
              lawful = lawful_snoc m nothing_stored cs the_commit j.lawful (is_new (store_of m cs) fresh.0 _ (λ some. ap (store_of m cs).made (fresh_is (λ absent. some (ap (λ (o : Outcome). o.birth) outcome_same ∙ absent))) ∙ next_new));
              counts = counts_after _ rises new red;
              own = own_after _ refl new red;
              full = full_after _ full_birth new red;
            };
        just = λ new red. tt;
        events = ap (λ (o : Outcome). o.events) (sym outcome_same);
        replies = ap (λ (o : Outcome). (token_of (setting_of c n node.durable.boot) node.durable token, o.response) ∷ []) (sym outcome_same);
        mark = sym (is_noted ((m n node.durable.boot).names r) fresh.0 out.fate out.birth).mark;
        applies = sym ((is_noted ((m n node.durable.boot).names r) fresh.0 out.fate out.birth).applies node.durable);
      }

  unless_sound : (cause : Option Cause) (moment : Moment) (token : ℕ) (r : Request) (waiting : List Parked) → no_birth (setting_of c n node.durable.boot) node.durable (answer_of (m n node.durable.boot) (setting_of c n node.durable.boot) node.durable moment r).birth ≡ cause → Sound m c disks ps os cs n node.durable (answered_unless cause (m n node.durable.boot) (setting_of c n node.durable.boot) node moment token r (answer_of (m n node.durable.boot) (setting_of c n node.durable.boot) node.durable moment r) waiting)
  unfolding out
  unless_sound None moment token r waiting is = answered_sound moment token r waiting is
  unless_sound (Some cause) moment token r waiting is = quiet_sound _ waiting node.next_want (record { just = tt; silent = refl })

  serve_sound : (moment : Moment) (token : ℕ) (r : Request) (waiting : List Parked) → Sound m c disks ps os cs n node.durable (served (m n node.durable.boot) (setting_of c n node.durable.boot) node moment token r waiting)
  serve_sound moment token r waiting = unless_sound (no_birth (setting_of c n node.durable.boot) node.durable (answer_of (m n node.durable.boot) (setting_of c n node.durable.boot) node.durable moment r).birth) moment token r waiting refl

  -- ---- the rows

  -- a test decides between two decisions
  either : (b : Bool) (x y : Decision) → (b ≡ true → Sound m c disks ps os cs n node.durable x) → (b ≡ false → Sound m c disks ps os cs n node.durable y) → Sound m c disks ps os cs n node.durable (cond b x y)
  either b x y f g = cond_both b x y (λ d. Sound m c disks ps os cs n node.durable d) f g

  waits_sound : (moment : Moment) (token : ℕ) (r : Request) (k : Key) → Sound m c disks ps os cs n node.durable (waits (setting_of c n node.durable.boot) node moment token r k)
  waits_sound moment token r k =
      either (is_crowded (setting_of c n node.durable.boot) node.durable k) (refused node token TableFull node.parked) _ (λ t. quiet_sound _ node.parked node.next_want (record { just = tt; silent = refl }))
      (λ t. either (nat_le PARK_LIMIT (length node.parked)) (refused node token ParkFull node.parked) (cond (node.next_want == last_number) (refused node token WantsSpent node.parked) (parks (setting_of c n node.durable.boot) node moment token r k))
      (λ t. quiet_sound _ node.parked node.next_want (record { just = tt; silent = refl }))
      (λ t. either (node.next_want == last_number) (refused node token WantsSpent node.parked) (parks (setting_of c n node.durable.boot) node moment token r k) (λ u. quiet_sound _ node.parked node.next_want (record { just = tt; silent = refl }))
      (λ u. quiet_sound (wants (setting_of c n node.durable.boot) node.durable k node.next_want) _ (node.next_want + 1) (plain_wants (keys_of disks) ps _ (setting_of c n node.durable.boot) node.durable k node.next_want))))

  ask_sound : (moment : Moment) (token : ℕ) (r : Request) (named : Option (Key × Secret)) → Sound m c disks ps os cs n node.durable (on_ask (m n node.durable.boot) (setting_of c n node.durable.boot) node moment token r named)
  ask_sound moment token r None = serve_sound moment token r node.parked
  ask_sound moment token r (Some k) = either _ (served (m n node.durable.boot) (setting_of c n node.durable.boot) node moment token r node.parked) (waits (setting_of c n node.durable.boot) node moment token r k.0) (λ t. serve_sound moment token r node.parked) (λ t. waits_sound moment token r k.0)

  first_sound : (moment : Moment) (p : Option Parked) (rest : List Parked) → Sound m c disks ps os cs n node.durable (serve_first (m n node.durable.boot) (setting_of c n node.durable.boot) node moment p rest)
  first_sound moment None rest = nothing_sound
  first_sound moment (Some p) rest = serve_sound moment p.token p.request rest

  parked_sound : (moment : Moment) (test : Parked → Bool) → Sound m c disks ps os cs n node.durable (serve_parked (m n node.durable.boot) (setting_of c n node.durable.boot) node moment test)
  parked_sound moment test = first_sound moment (first_of test node.parked) (without test node.parked)

  no_sound : (from : ℕ) (k : Key) (boot want : ℕ) → Sound m c disks ps os cs n node.durable (says_no (setting_of c n node.durable.boot) node from k boot want)
  no_sound from k boot want = idle_sound _ (tt, tt) refl

  unmade_sound : (from : ℕ) (k : Key) (boot want : ℕ) → Sound m c disks ps os cs n node.durable (no_if_unmade (setting_of c n node.durable.boot) node from k boot want)
  unmade_sound from k boot want = either _ (says_no (setting_of c n node.durable.boot) node from k boot want) (idle node []) (λ t. no_sound from k boot want) (λ t. nothing_sound)

  want_sound : (from : ℕ) (k : Key) (boot want : ℕ) (st : Option KeyState) → from ≢ n → known node.durable k ≡ st → Sound m c disks ps os cs n node.durable (on_want (setting_of c n node.durable.boot) node from k boot want st)
  want_sound from k boot want None apart is = unmade_sound from k boot want
  want_sound from k boot want (Some (Active e s)) apart is = either _ (idle node []) (hands_over (setting_of c n node.durable.boot) node k e s from []) (λ t. nothing_sound) (λ t. hands_sound k e s from [] refl refl (active_kept (was_given node.durable k) (get node.durable.keys k) e s is) apart (eqb-false e last_number t))
  want_sound from k boot want (Some (Sent e s to)) apart is = either (to == from) (idle node (_ ∷ [])) (no_if_unmade (setting_of c n node.durable.boot) node from k boot want)
      (λ t. idle_sound _ (at_here k _ is ∙ ap (λ z. Some (Sent e s z)) (eqb-true to from t), tt) refl) (λ t. unmade_sound from k boot want)
  want_sound from k boot want (Some (Gone e)) apart is = unmade_sound from k boot want
  want_sound from k boot want (Some (Ended e)) apart is = no_sound from k boot want

  grant_sound : (from : ℕ) (k : Key) (e : ℕ) (s : Session) → granted ps k e s from n → Sound m c disks ps os cs n node.durable (on_grant (setting_of c n node.durable.boot) node from k e s (known node.durable k))
  grant_sound from k e s g = either (is_unmade (setting_of c n node.durable.boot) node.durable k) (idle node []) _ (λ t. nothing_sound)
      (λ t. either (nat_le e (epoch_in (known node.durable k))) (idle node (Send (Ack n from k e) ∷ [])) _ (λ u. idle_sound (Send (Ack n from k e) ∷ []) ((s, g, omega (arith, leb-true _ _ u, ap epoch_in (at_here k _ refl))), tt) refl)
      (λ u. either (lacks_room (setting_of c n node.durable.boot) node.durable k) (idle node []) (takes_over (setting_of c n node.durable.boot) node from k e s) (λ v. nothing_sound) (λ v. takes_sound k e s from g (leb-false _ _ u))))

  ack_sound : (k : Key) (e : ℕ) (st : Option KeyState) → known node.durable k ≡ st → acked ps k e n → Sound m c disks ps os cs n node.durable (on_ack node k e st)
  ack_sound k e None is a = nothing_sound
  ack_sound k e (Some (Active f s)) is a = nothing_sound
  ack_sound k e (Some (Sent f s to)) is a = either (f == e) (with_record node (GoneRecord k e) k (Gone e) None []) (idle node []) (λ t. forgets_sound k e f s to (eqb-true f e t) is a) (λ t. nothing_sound)
  ack_sound k e (Some (Gone f)) is a = nothing_sound
  ack_sound k e (Some (Ended f)) is a = nothing_sound

  move_sound : (k : Key) (to : ℕ) (st : Option KeyState) → known node.durable k ≡ st → Sound m c disks ps os cs n node.durable (on_move (setting_of c n node.durable.boot) node k to st)
  move_sound k to None is = idle_sound _ tt refl
  move_sound k to (Some (Active e s)) is = either ((to == n) || nat_le (c.nodes n node.durable.boot) to) (move_refused node _) _ (λ t. idle_sound _ tt refl)
      (λ t. either (e == last_number) (move_refused node _) (hands_over (setting_of c n node.durable.boot) node k e s to _) (λ u. idle_sound _ tt refl) (λ u. hands_sound k e s to _ refl refl (active_kept (was_given node.durable k) (get node.durable.keys k) e s is) (eqb-false to n (or_left (to == n) (nat_le (c.nodes n node.durable.boot) to) t)) (eqb-false e last_number u)))
  move_sound k to (Some (Sent e s there)) is = idle_sound _ tt refl
  move_sound k to (Some (Gone e)) is = idle_sound _ tt refl
  move_sound k to (Some (Ended e)) is = idle_sound _ tt refl

  -- what a tick puts out may leave, whatever is durable after it
  tick_plain : (steady : ℕ) (d : Durable) (new : ℕ → Durable) → new n ≡ d → IsPlain (keys_of new) ps (λ number. token_of (setting_of c n node.durable.boot) node.durable number)
      (deadlines (setting_of c n node.durable.boot) steady node.parked ++ wants_again (setting_of c n node.durable.boot) node.durable (filter (λ p. not (is_late (setting_of c n node.durable.boot) steady p)) node.parked) ++ filter_map (grant_again (setting_of c n node.durable.boot)) (entries d.keys))
  tick_plain steady d new is =
      plain_both _ _ _ _ _ (plain_both _ _ _ _ _ (plain_deadlines _ _ _ (setting_of c n node.durable.boot) steady node.parked) (plain_again _ _ _ (setting_of c n node.durable.boot) node.durable (filter (λ p. not (is_late (setting_of c n node.durable.boot) steady p)) node.parked)))
      (plain_grants (keys_of new) ps _ (setting_of c n node.durable.boot) (entries d.keys) (λ e i. ap (λ (x : Durable). known x e.0) is ∙ kept_known d e.0 e.1 (entry_kept d.keys e i)))

  tick_by : (now steady : ℕ) (found : Option Entry) → first_over now (entries node.durable.keys) ≡ found →
      let d = expire node now found [] in
      let waiting = filter (λ p. not (is_late (setting_of c n node.durable.boot) steady p)) node.parked in
      Sound m c disks ps os cs n node.durable (record d { outputs = deadlines (setting_of c n node.durable.boot) steady node.parked ++ wants_again (setting_of c n node.durable.boot) node.durable waiting ++ filter_map (grant_again (setting_of c n node.durable.boot)) (entries d.durable.keys); parked = waiting })
  tick_by now steady None is = quiet_sound _ _ node.next_want (tick_plain steady node.durable disks here)
  tick_by now steady (Some (k, Active e s)) is =
      let f = over_in now (entries node.durable.keys) (k, Active e s) is in
      let d = with_over node.durable k e in
      expires_sound k now e s _ _ (entry_kept node.durable.keys (k, Active e s) f.0) f.1 (λ new red. tick_plain steady d new red.mine) (tick_plain steady d (λ x. d) refl).silent
  tick_by now steady (Some (k, Sent e s to)) is = quiet_sound _ _ node.next_want (tick_plain steady node.durable disks here)
  tick_by now steady (Some (k, Gone e)) is = quiet_sound _ _ node.next_want (tick_plain steady node.durable disks here)
  tick_by now steady (Some (k, Ended e)) is = quiet_sound _ _ node.next_want (tick_plain steady node.durable disks here)

  ours_sound : (moment : Moment) (p : Packet) → sender p ≢ n → addressee p ≡ n → In p ps → Sound m c disks ps os cs n node.durable (on_ours (m n node.durable.boot) (setting_of c n node.durable.boot) node moment p)
  ours_sound moment (Want from to k boot want) apart me i = want_sound from k boot want (known node.durable k) apart refl
  ours_sound moment (Grant from to k e s) apart me i = grant_sound from k e s (subst (granted ps k e s from) me i)
  ours_sound moment (Ack from to k e) apart me i = ack_sound k e (known node.durable k) refl (from, subst (λ z. In (Ack from z k e) ps) me i)
  ours_sound moment (No from to k boot want) apart me i = either (boot == node.durable.boot) (serve_parked (m n node.durable.boot) (setting_of c n node.durable.boot) node moment (is_wanted k want)) (idle node []) (λ t. parked_sound moment (is_wanted k want)) (λ t. nothing_sound)

  packet_sound : (moment : Moment) (p : Packet) → In p ps → Sound m c disks ps os cs n node.durable (on_packet (m n node.durable.boot) (setting_of c n node.durable.boot) node moment p)
  packet_sound moment p i = either (is_ours (setting_of c n node.durable.boot) p) (on_ours (m n node.durable.boot) (setting_of c n node.durable.boot) node moment p) (idle node [])
      (λ t. let a = and_parts (addressee p == n) (not (sender p == n) && nat_lt (sender p) (c.nodes n node.durable.boot)) t in
      let b = and_parts (not (sender p == n)) (nat_lt (sender p) (c.nodes n node.durable.boot)) a.1 in
      ours_sound moment p (eqb-false (sender p) n (not_true _ b.0)) (eqb-true (addressee p) n a.0) i)
      (λ t. nothing_sound)

  -- a packet was sent
  abbrev pub IsSent : Input → Type 0
  IsSent (Ask token r) = Unit {0}
  IsSent (Incoming p) = In p ps
  IsSent Poke = Unit {0}
  IsSent Tick = Unit {0}
  IsSent (Move k to) = Unit {0}

  pub decide_sound : (moment : Moment) (i : Input) → IsSent i → Sound m c disks ps os cs n node.durable (decided (m n node.durable.boot) (setting_of c n node.durable.boot) node moment i)
  decide_sound moment (Ask token r) h = ask_sound moment token r ((m n node.durable.boot).names r)
  decide_sound moment (Incoming p) h = packet_sound moment p h
  decide_sound moment Poke h = parked_sound moment (λ p. is_settled (known node.durable p.key))
  decide_sound moment Tick h = tick_by moment.now moment.steady (first_over moment.now (entries node.durable.keys)) refl
  decide_sound moment (Move k to) h = move_sound k to (known node.durable k) refl
