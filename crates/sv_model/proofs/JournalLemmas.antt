-- The record of a step may stand after those of the node, and gives what the step keeps.
use Rattle.std.proofs.Common.{◌≡◌, ℕ, suc, ◌+◌, ◌<◌, ◌≤◌, Bool, true, false, cond, Option, Some, None, List, [], arith, refl, sym, ap, ◌∙◌, subst, ⊎_elim}
use Rattle.std.specs.Prelude.{not, ◌==◌, ◌||◌, ◌&&◌, is_none, nat_le, nat_lt, length, IfSome}
use Rattle.std.specs.Option.{option_map}
use Rattle.std.proofs.lemmas.Bool.{eq-eqb, leb-false, cond_both}
use Rattle.std.proofs.lemmas.Bool.Decides.{leb_tells}
use Rattle.std.specs.FinMap.{get, entries}
use Rattle.sv_model.proofs.Prelude.{Key, Secret, Moment, Setting, Parked, Request, Session, KeyState, Active, Sent, Gone, Ended, PARK_LIMIT, Fate, Birth}
use Rattle.sv_model.proofs.Prelude.{Change, Packet, Want, Grant, Ack, No, Input, Cause, Output, TableFull, SerialsSpent, Keys, Durable, Node, last_number}
use Rattle.sv_model.proofs.Prelude.{session_in, is_settled, is_dead, is_unmade, epoch_in, was_given, known, is_full, has_space, lacks_room, is_crowded}
use Rattle.sv_model.proofs.Prelude.{Decision, idle, on_ask, waits, first_of, without, serve_first, serve_parked, first_over, expire, decided}
use Rattle.sv_model.specs.declared.node.Stage.{Stage}
use Rattle.sv_model.specs.declared.outcome.Fate.TheVariants.{Untouched, Kept, Ended as FateEnded}
use Rattle.sv_model.specs.declared.outcome.Birth.TheVariants.{Absent, Alive, Ended as BirthEnded}
use Rattle.sv_model.specs.declared.record.Change.TheVariants.{Absent as Unchanged, Alive as ChangeAlive, Ended as ChangeEnded}
use Rattle.sv_model.specs.declared.input.Input.TheVariants.{Ask, Packet as Incoming, Poke, Tick, Move}
use Rattle.sv_model.specs.Engine.{EngineMeaning, TouchesOnlyHanded}
use Rattle.sv_model.specs.Serving.{fresh_of, held_in, no_birth, ended_at, fated_keys, born_keys, next_with, named_change, born_change, entry_of, answer_of, answered_unless, refused, served}
use Rattle.sv_model.specs.Migration.{no_if_unmade, says_no, on_want, hands_over, takes_over, on_grant, on_ack, is_wanted, is_ours, on_ours, move_refused, on_move}
use Rattle.sv_model.specs.Replay.{applied_if}
use Rattle.sv_model.specs.Fitting.{is_active, fits_named, is_next, fits_born, FitsSent, fits_taken, fits_gone, Fits}
use Rattle.sv_model.specs.Opening.{mark_of}
use Rattle.sv_model.specs.Journaled.{IsJournaled}
use Rattle.sv_model.proofs.EntryLemmas.{Entry, entry_kept, over_in}
use Rattle.sv_model.proofs.KnownLemmas.{active_kept, sent_kept, has_room}

-- what isn't at most another is above it
above : (a b : ℕ) → nat_le a b ≡ false → nat_lt b a ≡ true
above a b is = ⊎_elim
    (λ (h : (nat_le (suc b) a ≡ true) × (suc b ≤ a)). h.0)
    (λ (h : (nat_le (suc b) a ≡ false) × (a < suc b)). absurd (let below : b < a = leb-false a b is in omega (arith, h.1, below)))
    (leb_tells (suc b) a)

kept_fits : (k : Key) (s : Session) (st : Option KeyState) → (option_map {U = Key × Session} (λ u. (k, u)) (session_in st) ≡ None → Kept s ≡ Untouched) → is_active st ≡ true
kept_fits k s None touched = absurd (let never : Kept s ≡ Untouched = touched refl in cc)
kept_fits k s (Some (Active e u)) touched = refl
kept_fits k s (Some (Sent e u to)) touched = absurd (let never : Kept s ≡ Untouched = touched refl in cc)
kept_fits k s (Some (Gone e)) touched = absurd (let never : Kept s ≡ Untouched = touched refl in cc)
kept_fits k s (Some (Ended e)) touched = absurd (let never : Kept s ≡ Untouched = touched refl in cc)

ended_fits : (k : Key) (st : Option KeyState) → (option_map {U = Key × Session} (λ u. (k, u)) (session_in st) ≡ None → FateEnded ≡ Untouched) → is_active st ≡ true
ended_fits k None touched = absurd (let never : FateEnded ≡ Untouched = touched refl in cc)
ended_fits k (Some (Active e u)) touched = refl
ended_fits k (Some (Sent e u to)) touched = absurd (let never : FateEnded ≡ Untouched = touched refl in cc)
ended_fits k (Some (Gone e)) touched = absurd (let never : FateEnded ≡ Untouched = touched refl in cc)
ended_fits k (Some (Ended e)) touched = absurd (let never : FateEnded ≡ Untouched = touched refl in cc)

-- a fate that touches only a session that is active
named_fits : (keys : Keys) (named : Option (Key × Secret)) (fate : Fate) → (held_in keys named ≡ None → fate ≡ Untouched) → fits_named keys (named_change named fate) ≡ true
named_fits keys None fate touched = refl
named_fits keys (Some named) Untouched touched = refl
named_fits keys (Some named) (Kept s) touched = kept_fits named.0 s (get keys named.0) touched
named_fits keys (Some named) FateEnded touched = ended_fits named.0 (get keys named.0) touched

-- the record of a request gives what its outcome leaves, and no session comes or goes by it
abbrev behind : Option (Key × Secret) → Key → Fate → Birth → Durable → Durable
behind named k fate birth d = record d { keys = born_keys d.home k birth (fated_keys d.home named fate d.keys); next = next_with birth d.next }

entry_gives : (named : Option (Key × Secret)) (k : Key) (fate : Fate) (birth : Birth) (d : Durable) → applied_if (entry_of (named_change named fate) (born_change k birth)) d ≡ behind named k fate birth d
entry_gives None k fate Absent d = refl
entry_gives None k fate (Alive s) d = refl
entry_gives None k fate BirthEnded d = refl
entry_gives (Some named) k Untouched Absent d = refl
entry_gives (Some named) k Untouched (Alive s) d = refl
entry_gives (Some named) k Untouched BirthEnded d = refl
entry_gives (Some named) k (Kept u) Absent d = refl
entry_gives (Some named) k (Kept u) (Alive s) d = refl
entry_gives (Some named) k (Kept u) BirthEnded d = refl
entry_gives (Some named) k FateEnded Absent d = refl
entry_gives (Some named) k FateEnded (Alive s) d = refl
entry_gives (Some named) k FateEnded BirthEnded d = refl

entry_unmarked : (named : Option (Key × Secret)) (k : Key) (fate : Fate) (birth : Birth) → mark_of (entry_of (named_change named fate) (born_change k birth)) ≡ None
entry_unmarked None k fate Absent = refl
entry_unmarked None k fate (Alive s) = refl
entry_unmarked None k fate BirthEnded = refl
entry_unmarked (Some named) k Untouched Absent = refl
entry_unmarked (Some named) k Untouched (Alive s) = refl
entry_unmarked (Some named) k Untouched BirthEnded = refl
entry_unmarked (Some named) k (Kept u) Absent = refl
entry_unmarked (Some named) k (Kept u) (Alive s) = refl
entry_unmarked (Some named) k (Kept u) BirthEnded = refl
entry_unmarked (Some named) k FateEnded Absent = refl
entry_unmarked (Some named) k FateEnded (Alive s) = refl
entry_unmarked (Some named) k FateEnded BirthEnded = refl

module _ (set : Setting) (d : Durable) (moment : Moment) where
  room_by : (c : Bool) → is_full set d ≡ c → cond c (Some TableFull) None ≡ None → has_space set d ≡ true
  room_by true is none = absurd (let no : Some TableFull ≡ None = none in cc)
  room_by false is none = has_room set d is

  next_by : (b : Bool) → (d.next == last_number) ≡ b → cond b (Some SerialsSpent) (cond (is_full set d) (Some TableFull) None) ≡ None → is_next set d (fresh_of set d moment).0 ≡ true
  next_by true is none = absurd (let no : Some SerialsSpent ≡ None = none in cc)
  next_by false is none =
      let room : has_space set d ≡ true = room_by (is_full set d) refl none in
      ap (λ b. (set.node == set.node) && ((cond b 0 d.next == d.next) && (not b && has_space set d))) is
      ∙ (λ i. eq-eqb set.node set.node refl i && (eq-eqb d.next d.next refl i && room i))

  born_fits : (birth : Birth) → no_birth set d birth ≡ None → fits_born set d (born_change (fresh_of set d moment).0 birth) ≡ true
  born_fits Absent none = refl
  born_fits (Alive s) none = next_by (d.next == last_number) refl none
  born_fits BirthEnded none = next_by (d.next == last_number) refl none

module _ (set : Setting) (n : Node) where
  either : (b : Bool) (x y : Decision) → (b ≡ true → IsJournaled set n x) → (b ≡ false → IsJournaled set n y) → IsJournaled set n (cond b x y)
  either b x y f g = cond_both b x y (λ d. IsJournaled set n d) f g

  quiet : (d : Decision) → d.entry ≡ None → d.durable ≡ n.durable → d.mark ≡ None → IsJournaled set n d
  quiet d is still silent = record {
    fits = λ stage. subst (λ o. IfSome o (λ r. Fits set stage n.durable r)) (sym is) tt;
    gives = still ∙ ap (λ o. applied_if o n.durable) (sym is);
    marks = silent ∙ ap mark_of (sym is);
  }

  changes : (stage : Stage) (a b : Change) → fits_named n.durable.keys a ≡ true → fits_born set n.durable b ≡ true → IfSome (entry_of a b) (λ r. Fits set stage n.durable r)
  changes stage Unchanged Unchanged f g = tt
  changes stage Unchanged (ChangeAlive k s) f g = g
  changes stage Unchanged (ChangeEnded k) f g = g
  changes stage (ChangeAlive k s) b f g = λ i. f i && g i
  changes stage (ChangeEnded k) b f g = λ i. f i && g i

  module _ (m : EngineMeaning) (touches : TouchesOnlyHanded m) (moment : Moment) where
    unless : (cause : Option Cause) (token : ℕ) (r : Request) (waiting : List Parked) → no_birth set n.durable (answer_of m set n.durable moment r).birth ≡ cause
        → IsJournaled set n (answered_unless cause m set n moment token r (answer_of m set n.durable moment r) waiting)
    unless None token r waiting is = record {
      fits = λ stage. changes stage (named_change (m.names r) (answer_of m set n.durable moment r).fate) (born_change (fresh_of set n.durable moment).0 (answer_of m set n.durable moment r).birth)
          (named_fits n.durable.keys (m.names r) (answer_of m set n.durable moment r).fate (λ held. ap (λ h. (m.serve r h moment.now (fresh_of set n.durable moment)).fate) held ∙ touches r moment.now (fresh_of set n.durable moment)))
          (born_fits set n.durable moment (answer_of m set n.durable moment r).birth is);
      gives = sym (entry_gives (m.names r) (fresh_of set n.durable moment).0 (answer_of m set n.durable moment r).fate (answer_of m set n.durable moment r).birth n.durable);
      marks = sym (entry_unmarked (m.names r) (fresh_of set n.durable moment).0 (answer_of m set n.durable moment r).fate (answer_of m set n.durable moment r).birth);
    }
    unless (Some cause) token r waiting is = quiet _ refl refl refl

    serves : (token : ℕ) (r : Request) (waiting : List Parked) → IsJournaled set n (served m set n moment token r waiting)
    serves token r waiting = unless (no_birth set n.durable (answer_of m set n.durable moment r).birth) token r waiting refl

    waiting : (token : ℕ) (r : Request) (k : Key) → IsJournaled set n (waits set n moment token r k)
    waiting token r k = either (is_crowded set n.durable k) (refused n token _ n.parked) _ (λ _. quiet (refused n token _ n.parked) refl refl refl)
        (λ _. either (nat_le PARK_LIMIT (length n.parked)) (refused n token _ n.parked) _ (λ _. quiet (refused n token _ n.parked) refl refl refl) (λ _. either (n.next_want == last_number) (refused n token _ n.parked) _ (λ _. quiet (refused n token _ n.parked) refl refl refl) (λ _. quiet _ refl refl refl)))

    asks : (token : ℕ) (r : Request) (named : Option (Key × Secret)) → IsJournaled set n (on_ask m set n moment token r named)
    asks token r None = serves token r n.parked
    asks token r (Some named) = either (is_settled (known n.durable named.0) || is_dead set n.durable named.0) _ _ (λ _. serves token r n.parked) (λ _. waiting token r named.0)

    first : (found : Option Parked) (others : List Parked) → IsJournaled set n (serve_first m set n moment found others)
    first None others = quiet _ refl refl refl
    first (Some p) others = serves p.token p.request others

    parked : (test : Parked → Bool) → IsJournaled set n (serve_parked m set n moment test)
    parked test = first (first_of test n.parked) (without test n.parked)

    unmade : (from : ℕ) (k : Key) (boot number : ℕ) → IsJournaled set n (no_if_unmade set n from k boot number)
    unmade from k boot number = either (is_unmade set n.durable k) (says_no set n from k boot number) (idle n []) (λ _. quiet (says_no set n from k boot number) refl refl refl) (λ _. quiet (idle n []) refl refl refl)

    sends : (k : Key) (e : ℕ) (s : Session) (to : ℕ) (more : List Output) → get n.durable.keys k ≡ Some (Active e s) → IsJournaled set n (hands_over set n k e s to more)
    sends k e s to more is = record { fits = λ stage. subst (FitsSent (e + 1) s) (sym is) (refl, refl); gives = refl; marks = refl }

    wanted : (from : ℕ) (k : Key) (boot number : ℕ) (st : Option KeyState) → known n.durable k ≡ st → IsJournaled set n (on_want set n from k boot number st)
    wanted from k boot number None is = unmade from k boot number
    wanted from k boot number (Some (Active e s)) is = either (e == last_number) (idle n []) (hands_over set n k e s from []) (λ _. quiet (idle n []) refl refl refl) (λ _. sends k e s from [] (active_kept (was_given n.durable k) (get n.durable.keys k) e s is))
    wanted from k boot number (Some (Sent e s to)) is = either (to == from) _ _ (λ _. quiet (idle n _) refl refl refl) (λ _. unmade from k boot number)
    wanted from k boot number (Some (Gone e)) is = unmade from k boot number
    wanted from k boot number (Some (Ended e)) is = quiet _ refl refl refl

    -- a key that is known already needs none
    space_by : (unknown full : Bool) → is_full set n.durable ≡ full → (unknown && full) ≡ false → (not unknown || has_space set n.durable) ≡ true
    space_by false full is room = refl
    space_by true true is room = absurd (let never : true ≡ false = room in cc)
    space_by true false is room = has_room set n.durable is

    takes : (from : ℕ) (k : Key) (e : ℕ) (s : Session) (st : Option KeyState) → known n.durable k ≡ st → is_unmade set n.durable k ≡ false → nat_le e (epoch_in st) ≡ false
        → lacks_room set n.durable k ≡ false → IsJournaled set n (takes_over set n from k e s)
    takes from k e s st is made newer room = record {
      fits = λ stage. ap (fits_taken set n.durable k e) is ∙ (λ i. above e (epoch_in st) newer i && (not (made i) && space_by (is_none (get n.durable.keys k)) (is_full set n.durable) refl room i));
      gives = refl;
      marks = refl;
    }

    granted : (from : ℕ) (k : Key) (e : ℕ) (s : Session) (st : Option KeyState) → known n.durable k ≡ st → IsJournaled set n (on_grant set n from k e s st)
    granted from k e s st is = either (is_unmade set n.durable k) _ _ (λ _. quiet (idle n []) refl refl refl)
        (λ made. either (nat_le e (epoch_in st)) _ _ (λ _. quiet (idle n _) refl refl refl)
        (λ newer. either (lacks_room set n.durable k) (idle n []) (takes_over set n from k e s) (λ _. quiet (idle n []) refl refl refl) (λ room. takes from k e s st is made newer room)))

    acked : (k : Key) (e : ℕ) (st : Option KeyState) → known n.durable k ≡ st → IsJournaled set n (on_ack n k e st)
    acked k e None is = quiet _ refl refl refl
    acked k e (Some (Active f s)) is = quiet _ refl refl refl
    acked k e (Some (Sent f s to)) is = either (f == e) _ _ (λ same. record { fits = λ stage. ap (fits_gone e) (sent_kept (was_given n.durable k) (get n.durable.keys k) f s to is) ∙ same; gives = refl; marks = refl }) (λ _. quiet (idle n []) refl refl refl)
    acked k e (Some (Gone f)) is = quiet _ refl refl refl
    acked k e (Some (Ended f)) is = quiet _ refl refl refl

    ours : (p : Packet) → IsJournaled set n (on_ours m set n moment p)
    ours (Want from to k boot number) = wanted from k boot number (known n.durable k) refl
    ours (Grant from to k e s) = granted from k e s (known n.durable k) refl
    ours (Ack from to k e) = acked k e (known n.durable k) refl
    ours (No from to k boot number) = either (boot == n.durable.boot) _ _ (λ _. parked (is_wanted k number)) (λ _. quiet (idle n []) refl refl refl)

    ended : (now : ℕ) (f : Option Entry) → first_over now (entries n.durable.keys) ≡ f → IsJournaled set n (expire n now f [])
    ended now None found = quiet _ refl refl refl
    ended now (Some (k, Active e s)) found =
        let there : get n.durable.keys k ≡ Some (Active e s) = entry_kept n.durable.keys (k, Active e s) (over_in now (entries n.durable.keys) (k, Active e s) found).0 in
        record { fits = λ stage. ap is_active there; gives = ap (λ st. record (n.durable) { keys = ended_at n.durable.home k st n.durable.keys }) (sym there); marks = refl }
    ended now (Some (k, Sent e s to)) found = quiet _ refl refl refl
    ended now (Some (k, Gone e)) found = quiet _ refl refl refl
    ended now (Some (k, Ended e)) found = quiet _ refl refl refl

    moves : (k : Key) (to : ℕ) (st : Option KeyState) → known n.durable k ≡ st → IsJournaled set n (on_move set n k to st)
    moves k to None is = quiet _ refl refl refl
    moves k to (Some (Active e s)) is = either ((to == set.node) || nat_le set.nodes to) _ _ (λ _. quiet (move_refused n _) refl refl refl)
        (λ _. either (e == last_number) (move_refused n _) (hands_over set n k e s to _) (λ _. quiet (move_refused n _) refl refl refl) (λ _. sends k e s to _ (active_kept (was_given n.durable k) (get n.durable.keys k) e s is)))
    moves k to (Some (Sent e s there)) is = quiet _ refl refl refl
    moves k to (Some (Gone e)) is = quiet _ refl refl refl
    moves k to (Some (Ended e)) is = quiet _ refl refl refl

    pub journaled : (input : Input) → IsJournaled set n (decided m set n moment input)
    journaled (Ask token r) = asks token r (m.names r)
    journaled (Incoming p) = either (is_ours set p) _ _ (λ _. ours p) (λ _. quiet (idle n []) refl refl refl)
    journaled Poke = parked (λ p. is_settled (known n.durable p.key))
    journaled Tick = let e = ended moment.now (first_over moment.now (entries n.durable.keys)) refl in record { fits = e.fits; gives = e.gives; marks = e.marks }
    journaled (Move k to) = moves k to (known n.durable k) refl
