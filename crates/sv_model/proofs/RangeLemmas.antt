-- A node within the ranges, given what is within them, writes and sends nothing past them, and stays within them.
use Rattle.std.proofs.Common.{◌≡◌, ◌≢◌, ℕ, zero, suc, ◌+◌, ◌<◌, ◌≤◌, Bool, true, false, cond, Option, Some, None, List, [], ◌∷◌, ◌++◌, map, arith, refl, sym, ap, ◌∙◌, subst, inl, inr, ⊎_elim}
use Rattle.std.specs.Prelude.{not, ◌==◌, ◌||◌, nat_le, length, IfSome}
use Rattle.std.specs.Option.{option_map}
use Rattle.std.specs.List.{AllByRecursion, filter, filter_map, flat_map}
use Rattle.std.specs.FinMap.{get, insert, remove, entries, get-insert, get-remove}
use Rattle.std.proofs.lemmas.Bool.{eqb-false, leb-false, cond_both}
use Rattle.std.proofs.lemmas.Option.{same_Some}
use Rattle.std.proofs.lemmas.List.Elements.{filter_map-append}
use Rattle.sv_model.proofs.Prelude.{Key, Secret, Moment, Setting, Parked, Request, Session, KeyState, Active, Sent, Gone, Ended, PARK_LIMIT, Fate, Birth}
use Rattle.sv_model.proofs.Prelude.{Change, Packet, Want, Grant, Ack, No, Input, Cause, Output, Told, EngineMeaning, Keys, Durable, Node, last_number}
use Rattle.sv_model.proofs.Prelude.{session_in, is_settled, is_dead, is_unmade, epoch_in, is_own, was_given, known, lacks_room, is_crowded, In, no_if_unmade}
use Rattle.sv_model.proofs.Prelude.{says_no, on_want, hands_over, takes_over, on_grant, on_ack, is_wanted, is_ours, on_ours, on_move, decided}
use Rattle.sv_model.specs.declared.outcome.Fate.TheVariants.{Untouched, Kept, Ended as FateEnded}
use Rattle.sv_model.specs.declared.outcome.Birth.TheVariants.{Absent, Alive, Ended as BirthEnded}
use Rattle.sv_model.specs.declared.record.Change.TheVariants.{Absent as Unchanged, Alive as ChangeAlive, Ended as ChangeEnded}
use Rattle.sv_model.specs.declared.record.Record.{Record}
use Rattle.sv_model.specs.declared.input.Input.TheVariants.{Ask, Packet as Incoming, Poke, Tick, Move}
use Rattle.sv_model.specs.declared.output.Cause.TheVariants.{SerialsSpent, TableFull, ParkFull, WantsSpent, Deadline}
use Rattle.sv_model.specs.declared.output.Output.TheVariants.{Refuse, Send, Moved}
use Rattle.sv_model.specs.Keys.{same_key, IsNode, IsCounting, IsKey}
use Rattle.sv_model.specs.Limits.{IsWithinLimits, KeepsWithin, BringsWithin, KeepsLimits, NamesKeys}
use Rattle.sv_model.specs.Outputs.{packet_in, sends_in}
use Rattle.sv_model.specs.Decision.{Decision, idle, with_record}
use Rattle.sv_model.specs.Serving.{fresh_of, held_in, no_birth, kept_at, over_at, ended_at, fated_keys, born_keys, next_with, named_change, born_change, entry_of, answer_of, answered_unless, served}
use Rattle.sv_model.specs.Waiting.{numbers, others, wants, on_ask, waits, parks, first_of, without, serve_first, serve_parked}
use Rattle.sv_model.specs.Time.{first_over, expire, is_late, is_quiet, deadlines, wants_again, grant_again, on_tick}
use Rattle.sv_model.specs.Ranges.{IsSetting, IsChange, IsState, IsRecord, IsPacket, IsInput, IsRanged, IsRangedStep}
use Rattle.sv_model.proofs.KeyLemmas.{keys_total, keys_tell}
use Rattle.sv_model.proofs.EntryLemmas.{Entry, entry_kept, over_in}
use Rattle.sv_model.proofs.KnownLemmas.{active_kept, sent_kept}

-- ---- lists

all_both : {X : Type 0} (P : X → Type 0) (xs ys : List X) → AllByRecursion P xs → AllByRecursion P ys → AllByRecursion P (xs ++ ys)
all_both P [] ys h k = k
all_both P (x ∷ xs) ys h k = (h.0, all_both P xs ys h.1 k)

all_filter : {X : Type 0} (P : X → Type 0) (test : X → Bool) (xs : List X) → AllByRecursion P xs → AllByRecursion P (filter test xs)
all_filter P test [] h = tt
all_filter P test (x ∷ xs) h = cond_both (test x) (x ∷ filter test xs) (filter test xs) (λ l. AllByRecursion P l) (λ _. (h.0, all_filter P test xs h.1)) (λ _. all_filter P test xs h.1)

all_without : (P : Parked → Type 0) (test : Parked → Bool) (ps : List Parked) → AllByRecursion P ps → AllByRecursion P (without test ps)
all_without P test [] h = tt
all_without P test (p ∷ ps) h = cond_both (test p) ps (p ∷ without test ps) (λ l. AllByRecursion P l) (λ _. h.1) (λ _. (h.0, all_without P test ps h.1))

numbers_below : (n limit : ℕ) → n ≤ limit → AllByRecursion (λ p. p < limit) (numbers n)
numbers_below zero limit le = tt
numbers_below (suc n) limit le = all_both (λ p. p < limit) (numbers n) (n ∷ []) (numbers_below n limit (omega (arith, le))) (omega (arith, le), tt)

-- ---- keys

abbrev AreRanged : Keys → Type 0
AreRanged keys = (k : Key) (st : KeyState) → get keys k ≡ Some st → IsKey k × IsState st

with_key : (keys : Keys) (k : Key) (st : KeyState) → AreRanged keys → IsKey k → IsState st → AreRanged (insert keys k st)
with_key keys k st h key state q u there = ⊎_elim
    (λ (t : (q ≡ k) × (same_key q k ≡ true)).
    let same : st ≡ u = same_Some st u (ap (λ b. cond b (Some st) (get keys q)) (sym t.1) ∙ sym (get-insert keys_total keys k st q) ∙ there) in
    (subst IsKey (sym t.0) key, subst IsState same state))
    (λ (t : (q ≢ k) × (same_key q k ≡ false)). h q u (ap (λ b. cond b (Some st) (get keys q)) (sym t.1) ∙ sym (get-insert keys_total keys k st q) ∙ there))
    (keys_tell q k)

kept_ranged : (keys : Keys) (k : Key) (s : Session) (st : Option KeyState) → AreRanged keys → get keys k ≡ st → IsWithinLimits s → AreRanged (kept_at k s st keys)
kept_ranged keys k s None h there within = h
kept_ranged keys k s (Some (Active e old)) h there within = let was = h k (Active e old) there in with_key keys k (Active e s) h was.0 (was.1.0, within)
kept_ranged keys k s (Some (Sent e old to)) h there within = h
kept_ranged keys k s (Some (Gone e)) h there within = h
kept_ranged keys k s (Some (Ended e)) h there within = h

without_key : (keys : Keys) (k : Key) → AreRanged keys → AreRanged (remove keys k)
without_key keys k h q u there = ⊎_elim
    (λ (t : (q ≡ k) × (same_key q k ≡ true)). absurd (let never : None ≡ Some u = ap (λ b. cond b None (get keys q)) (sym t.1) ∙ sym (get-remove keys_total keys k q) ∙ there in cc))
    (λ (t : (q ≢ k) × (same_key q k ≡ false)). h q u (ap (λ b. cond b None (get keys q)) (sym t.1) ∙ sym (get-remove keys_total keys k q) ∙ there))
    (keys_tell q k)

over_ranged : (home : Option ℕ) (keys : Keys) (k : Key) (e : ℕ) → AreRanged keys → IsKey k → IsCounting e → AreRanged (over_at home k e keys)
over_ranged home keys k e h key counts = cond_both (is_own home k) (remove keys k) (insert keys k (Ended e)) AreRanged (λ _. without_key keys k h) (λ _. with_key keys k (Ended e) h key counts)

ended_ranged : (home : Option ℕ) (keys : Keys) (k : Key) (st : Option KeyState) → AreRanged keys → get keys k ≡ st → AreRanged (ended_at home k st keys)
ended_ranged home keys k None h there = h
ended_ranged home keys k (Some (Active e old)) h there = let was = h k (Active e old) there in over_ranged home keys k e h was.0 was.1.0
ended_ranged home keys k (Some (Sent e old to)) h there = h
ended_ranged home keys k (Some (Gone e)) h there = h
ended_ranged home keys k (Some (Ended e)) h there = h

fated_ranged : (home : Option ℕ) (keys : Keys) (named : Option (Key × Secret)) (fate : Fate) → AreRanged keys → KeepsWithin fate → AreRanged (fated_keys home named fate keys)
fated_ranged home keys None fate h within = h
fated_ranged home keys (Some named) Untouched h within = h
fated_ranged home keys (Some named) (Kept s) h within = kept_ranged keys named.0 s (get keys named.0) h refl within
fated_ranged home keys (Some named) FateEnded h within = ended_ranged home keys named.0 (get keys named.0) h refl

-- what is held is within the limits
held_within : (keys : Keys) (k : Key) (st : Option KeyState) → AreRanged keys → get keys k ≡ st → IfSome (option_map {U = Key × Session} (λ s. (k, s)) (session_in st)) (λ h. IsWithinLimits h.1)
held_within keys k None h there = tt
held_within keys k (Some (Active e s)) h there = (h k (Active e s) there).1.1
held_within keys k (Some (Sent e s to)) h there = tt
held_within keys k (Some (Gone e)) h there = tt
held_within keys k (Some (Ended e)) h there = tt

named_within : (keys : Keys) (named : Option (Key × Secret)) → AreRanged keys → IfSome (held_in keys named) (λ h. IsWithinLimits h.1)
named_within keys None h = tt
named_within keys (Some named) h = held_within keys named.0 (get keys named.0) h refl

-- ---- records

named_ranged : (named : Option (Key × Secret)) (fate : Fate) → IfSome named (λ n. IsKey n.0) → KeepsWithin fate → IsChange (named_change named fate)
named_ranged None fate key within = tt
named_ranged (Some named) Untouched key within = tt
named_ranged (Some named) (Kept s) key within = (key, within)
named_ranged (Some named) FateEnded key within = key

entry_ranged : (a b : Change) → IsChange a → IsChange b → IfSome (entry_of a b) IsRecord
entry_ranged Unchanged Unchanged f g = tt
entry_ranged Unchanged (ChangeAlive k s) f g = (f, g, refl)
entry_ranged Unchanged (ChangeEnded k) f g = (f, g, refl)
entry_ranged (ChangeAlive k s) b f g = (f, g, refl)
entry_ranged (ChangeEnded k) b f g = (f, g, refl)

-- ---- packets

wants_ranged : (from : ℕ) (k : Key) (boot want : ℕ) (to : List ℕ) → IsNode from → IsKey k → AllByRecursion IsNode to → AllByRecursion IsPacket (sends_in (map (λ p. Send (Want from p k boot want)) to))
wants_ranged from k boot want [] here key there = tt
wants_ranged from k boot want (p ∷ to) here key there = ((here, there.0, key), wants_ranged from k boot want to here key there.1)

late_ranged : (parked : List Parked) → AllByRecursion IsPacket (sends_in (map (λ p. Refuse p.token Deadline) parked))
late_ranged [] = tt
late_ranged (p ∷ parked) = late_ranged parked

sends_both : (xs ys : List Output) → AllByRecursion IsPacket (sends_in xs) → AllByRecursion IsPacket (sends_in ys) → AllByRecursion IsPacket (sends_in (xs ++ ys))
sends_both xs ys h k = subst (AllByRecursion IsPacket) (sym (filter_map-append packet_in xs ys)) (all_both IsPacket (sends_in xs) (sends_in ys) h k)

grants_ranged : (set : Setting) (es : List Entry) → IsNode set.node → ((e : Entry) → In e es → IsKey e.0 × IsState e.1) → AllByRecursion IsPacket (sends_in (filter_map (grant_again set) es))
grants_ranged set [] here each = tt
grants_ranged set ((k, Active e s) ∷ es) here each = grants_ranged set es here (λ f i. each f (inr i))
grants_ranged set ((k, Sent e s to) ∷ es) here each =
    let own = each (k, Sent e s to) (inl refl) in
    ((here, own.1.2, own.0, own.1.0, own.1.1), grants_ranged set es here (λ f i. each f (inr i)))
grants_ranged set ((k, Gone e) ∷ es) here each = grants_ranged set es here (λ f i. each f (inr i))
grants_ranged set ((k, Ended e) ∷ es) here each = grants_ranged set es here (λ f i. each f (inr i))

-- ---- each row

module _ (set : Setting) (is : IsSetting set) (n : Node) (r : IsRanged n) where
  abbrev here_is : IsNode set.node
  here_is = omega (arith, is.few, is.inside)

  others_are : AllByRecursion IsNode (others set)
  others_are = all_filter IsNode (λ p. not (p == set.node)) (numbers set.nodes) (numbers_below set.nodes 8 is.few)

  either : (b : Bool) (x y : Decision) → (b ≡ true → IsRangedStep x) → (b ≡ false → IsRangedStep y) → IsRangedStep (cond b x y)
  either b x y f g = cond_both b x y (λ d. IsRangedStep d) f g

  -- nothing becomes durable
  quiet : (outputs : List Output) (waiting : List Parked) → AllByRecursion IsPacket (sends_in outputs) → AllByRecursion (λ p. IsKey p.key) waiting → IsRangedStep (record (idle n outputs) { parked = waiting })
  quiet outputs waiting sent wait = record {
    entry = tt;
    packets = sent;
    left_is = record { known = r.known; next = r.next; waiting = wait; home = r.home; next_within = r.next_within; want_within = r.want_within };
  }

  still : (outputs : List Output) → AllByRecursion IsPacket (sends_in outputs) → IsRangedStep (idle n outputs)
  still outputs sent = quiet outputs n.parked sent r.waiting

  nothing : IsRangedStep (idle n [])
  nothing = still [] tt

  -- one key changes
  changes : (entry : Record) (k : Key) (st : KeyState) (mark : Option Told) (outputs : List Output) → IsRecord entry → IsKey k → IsState st → AllByRecursion IsPacket (sends_in outputs)
      → IsRangedStep (with_record n entry k st mark outputs)
  changes entry k st mark outputs ranged key state sent = record {
    entry = ranged;
    packets = sent;
    left_is = record { known = with_key n.durable.keys k st r.known key state; next = r.next; waiting = r.waiting; home = r.home; next_within = r.next_within; want_within = r.want_within };
  }

  module _ (m : EngineMeaning) (limits : KeepsLimits m) (names : NamesKeys m) (moment : Moment) where
    -- where a serial is left the fresh key is one of a node, and the next serial is no more than the last
    abbrev IsSpare : Type 0
    IsSpare = IsKey (fresh_of set n.durable moment).0 × (n.durable.next + 1 ≤ last_number)

    spare : (b : Bool) (other : Option Cause) → (n.durable.next == last_number) ≡ b → cond b (Some SerialsSpent) other ≡ None → IsSpare
    spare true other at none = absurd (let no : Some SerialsSpent ≡ None = none in cc)
    spare false other at none =
        let apart : n.durable.next ≡ last_number → ⊥ = eqb-false n.durable.next last_number at in
        ((here_is, subst (λ b. 0 < cond b 0 n.durable.next) (sym at) r.next), omega (arith, r.next_within, apart))

    born_ranged : (keys : Keys) (birth : Birth) → AreRanged keys → BringsWithin birth → no_birth set n.durable birth ≡ None
        → AreRanged (born_keys n.durable.home (fresh_of set n.durable moment).0 birth keys) × IsChange (born_change (fresh_of set n.durable moment).0 birth) × (0 < next_with birth n.durable.next) × (next_with birth n.durable.next ≤ last_number)
    born_ranged keys Absent h within none = (h, tt, r.next, r.next_within)
    born_ranged keys (Alive s) h within none =
        let f = spare (n.durable.next == last_number) _ refl none in
        (with_key keys _ (Active 1 s) h f.0 (omega arith, within), (f.0, within), omega arith, f.1)
    born_ranged keys BirthEnded h within none =
        let f = spare (n.durable.next == last_number) _ refl none in
        (over_ranged n.durable.home keys _ 1 h f.0 (omega arith), f.0, omega arith, f.1)

    unless : (cause : Option Cause) (token : ℕ) (q : Request) (waiting : List Parked) → no_birth set n.durable (answer_of m set n.durable moment q).birth ≡ cause → AllByRecursion (λ p. IsKey p.key) waiting
        → IsRangedStep (answered_unless cause m set n moment token q (answer_of m set n.durable moment q) waiting)
    unless None token q waiting none wait =
        let within = limits q (held_in n.durable.keys (m.names q)) moment.now (fresh_of set n.durable moment) (named_within n.durable.keys (m.names q) r.known) in
        let fated = fated_ranged n.durable.home n.durable.keys (m.names q) (answer_of m set n.durable moment q).fate r.known within.0 in
        let born = born_ranged (fated_keys n.durable.home (m.names q) (answer_of m set n.durable moment q).fate n.durable.keys) (answer_of m set n.durable moment q).birth fated within.1 none in
        record {
          entry = entry_ranged (named_change (m.names q) (answer_of m set n.durable moment q).fate) (born_change (fresh_of set n.durable moment).0 (answer_of m set n.durable moment q).birth)
              (named_ranged (m.names q) (answer_of m set n.durable moment q).fate (names q) within.0) born.1;
          packets = tt;
          left_is = record { known = born.0; next = born.2; waiting = wait; home = r.home; next_within = born.3; want_within = r.want_within };
        }
    unless (Some cause) token q waiting none wait = quiet (Refuse token cause ∷ []) waiting tt wait

    serves : (token : ℕ) (q : Request) (waiting : List Parked) → AllByRecursion (λ p. IsKey p.key) waiting → IsRangedStep (served m set n moment token q waiting)
    serves token q waiting wait = unless (no_birth set n.durable (answer_of m set n.durable moment q).birth) token q waiting refl wait

    wanting : (k : Key) (want : ℕ) → IsKey k → AllByRecursion IsPacket (sends_in (wants set n.durable k want))
    wanting k want key = wants_ranged set.node k n.durable.boot want (others set) here_is key others_are

    parking : (token : ℕ) (q : Request) (k : Key) → IsKey k → (n.next_want == last_number) ≡ false → IsRangedStep (parks set n moment token q k)
    parking token q k key apart = record {
      entry = tt;
      packets = wanting k n.next_want key;
      left_is = record {
        known = r.known;
        next = r.next;
        waiting = all_both (λ p. IsKey p.key) n.parked (record { token = token; request = q; key = k; since = moment.steady; want = n.next_want } ∷ []) r.waiting (key, tt);
        home = r.home;
        next_within = r.next_within;
        want_within = let no : n.next_want ≡ last_number → ⊥ = eqb-false n.next_want last_number apart in omega (arith, r.want_within, no);
      };
    }

    waiting : (token : ℕ) (q : Request) (k : Key) → IsKey k → IsRangedStep (waits set n moment token q k)
    waiting token q k key = either (is_crowded set n.durable k) _ _ (λ _. quiet (Refuse token TableFull ∷ []) n.parked tt r.waiting)
        (λ _. either (nat_le PARK_LIMIT (length n.parked)) _ _ (λ _. quiet (Refuse token ParkFull ∷ []) n.parked tt r.waiting)
        (λ _. either (n.next_want == last_number) _ (parks set n moment token q k) (λ _. quiet (Refuse token WantsSpent ∷ []) n.parked tt r.waiting) (parking token q k key)))

    asks : (token : ℕ) (q : Request) (named : Option (Key × Secret)) → IfSome named (λ x. IsKey x.0) → IsRangedStep (on_ask m set n moment token q named)
    asks token q None key = serves token q n.parked r.waiting
    asks token q (Some named) key = either (is_settled (known n.durable named.0) || is_dead set n.durable named.0) _ _ (λ _. serves token q n.parked r.waiting) (λ _. waiting token q named.0 key)

    first : (found : Option Parked) (left : List Parked) → AllByRecursion (λ p. IsKey p.key) left → IsRangedStep (serve_first m set n moment found left)
    first None left wait = nothing
    first (Some p) left wait = serves p.token p.request left wait

    parked : (test : Parked → Bool) → IsRangedStep (serve_parked m set n moment test)
    parked test = first (first_of test n.parked) (without test n.parked) (all_without (λ p. IsKey p.key) test n.parked r.waiting)

    -- ---- packets that came

    denies : (from : ℕ) (k : Key) (boot want : ℕ) → IsNode from → IsKey k → IsRangedStep (says_no set n from k boot want)
    denies from k boot want there key = still _ ((here_is, there, key), tt)

    unmade : (from : ℕ) (k : Key) (boot want : ℕ) → IsNode from → IsKey k → IsRangedStep (no_if_unmade set n from k boot want)
    unmade from k boot want there key = either (is_unmade set n.durable k) _ _ (λ _. denies from k boot want there key) (λ _. nothing)

    sends : (k : Key) (e : ℕ) (s : Session) (to : ℕ) (more : List Output) → get n.durable.keys k ≡ Some (Active e s) → IsNode to → AllByRecursion IsPacket (sends_in more) → IsRangedStep (hands_over set n k e s to more)
    sends k e s to more at there rest =
        let own = r.known k (Active e s) at in
        let counts : 0 < e + 1 = omega arith in
        changes _ k (Sent (e + 1) s to) _ _ (own.0, counts, there, own.1.1) own.0 (counts, own.1.1, there) ((here_is, there, own.0, counts, own.1.1), rest)

    wanted : (from : ℕ) (k : Key) (boot want : ℕ) (st : Option KeyState) → known n.durable k ≡ st → IsNode from → IsKey k → IsRangedStep (on_want set n from k boot want st)
    wanted from k boot want None at there key = unmade from k boot want there key
    wanted from k boot want (Some (Active e s)) at there key = either (e == last_number) _ (hands_over set n k e s from []) (λ _. nothing) (λ _. sends k e s from [] (active_kept (was_given n.durable k) (get n.durable.keys k) e s at) there tt)
    wanted from k boot want (Some (Sent e s to)) at there key =
        let own = r.known k (Sent e s to) (sent_kept (was_given n.durable k) (get n.durable.keys k) e s to at) in
        either (to == from) _ _ (λ _. still _ ((here_is, there, key, own.1.0, own.1.1), tt)) (λ _. unmade from k boot want there key)
    wanted from k boot want (Some (Gone e)) at there key = unmade from k boot want there key
    wanted from k boot want (Some (Ended e)) at there key = denies from k boot want there key

    granted : (from : ℕ) (k : Key) (e : ℕ) (s : Session) (st : Option KeyState) → IsNode from → IsKey k → IsCounting e → IsWithinLimits s → IsRangedStep (on_grant set n from k e s st)
    granted from k e s st there key counts within = either (is_unmade set n.durable k) _ _ (λ _. nothing)
        (λ _. either (nat_le e (epoch_in st)) _ _ (λ _. still _ ((here_is, there, key, counts), tt))
        (λ _. either (lacks_room set n.durable k) _ (takes_over set n from k e s) (λ _. nothing)
        (λ _. changes _ k (Active e s) _ _ (key, counts, there, within) key (counts, within) ((here_is, there, key, counts), tt))))

    acked : (k : Key) (e : ℕ) (st : Option KeyState) → IsKey k → IsCounting e → IsRangedStep (on_ack n k e st)
    acked k e None key counts = nothing
    acked k e (Some (Active f s)) key counts = nothing
    acked k e (Some (Sent f s to)) key counts = either (f == e) _ _ (λ _. changes _ k (Gone e) None [] (key, counts) key counts tt) (λ _. nothing)
    acked k e (Some (Gone f)) key counts = nothing
    acked k e (Some (Ended f)) key counts = nothing

    ours : (p : Packet) → IsPacket p → IsRangedStep (on_ours m set n moment p)
    ours (Want from to k boot want) h = wanted from k boot want (known n.durable k) refl h.0 h.2
    ours (Grant from to k e s) h = granted from k e s (known n.durable k) h.0 h.2 h.3 h.4
    ours (Ack from to k e) h = acked k e (known n.durable k) h.2 h.3
    ours (No from to k boot want) h = either (boot == n.durable.boot) _ _ (λ _. parked (is_wanted k want)) (λ _. nothing)

    inside : (itself : Bool) (to : ℕ) → (itself || nat_le set.nodes to) ≡ false → IsNode to
    inside true to apart = absurd (cc)
    inside false to apart = let below : to < set.nodes = leb-false set.nodes to apart in omega (arith, is.few, below)

    moves : (k : Key) (to : ℕ) (st : Option KeyState) → known n.durable k ≡ st → IsRangedStep (on_move set n k to st)
    moves k to None at = still _ tt
    moves k to (Some (Active e s)) at = either ((to == set.node) || nat_le set.nodes to) _ _ (λ _. still _ tt)
        (λ there. either (e == last_number) _ (hands_over set n k e s to (Moved ∷ [])) (λ _. still _ tt)
        (λ _. sends k e s to (Moved ∷ []) (active_kept (was_given n.durable k) (get n.durable.keys k) e s at) (inside (to == set.node) to there) tt))
    moves k to (Some (Sent e s away)) at = still _ tt
    moves k to (Some (Gone e)) at = still _ tt
    moves k to (Some (Ended e)) at = still _ tt

    -- ---- time

    ended : (now : ℕ) (f : Option Entry) → first_over now (entries n.durable.keys) ≡ f → IsRangedStep (expire n now f [])
    ended now None found = nothing
    ended now (Some (k, Active e s)) found =
        let there : get n.durable.keys k ≡ Some (Active e s) = entry_kept n.durable.keys (k, Active e s) (over_in now (entries n.durable.keys) (k, Active e s) found).0 in
        let own = r.known k (Active e s) there in
        record {
          entry = own.0;
          packets = tt;
          left_is = record { known = over_ranged n.durable.home n.durable.keys k e r.known own.0 own.1.0; next = r.next; waiting = r.waiting; home = r.home; next_within = r.next_within; want_within = r.want_within };
        }
    ended now (Some (k, Sent e s to)) found = nothing
    ended now (Some (k, Gone e)) found = nothing
    ended now (Some (k, Ended e)) found = nothing

    again : (d : Durable) (ps : List Parked) → AllByRecursion (λ p. IsKey p.key) ps → AllByRecursion IsPacket (sends_in (flat_map (λ p. wants set d p.key p.want) ps))
    again d [] wait = tt
    again d (p ∷ ps) wait = sends_both (wants set d p.key p.want) (flat_map (λ q. wants set d q.key q.want) ps)
        (wants_ranged set.node p.key d.boot p.want (others set) here_is wait.0 others_are) (again d ps wait.1)

    ticks : IsRangedStep (on_tick set n moment.now moment.steady)
    ticks =
        let d = expire n moment.now (first_over moment.now (entries n.durable.keys)) [] in
        let step = ended moment.now (first_over moment.now (entries n.durable.keys)) refl in
        let stay = filter (λ p. not (is_late set moment.steady p)) n.parked in
        let wait = all_filter (λ p. IsKey p.key) (λ p. not (is_late set moment.steady p)) n.parked r.waiting in
        record {
          entry = step.entry;
          packets = sends_both (deadlines set moment.steady n.parked ++ wants_again set n.durable stay) (filter_map (grant_again set) (entries d.durable.keys))
              (sends_both (deadlines set moment.steady n.parked) (wants_again set n.durable stay) (late_ranged (filter (is_late set moment.steady) n.parked))
              (again n.durable (filter (λ p. not (is_quiet set n.durable p)) stay) (all_filter (λ p. IsKey p.key) (λ p. not (is_quiet set n.durable p)) stay wait)))
              (grants_ranged set (entries d.durable.keys) here_is (λ e i. step.left_is.known e.0 e.1 (entry_kept d.durable.keys e i)));
          left_is = record { known = step.left_is.known; next = step.left_is.next; waiting = wait; home = step.left_is.home; next_within = step.left_is.next_within; want_within = step.left_is.want_within };
        }

    pub ranged : (input : Input) → IsInput input → IsRangedStep (decided m set n moment input)
    ranged (Ask token q) h = asks token q (m.names q) (names q)
    ranged (Incoming p) h = either (is_ours set p) _ _ (λ _. ours p h) (λ _. nothing)
    ranged Poke h = parked (λ p. is_settled (known n.durable p.key))
    ranged Tick h = ticks
    ranged (Move k to) h = moves k to (known n.durable k) refl
