-- Each step of a node alone goes side by side with the container: what the step commits may stand, and the node's sessions
-- stay those of the container.
use Rattle.std.proofs.Common.{◌≡◌, ◌≢◌, ℕ, ◌+◌, ◌<◌, ◌≤◌, Bool, true, false, cond, Option, Some, None, List, [], ◌∷◌, ◌++◌, length, refl, sym, ap, ◌∙◌, subst, ⊎_elim, arith}
use Rattle.std.proofs.lemmas.Bool.{false_from_ne_true}
use Rattle.std.specs.Prelude.{is_some, slice_get, slice_set, get_or, IfSome, ⊤}
use Rattle.std.specs.Option.{option_to_list, option_map}
use Rattle.std.specs.List.{filter_map, position_from}
use Rattle.std.specs.FinMap.{get, insert, entries}
use Rattle.std.proofs.Math.Seq.{take-length}
use Rattle.std.proofs.lemmas.Option.{slice_get_cases, slice_get_within, same_Some}
use Rattle.sv_solo.proofs.Prelude.{Key, Secret, Token, Moment, Request, Session, Packet, KeyState, Active, Ended, Commit, Served, Outcome, Untouched, Birth}
use Rattle.sv_solo.proofs.Prelude.{Input, Output, Refuse, MoveRefused, Cause, EngineMeaning, TouchesOnlyHanded, NamesKeys, is_expired, known, Node, session_in}
use Rattle.sv_solo.proofs.Prelude.{Decision, idle, left, decided, on_packet, on_move, on_ask, own_key, keys_of, IsPlace, IsMade, if_active, fated_at}
use Rattle.sv_solo.proofs.Prelude.{born_behind, alone, node_of, state_of, refusal_for, numbered, is_past, item_of, IsFit}
use Rattle.sv_model.specs.declared.outcome.Birth.TheVariants.{Absent, Alive, Ended as BirthEnded}
use Rattle.sv_model.specs.declared.input.Input.TheVariants.{Ask, Packet as Incoming, Poke, Tick, Move}
use Rattle.sv_model.specs.Keys.{same_key, set_key}
use Rattle.sv_model.specs.Container.{Store, always, nothing_stored, after, stored, fated, born, made_with, outcome_of, handed_if, IsLawful, IsNewKey, IsExcused, MayStand, expiry_events, store_with}
use Rattle.sv_model.specs.Time.{on_tick, first_over, is_over, expire, grant_again}
use Rattle.sv_model.specs.Serving.{held_in, answer_of, answered, answered_unless, no_birth, fresh_of, token_of, born_keys, kept_with}
use Rattle.sv_model.proofs.KeyLemmas.{keys_tell}
use Rattle.sv_model.specs.Trace.{asked_by, reply_in, refusal_in, served_of, times}
use Rattle.sv_model.proofs.KeptLemmas.{Agree, set_agrees, held_agrees, handed_held, fated_agrees, born_agrees}
use Rattle.sv_solo.proofs.SoloLemmas.{packets, moves, ended_node}
use Rattle.sv_solo.proofs.TableLemmas.{IsForeign, key_cases, get_own, is_place, held_unmade, fates, births, length_fated, kept, asks, fresh_is, few_born, put_own, no_grants, entries_are, over}
use Rattle.std.proofs.lemmas.List.{length-append, length-set}

-- a node that has made these sessions, beside the container
pub record Holds (xs : List (Option Session)) (store : Store) : Type 0 where
  pub few : length xs ≤ 65_536
  pub map : Agree store.map (keys_of xs)
  pub made : (k : Key) → store.made k ≡ true → (i : ℕ) × (i < length xs) × (k ≡ own_key (i + 1))

-- a request's token has an arrival after no more commits than these
abbrev pub HasArrived : (Token → ℕ) → ℕ → Option Token → Type 0
HasArrived arrival before None = ⊤
HasArrived arrival before (Some t) = arrival t ≤ before

-- what is shown of a step's decision
pub record Follows (m : EngineMeaning) (xs : List (Option Session)) (store : Store) (input : Input) (d : Decision) : Type 0 where
  pub next : List (Option Session)
  pub left_is : left d ≡ node_of next
  pub holds : Holds next (store_with (always m) store d.commit)
  pub lawful : IfSome d.commit (IsLawful (always m) store)
  pub stands : (arrival : Token → ℕ) (before : List Commit) → HasArrived arrival (length before) (asked_by (token_of alone (node_of xs).durable) input)
      → after (always m) nothing_stored before ≡ store → IfSome d.commit (MayStand (always m) arrival before)
  -- no session comes from another node or goes there
  pub unmarked : d.mark ≡ None
  pub fit : IsFit m store (item_of alone (node_of xs) input d d.outputs)
  pub tokens : (t : Token) → times t (served_of (option_to_list d.commit)) + times t (filter_map (refusal_in (token_of alone (node_of xs).durable)) d.outputs)
      ≡ times t (option_to_list (asked_by (token_of alone (node_of xs).durable) input))

none_and : (n : ℕ) → 0 + n ≡ n
none_and n = omega arith

-- nothing is done, and nobody is answered
pub idle_follows : (m : EngineMeaning) (xs : List (Option Session)) (store : Store) (input : Input) (outputs : List Output) → Holds xs store
    → filter_map (reply_in (token_of alone (node_of xs).durable)) outputs ≡ []
    → ((t : Token) → times t (filter_map (refusal_in (token_of alone (node_of xs).durable)) outputs) ≡ times t (option_to_list (asked_by (token_of alone (node_of xs).durable) input)))
    → Follows m xs store input (idle (node_of xs) outputs)
idle_follows m xs store input outputs h quiet refuses =
    record {
      next = xs;
      left_is = refl;
      holds = h;
      lawful = tt;
      stands = λ arrival before arrived is. tt;
      unmarked = refl;
      fit = record { events = refl; replies = quiet };
      tokens = λ t. none_and (times t (filter_map (refusal_in (token_of alone (node_of xs).durable)) outputs)) ∙ refuses t;
    }

-- ---- a request that is served

-- each key that is named has its place, or none
unmade : (xs : List (Option Session)) (k : Key) (i : ℕ) → k ≡ own_key (i + 1) → length xs ≤ i → IsMade k (length xs) None
unmade xs k i is past place at = let same : i + 1 ≡ place + 1 = ap (λ (q : Key). q.serial) (sym is ∙ at) in omega (arith, same, past)

placed : (xs : List (Option Session)) (named : Option (Key × Secret)) → (place : Option ℕ) × IsPlace xs named place
placed xs None = (None, refl)
placed xs (Some (k, secret)) = ⊎_elim
    (λ (p : (i : ℕ) × (k ≡ own_key (i + 1))). ⊎_elim
    (λ (here : (x : Option Session) × (p.0 < length xs) × (slice_get xs p.0 ≡ Some x) × (get_or xs p.0 x ≡ x)).
    (if_active (slice_get xs p.0) p.0, is_place xs k secret p.0 (if_active (slice_get xs p.0) p.0) (p.1, here.1) refl))
    (λ (past : (length xs ≤ p.0) × (slice_get xs p.0 ≡ None)). (None, held_unmade xs k secret (unmade xs k p.0 p.1 past.0)))
    (slice_get_cases xs p.0).1)
    (λ (f : IsForeign k). (None, held_unmade xs k secret (λ place at. absurd (f place at))))
    (key_cases k)

-- the next key is not yet known
next_unknown : (xs : List (Option Session)) → get (keys_of xs) (own_key (length xs + 1)) ≡ None
next_unknown xs = get_own (length xs) xs ∙ ap (option_map state_of) (⊎_elim
    (λ (here : (x : Option Session) × (length xs < length xs) × (slice_get xs (length xs) ≡ Some x) × (get_or xs (length xs) x ≡ x)). absurd (let never : length xs < length xs = here.1 in omega (arith, never)))
    (λ (past : (length xs ≤ length xs) × (slice_get xs (length xs) ≡ None)). past.1)
    (slice_get_cases xs (length xs)).1)

not_made : (xs : List (Option Session)) (store : Store) → Holds xs store → store.made (own_key (length xs + 1)) ≡ false
not_made xs store h = false_from_ne_true (store.made (own_key (length xs + 1))) (λ is.
    let at : (i : ℕ) × (i < length xs) × (own_key (length xs + 1) ≡ own_key (i + 1)) = h.made (own_key (length xs + 1)) is in
    let same : length xs + 1 ≡ at.0 + 1 = ap (λ (q : Key). q.serial) at.2 in
    let less : at.0 < length xs = at.1 in
    omega (arith, same, less))

new_key : (xs : List (Option Session)) (store : Store) (k : Key) (b : Birth) → Holds xs store → k ≡ own_key (length xs + 1) → IsNewKey store k b
new_key xs store k Absent h is = tt
new_key xs store k (Alive s) h is = ap store.made is ∙ not_made xs store h
new_key xs store k BirthEnded h is = ap store.made is ∙ not_made xs store h

-- the keys that were made, after a birth
grown : (ys : List (Option Session)) (x : Option Session) (i : ℕ) → i < length ys → i < length (ys ++ x ∷ [])
grown ys x i less = let push : length (ys ++ x ∷ []) ≡ length ys + 1 = length-append ys (x ∷ []) in omega (arith, less, push)

made_behind : (made : Key → Bool) (k : Key) (ys : List (Option Session)) (x : Option Session) → ((q : Key) → made q ≡ true → (i : ℕ) × (i < length ys) × (q ≡ own_key (i + 1)))
    → k ≡ own_key (length ys + 1) → (q : Key) → set_key made k true q ≡ true → (i : ℕ) × (i < length (ys ++ x ∷ [])) × (q ≡ own_key (i + 1))
made_behind made k ys x known is q set = ⊎_elim
    (λ (t : (q ≡ k) × (same_key q k ≡ true)).
    (length ys, let push : length (ys ++ x ∷ []) ≡ length ys + 1 = length-append ys (x ∷ []) in omega (arith, push), t.0 ∙ is))
    (λ (t : (q ≢ k) × (same_key q k ≡ false)).
    let old : (i : ℕ) × (i < length ys) × (q ≡ own_key (i + 1)) = known q (ap (λ b. cond b true (made q)) (sym t.1) ∙ set) in
    (old.0, grown ys x old.0 old.1, old.2))
    (keys_tell q k)

made_with_birth : (made : Key → Bool) (k : Key) (ys : List (Option Session)) (b : Birth) → ((q : Key) → made q ≡ true → (i : ℕ) × (i < length ys) × (q ≡ own_key (i + 1)))
    → k ≡ own_key (length ys + 1) → (q : Key) → made_with k b made q ≡ true → (i : ℕ) × (i < length (born_behind b ys)) × (q ≡ own_key (i + 1))
made_with_birth made k ys Absent known is q set = known q set
made_with_birth made k ys (Alive s) known is q set = made_behind made k ys (Some s) known is q set
made_with_birth made k ys BirthEnded known is q set = made_behind made k ys None known is q set

-- after an outcome the node still has the container's sessions
holds_behind : (xs : List (Option Session)) (store : Store) (named : Option (Key × Secret)) (place : Option ℕ) (k : Key) (out : Outcome) → Holds xs store → IsPlace xs named place
    → (held_in (keys_of xs) named ≡ None → out.fate ≡ Untouched) → k ≡ own_key (length xs + 1) → None ≡ no_birth alone (node_of xs).durable out.birth
    → Holds (born_behind out.birth (fated_at place out.fate xs)) (stored named k out store)
holds_behind xs store named place k out h at touched is room =
    let ys = fated_at place out.fate xs in
    let same : length ys ≡ length xs = length_fated xs place out.fate in
    let key : k ≡ own_key (length ys + 1) = is ∙ ap (λ n. own_key (n + 1)) (sym same) in
    let settled : Agree (fated named out.fate store.map) (keys_of ys) = subst (Agree (fated named out.fate store.map)) (sym (fates xs named place out.fate at)) (fated_agrees None store.map (keys_of xs) named out.fate h.map touched) in
    record {
      few = few_born xs ys out.birth h.few room same;
      map = subst (Agree (born k out.birth (fated named out.fate store.map)))
          (ap (λ (q : Key). born_keys None q out.birth (keys_of ys)) key ∙ sym (births ys out.birth))
          (born_agrees None (fated named out.fate store.map) (keys_of ys) k out.birth settled (ap (get (keys_of ys)) key ∙ next_unknown ys));
      made = made_with_birth store.made k ys out.birth (λ q set. let old : (i : ℕ) × (i < length xs) × (q ≡ own_key (i + 1)) = h.made q set in (old.0, subst (λ n. old.0 < n) (sym same) old.1, old.2)) key;
    }

-- nobody holds what is named
none_held : (k : Key) (o : Option Session) → is_some (option_map {U = Key × Session} (λ s. (k, s)) o) ≡ false → o ≡ None
none_held k None is = refl
none_held k (Some s) is = absurd cc

count_one : (n : ℕ) → n + 0 ≡ n
count_one n = omega arith

module _ (m : EngineMeaning) (untouched : TouchesOnlyHanded m) (can : NamesKeys m) (xs : List (Option Session)) (store : Store) (h : Holds xs store) (moment : Moment) (token : ℕ) (r : Request) where
  abbrev fresh : Key × Secret
  fresh = fresh_of alone (node_of xs).durable moment

  abbrev out : Outcome
  out = answer_of m alone (node_of xs).durable moment r

  abbrev handed : Bool
  handed = is_some (held_in (keys_of xs) (m.names r))

  abbrev named_token : Token
  named_token = token_of alone (node_of xs).durable token

  abbrev commit : Commit
  commit = Served named_token r moment.now handed fresh

  -- the container answers what the engine did
  same_outcome : outcome_of m store r moment.now handed fresh ≡ out
  same_outcome = ap (λ held. m.serve r held moment.now fresh) (ap (handed_if handed) (held_agrees store.map (keys_of xs) (m.names r) h.map) ∙ handed_held (held_in (keys_of xs) (m.names r)))

  fresh_key : fresh.0 ≡ own_key (length xs + 1)
  fresh_key = ap (λ (p : Key × Secret). p.0) (fresh_is xs moment h.few)

  touched : held_in (keys_of xs) (m.names r) ≡ None → out.fate ≡ Untouched
  touched is = ap (λ held. (m.serve r held moment.now fresh).fate) is ∙ untouched r moment.now fresh

  excuse : (arrival : Token → ℕ) (before : List Commit) → arrival named_token ≤ length before → after (always m) nothing_stored before ≡ store
      → (named : Key × Secret) → handed ≡ false → m.names r ≡ Some named → IsExcused (always m) before (arrival named_token) named.0
  excuse arrival before arrived is named unheld names =
      record {
        place = length before;
        since = arrived;
        within = omega arith;
        lacks =
            ap (λ cs. (after (always m) nothing_stored cs).map named.0) (take-length before)
            ∙ ap (λ (s : Store). s.map named.0) is
            ∙ h.map named.0
            ∙ none_held named.0 (session_in (get (keys_of xs) named.0)) (ap (λ n. is_some (held_in (keys_of xs) n)) (sym names) ∙ unheld);
      }

  served_follows : None ≡ no_birth alone (node_of xs).durable out.birth → (place : Option ℕ) → IsPlace xs (m.names r) place
      → Follows m xs store (Ask token r) (answered m alone (node_of xs) moment token r out [])
  served_follows room place at =
      record {
        next = born_behind out.birth (fated_at place out.fate xs);
        left_is = ap (λ d. record { durable = d; parked = []; next_want = 1 }) (ap (λ (k : Key). kept_with (m.names r) k out (node_of xs).durable) fresh_key ∙ sym (kept xs (m.names r) place out at));
        holds = subst (Holds (born_behind out.birth (fated_at place out.fate xs))) (ap (λ (o : Outcome). stored (m.names r) fresh.0 o store) (sym same_outcome))
            (holds_behind xs store (m.names r) place fresh.0 out h at touched fresh_key room);
        lawful = subst (λ (o : Outcome). IsNewKey store fresh.0 o.birth) (sym same_outcome) (new_key xs store fresh.0 out.birth h fresh_key);
        stands = λ arrival before arrived is. (arrived, excuse arrival before arrived is);
        unmarked = refl;
        fit = record {
          events = ap (λ (o : Outcome). o.events) (sym same_outcome);
          replies = ap (λ (o : Outcome). (named_token, o.response) ∷ []) (sym same_outcome);
        };
        tokens = λ t. count_one (times t (named_token ∷ []));
      }

  by_cause : (cause : Option Cause) → cause ≡ no_birth alone (node_of xs).durable out.birth → Follows m xs store (Ask token r) (answered_unless cause m alone (node_of xs) moment token r out [])
  by_cause None room = let at : (place : Option ℕ) × IsPlace xs (m.names r) place = placed xs (m.names r) in served_follows room at.0 at.1
  by_cause (Some cause) room = idle_follows m xs store (Ask token r) (Refuse token cause ∷ []) h refl (λ t. refl)

  pub ask_follows : Follows m xs store (Ask token r) (on_ask m alone (node_of xs) moment token r (m.names r))
  ask_follows = subst (Follows m xs store (Ask token r)) (sym (asks m xs moment token r (m.names r) (can r))) (by_cause (no_birth alone (node_of xs).durable out.birth) refl)

-- ---- the other inputs

pub packet_follows : (m : EngineMeaning) (xs : List (Option Session)) (store : Store) (moment : Moment) (p : Packet) → Holds xs store
    → Follows m xs store (Incoming p) (on_packet m alone (node_of xs) moment p)
packet_follows m xs store moment p h = subst (Follows m xs store (Incoming p)) (sym (packets m xs moment p)) (idle_follows m xs store (Incoming p) [] h refl (λ t. refl))

pub move_follows : (m : EngineMeaning) (xs : List (Option Session)) (store : Store) (k : Key) (to : ℕ) → Holds xs store
    → Follows m xs store (Move k to) (on_move alone (node_of xs) k to (known (node_of xs).durable k))
move_follows m xs store k to h =
    subst (Follows m xs store (Move k to)) (sym (moves xs k to (known (node_of xs).durable k)))
    (idle_follows m xs store (Move k to) (MoveRefused (refusal_for (known (node_of xs).durable k)) ∷ []) h refl (λ t. refl))

-- what is found to be over has expired
over_or_later : (now : ℕ) (x : Key × KeyState) (es : List (Key × KeyState)) (e : Key × KeyState) (b : Bool) → is_over now x.1 ≡ b → cond b (Some x) (first_over now es) ≡ Some e
    → (first_over now es ≡ Some e → is_over now e.1 ≡ true) → is_over now e.1 ≡ true
over_or_later now x es e true is found later = ap (λ (o : Key × KeyState). is_over now o.1) (sym (same_Some x e found)) ∙ is
over_or_later now x es e false is found later = later found

found_is_over : (now : ℕ) (es : List (Key × KeyState)) (e : Key × KeyState) → first_over now es ≡ Some e → is_over now e.1 ≡ true
found_is_over now [] e is = absurd cc
found_is_over now (x ∷ es) e is = over_or_later now x es e (is_over now x.1) refl is (found_is_over now es e)

-- what a tick decides, by the least key that has expired
abbrev tick_by : List (Option Session) → ℕ → Option (Key × KeyState) → Decision
tick_by xs now found =
    let d = expire (node_of xs) now found [] in
    record d { outputs = filter_map (grant_again alone) (entries d.durable.keys); parked = [] }

nothing_over : (m : EngineMeaning) (xs : List (Option Session)) (store : Store) (now : ℕ) → Holds xs store → Follows m xs store Tick (tick_by xs now None)
nothing_over m xs store now h = subst (λ os. Follows m xs store Tick (idle (node_of xs) os)) (sym (no_grants xs)) (idle_follows m xs store Tick [] h refl (λ t. refl))

ended_holds : (xs : List (Option Session)) (store : Store) (place : ℕ) → Holds xs store → place < length xs
    → Holds (slice_set xs place None) (record store { map = set_key store.map (own_key (place + 1)) None })
ended_holds xs store place h less =
    let same : length (slice_set xs place None) ≡ length xs = length-set xs place None in
    record {
      few = subst (λ n. n ≤ 65_536) (sym same) h.few;
      map = subst (Agree (set_key store.map (own_key (place + 1)) None)) (sym (put_own xs place None less)) (set_agrees store.map (keys_of xs) (own_key (place + 1)) (Ended 1) h.map);
      made = λ q set. let old : (i : ℕ) × (i < length xs) × (q ≡ own_key (i + 1)) = h.made q set in (old.0, subst (λ n. old.0 < n) (sym same) old.1, old.2);
    }

one_over : (m : EngineMeaning) (xs : List (Option Session)) (store : Store) (now place : ℕ) (s : Session) → Holds xs store → slice_get xs place ≡ Some (Some s) → is_expired s now ≡ true
    → Follows m xs store Tick (tick_by xs now (Some (own_key (place + 1), Active 1 s)))
one_over m xs store now place s h there over =
    let less : place < length xs = slice_get_within xs place (Some s) there in
    let ended = ended_node xs place less in
    let none : filter_map (grant_again alone) (entries (insert (keys_of xs) (own_key (place + 1)) (Ended 1))) ≡ [] =
    ap (λ (n : Node). filter_map (grant_again alone) (entries n.durable.keys)) ended ∙ no_grants (slice_set xs place None) in
    let held : store.map (own_key (place + 1)) ≡ Some s = h.map (own_key (place + 1)) ∙ ap session_in (get_own place xs ∙ ap (option_map state_of) there) in
    record {
      next = slice_set xs place None;
      left_is = ended;
      holds = ended_holds xs store place h less;
      lawful = record { session = s; there = held; expired = over };
      stands = λ arrival before arrived is. tt;
      unmarked = refl;
      fit = record {
        events = ap (expiry_events (own_key (place + 1))) (sym held);
        replies = ap (filter_map (reply_in (token_of alone (node_of xs).durable))) none;
      };
      tokens = λ t. none_and (times t (filter_map (refusal_in (token_of alone (node_of xs).durable)) (filter_map (grant_again alone) (entries (insert (keys_of xs) (own_key (place + 1)) (Ended 1))))))
          ∙ ap (λ os. times t (filter_map (refusal_in (token_of alone (node_of xs).durable)) os)) none;
    }

found_follows : (m : EngineMeaning) (xs : List (Option Session)) (store : Store) (now steady at place : ℕ) (s : Session) → Holds xs store → at ≡ place → slice_get xs place ≡ Some (Some s)
    → first_over now (entries (keys_of xs)) ≡ Some (own_key (at + 1), Active 1 s) → Follows m xs store Tick (on_tick alone (node_of xs) now steady)
found_follows m xs store now steady at place s h same there first =
    subst (λ f. Follows m xs store Tick (tick_by xs now f)) (sym (first ∙ ap (λ n. Some (own_key (n + 1), Active 1 s)) same))
    (one_over m xs store now place s h there (found_is_over now (entries (keys_of xs)) (own_key (at + 1), Active 1 s) first))

pub tick_follows : (m : EngineMeaning) (xs : List (Option Session)) (store : Store) (now steady : ℕ) → Holds xs store → Follows m xs store Tick (on_tick alone (node_of xs) now steady)
tick_follows m xs store now steady h = ⊎_elim
    (λ (n : (first_over now (numbered (0 + 1) xs) ≡ None) × (position_from (is_past now) 0 xs ≡ None)).
    subst (λ f. Follows m xs store Tick (tick_by xs now f)) (sym (ap (first_over now) (entries_are xs) ∙ n.0)) (nothing_over m xs store now h))
    (λ (o : (j : ℕ) × (s : Session) × (slice_get xs j ≡ Some (Some s)) × (position_from (is_past now) 0 xs ≡ Some (0 + j))
    × (first_over now (numbered (0 + 1) xs) ≡ Some (own_key ((0 + j) + 1), Active 1 s))).
    found_follows m xs store now steady (0 + o.0) o.0 o.1 h (omega arith) o.2 (ap (first_over now) (entries_are xs) ∙ o.4))
    (over now 0 xs)

-- ---- the whole table

pub follows : (m : EngineMeaning) → TouchesOnlyHanded m → NamesKeys m → (xs : List (Option Session)) (store : Store) (moment : Moment) (input : Input) → Holds xs store
    → Follows m xs store input (decided m alone (node_of xs) moment input)
follows m untouched can xs store moment (Ask token r) h = ask_follows m untouched can xs store h moment token r
follows m untouched can xs store moment (Incoming p) h = packet_follows m xs store moment p h
follows m untouched can xs store moment Poke h = idle_follows m xs store Poke [] h refl (λ t. refl)
follows m untouched can xs store moment Tick h = tick_follows m xs store moment.now moment.steady h
follows m untouched can xs store moment (Move k to) h = move_follows m xs store k to h
