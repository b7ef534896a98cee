-- The worked examples of the table, computed.
use Rattle.std.proofs.Common.{◌≡◌, ℕ, Bool, true, false, cond, Option, Some, None, List, [], ◌∷◌, refl, arith, sym, ap, ◌∙◌}
use Rattle.std.specs.FinMap.{empty, insert, remove, entries-insert, len-empty, get-empty, get-insert, get-remove, same_map}
use Rattle.sv_model.proofs.Prelude.{Secret, Moment, Setting, Parked, Request, Session, Told, Untouched, Kept, Absent, Alive, KeyState, Active, Sent, Gone}
use Rattle.sv_model.proofs.Prelude.{Ended, Ask, Poke, Cause, TableFull, Key, key_cmp, same_key, EngineMeaning, Keys, Node, on_ask, decided}
use Rattle.sv_model.specs.declared.response.Response.{Response}
use Rattle.sv_model.specs.declared.outcome.Outcome.{Outcome}
use Rattle.sv_model.specs.Serving.{held_in, served, refused, no_birth, answer_of, answered, answered_unless}
use Rattle.sv_model.specs.Rows.{of_three, first_key, second_key, keeps, forgets, at_rest, at_second, waits_at_1, waiting, IsExample, IsHandedOver, AreLate, IsNeverMade, AreTicks, AreOrders, AreForgotten, AreFull, AreForgetting}
use Rattle.sv_model.proofs.KeyLemmas.{keys_total, exact_keys}
use Rattle.sv_model.proofs.EntryLemmas.{no_entries}

-- a request that is answered so
serves_as : (m : EngineMeaning) (set : Setting) (n : Node) (moment : Moment) (token : ℕ) (r : Request) (waiting : List Parked) (out : Outcome) → answer_of m set n.durable moment r ≡ out → no_birth set n.durable out.birth ≡ None
    → served m set n moment token r waiting ≡ answered m set n moment token r out waiting
serves_as m set n moment token r waiting out is none =
    ap (λ (o : Outcome). answered_unless (no_birth set n.durable o.birth) m set n moment token r o waiting) is
    ∙ ap (λ cause. answered_unless cause m set n moment token r out waiting) none

-- one that is refused so
refused_as : (m : EngineMeaning) (set : Setting) (n : Node) (moment : Moment) (token : ℕ) (r : Request) (waiting : List Parked) (out : Outcome) (why : Cause) → answer_of m set n.durable moment r ≡ out → no_birth set n.durable out.birth ≡ Some why
    → served m set n moment token r waiting ≡ refused n token why waiting
refused_as m set n moment token r waiting out why is some =
    ap (λ (o : Outcome). answered_unless (no_birth set n.durable o.birth) m set n moment token r o waiting) is
    ∙ ap (λ cause. answered_unless cause m set n moment token r out waiting) some

-- a key that leaves leaves nothing
none_twice : (b : Bool) (st : Option KeyState) → cond b None (cond b st None) ≡ None
none_twice true st = refl
none_twice false st = refl

none_once : (b : Bool) → ◌≡◌ {A = Option KeyState} (cond b None None) None
none_once true = refl
none_once false = refl

left_alone : (k : Key) (st : KeyState) → ◌≡◌ {A = Keys} (remove (insert empty k st) k) empty
left_alone k st = same_map keys_total exact_keys _ _ (λ q.
    get-remove keys_total (insert empty k st) k q
    ∙ ap (cond (same_key q k) None) (get-insert keys_total empty k st q ∙ ap (cond (same_key q k) (Some st)) (get-empty key_cmp q))
    ∙ none_twice (same_key q k) (Some st)
    ∙ sym (get-empty key_cmp q))

none_left : (k : Key) → ◌≡◌ {A = Keys} (remove empty k) empty
none_left k = same_map keys_total exact_keys _ _ (λ q.
    get-remove keys_total empty k q ∙ ap (cond (same_key q k) None) (get-empty key_cmp q) ∙ none_once (same_key q k) ∙ sym (get-empty key_cmp q))

pub forgetting : (s : Session) → AreForgetting s
forgetting s = record {
  begun = rw (get-insert keys_total empty (first_key 0) (Active 1 s) (first_key 0)) (ap (forgets 0) (left_alone (first_key 0) (Active 1 s)));
  spent = ap (forgets 0) (none_left (first_key 0));
  before = refl;
  counted = refl;
  stays = refl;
  starts = (refl, refl);
  starts_once = λ h. omega (arith, h.1);
  starts_elsewhere = λ h. omega (arith, h.0);
  heads = (refl, refl);
  heads_late = λ h. absurd (let never : false ≡ true = h.1 in cc);
  heads_elsewhere = λ h. omega (arith, h.0);
}

module _ (m : EngineMeaning) (secret : Secret) (first again : Request) (made kept : Session) (one two : Response) (events more : List Told) (is : IsExample m secret first again made kept one two events more) where
  -- the session is made, and the one that was named is kept
  abbrev making : Outcome
  making = record { response = one; fate = Untouched; birth = Alive made; events = events }

  abbrev keeping : Outcome
  keeping = record { response = two; fate = Kept kept; birth = Absent; events = more }

  -- node 1, waiting, where it knows nothing and where it holds the session
  abbrev wanting : Keys → Node
  wanting keys = waiting m secret first again made kept one two events more keys

  abbrev held_keys : Keys
  held_keys = insert empty (first_key 0) (Active 2 made)

  pub handed_over : IsHandedOver m secret first again made kept one two events more
  handed_over = record {
    made_here =
        ap (λ named. on_ask m (of_three 0) (at_rest (keeps empty 1)) (at_second 1_000 secret) 1 first named) is.none
        ∙ serves_as m (of_three 0) (at_rest (keeps empty 1)) (at_second 1_000 secret) 1 first [] making
        (ap (λ named. m.serve first (held_in empty named) 1_000 (first_key 0, secret)) is.none ∙ is.makes (first_key 0)) (rw (len-empty key_cmp KeyState) refl)
        ∙ (rw (is.none) refl);
    parked = rw (is.names, get-empty key_cmp (first_key 0)) refl;
    wanted = rw (get-insert keys_total empty (first_key 0) (Active 1 made) (first_key 0)) refl;
    granted = rw (get-empty key_cmp (first_key 0), len-empty key_cmp KeyState) refl;
    poked =
        (let settled : decided m (of_three 1) (wanting held_keys) (at_second 1_000 secret) Poke ≡ served m (of_three 1) (wanting held_keys) (at_second 1_000 secret) 1 again []
        = rw (get-insert keys_total empty (first_key 0) (Active 2 made) (first_key 0)) refl in settled)
        ∙ serves_as m (of_three 1) (wanting held_keys) (at_second 1_000 secret) 1 again [] keeping
        (ap (λ named. m.serve again (held_in held_keys named) 1_000 (first_key 1, secret)) is.names
        ∙ (rw (get-insert keys_total empty (first_key 0) (Active 2 made) (first_key 0)) (is.keeps_it (first_key 1)))) refl
        ∙ (rw (is.names, get-insert keys_total empty (first_key 0) (Active 2 made) (first_key 0)) refl);
    acknowledged = rw (get-insert keys_total empty (first_key 0) (Sent 2 made 1) (first_key 0)) refl;
  }

  pub late : AreLate m secret first again made kept one two events more
  late = record {
    unknown = rw (get-empty key_cmp (first_key 0)) refl;
    again_granted = rw (get-insert keys_total empty (first_key 0) (Active 2 kept) (first_key 0)) refl;
    stale = rw (get-insert keys_total empty (first_key 0) (Gone 5) (first_key 0)) refl;
    other_ack = rw (get-insert keys_total empty (first_key 0) (Sent 4 made 1) (first_key 0)) refl;
    old_no = refl;
    other_no = refl;
    unknown_moved = rw (get-empty key_cmp (first_key 0)) refl;
    gone_moved = rw (get-insert keys_total empty (first_key 0) (Gone 2) (first_key 0)) refl;
    moved_to_itself = rw (get-insert keys_total empty (first_key 0) (Active 2 made) (first_key 0)) refl;
  }

  pub never_made : IsNeverMade m secret first again made kept one two events more
  never_made = record {
    denied = rw (get-empty key_cmp (first_key 0)) refl;
    served_without =
        serves_as m (of_three 1) (wanting empty) (at_second 1_000 secret) 1 again [] making
        (ap (λ named. m.serve again (held_in empty named) 1_000 (first_key 1, secret)) is.names
        ∙ (rw (get-empty key_cmp (first_key 0)) (is.without (first_key 1)))) (rw (len-empty key_cmp KeyState) refl)
        ∙ (rw (is.names, get-empty key_cmp (first_key 0)) refl);
  }

  pub ticks : AreTicks m secret first again made kept one two events more
  ticks = record {
    second_before = rw (no_entries, no_entries, get-empty key_cmp (first_key 0)) refl;
    deadline = rw (no_entries, no_entries) refl;
    granted_again = rw (entries-insert keys_total empty (first_key 0) (Sent 2 made 1), no_entries, entries-insert keys_total empty (first_key 0) (Sent 2 made 1), no_entries) refl;
  }

  abbrev one_held : Keys
  one_held = insert empty (first_key 0) (Active 1 made)

  pub orders : AreOrders m secret first again made kept one two events more
  orders = record {
    ordered = rw (get-insert keys_total empty (first_key 0) (Active 2 kept) (first_key 0)) refl;
    expired = λ over. rw (entries-insert keys_total empty (first_key 0) (Active 1 made), no_entries, over, entries-insert keys_total one_held (first_key 0) (Ended 1), entries-insert keys_total empty (first_key 0) (Active 1 made), no_entries) refl;
    park_full = λ parked long. rw (is.names, get-empty key_cmp (first_key 0), long) refl;
  }

  abbrev away_held : Keys
  away_held = insert empty (first_key 0) (Active 2 made)

  pub forgotten : AreForgotten m secret first again made kept one two events more
  forgotten = record {
    asked =
        (let settled : decided m (of_three 0) (at_rest (forgets 0 empty)) (at_second 1_000 secret) (Ask 1 again) ≡ served m (of_three 0) (at_rest (forgets 0 empty)) (at_second 1_000 secret) 1 again []
        = rw (is.names, get-empty key_cmp (first_key 0)) refl in settled)
        ∙ serves_as m (of_three 0) (at_rest (forgets 0 empty)) (at_second 1_000 secret) 1 again [] making
        (ap (λ named. m.serve again (held_in empty named) 1_000 (second_key 0, secret)) is.names
        ∙ (rw (get-empty key_cmp (first_key 0)) (is.without (second_key 0)))) (rw (len-empty key_cmp KeyState) refl)
        ∙ (rw (is.names, get-empty key_cmp (first_key 0)) refl);
    poked =
        (let settled : decided m (of_three 0) (record { durable = forgets 0 empty; parked = waits_at_1 m secret first again made kept one two events more ∷ []; next_want = 2 }) (at_second 1_000 secret) Poke
        ≡ served m (of_three 0) (record { durable = forgets 0 empty; parked = waits_at_1 m secret first again made kept one two events more ∷ []; next_want = 2 }) (at_second 1_000 secret) 1 again []
        = rw (get-empty key_cmp (first_key 0)) refl in settled)
        ∙ serves_as m (of_three 0) (record { durable = forgets 0 empty; parked = waits_at_1 m secret first again made kept one two events more ∷ []; next_want = 2 }) (at_second 1_000 secret) 1 again [] making
        (ap (λ named. m.serve again (held_in empty named) 1_000 (second_key 0, secret)) is.names
        ∙ (rw (get-empty key_cmp (first_key 0)) (is.without (second_key 0)))) (rw (len-empty key_cmp KeyState) refl)
        ∙ (rw (is.names, get-empty key_cmp (first_key 0)) refl);
    denied = rw (get-empty key_cmp (first_key 0)) refl;
    granted = rw (get-empty key_cmp (first_key 0)) refl;
    moved = rw (get-empty key_cmp (first_key 0)) refl;
    unmade = rw (get-empty key_cmp (second_key 0)) refl;
    never = rw (get-empty key_cmp (record { home = 0; serial = 0 })) refl;
    foreign = rw (get-empty key_cmp (first_key 1)) refl;
    expired = λ over. rw (entries-insert keys_total empty (first_key 0) (Active 1 made), no_entries, over, left_alone (first_key 0) (Active 1 made), no_entries) refl;
    expired_away = λ over. rw (entries-insert keys_total empty (first_key 0) (Active 2 made), no_entries, over, entries-insert keys_total away_held (first_key 0) (Ended 2), entries-insert keys_total empty (first_key 0) (Active 2 made), no_entries) refl;
  }

  pub full : AreFull m secret first again made kept one two events more
  full = record {
    crowded = rw (is.names, get-empty key_cmp (first_key 0), len-empty key_cmp KeyState) refl;
    parked = rw (is.names, get-empty key_cmp (first_key 0)) refl;
    left = rw (get-empty key_cmp (first_key 0), len-empty key_cmp KeyState) refl;
    refused =
        ap (λ named. on_ask m (record (of_three 0) { keys = 0 }) (at_rest (keeps empty 1)) (at_second 1_000 secret) 1 first named) is.none
        ∙ refused_as m (record (of_three 0) { keys = 0 }) (at_rest (keeps empty 1)) (at_second 1_000 secret) 1 first [] making TableFull
        (ap (λ named. m.serve first (held_in empty named) 1_000 (first_key 0, secret)) is.none ∙ is.makes (first_key 0)) (rw (len-empty key_cmp KeyState) refl);
  }
