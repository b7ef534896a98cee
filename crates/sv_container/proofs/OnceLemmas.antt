-- What a session remembers of a key stays until enough newer ones have come, and a request that is asked again changes nothing.
use Rattle.sv_container.proofs.Prelude.{◌≡◌, refl, sym, ap, ◌∙◌, subst, ℕ, zero, suc, ◌+◌, ◌<◌, ◌≤◌, ◌⊎◌, inl, inr, Bool, true, false, cond, ◌&&◌, List, []}
use Rattle.sv_container.proofs.Prelude.{◌∷◌, length, Option, Some, None, arith, IfSome, is_some, option_map, bytes_eq, bytes_eq-Decides, Key, Secret, Birth}
use Rattle.sv_container.proofs.Prelude.{Fate, Untouched, Kept, Ended, Outcome, Request, Response, Session, answer_in, is_key, key_of, mark_of, IsSmall, known}
use Rattle.sv_container.proofs.Prelude.{memory_in, Choice, Entry, begun, joined, Edited, App, Ask, after, kept_in, left_by, outcome_at, recalled, recalled_by}
use Rattle.sv_container.proofs.Prelude.{refused, repeated, told_again, Answered, answered_by, edited_of, or_full, outcome_by, remembering, served_in}
use Rattle.sv_container.proofs.Prelude.{served_new, served_unless, unserved, Admission, is_turned_away, context_at, path_in_context, is_expired, session_cookie}
use Rattle.sv_container.proofs.Prelude.{BadKey, Gone, Reused}
use Rattle.std.specs.Prelude.{is_none, max, min, take}
use Rattle.std.proofs.lemmas.List.{length-take}
use Rattle.std.proofs.lemmas.Option.{same_Some}
use Rattle.sv_once.specs.Answer.{is_kept, kept_answer, response_of, shown}
use Rattle.sv_once.specs.Entries.{memory_bytes, remembered}
use Rattle.sv_once.specs.Room.{bare, memory_of, session_with}
use Rattle.sv_once.proofs.AnswerLemmas.{kept_none, kept_read, kept_small}
use Rattle.sv_once.proofs.AskedLemmas.{key_small, mark_small}
use Rattle.sv_once.proofs.PartsLemmas.{both_true}
use Rattle.sv_once.proofs.EntryLemmas.{memory_read, memory_small, remembered_small}
use Rattle.sv_once.proofs.RoomLemmas.{remembers}
use Rattle.sv_container.specs.Once.{AnswersAgain, IsJoined, LeavesWhatCounts, Rises, admitted, again, answer_at, counting, counts, counts_by, keys_in, last_of, left, named_again, one_where}
use Rattle.sv_container.specs.Recalling.{entry_for, memory_after, memory_with, next_memory, old_secret}
use Rattle.sv_container.specs.Serving.{birth_with, edited_with, fate_with}
use Rattle.sv_container.specs.declared.admission.Admission.TheVariants.{Expired, Joined}
use Rattle.sv_container.specs.Admission.{turned_away}
use Rattle.sv_container.proofs.EngineLemmas.{served_is}

same_bytes : (xs : List ℕ) → bytes_eq xs xs ≡ true
same_bytes xs = (bytes_eq-Decides xs xs).1 refl

-- ---- the first entries

cut : {A : Type 0} (n b : ℕ) → n ≤ b → (xs : List A) → take n (take b xs) ≡ take n xs
cut zero b le xs = refl
cut (suc n) zero le xs = absurd (omega (arith, le))
cut (suc n) (suc b) le [] = refl
cut (suc n) (suc b) le (x ∷ xs) = ap (λ ys. x ∷ ys) (cut n b (omega (arith, le)) xs)

module _ (key : List ℕ) (e : Entry) where
  by_first : (x : Entry) (old new : Option Entry) → (old ≡ Some e → new ≡ Some e) → (same : Bool) → cond same (Some x) old ≡ Some e
      → cond same (Some x) new ≡ Some e
  by_first x old new rest true is = is
  by_first x old new rest false is = rest is

  -- what the first n have, the first m have
  more : (n m : ℕ) → n ≤ m → (es : List Entry) → known key (take n es) ≡ Some e → known key (take m es) ≡ Some e
  more zero m le es is = absurd (cc)
  more (suc n) zero le es is = absurd (omega (arith, le))
  more (suc n) (suc m) le [] is = is
  more (suc n) (suc m) le (x ∷ xs) is =
      by_first x (known key (take n xs)) (known key (take m xs)) (more n m (omega (arith, le)) xs) (bytes_eq key x.key) is

  -- what the first n have, all have
  whole : (n : ℕ) (es : List Entry) → known key (take n es) ≡ Some e → known key es ≡ Some e
  whole zero es is = absurd (cc)
  whole (suc n) [] is = is
  whole (suc n) (x ∷ xs) is = by_first x (known key (take n xs)) (known key xs) (whole n xs) (bytes_eq key x.key) is

  past : (f : Entry) (rest : Option Entry) (same : Bool) → same ≡ false → rest ≡ Some e → cond same (Some f) rest ≡ Some e
  past f rest true other is = absurd (cc)
  past f rest false other is = is

  -- one more entry, of another key
  pushed : (n m most : ℕ) (f : Entry) (es : List Entry) → n < m → m ≤ most → bytes_eq key f.key ≡ false → known key (take n es) ≡ Some e
      → known key (take m (take most (f ∷ es))) ≡ Some e
  pushed n zero most f es less few other is = absurd (omega (arith, less))
  pushed n (suc m) most f es less few other is =
      ap (λ (xs : List Entry). known key xs) (cut (suc m) most few (f ∷ es))
      ∙ past f (known key (take m es)) (bytes_eq key f.key) other (more n m (omega (arith, less)) es is)

  other_by : (same : Bool) (k : List ℕ) (es : List Entry) → bytes_eq key k ≡ same → known key es ≡ Some e → known k es ≡ None → same ≡ false
  other_by true k es same is unknown =
      let keys : key ≡ k = (bytes_eq-Decides key k).0 same in
      let both : known key es ≡ None = ap (λ (x : List ℕ). known x es) keys ∙ unknown in
      absurd (cc)
  other_by false k es same is unknown = refl

  some_memory : (n : ℕ) (memory : List ℕ) → known key (take n (memory_in memory)) ≡ Some e → 0 < length memory
  unfolding memory_in
  some_memory zero [] is = absurd (cc)
  some_memory (suc n) [] is = absurd (cc)
  some_memory n (b ∷ bytes) is = omega arith

found : (e : Entry) (rest : Option Entry) (same : Bool) → same ≡ true → cond same (Some e) rest ≡ Some e
found e rest true is = refl
found e rest false is = absurd (cc)

-- the newest entry
newest : (most : ℕ) (e : Entry) (es : List Entry) → 0 < most → known e.key (take 1 (take most (e ∷ es))) ≡ Some e
newest most e es some =
    ap (λ (xs : List Entry). known e.key xs) (cut 1 most (omega (arith, some)) (e ∷ es))
    ∙ found e None (bytes_eq e.key e.key) (same_bytes e.key)

-- ---- what is remembered after a request

abbrev Most : Choice → ℕ
Most c = min c.answers 16

old_small : (changed : Bool) (secret : Option Secret) → length (old_secret changed secret) ≤ 16
old_small true (Some secret) = omega (arith, length-take 16 secret.0)
old_small true None = omega arith
old_small false secret = omega arith

module _ (c : Choice) (r : Request) (old memory : List ℕ) (response : Response) (short : length old ≤ 16) where
  pub entry_small : (key : List ℕ) → is_key key ≡ true → IsSmall (entry_for r key old response)
  entry_small key is =
      let answer : length (kept_answer response) ≤ 2048 = kept_small response in
      record {
        key = omega (arith, key_small key is);
        mark = omega (arith, mark_small r);
        old = omega (arith, short);
        answer = omega (arith, answer);
      }

  -- the answer is remembered
  read_with : (key : List ℕ) → is_key key ≡ true
      → memory_in (memory_with c (entry_for r key old response) memory) ≡ remembered c.answers (entry_for r key old response) (memory_in memory)
  read_with key is =
      let e : Entry = entry_for r key old response in
      let es : List Entry = memory_in memory in
      memory_read (remembered c.answers e es) (omega (arith, length-take (min c.answers 16) (e ∷ es))) (remembered_small c.answers e es (entry_small key is) (memory_small memory))

some_bytes : (n : ℕ) (e : Entry) (es : List Entry) → 0 < n → 0 < length (memory_bytes (take n (e ∷ es)))
some_bytes zero e es some = absurd (omega (arith, some))
some_bytes (suc n) e es some = omega arith

none_is : {A : Type 0} (x : Option A) → is_none x ≡ true → x ≡ None
none_is None is = refl
none_is (Some x) is = absurd (cc)

-- the session is the one that an edit keeps
abbrev IsKept : Option Edited → Session → Type 0
IsKept None next = ⊥
IsKept (Some e) next = kept_in e.fate ≡ Some next

kept_is_some : (o : Edited → Outcome) (x : Option Edited) → is_some (option_map o x) ≡ true → is_some x ≡ true
kept_is_some o None is = is
kept_is_some o (Some e) is = refl

-- nothing comes of what is gone
none_after : (a : App) (key : Key) (qs : List Ask) (next : Session) → after a key None qs ≡ Some next → ⊥
none_after a key [] next is = cc
none_after a key (q ∷ qs) next is = none_after a key qs next is

-- ---- a request that is joined to the session

module _ (b : App) (c : Choice) (key : Key) where
  -- the application, with the choice
  abbrev a : App
  a = record b { once = Some c }

  module _ (s : Session) (q : Ask) where
    abbrev j : Admission
    j = admitted key s q

    abbrev w : Answered
    w = answered_by a q.request q.path (begun (Some (key, bare (joined s q.now))) a.number a.interval q.now q.fresh)

    abbrev m0 : List ℕ
    m0 = memory_of s

    abbrev old : List ℕ
    old = old_secret (edited_of w.edit).id_changed (Some s.secret)

    abbrev m1 : List ℕ
    m1 = next_memory c q.request old w.response m0

    abbrev fates : Option Fate
    fates = fate_with m1 (edited_of w.edit).fate

    abbrev births : Option Birth
    births = birth_with (next_memory c q.request old w.response []) (edited_of w.edit).birth

    abbrev kept : Option Edited
    kept = edited_with (edited_of w.edit) fates births

    abbrev recall : Option Response
    recall = recalled_by q.request m0 (key_of c q.request)

    recall_is : recalled a.once q.request (Some (key, joined s q.now)) ≡ recall
    unfolding recalled
    recall_is = refl

    new_is : served_new a q.request q.path j q.now q.fresh ≡ option_map (outcome_by a j q.fresh w.response) kept
    unfolding served_new remembering
    new_is = refl

    -- what comes of it, by what is recalled and what is kept
    abbrev by : Option Response → Option Edited → Outcome
    by None edited = or_full a q.request j (option_map (outcome_by a j q.fresh w.response) edited)
    by (Some response) edited = unserved a j response

    unless_is_by : (found : Option Response) → served_unless a q.request q.path j q.now q.fresh found ≡ by found kept
    unless_is_by None = ap (or_full a q.request j) new_is
    unless_is_by (Some response) = refl

    outcome_is : outcome_at a key s q ≡ by recall kept
    unfolding served_in
    outcome_is = ap (served_unless a q.request q.path j q.now q.fresh) recall_is ∙ unless_is_by recall

    -- the session is as it came, or it was served and is one that is kept
    abbrev Left : Option Response → Option Edited → Session → Type 0
    Left found edited next = (next ≡ joined s q.now) ⊎ ((found ≡ None) × IsKept edited next)

    left_by_cases : (found : Option Response) (edited : Option Edited) (next : Session) → kept_in (by found edited).fate ≡ Some next → Left found edited next
    left_by_cases (Some response) edited next is = inl (sym (same_Some (joined s q.now) next is))
    left_by_cases None None next is = inl (sym (same_Some (joined s q.now) next is))
    left_by_cases None (Some e) next is = inr (refl, is)

    kept_of : (edited : Option Edited) (next : Session) → is_some edited ≡ true → kept_in (by None edited).fate ≡ Some next → IsKept edited next
    kept_of None next is keeps = absurd (cc)
    kept_of (Some e) next is keeps = keeps

    -- what the session that is kept remembers
    remembers_kept : (kept_session : Option Session) (births : Option Birth) (next : Session) → IfSome kept_session (λ t. memory_of t ≡ m1)
        → IsKept (edited_with (edited_of w.edit) (option_map Kept kept_session) births) next → memory_of next ≡ m1
    remembers_kept None births next is keeps = absurd keeps
    remembers_kept (Some t) None next is keeps = absurd keeps
    remembers_kept (Some t) (Some birth) next is keeps = subst (λ (x : Session). memory_of x ≡ m1) (same_Some t next keeps) is

    no_fate_kept : (births : Option Birth) (next : Session) → IsKept (edited_with (edited_of w.edit) (Some Untouched) births) next → memory_of next ≡ m1
    no_fate_kept None next keeps = absurd keeps
    no_fate_kept (Some birth) next keeps = absurd (cc)

    no_end_kept : (births : Option Birth) (next : Session) → IsKept (edited_with (edited_of w.edit) (Some Ended) births) next → memory_of next ≡ m1
    no_end_kept None next keeps = absurd keeps
    no_end_kept (Some birth) next keeps = absurd (cc)

    remembers_fate : (fate : Fate) (births : Option Birth) (next : Session) → 0 < length m1
        → IsKept (edited_with (edited_of w.edit) (fate_with m1 fate) births) next → memory_of next ≡ m1
    remembers_fate Untouched births next some keeps = no_fate_kept births next keeps
    remembers_fate (Kept t) births next some keeps = remembers_kept (session_with m1 t) births next (remembers m1 t some) keeps
    remembers_fate Ended births next some keeps = no_end_kept births next keeps

    abbrev Leaves : Session → Type 0
    Leaves next = (memory_of next ≡ m0) ⊎ ((recall ≡ None) × (memory_of next ≡ m1))

    leaves_of : (next : Session) → 0 < length m1 → Left recall kept next → Leaves next
    leaves_of next some (inl is) = inl (ap memory_of is)
    leaves_of next some (inr is) = inr (is.0, remembers_fate (edited_of w.edit).fate births next some is.1)

    leaves : (next : Session) → 0 < length m1 → left a key s q ≡ Some next → Leaves next
    leaves next some is = leaves_of next some (left_by_cases recall kept next (sym (ap (λ (o : Outcome). kept_in o.fate) outcome_is) ∙ is))

    -- ---- what is known after it

    module _ (its : List ℕ) (e : Entry) where
      abbrev Has : ℕ → List ℕ → Type 0
      Has n memory = known its (take n (memory_in memory)) ≡ Some e

      abbrev Next : Option (List ℕ) → List ℕ
      Next = memory_after c q.request old w.response m0

      next_if : (is : Bool) (k : List ℕ) → is_key k ≡ is → 0 < Most c → 0 < length m0
          → 0 < length (cond is (memory_with c (entry_for q.request k old w.response) m0) m0)
      next_if true k is some first = some_bytes (Most c) (entry_for q.request k old w.response) (memory_in m0) some
      next_if false k is some first = first

      next_some : (n m : ℕ) (k : Option (List ℕ)) → n + one_where k ≤ m → m ≤ Most c → 0 < length m0 → 0 < length (Next k)
      next_some n m None le few first = first
      next_some n m (Some k) le few first = next_if (is_key k) k refl (omega (arith, le, few)) first

      -- a new key pushes what is known one place on
      pushes : (n m : ℕ) (k : List ℕ) → n < m → m ≤ Most c → Has n m0 → is_key k ≡ true → known k (memory_in m0) ≡ None
          → Has m (memory_with c (entry_for q.request k old w.response) m0)
      pushes n m k less few has is new =
          ap (λ (es : List Entry). known its (take m es)) (read_with c q.request old m0 w.response (old_small (edited_of w.edit).id_changed (Some s.secret)) k is)
          ∙ pushed its e n m (Most c) (entry_for q.request k old w.response) (memory_in m0) less few
          (other_by its e (bytes_eq its k) k (memory_in m0) refl (whole its e n (memory_in m0) has) new) has

      new_of : (k : List ℕ) (x : Option Entry) → told_again q.request x ≡ None → x ≡ None
      new_of k None is = refl
      new_of k (Some f) is = absurd (cc)

      stays_key : (n m : ℕ) (k : List ℕ) (is : Bool) → is_key k ≡ is → n < m → m ≤ Most c → Has n m0
          → cond is (told_again q.request (known k (memory_in m0))) (Some (refused BadKey q.request)) ≡ None
          → Has m (cond is (memory_with c (entry_for q.request k old w.response) m0) m0)
      stays_key n m k true is less few has recalls = pushes n m k less few has is (new_of k (known k (memory_in m0)) recalls)
      stays_key n m k false is less few has recalls = absurd (cc)

      stays_by : (n m : ℕ) (k : Option (List ℕ)) → n + one_where k ≤ m → m ≤ Most c → Has n m0 → recalled_by q.request m0 k ≡ None → Has m (Next k)
      stays_by n m None le few has recalls = more its e n m (omega (arith, le)) (memory_in m0) has
      stays_by n m (Some k) le few has recalls = stays_key n m k (is_key k) refl (omega (arith, le)) few has recalls

      next_is : m1 ≡ Next (key_of c q.request)
      unfolding next_memory
      next_is = refl

      stays_if : (n m : ℕ) (next : Session) → n + one_where (key_of c q.request) ≤ m → m ≤ Most c → Has n m0 → Leaves next → Has m (memory_of next)
      stays_if n m next le few has (inl is) = subst (Has m) (sym is) (more its e n m (omega (arith, le)) (memory_in m0) has)
      stays_if n m next le few has (inr is) = subst (Has m) (sym (is.1 ∙ next_is)) (stays_by n m (key_of c q.request) le few has is.0)

      pub stays : (n m : ℕ) (next : Session) → n + one_where (key_of c q.request) ≤ m → m ≤ Most c → Has n m0 → left a key s q ≡ Some next
          → Has m (memory_of next)
      stays n m next le few has is =
          let first : 0 < length m0 = some_memory its e n m0 has in
          let some : 0 < length m1 = subst (λ (x : List ℕ). 0 < length x) (sym next_is) (next_some n m (key_of c q.request) le few first) in
          stays_if n m next le few has (leaves next some is)

    -- ---- a request that is served under its key

    module _ (its : List ℕ) (keyed : key_of c q.request ≡ Some its) (new : counts a key s q ≡ true) (some : 0 < Most c) where
      abbrev first : Entry
      first = entry_for q.request its old w.response

      not_recalled : recall ≡ None
      not_recalled = none_is recall (both_true (is_none recall) _ (ap (λ (x : Option Response). is_none x && is_some (served_new a q.request q.path j q.now q.fresh)) (sym recall_is) ∙ new)).0

      as_key : (is : Bool) → is_key its ≡ is → cond is (told_again q.request (known its (memory_in m0))) (Some (refused BadKey q.request)) ≡ None → is_key its ≡ true
      as_key true is recalls = is
      as_key false is recalls = absurd (cc)

      is_its_key : is_key its ≡ true
      is_its_key = as_key (is_key its) refl (sym (ap (recalled_by q.request m0) keyed) ∙ not_recalled)

      first_memory : m1 ≡ memory_with c first m0
      unfolding next_memory
      first_memory =
          ap (memory_after c q.request old w.response m0) keyed
          ∙ ap (λ (is : Bool). cond is (memory_with c first m0) m0) is_its_key

      first_some : 0 < length m1
      first_some = subst (λ (x : List ℕ). 0 < length x) (sym first_memory) (some_bytes (Most c) first (memory_in m0) some)

      first_known : known its (take 1 (memory_in m1)) ≡ Some first
      first_known =
          ap (λ (x : List ℕ). known its (take 1 (memory_in x))) first_memory
          ∙ ap (λ (es : List Entry). known its (take 1 es)) (read_with c q.request old m0 w.response (old_small (edited_of w.edit).id_changed (Some s.secret)) its is_its_key)
          ∙ newest (Most c) first (memory_in m0) some

      pub has_first : (next : Session) → left a key s q ≡ Some next → known its (take 1 (memory_in (memory_of next))) ≡ Some first
      has_first next is =
          let served : kept_in (by None kept).fate ≡ Some next =
          sym (ap (λ (x : Option Response). kept_in (by x kept).fate) not_recalled) ∙ sym (ap (λ (o : Outcome). kept_in o.fate) outcome_is) ∙ is in
          let some_kept : is_some kept ≡ true = kept_is_some (outcome_by a j q.fresh w.response) kept (sym (ap is_some new_is) ∙ (both_true (is_none recall) _ (ap (λ (x : Option Response). is_none x && is_some (served_new a q.request q.path j q.now q.fresh)) (sym recall_is) ∙ new)).1) in
          let memory : memory_of next ≡ m1 = remembers_fate (edited_of w.edit).fate births next first_some (kept_of kept next some_kept served) in
          ap (λ (x : List ℕ). known its (take 1 (memory_in x))) memory ∙ first_known

  -- ---- requests between

  module _ (its : List ℕ) (e : Entry) where
    module _ (q : Ask) (qs : List Ask) (n m : ℕ) (s next : Session) (few : m ≤ Most c) where
      -- one request, and those after it
      stays_on : ((mid : Session) → known its (take (n + one_where (key_of c q.request)) (memory_in (memory_of mid))) ≡ Some e → after a key (Some mid) qs ≡ Some next
          → known its (take m (memory_in (memory_of next))) ≡ Some e)
          → (mid : Option Session) → left a key s q ≡ mid → n + (one_where (key_of c q.request) + keys_in c qs) ≤ m
          → known its (take n (memory_in (memory_of s))) ≡ Some e → after a key mid qs ≡ Some next → known its (take m (memory_in (memory_of next))) ≡ Some e
      stays_on rest None goes le has is = absurd (none_after a key qs next is)
      stays_on rest (Some mid) goes le has is =
          rest mid (stays s q its e n (n + one_where (key_of c q.request)) mid (omega arith) (omega (arith, le, few)) has goes) is

    stays_all : (between : List Ask) (n m : ℕ) (s next : Session) → n + keys_in c between ≤ m → m ≤ Most c → known its (take n (memory_in (memory_of s))) ≡ Some e
        → after a key (Some s) between ≡ Some next → known its (take m (memory_in (memory_of next))) ≡ Some e
    stays_all [] n m s next le few has is =
        subst (λ (x : Session). known its (take m (memory_in (memory_of x))) ≡ Some e) (same_Some s next is) (more its e n m (omega (arith, le)) (memory_in (memory_of s)) has)
    stays_all (q ∷ qs) n m s next le few has is =
        let all : n + (one_where (key_of c q.request) + keys_in c qs) ≤ m = le in
        stays_on q qs n m s next few
        (λ mid has_mid goes. stays_all qs (n + one_where (key_of c q.request)) m mid next (omega (arith, all)) few has_mid goes)
        (left a key s q) refl le has is

  -- ---- a request that is asked again

  recalls : (s : Session) (r : Ask) (its : List ℕ) (e : Entry) → key_of c r.request ≡ Some its → is_key its ≡ true → known its (memory_in (memory_of s)) ≡ Some e
      → e.mark ≡ mark_of r.request → outcome_at a key s r ≡ unserved a (admitted key s r) (repeated r.request (answer_in e.answer))
  recalls s r its e keyed is knows same =
      let marks : bytes_eq e.mark (mark_of r.request) ≡ true = (bytes_eq-Decides e.mark (mark_of r.request)).1 same in
      outcome_is s r
      ∙ ap (λ (x : Option Response). by s r x (kept s r))
      (ap (recalled_by r.request (memory_of s)) keyed
      ∙ ap (λ (b : Bool). cond b (told_again r.request (known its (memory_in (memory_of s)))) (Some (refused BadKey r.request))) is
      ∙ ap (told_again r.request) knows
      ∙ ap (λ (b : Bool). Some (cond b (repeated r.request (answer_in e.answer)) (refused Reused r.request))) marks)

  kept_again : (r : Request) (response : Response) (is : Bool) → is_kept (shown response) ≡ is
      → repeated r (answer_in (kept_answer response)) ≡ cond is (response_of r (shown response)) (refused Gone r)
  kept_again r response true is = ap (repeated r) (kept_read response is)
  kept_again r response false is = ap (repeated r) (kept_none response is)

  answered_again : (s : Session) (q : Ask) (its : List ℕ) (left_first : Session) (between : List Ask) (then_left : Session) (repeat : Ask)
      → key_of c q.request ≡ Some its → counts a key s q ≡ true → left a key s q ≡ Some left_first
      → after a key (Some left_first) between ≡ Some then_left → keys_in c between < Most c
      → key_of c repeat.request ≡ Some its → mark_of repeat.request ≡ mark_of q.request
      → outcome_at a key then_left repeat ≡ unserved a (admitted key then_left repeat) (again repeat.request (answer_at a key s q))
  answered_again s q its left_first between then_left repeat keyed new leaves goes few asked same =
      let some : 0 < Most c = omega (arith, few) in
      let e : Entry = first s q its keyed new some in
      let has : known its (take (Most c) (memory_in (memory_of then_left))) ≡ Some e =
      stays_all its e between 1 (Most c) left_first then_left (omega (arith, few)) (omega arith) (has_first s q its keyed new some left_first leaves) goes in
      recalls then_left repeat its e asked (is_its_key s q its keyed new some) (whole its e (Most c) (memory_in (memory_of then_left)) has) (sym same)
      ∙ ap (unserved a (admitted key then_left repeat)) (kept_again repeat.request (answer_at a key s q) (is_kept (shown (answer_at a key s q))) refl)

pub answers_again : AnswersAgain
answers_again b c key s q its left_first between then_left repeat chosen keyed new leaves goes few asked same =
    let Holds : App → Type 0 = λ x. counts x key s q ≡ true → left x key s q ≡ Some left_first → after x key (Some left_first) between ≡ Some then_left
    → outcome_at x key then_left repeat ≡ unserved x (admitted key then_left repeat) (again repeat.request (answer_at x key s q)) in
    let itself : a b c key ≡ b = ap (λ (o : Option Choice). let x : App = record b { once = o } in x) (sym chosen) in
    subst Holds itself
    (λ new leaves goes. answered_again b c key s q its left_first between then_left repeat keyed new leaves goes few asked same) new leaves goes

-- ---- what a list of requests leaves

joined_twice : (s : Session) (m n : ℕ) → m ≤ n → joined (joined s m) n ≡ joined s n
joined_twice s m n le =
    let last : max (max s.last m) n ≡ max s.last n = omega (arith, le) in
    ap (λ (l : ℕ). let x : Session = record s { last = l; fresh = false } in x) last

module _ (a : App) (key : Key) where
  module _ (s : Session) (q : Ask) where
    abbrev Joins : Admission
    Joins = admitted key s q

    cases : Option Response → Option Outcome → Outcome
    cases None outcome = or_full a q.request Joins outcome
    cases (Some response) outcome = unserved a Joins response

    unless_is : (found : Option Response) → served_unless a q.request q.path Joins q.now q.fresh found ≡ cases found (served_new a q.request q.path Joins q.now q.fresh)
    unfolding cases
    unless_is None = refl
    unless_is (Some response) = refl

    not_served : (found : Option Response) (outcome : Option Outcome) → (is_none found && is_some outcome) ≡ false
        → kept_in (cases found outcome).fate ≡ Some (joined s q.now)
    unfolding cases
    not_served (Some response) outcome is = refl
    not_served None None is = refl
    not_served None (Some outcome) is = absurd (cc)

    stays_as_it_is : counts a key s q ≡ false → left a key s q ≡ Some (joined s q.now)
    unfolding served_in
    stays_as_it_is is =
        ap (λ (o : Outcome). kept_in o.fate) (unless_is (recalled a.once q.request (Some (key, joined s q.now))))
        ∙ not_served (recalled a.once q.request (Some (key, joined s q.now))) (served_new a q.request q.path Joins q.now q.fresh) is

  -- whenever they are named again, the two sessions are the same
  abbrev Agree : ℕ → Option Session → Option Session → Type 0
  Agree from x y = (now : ℕ) → from ≤ now → named_again x now ≡ named_again y now

  same_left : (q : Ask) (x y : Option Session) → named_again x q.now ≡ named_again y q.now → left_by a key x q ≡ left_by a key y q
  same_left q None None same = refl
  same_left q None (Some t) same = absurd (cc)
  same_left q (Some s) None same = absurd (cc)
  same_left q (Some s) (Some t) same =
      ap (λ (x : Session). kept_in (served_in a q.request q.path (Joined key x) q.now q.fresh).fate) (same_Some (joined s q.now) (joined t q.now) same)

  agree_by : (from : ℕ) (x y : Option Session) → x ≡ y → Agree from x y
  agree_by from x y same now le = ap (λ (z : Option Session). named_again z now) same

  agree_on : (q : Ask) (from : ℕ) (x y : Option Session) → from ≤ q.now → counts_by a key x q ≡ false → Agree from x y → Agree q.now (left_by a key x q) y
  agree_on q from None y le is agree now later = agree now (omega (arith, le, later))
  agree_on q from (Some s) y le is agree now later =
      ap (λ (z : Option Session). named_again z now) (stays_as_it_is s q is)
      ∙ ap Some (joined_twice s q.now now later)
      ∙ agree now (omega (arith, le, later))

  module _ (q : Ask) (qs : List Ask) (from : ℕ) (x y : Option Session) (le : from ≤ q.now) (agree : Agree from x y)
      (rest : (u v : Option Session) → Agree q.now u v → Agree (last_of q.now qs) (after a key u qs) (after a key v (counting a key u qs))) where
    in_one : (is : Bool) → counts_by a key x q ≡ is
        → Agree (last_of q.now qs) (after a key (left_by a key x q) qs)
        (after a key y (cond is (q ∷ counting a key (left_by a key x q) qs) (counting a key (left_by a key x q) qs)))
    in_one true is = rest (left_by a key x q) (left_by a key y q) (agree_by q.now (left_by a key x q) (left_by a key y q) (same_left q x y (agree q.now le)))
    in_one false is = rest (left_by a key x q) y (agree_on q from x y le is agree)

  in_all : (qs : List Ask) (from : ℕ) (x y : Option Session) → Agree from x y → Rises from qs → Agree (last_of from qs) (after a key x qs) (after a key y (counting a key x qs))
  in_all [] from x y agree rises = agree
  in_all (q ∷ qs) from x y agree rises =
      in_one q qs from x y rises.0 agree (λ u v agrees. in_all qs q.now u v agrees rises.1) (counts_by a key x q) refl

pub leaves_what_counts : LeavesWhatCounts
leaves_what_counts a key s requests from now rises later =
    in_all a key requests from (Some s) (Some s) (agree_by a key from (Some s) (Some s) refl) rises now later

-- ---- a request that names the session

joins : (turned : Admission) (key : Key) (s : Session) (now : ℕ) (away gone : Bool) → away ≡ false → gone ≡ false
    → cond away turned (cond gone (Expired key) (Joined key (joined s now))) ≡ Joined key (joined s now)
joins turned key s now false false no_turn no_end = refl
joins turned key s now true gone no_turn no_end = absurd (cc)
joins turned key s now false true no_turn no_end = absurd (cc)

pub is_joined : IsJoined
is_joined d r place a key s now fresh there app_is named alive =
    let path = path_in_context (context_at d.paths place) r.path in
    served_is d r place a (Some (key, s)) now fresh there app_is
    ∙ ap (λ (j : Admission). served_in a r path j now fresh)
    (joins (turned_away a.once a.number r (session_cookie a.cookie.name r.cookies a.number) key s now) key s now (is_turned_away a.number (session_cookie a.cookie.name r.cookies a.number) s) (is_expired s now) named alive)
