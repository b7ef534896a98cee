-- All that a node alone has done, over every list of calls.
use Rattle.std.specs.Option.{option_to_list}
use Rattle.std.proofs.Common.{◌≡◌, ℕ, ◌+◌, ◌≤◌, Bool, true, false, cond, Option, Some, None, List, [], ◌∷◌, ◌++◌, length, refl, sym, ap, ◌∙◌, subst, arith}
use Rattle.std.specs.Prelude.{IfSome, Result, Ok, Err, ◌&&◌}
use Rattle.std.proofs.lemmas.List.{length-append, append-nil, map-append}
use Rattle.std.proofs.lemmas.Grind.{flat_map-append}
use Rattle.std.proofs.lemmas.Bool.{eq-eqb}
use Rattle.sv_solo.proofs.Prelude.{Key, Token, Moment, Response, Session, Commit, Told, Input, Output, StepFault, EngineMeaning, TouchesOnlyHanded, heard_all}
use Rattle.sv_solo.proofs.Prelude.{NamesKeys, Node, session_in, Decision, left, decided, alone, node_of}
use Rattle.sv_model.specs.declared.commit.Commit.TheVariants.{Served, Expired}
use Rattle.sv_model.specs.Container.{Meanings, always, Store, nothing_stored, committed, after, IsLawful, AreLawful, MayStand, AllMayStand, store_with, replies_with}
use Rattle.sv_model.specs.Step.{View, Steps, told, with_mark}
use Rattle.sv_model.specs.Alone.{Call, Leads, item_of, item_by, node_by, trace_of}
use Rattle.sv_model.specs.Trace.{Item, told_of, commits_of, asked_of, replies_of, refused_of, served_by, served_of, same_token, times, is_of, arrival_behind, tokens_in, AreDistinct}
use Rattle.sv_model.specs.OneContainer.{active_at, IsOneContainer, IsAcknowledged, IsFit, AreFit, IsServedOnce}
use Rattle.sv_solo.specs.Solo.{IsHistory}
use Rattle.sv_solo.proofs.TableLemmas.{get_nothing}
use Rattle.sv_solo.proofs.FollowLemmas.{Holds, HasArrived, follows}

-- ---- lists

pub times-append : (t : Token) (xs ys : List Token) → times t (xs ++ ys) ≡ times t xs + times t ys
times-append t [] ys = let all : times t ys ≡ 0 + times t ys = omega arith in all
times-append t (x ∷ xs) ys =
    let rest : times t (xs ++ ys) ≡ times t xs + times t ys = times-append t xs ys in
    sum (cond (same_token t x) 1 0) (times t xs) (times t ys) (times t (xs ++ ys)) rest
  where
    sum : (a b c d : ℕ) → d ≡ b + c → a + d ≡ (a + b) + c
    sum a b c d is = omega (arith, is)

-- commits after others
after-append : (m : Meanings) (store : Store) (cs ds : List Commit) → after m store (cs ++ ds) ≡ after m (after m store cs) ds
after-append m store [] ds = refl
after-append m store (c ∷ cs) ds = after-append m (committed m store c) cs ds

after_with : (m : Meanings) (store : Store) (o : Option Commit) → after m store (option_to_list o) ≡ store_with m store o
after_with m store None = refl
after_with m store (Some c) = refl

-- ---- one step before the others

lawful_more : (m : Meanings) (store : Store) (o : Option Commit) (cs : List Commit) → IfSome o (IsLawful m store) → AreLawful m (store_with m store o) cs
    → AreLawful m store (option_to_list o ++ cs)
lawful_more m store None cs law rest = rest
lawful_more m store (Some c) cs law rest = (law, rest)

after_more : (m : Meanings) (store : Store) (o : Option Commit) (cs : List Commit) → after m store (option_to_list o ++ cs) ≡ after m (store_with m store o) cs
after_more m store None cs = refl
after_more m store (Some c) cs = refl

stands_more : (m : Meanings) (arrival : Token → ℕ) (before : List Commit) (o : Option Commit) (cs : List Commit) → IfSome o (MayStand m arrival before)
    → AllMayStand m arrival (before ++ option_to_list o) cs → AllMayStand m arrival before (option_to_list o ++ cs)
stands_more m arrival before None cs may rest = subst (λ b. AllMayStand m arrival b cs) (append-nil before) rest
stands_more m arrival before (Some c) cs may rest = (may, rest)

-- the tokens of a reply are those of the request that was served
reply_tokens : (m : Meanings) (store : Store) (o : Option Commit) → tokens_in (replies_with m store o) ≡ served_of (option_to_list o)
reply_tokens m store None = refl
reply_tokens m store (Some (Served token r now handed fresh)) = refl
reply_tokens m store (Some (Expired k now)) = refl

-- ---- when a request came

grows : (before : ℕ) (trace : List Item) (t : Token) → before ≤ arrival_behind before trace t
grows before [] t = omega arith
grows before (i ∷ is) t = by_test before (length (option_to_list i.commit)) (arrival_behind (before + length (option_to_list i.commit)) is t) (is_of t i.asked) (grows (before + length (option_to_list i.commit)) is t)
  where
    by_test : (before more later : ℕ) (b : Bool) → before + more ≤ later → before ≤ cond b before later
    by_test before more later true le = omega arith
    by_test before more later false le = omega (arith, le)

arrival_later : (a before more later : ℕ) (b : Bool) → a ≤ cond b before later → before + more ≤ later → a ≤ later
arrival_later a before more later true le on = omega (arith, le, on)
arrival_later a before more later false le on = le

all_three : (a b c : Bool) → a ≡ true → b ≡ true → c ≡ true → (a && (b && c)) ≡ true
all_three true true true p q r = refl
all_three true true false p q r = r
all_three true false c p q r = q
all_three false b c p q r = p

same_self : (t : Token) → same_token t t ≡ true
same_self t = all_three _ _ _ (eq-eqb t.number t.number refl) (eq-eqb t.node t.node refl) (eq-eqb t.boot t.boot refl)

came_now : (arrival : Token → ℕ) (before : ℕ) (later : Token → ℕ) (asked : Option Token) → ((t : Token) → arrival t ≤ cond (is_of t asked) before (later t)) → HasArrived arrival before asked
came_now arrival before later None came = tt
came_now arrival before later (Some t) came = subst (λ b. arrival t ≤ cond b before (later t)) (same_self t) (came t)

-- ---- the whole trace

-- what is shown of a trace that begins at a store, beside the sessions that the node holds at its end
pub record Runs (m : EngineMeaning) (store : Store) (trace : List Item) (end : Node) : Type 0 where
  pub lawful : AreLawful (always m) store (commits_of trace)
  pub stands : (arrival : Token → ℕ) (before : List Commit) → ((t : Token) → arrival t ≤ arrival_behind (length before) trace t) → after (always m) nothing_stored before ≡ store
      → AllMayStand (always m) arrival before (commits_of trace)
  pub holds : (k : Key) → (after (always m) store (commits_of trace)).map k ≡ active_at end k
  pub fit : AreFit m store trace
  pub answered : (t : Token) → times t (tokens_in (replies_of trace)) ≡ times t (served_of (commits_of trace))
  pub tokens : (t : Token) → times t (served_of (commits_of trace)) + times t (refused_of trace) ≡ times t (asked_of trace)

-- what is shown of one item
pub record IsStepOf (m : EngineMeaning) (store : Store) (i : Item) : Type 0 where
  pub lawful : IfSome i.commit (IsLawful (always m) store)
  pub stands : (arrival : Token → ℕ) (before : List Commit) → HasArrived arrival (length before) i.asked → after (always m) nothing_stored before ≡ store → IfSome i.commit (MayStand (always m) arrival before)
  pub fit : IsFit m store i
  pub tokens : (t : Token) → times t (served_of (option_to_list i.commit)) + times t i.refused ≡ times t (option_to_list i.asked)

sums : (a b c d e f : ℕ) → a + b ≡ c → d + e ≡ f → (a + d) + (b + e) ≡ c + f
sums a b c d e f p q = omega (arith, p, q)

module _ (m : EngineMeaning) (store : Store) (i : Item) (is : List Item) (end : Node) (step : IsStepOf m store i) (rest : Runs m (store_with (always m) store i.commit) is end) where
  abbrev later_commits : List Commit
  later_commits = commits_of is

  stands_behind : (arrival : Token → ℕ) (before : List Commit) → ((t : Token) → arrival t ≤ arrival_behind (length before) (i ∷ is) t) → after (always m) nothing_stored before ≡ store
      → AllMayStand (always m) arrival before (option_to_list i.commit ++ later_commits)
  stands_behind arrival before came at =
      let more : List Commit = before ++ option_to_list i.commit in
      let long : length more ≡ length before + length (option_to_list i.commit) = length-append before (option_to_list i.commit) in
      stands_more (always m) arrival before i.commit later_commits
      (step.stands arrival before (came_now arrival (length before) (arrival_behind (length before + length (option_to_list i.commit)) is) i.asked came) at)
      (rest.stands arrival more
      (λ t. subst (λ n. arrival t ≤ arrival_behind n is t) (sym long)
      (arrival_later (arrival t) (length before) (length (option_to_list i.commit)) (arrival_behind (length before + length (option_to_list i.commit)) is t) (is_of t i.asked) (came t)
      (grows (length before + length (option_to_list i.commit)) is t)))
      (after-append (always m) nothing_stored before (option_to_list i.commit) ∙ ap (λ s. after (always m) s (option_to_list i.commit)) at ∙ after_with (always m) store i.commit))

  served_split : (t : Token) → times t (served_of (option_to_list i.commit ++ later_commits)) ≡ times t (served_of (option_to_list i.commit)) + times t (served_of later_commits)
  served_split t = ap (times t) (flat_map-append served_by (option_to_list i.commit) later_commits) ∙ times-append t (served_of (option_to_list i.commit)) (served_of later_commits)

  answered_behind : (t : Token) → times t (tokens_in (i.replies ++ replies_of is)) ≡ times t (served_of (option_to_list i.commit ++ later_commits))
  answered_behind t =
      ap (times t) (map-append (λ (a : Token × Response). a.0) i.replies (replies_of is))
      ∙ times-append t (tokens_in i.replies) (tokens_in (replies_of is))
      ∙ ap (λ n. times t (tokens_in i.replies) + n) (rest.answered t)
      ∙ ap (λ ts. times t ts + times t (served_of later_commits)) (ap tokens_in step.fit.replies ∙ reply_tokens (always m) store i.commit)
      ∙ sym (served_split t)

  tokens_behind : (t : Token) → times t (served_of (option_to_list i.commit ++ later_commits)) + times t (i.refused ++ refused_of is) ≡ times t (option_to_list i.asked ++ asked_of is)
  tokens_behind t =
      ap (λ n. n + times t (i.refused ++ refused_of is)) (served_split t)
      ∙ ap (λ n. (times t (served_of (option_to_list i.commit)) + times t (served_of later_commits)) + n) (times-append t i.refused (refused_of is))
      ∙ sums (times t (served_of (option_to_list i.commit))) (times t i.refused) (times t (option_to_list i.asked)) (times t (served_of later_commits)) (times t (refused_of is)) (times t (asked_of is)) (step.tokens t) (rest.tokens t)
      ∙ sym (times-append t (option_to_list i.asked) (asked_of is))

  pub runs_on : Runs m store (i ∷ is) end
  runs_on = record {
    lawful = lawful_more (always m) store i.commit later_commits step.lawful rest.lawful;
    stands = stands_behind;
    holds = λ k. ap (λ (s : Store). s.map k) (after_more (always m) store i.commit later_commits) ∙ rest.holds k;
    fit = (step.fit, rest.fit);
    answered = answered_behind;
    tokens = tokens_behind;
  }

-- ---- over every list of calls

module _ (m : EngineMeaning) (untouched : TouchesOnlyHanded m) (can : NamesKeys m) where
  step_of : (xs : List (Option Session)) (store : Store) (moment : Moment) (input : Input) (outputs : List Output) → Holds xs store
      → outputs ≡ (decided m alone (node_of xs) moment input).outputs → IsStepOf m store (item_of alone (node_of xs) input (decided m alone (node_of xs) moment input) outputs)
  step_of xs store moment input outputs h is =
      let f = follows m untouched can xs store moment input h in
      subst (λ os. IsStepOf m store (item_of alone (node_of xs) input (decided m alone (node_of xs) moment input) os)) (sym is)
      (record { lawful = f.lawful; stands = f.stands; fit = f.fit; tokens = f.tokens })

  -- a node that has made these sessions, as it is seen
  pub record IsAt (v : View) (xs : List (Option Session)) : Type 0 where
    pub meaning : v.meaning ≡ m
    pub node : v.node ≡ node_of xs

  ends_here : (xs : List (Option Session)) (store : Store) (end : View) → Holds xs store → IsAt end xs → Runs m store [] end.node
  ends_here xs store end h at =
      record {
        lawful = tt;
        stands = λ arrival before came is. tt;
        holds = λ k. h.map k ∙ ap (λ n. active_at n k) (sym at.node);
        fit = tt;
        answered = λ t. refl;
        tokens = λ t. refl;
      }

  step_at : (xs : List (Option Session)) (old : View) (moment : Moment) (input : Input) → IsAt old xs → decided old.meaning alone old.node moment input ≡ decided m alone (node_of xs) moment input
  step_at xs old moment input at = ap (λ e. decided e alone old.node moment input) at.meaning ∙ ap (λ n. decided m alone n moment input) at.node

  -- one call, and those after it
  one_more : (xs : List (Option Session)) (store : Store) (old between end : View) (moment : Moment) (input : Input) (answer : Result (List Output) StepFault) (cs : List Call)
      → Holds xs store → IsAt old xs → Steps alone old moment input answer between
      → ((ys : List (Option Session)) (after : Store) → Holds ys after → IsAt between ys → Runs m after (trace_of m alone (node_of ys) cs) end.node)
      → Runs m store (option_to_list (item_by m alone (node_of xs) moment input answer) ++ trace_of m alone (node_by m alone (node_of xs) moment input answer) cs) end.node
  one_more xs store old between end moment input (Ok outputs) cs h at step later =
      let d : Decision = decided m alone (node_of xs) moment input in
      let f = follows m untouched can xs store moment input h in
      let same = step_at xs old moment input at in
      subst (λ n. Runs m store (item_of alone (node_of xs) input d outputs ∷ trace_of m alone n cs) end.node) (sym f.left_is)
      (runs_on m store (item_of alone (node_of xs) input d outputs) (trace_of m alone (node_of f.next) cs) end.node
      (step_of xs store moment input outputs h (step.outputs_are ∙ ap (λ (e : Decision). e.outputs) same))
      (later f.next (store_with (always m) store d.commit) f.holds
      (record { meaning = step.meaning ∙ at.meaning; node = step.node ∙ ap left same ∙ f.left_is })))
  one_more xs store old between end moment input (Err fault) cs h at step later =
      later xs store h (record { meaning = ap (λ (v : View). v.meaning) step.1 ∙ at.meaning; node = ap (λ (v : View). v.node) step.1 ∙ at.node })

  pub runs : (xs : List (Option Session)) (store : Store) (old end : View) (calls : List Call) → Holds xs store → IsAt old xs → Leads alone old calls end
      → Runs m store (trace_of m alone (node_of xs) calls) end.node
  runs xs store old end [] h at led = ends_here xs store end h (record { meaning = ap (λ (v : View). v.meaning) led ∙ at.meaning; node = ap (λ (v : View). v.node) led ∙ at.node })
  runs xs store old end (c ∷ cs) h at led =
      one_more xs store old led.0 end c.moment c.input c.answer cs h at led.1
      (λ ys after h2 at2. runs ys after led.0 end cs h2 at2 led.2)

  -- ---- what listeners are told

  heard-append : (heard : List (List ℕ)) (ts us : List Told) → heard_all m heard (ts ++ us) ≡ heard_all m (heard_all m heard ts) us
  heard-append heard [] us = refl
  heard-append heard (t ∷ ts) us = heard-append (m.hear heard t) ts us

  -- one call, and those after it
  heard_more : (xs : List (Option Session)) (store : Store) (old between end : View) (moment : Moment) (input : Input) (answer : Result (List Output) StepFault) (cs : List Call)
      → Holds xs store → IsAt old xs → Steps alone old moment input answer between
      → ((ys : List (Option Session)) (after : Store) → Holds ys after → IsAt between ys → end.heard ≡ heard_all m between.heard (told_of (trace_of m alone (node_of ys) cs)))
      → end.heard ≡ heard_all m old.heard (told_of (option_to_list (item_by m alone (node_of xs) moment input answer) ++ trace_of m alone (node_by m alone (node_of xs) moment input answer) cs))
  heard_more xs store old between end moment input (Ok outputs) cs h at step later =
      let d : Decision = decided m alone (node_of xs) moment input in
      let f = follows m untouched can xs store moment input h in
      let same = step_at xs old moment input at in
      let noted : between.heard ≡ heard_all m old.heard d.events =
      step.heard ∙ ap (λ e. heard_all e old.heard (told (decided old.meaning alone old.node moment input))) at.meaning ∙ ap (λ e. heard_all m old.heard (told e)) same
      ∙ ap (λ mark. heard_all m old.heard (with_mark d.events mark)) f.unmarked in
      later f.next (store_with (always m) store d.commit) f.holds (record { meaning = step.meaning ∙ at.meaning; node = step.node ∙ ap left same ∙ f.left_is })
      ∙ ap (λ n. heard_all m between.heard (told_of (trace_of m alone n cs))) (sym f.left_is)
      ∙ ap (λ noticed. heard_all m noticed (told_of (trace_of m alone (left d) cs))) noted
      ∙ sym (heard-append old.heard d.events (told_of (trace_of m alone (left d) cs)))
  heard_more xs store old between end moment input (Err fault) cs h at step later =
      later xs store h (record { meaning = ap (λ (v : View). v.meaning) step.1 ∙ at.meaning; node = ap (λ (v : View). v.node) step.1 ∙ at.node })
      ∙ ap (λ (v : View). heard_all m v.heard (told_of (trace_of m alone (node_of xs) cs))) step.1

  pub hears : (xs : List (Option Session)) (store : Store) (old end : View) (calls : List Call) → Holds xs store → IsAt old xs → Leads alone old calls end
      → end.heard ≡ heard_all m old.heard (told_of (trace_of m alone (node_of xs) calls))
  hears xs store old end [] h at led = ap (λ (v : View). v.heard) led
  hears xs store old end (c ∷ cs) h at led =
      heard_more xs store old led.0 end c.moment c.input c.answer cs h at led.1
      (λ ys after h2 at2. hears ys after led.0 end cs h2 at2 led.2)

-- ---- from the beginning

begins : Holds [] nothing_stored
begins = record { few = omega arith; map = λ k. ap session_in (sym (get_nothing k)); made = λ k is. absurd cc }

as_many : (a b c : ℕ) → a + b ≡ c → a + b ≤ c
as_many a b c is = omega (arith, is)

at_most_one : (a c : ℕ) → a ≤ c → c ≤ 1 → a ≤ 1
at_most_one a c under le = omega (arith, under, le)

pub all_runs : (m : EngineMeaning) → TouchesOnlyHanded m → NamesKeys m → (first end : View) (calls : List Call) → IsHistory m first calls end
    → Runs m nothing_stored (trace_of m alone (node_of []) calls) end.node
all_runs m untouched can first end calls h = runs m untouched can [] nothing_stored first end calls begins (record { meaning = h.meaning; node = h.node }) h.led

pub one_container : (m : EngineMeaning) (trace : List Item) (end : Node) → Runs m nothing_stored trace end → IsOneContainer m trace (active_at end)
one_container m trace end r = record { lawful = r.lawful; stands = r.stands (arrival_behind 0 trace) [] (λ t. omega arith) refl; holds = r.holds }

pub acknowledged : (m : EngineMeaning) (trace : List Item) (end : Node) → Runs m nothing_stored trace end → IsAcknowledged m trace
acknowledged m trace end r = record {
  fit = r.fit;
  answered = r.answered;
  once = λ t. as_many (times t (served_of (commits_of trace))) (times t (refused_of trace)) (times t (asked_of trace)) (r.tokens t);
}

pub served_once : (m : EngineMeaning) (trace : List Item) → IsAcknowledged m trace → AreDistinct (asked_of trace) → IsServedOnce trace
served_once m trace acknowledged distinct t =
    at_most_one (times t (served_of (commits_of trace)) + times t (refused_of trace)) (times t (asked_of trace)) (acknowledged.once t) (distinct t)

pub heard : (m : EngineMeaning) → TouchesOnlyHanded m → NamesKeys m → (first end : View) (calls : List Call) → IsHistory m first calls end
    → end.heard ≡ heard_all m first.heard (told_of (trace_of m alone (node_of []) calls))
heard m untouched can first end calls h = hears m untouched can [] nothing_stored first end calls begins (record { meaning = h.meaning; node = h.node }) h.led
