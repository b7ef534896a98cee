-- What pokes and ticks do for those who wait.
use Rattle.sv_host.proofs.Prelude.{◌≡◌, ◌≢◌, ◌⊎◌, inl, inr, ℕ, suc, ◌+◌, ◌<◌, ◌≤◌, Bool, true, false, cond, length, map, Vec, vec_items, Option, Some, None}
use Rattle.sv_host.proofs.Prelude.{Result, Ok, Err, List, [], ◌∷◌, ◌++◌, refl, sym, ap, ◌∙◌, subst, arith, IfOk, AllByRecursion, not-true, append-nil}
use Rattle.sv_host.proofs.Prelude.{inputs_of, HasNudges, IsInTime, input_of, second_of, last_taken, Nudge, Poke, Tick, LateTick, Stop, Group, Taken, Quiet}
use Rattle.sv_host.proofs.Prelude.{Refused, Input, Moment, Parked, Setting, Cause, Output, StepFault, left, EngineMeaning, decided, is_settled, known}
use Rattle.sv_host.proofs.Prelude.{answer_of, answered_unless, no_birth, with_list, is_late, first_of, serve_first, Answered, IsAnswer, GroupEnds, behind}
use Rattle.sv_host.proofs.Prelude.{left_by, engine_of, journal_of, setting_of, state_of, Node}
use Rattle.std.proofs.Common.{⊎_elim, Global}
use Rattle.std.specs.Prelude.{max, not}
use Rattle.std.specs.List.{filter}
use Rattle.std.proofs.lemmas.Bool.{leb-false}
use Rattle.std.proofs.lemmas.List.{append_assoc, length-append}
use Rattle.sv_host.specs.Nudges.{IsNudge, HasNudge, IsTold, IsSettled, moment_of}
use Rattle.sv_host.specs.Outcome.{sum_up, taken_of, group_taken}
use Rattle.sv_host.specs.declared.nudges.Ticked.{Ticked}
use Rattle.sv_host.specs.declared.nudges.Ticked.TheVariants as ticked
use Rattle.sv_host.specs.declared.outcome.Taken.TheVariants.{Busy, MoveRefused}
use Rattle.sv_model.specs.declared.input.Input.TheVariants as input
use Rattle.sv_model.specs.declared.output.MoveRefusal.{MoveRefusal}
use Rattle.sv_model.specs.declared.output.Output.TheVariants as output
use Rattle.sv_model.specs.declared.site.StepFault.TheVariants as step
use Rattle.sv_model.specs.Membership.{In}
use Rattle.sv_model.specs.NodeState.{Node as State}
use Rattle.sv_model.specs.Waiting.{without}
use Rattle.sv_node.specs.Group.{Answer}
use Rattle.sv_journal.proofs.EntryLemmas.{all_append}

-- ---- the first that passes

none_first : (test : Parked → Bool) (q : Parked) (ps : List Parked) (p : Parked) → (first_of test ps ≡ None → In p ps → test p ≡ false) → (b : Bool) → test q ≡ b → cond b (Some q) (first_of test ps) ≡ None
    → (q ≡ p) ⊎ In p ps → test p ≡ false
none_first test q ps p others true is left i = absurd cc
none_first test q ps p others false is left (inl same) = ap test (sym same) ∙ is
none_first test q ps p others false is left (inr rest) = others left rest

none_passes : (test : Parked → Bool) (ps : List Parked) → first_of test ps ≡ None → (p : Parked) → In p ps → test p ≡ false
none_passes test [] none p i = absurd i
none_passes test (q ∷ ps) none p i = none_first test q ps p (λ no rest. none_passes test ps no p rest) (test q) refl none i

one_first : (test : Parked → Bool) (q : Parked) (ps : List Parked) (p : Parked) → (first_of test ps ≡ Some p → suc (length (without test ps)) ≡ length ps) → (b : Bool) → cond b (Some q) (first_of test ps) ≡ Some p
    → suc (length (cond b ps (q ∷ without test ps))) ≡ suc (length ps)
one_first test q ps p others true is = refl
one_first test q ps p others false is = ap suc (others is)

one_less : (test : Parked → Bool) (ps : List Parked) (p : Parked) → first_of test ps ≡ Some p → suc (length (without test ps)) ≡ length ps
one_less test [] p some = absurd cc
one_less test (q ∷ ps) p some = one_first test q ps p (one_less test ps p) (test q) some

passed_first : (test : Parked → Bool) (q : Parked) (ps : List Parked) (p : Parked) → (In p (filter test ps) → test p ≡ true) → (b : Bool) → test q ≡ b → In p (cond b (q ∷ filter test ps) (filter test ps)) → test p ≡ true
passed_first test q ps p others true is (inl same) = ap test (sym same) ∙ is
passed_first test q ps p others true is (inr rest) = others rest
passed_first test q ps p others false is rest = others rest

passed : (test : Parked → Bool) (ps : List Parked) (p : Parked) → In p (filter test ps) → test p ≡ true
passed test [] p i = absurd i
passed test (q ∷ ps) p i = passed_first test q ps p (passed test ps p) (test q) refl i

-- ---- what is put out

busy : (o : Output) (os : List Output) → sum_up (o ∷ os) ≢ Quiet
busy (output.Answer token response) [] is = cc
busy (output.Refuse token cause) [] is = cc
busy (output.Send packet) [] is = cc
busy output.Moved [] is = cc
busy (output.MoveRefused why) [] is = cc
busy o (p ∷ os) is = cc

nothing_out : (os : List Output) → sum_up os ≡ Quiet → os ≡ []
nothing_out [] is = refl
nothing_out (o ∷ os) is = absurd (busy o os is)

module _ (m : EngineMeaning) (set : Setting) where
  abbrev at_hand : State → Parked → Bool
  at_hand n p = is_settled (known n.durable p.key)

  -- ---- a poke

  -- whoever is served, or refused, is told something
  served_out : (cause : Option Cause) (n : State) (at : Moment) (p : Parked) (waiting : List Parked)
      → (answered_unless cause m set n at p.token p.request (answer_of m set n.durable at p.request) waiting).outputs ≢ []
  served_out None n at p waiting is = cc
  served_out (Some cause) n at p waiting is = cc

  left_waiting : (cause : Option Cause) (n : State) (at : Moment) (p : Parked) (waiting : List Parked)
      → (answered_unless cause m set n at p.token p.request (answer_of m set n.durable at p.request) waiting).parked ≡ waiting
  left_waiting None n at p waiting = refl
  left_waiting (Some cause) n at p waiting = refl

  quiet_poke : (n : State) (at : Moment) (o : Option Parked) → first_of (at_hand n) n.parked ≡ o → (serve_first m set n at o (without (at_hand n) n.parked)).outputs ≡ []
      → IsSettled (left (serve_first m set n at o (without (at_hand n) n.parked)))
  quiet_poke n at None none out = none_passes (at_hand n) n.parked none
  quiet_poke n at (Some p) some out = absurd (served_out (no_birth set n.durable (answer_of m set n.durable at p.request).birth) n at p (without (at_hand n) n.parked) out)

  -- whoever is told something waits no more
  fewer : (n : State) (at : Moment) (o : Option Parked) → first_of (at_hand n) n.parked ≡ o → length (serve_first m set n at o (without (at_hand n) n.parked)).parked ≤ length n.parked
  fewer n at None none = omega arith
  fewer n at (Some p) some =
      omega (arith, ap (λ (ps : List Parked). length ps) (left_waiting (no_birth set n.durable (answer_of m set n.durable at p.request).birth) n at p (without (at_hand n) n.parked)), one_less (at_hand n) n.parked p some)

  one_fewer : (n : State) (at : Moment) (o : Option Parked) → first_of (at_hand n) n.parked ≡ o → (serve_first m set n at o (without (at_hand n) n.parked)).outputs ≢ []
      → length (serve_first m set n at o (without (at_hand n) n.parked)).parked < length n.parked
  one_fewer n at None none out = absurd (out refl)
  one_fewer n at (Some p) some out =
      omega (arith, ap (λ (ps : List Parked). length ps) (left_waiting (no_birth set n.durable (answer_of m set n.durable at p.request).birth) n at p (without (at_hand n) n.parked)), one_less (at_hand n) n.parked p some)

  -- ---- one of them, by its answer

  module _ (len : ℕ) where
    abbrev Coded : Type 0
    Coded = Result (Vec Output Global) StepFault

    abbrev plain : Coded → Answer
    plain a = with_list vec_items a

    abbrev all_plain : List Coded → List Answer
    all_plain answers = map (with_list vec_items) answers

    poke_settles : (end : ℕ) (n : State) (at : Moment) (a : Coded) → IsAnswer len end (decided m set n at input.Poke) (plain a) → taken_of a ≡ Quiet → IsSettled (left_by n (decided m set n at input.Poke) (plain a))
    poke_settles end n at (Ok outs) is quiet = quiet_poke n at (first_of (at_hand n) n.parked) refl (sym is ∙ nothing_out outs.items quiet)
    poke_settles end n at (Err fault) is quiet = absurd cc

    poke_keeps : (n : State) (at : Moment) (a : Coded) → length (left_by n (decided m set n at input.Poke) (plain a)).parked ≤ length n.parked
    poke_keeps n at (Ok outs) = fewer n at (first_of (at_hand n) n.parked) refl
    poke_keeps n at (Err fault) = omega arith

    poke_serves : (end : ℕ) (n : State) (at : Moment) (a : Coded) → IsAnswer len end (decided m set n at input.Poke) (plain a) → taken_of a ≢ Quiet → taken_of a ≢ Refused
        → length (left_by n (decided m set n at input.Poke) (plain a)).parked < length n.parked
    poke_serves end n at (Ok outs) is loud done = one_fewer n at (first_of (at_hand n) n.parked) refl (λ none. loud (ap sum_up (is ∙ none)))
    poke_serves end n at (Err fault) is loud done = absurd (done refl)

    tick_ends : (end second : ℕ) (n : State) (at : Moment) (a : Coded) → second ≤ at.steady → taken_of a ≢ Refused → IsInTime set second (left_by n (decided m set n at input.Tick) (plain a))
    tick_ends end second n at (Ok outs) since done = λ p i.
        let early = passed (λ q. not (is_late set at.steady q)) n.parked p i in
        let late : is_late set at.steady p ≡ false = not-true (is_late set at.steady p) early in
        omega (arith, since, leb-false (p.since + set.deadline) at.steady late)
    tick_ends end second n at (Err fault) since done = absurd (done refl)

    -- one that isn't a poke
    tick_at : (nudge : Nudge) → nudge ≢ Poke → (end second : ℕ) (n : State) (at : Moment) (a : Coded) → second ≤ at.steady → taken_of a ≢ Refused
        → IsInTime set (second_of nudge second) (left_by n (decided m set n (moment_of nudge at) (input_of nudge)) (plain a))
    tick_at Poke other end second n at a since done = absurd (other refl)
    tick_at Tick other end second n at a since done = tick_ends end second n at a since done
    tick_at (LateTick s) other end second n at a since done = tick_ends end (max second s) n (moment_of (LateTick s) at) a (omega (arith, since)) done

    -- ---- all of them, one after the other

    module _ (second : ℕ) where
      pokes_settle : (taken : Taken) (end : ℕ) (n : State) (i : Moment × Input) (is : List (Moment × Input)) (answers : List Coded) → AllByRecursion (IsNudge Poke second) (i ∷ is)
          → Answered m set len end n (i ∷ is) (all_plain answers) → last_taken taken answers ≡ Quiet → IsSettled (behind m set n (i ∷ is) (all_plain answers))
      pokes_settle taken end n i is [] are h quiet = absurd h
      pokes_settle taken end n i [] (a ∷ []) are h quiet =
          subst (λ (j : Moment × Input). IsAnswer len end (decided m set n j.0 j.1) (plain a) → IsSettled (left_by n (decided m set n j.0 j.1) (plain a))) (sym are.0.is) (λ answer. poke_settles end n are.0.at a answer quiet) h.0
      pokes_settle taken end n i [] (a ∷ b ∷ answers) are h quiet = absurd h.1
      pokes_settle taken end n i (j ∷ is) (a ∷ answers) are h quiet = pokes_settle (taken_of a) _ (left_by n (decided m set n i.0 i.1) (plain a)) j is answers are.1 h.1 quiet

      pokes_serve : (taken : Taken) (end : ℕ) (n : State) (i : Moment × Input) (is : List (Moment × Input)) (answers : List Coded) → AllByRecursion (IsNudge Poke second) (i ∷ is)
          → Answered m set len end n (i ∷ is) (all_plain answers) → last_taken taken answers ≢ Quiet → last_taken taken answers ≢ Refused
          → length (behind m set n (i ∷ is) (all_plain answers)).parked < length n.parked
      pokes_serve taken end n i is [] are h loud done = absurd h
      pokes_serve taken end n i [] (a ∷ []) are h loud done =
          subst (λ (j : Moment × Input). IsAnswer len end (decided m set n j.0 j.1) (plain a) → length (left_by n (decided m set n j.0 j.1) (plain a)).parked < length n.parked) (sym are.0.is)
          (λ answer. poke_serves end n are.0.at a answer loud done) h.0
      pokes_serve taken end n i [] (a ∷ b ∷ answers) are h loud done = absurd h.1
      pokes_serve taken end n i (j ∷ is) (a ∷ answers) are h loud done =
          let keeps = subst (λ (j : Moment × Input). length (left_by n (decided m set n j.0 j.1) (plain a)).parked ≤ length n.parked) (sym are.0.is) (poke_keeps n are.0.at a) in
          omega (arith, keeps, pokes_serve (taken_of a) _ (left_by n (decided m set n i.0 i.1) (plain a)) j is answers are.1 h.1 loud done)

      ticks_only : (nudge : Nudge) → nudge ≢ Poke → (taken : Taken) (end : ℕ) (n : State) (i : Moment × Input) (is : List (Moment × Input)) (answers : List Coded)
          → AllByRecursion (IsNudge nudge second) (i ∷ is) → Answered m set len end n (i ∷ is) (all_plain answers) → last_taken taken answers ≢ Refused
          → IsInTime set (second_of nudge second) (behind m set n (i ∷ is) (all_plain answers))
      ticks_only nudge other taken end n i is [] are h done = absurd h
      ticks_only nudge other taken end n i [] (a ∷ []) are h done =
          subst (λ (j : Moment × Input). IsInTime set (second_of nudge second) (left_by n (decided m set n j.0 j.1) (plain a))) (sym are.0.is) (tick_at nudge other end second n are.0.at a are.0.since done)
      ticks_only nudge other taken end n i [] (a ∷ b ∷ answers) are h done = absurd h.1
      ticks_only nudge other taken end n i (j ∷ is) (a ∷ answers) are h done = ticks_only nudge other (taken_of a) _ (left_by n (decided m set n i.0 i.1) (plain a)) j is answers are.1 h.1 done

      -- after whatever else was gathered
      ticks_end : (nudge : Nudge) → nudge ≢ Poke → (taken : Taken) (end : ℕ) (n : State) (before more : List (Moment × Input)) (answers : List Coded)
          → AllByRecursion (IsNudge nudge second) more → 0 < length more → Answered m set len end n (before ++ more) (all_plain answers) → last_taken taken answers ≢ Refused
          → IsInTime set (second_of nudge second) (behind m set n (before ++ more) (all_plain answers))
      ticks_end nudge other taken end n [] [] answers are some h done = absurd (omega (arith, some))
      ticks_end nudge other taken end n [] (i ∷ is) answers are some h done = ticks_only nudge other taken end n i is answers are h done
      ticks_end nudge other taken end n (j ∷ before) more [] are some h done = absurd h
      ticks_end nudge other taken end n (j ∷ before) more (a ∷ answers) are some h done =
          ticks_end nudge other (taken_of a) _ (left_by n (decided m set n j.0 j.1) (plain a)) before more answers are some h.1 done

      settle_by : (end : ℕ) (n : State) (more : List (Moment × Input)) (answers : List Coded) → AllByRecursion (IsNudge Poke second) more → 0 < length more → Answered m set len end n more (all_plain answers)
          → last_taken Quiet answers ≡ Quiet → IsSettled (behind m set n more (all_plain answers))
      settle_by end n [] answers are some h quiet = absurd (omega (arith, some))
      settle_by end n (i ∷ is) answers are some h quiet = pokes_settle Quiet end n i is answers are h quiet

      serve_by : (end : ℕ) (n : State) (more : List (Moment × Input)) (answers : List Coded) → AllByRecursion (IsNudge Poke second) more → 0 < length more → Answered m set len end n more (all_plain answers)
          → last_taken Quiet answers ≢ Quiet → last_taken Quiet answers ≢ Refused → length (behind m set n more (all_plain answers)).parked < length n.parked
      serve_by end n [] answers are some h loud done = absurd (omega (arith, some))
      serve_by end n (i ∷ is) answers are some h loud done = pokes_serve Quiet end n i is answers are h loud done

-- ---- of a node

module _ {E D : Type 0} (meaning : E → EngineMeaning) (heard : E → List (List ℕ)) (failed : D → ℕ) (second count : ℕ) (old new : Node E D) (group : Group) (taken : Taken) where
  module _ (nudge : Nudge) where
    abbrev Told : Type 0
    Told = IsTold meaning heard failed nudge second count old group new taken

    pub in_time : nudge ≢ Poke → 0 < count → Told → taken ≢ Refused → IsInTime (setting_of old) (second_of nudge second) (state_of new)
    in_time other some t done =
        let m = meaning (engine_of old) in
        subst (λ (n : State). IsInTime (setting_of old) (second_of nudge second) n) (sym t.ends.1)
        (ticks_end m (setting_of old) (journal_of old).len second nudge other Quiet (journal_of old).end (state_of old) (inputs_of group) t.more t.answers t.are (omega (arith, some, t.long)) t.ends.0 (λ is. done (t.taken_is ∙ is)))

  module _ (empty : inputs_of group ≡ []) (t : IsTold meaning heard failed Poke second count old group new taken) (some : 0 < count) where
    given : GroupEnds meaning heard failed old t.more (Ok (map (with_list vec_items) t.answers)) new
    given = subst (λ (is : List (Moment × Input)). GroupEnds meaning heard failed old (is ++ t.more) (Ok (map (with_list vec_items) t.answers)) new) empty t.ends

    pub settled : taken ≡ Quiet → IsSettled (state_of new)
    settled quiet =
        let m = meaning (engine_of old) in
        subst IsSettled (sym given.1) (settle_by m (setting_of old) (journal_of old).len second (journal_of old).end (state_of old) t.more t.answers t.are (omega (arith, some, t.long)) given.0 (sym t.taken_is ∙ quiet))

    pub served : taken ≢ Quiet → taken ≢ Refused → length (state_of new).parked < length (state_of old).parked
    served loud done =
        let m = meaning (engine_of old) in
        subst (λ (n : State). length n.parked < length (state_of old).parked) (sym given.1)
        (serve_by m (setting_of old) (journal_of old).len second (journal_of old).end (state_of old) t.more t.answers t.are (omega (arith, some, t.long)) given.0 (λ is. loud (t.taken_is ∙ is)) (λ is. done (t.taken_is ∙ is)))

-- ---- what is added to a group

pub none_more : (nudge : Nudge) (second : ℕ) (group : Group) → HasNudges nudge second 0 group group
none_more nudge second group = record { more = []; long = refl; are = tt; inputs = sym (append-nil (inputs_of group)) }

later : (nudge : Nudge) (second now : ℕ) (i : Moment × Input) → second ≤ now → IsNudge nudge now i → IsNudge nudge second i
later nudge second now i le is = record { at = is.at; is = is.is; since = omega (arith, le, is.since) }

pub one_more : (nudge : Nudge) (second now count : ℕ) (group mid next : Group) → second ≤ now → HasNudges nudge second count group mid → HasNudge nudge now mid next → HasNudges nudge second (suc count) group next
one_more nudge second now count group mid next le was one = record {
  more = was.more ++ one.one ∷ [];
  long = omega (arith, was.long, length-append was.more (one.one ∷ []));
  are = all_append (IsNudge nudge second) was.more (one.one ∷ []) was.are (later nudge second now one.one le one.is, tt);
  inputs = one.inputs ∙ ap (λ (is : List (Moment × Input)). is ++ one.one ∷ []) was.inputs ∙ append_assoc (inputs_of group) was.more (one.one ∷ []);
}

-- ---- what is answered

pub refused_or : (t : Ticked) → (t ≡ ticked.Refused) ⊎ (t ≢ ticked.Refused)
refused_or ticked.Ending = inr (λ is. cc)
refused_or ticked.Quiet = inr (λ is. cc)
refused_or ticked.Refused = inl refl

-- the first tick of a second, or the late one
pub end_by : {E D : Type 0} (t : Ticked) (second now : ℕ) (r : Result Ticked Stop) (mid new : Node E D) → second ≡ now → (t ≢ ticked.Refused → IsInTime (setting_of mid) now (state_of mid))
    → (t ≡ ticked.Refused → IfOk r (λ last. last ≢ ticked.Refused → IsInTime (setting_of new) second (state_of new))) → (t ≢ ticked.Refused → (r ≡ Ok t) × (new ≡ mid))
    → IfOk r (λ last. last ≢ ticked.Refused → IsInTime (setting_of new) now (state_of new))
end_by {E = E} {D = D} t second now r mid new same first late same_node = ⊎_elim
    (λ (is : t ≡ ticked.Refused). subst (λ (s : ℕ). IfOk r (λ last. last ≢ ticked.Refused → IsInTime (setting_of new) s (state_of new))) same (late is))
    (λ (ne : t ≢ ticked.Refused).
    let n = same_node ne in
    subst (λ (x : Result Ticked Stop). IfOk x (λ last. last ≢ ticked.Refused → IsInTime (setting_of new) now (state_of new))) (sym n.0)
    (λ done. subst (λ (x : Node E D). IsInTime (setting_of x) now (state_of x)) (sym n.1) (first ne)))
    (refused_or t)

pub late_enough : {E D : Type 0} (r : Result Ticked Stop) (nudge : Nudge) (second before : ℕ) (new : Node E D) → nudge ≡ LateTick second
    → IfOk r (λ last. last ≢ ticked.Refused → IsInTime (setting_of new) (second_of nudge before) (state_of new)) → IfOk r (λ last. last ≢ ticked.Refused → IsInTime (setting_of new) second (state_of new))
late_enough (Ok last) nudge second before new is h = λ done p i.
    let then : IsInTime (setting_of new) (max before second) (state_of new) = subst (λ (k : Nudge). IsInTime (setting_of new) (second_of k before) (state_of new)) is (h done) in
    omega (arith, then p i)
late_enough (Err stop) nudge second before new is h = tt

same_taken : (a b : Taken) → ◌≡◌ {A = Result Taken Stop} (Ok a) (Ok b) → a ≡ b
same_taken a b is = cc

pub told_by : {E D : Type 0} (meaning : E → EngineMeaning) (heard : E → List (List ℕ)) (failed : D → ℕ) (nudge : Nudge) (second count : ℕ) (old new : Node E D) (group mid : Group) (taken : Taken)
    → HasNudges nudge second count group mid → (answers : Result (Vec (Result (Vec Output Global) StepFault) Global) StepFault)
    → GroupEnds meaning heard failed old (inputs_of mid) (with_list (λ a. map (with_list vec_items) a.items) answers) new → Ok taken ≡ group_taken answers → taken ≢ Refused
    → IsTold meaning heard failed nudge second count old group new taken
told_by meaning heard failed nudge second count old new group mid taken has (Ok answers) ends is done = record {
  more = has.more;
  long = has.long;
  are = has.are;
  answers = answers.items;
  ends = subst (λ (is : List (Moment × Input)). GroupEnds meaning heard failed old is (Ok (map (with_list vec_items) answers.items)) new) has.inputs ends;
  taken_is = same_taken taken (last_taken Quiet answers.items) is;
}
told_by meaning heard failed nudge second count old new group mid taken has (Err step.Full) ends is done = absurd (done (same_taken taken Refused is))
told_by meaning heard failed nudge second count old new group mid taken has (Err step.Memory) ends is done = absurd (done (same_taken taken Refused is))
told_by meaning heard failed nudge second count old new group mid taken has (Err step.Failed) ends is done = absurd cc
told_by meaning heard failed nudge second count old new group mid taken has (Err step.Device) ends is done = absurd cc

pub not_both : (a b taken : Taken) → a ≢ b → taken ≡ a → taken ≡ b → ⊥
not_both a b taken other is not = other (sym is ∙ not)

-- what else there is
pub is_busy : (taken : Taken) → (taken ≡ Busy) ⊎ ((why : MoveRefusal) × (taken ≡ MoveRefused why)) → (taken ≢ Quiet) × (taken ≢ Refused)
is_busy taken (inl is) = (λ quiet. cc, λ refused. cc)
is_busy taken (inr is) = (λ quiet. let no = is.1 in cc, λ refused. let no = is.1 in cc)
