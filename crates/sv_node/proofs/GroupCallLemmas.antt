-- A group of steps is calls that are seen from outside.
use Rattle.std.proofs.Common.{◌≡◌, ◌⊎◌, ℕ, ◌≤◌, true, map, IsTrue, List, [], ◌∷◌, ◌++◌, Result, Ok, Err, refl, sym, ap, ◌∙◌, subst, inl, inr, arith}
use Rattle.sv_node.proofs.Prelude.{Input, Moment, Setting, Output, StepFault, EngineMeaning, heard_all, decided, Durable, Node as State, left, told, Answer}
use Rattle.sv_node.proofs.Prelude.{Answered, behind, events_of, GroupEnds, IsGroup, engine_of, setting_of, state_of, durable_of, journal_of, TellsBoth}
use Rattle.sv_node.proofs.Prelude.{Restores, RestoresEither}
use Rattle.sv_model.specs.declared.input.Input.TheVariants as input
use Rattle.sv_model.specs.declared.site.StepFault.TheVariants.{Failed, Full, Device, Memory}
use Rattle.sv_node.specs.Call.{Unsaid, Stop, Given, quiet, kept, node_behind}
use Rattle.sv_node.specs.GroupCalls.{all_given, put_out_by, done_in, turns_of, IsTurns, GivesGroup, GivesGroupOn}
use Rattle.sv_node.specs.History.{Turn, Stand, halted, AreTurns, behind_all, told_in, stand_of, IsAbove, number_in, RiseIn, numbers_in, Rise, Leads, GoesOn, Fails, HasGone}
use Rattle.sv_node.specs.declared.node.Node.{Node}
use Rattle.sv_node.proofs.CallLemmas.{same_state, same_live, same_meaning, same_heard}
use Rattle.sv_node.proofs.HistoryLemmas.{lower_all, lower_numbers, leads_nowhere, leads_by}

-- ---- numbers of requests

pub no_lower : (low : ℕ) (i : Input) → IsAbove low i → low ≤ number_in low i
no_lower low (input.Ask number r) above = omega (arith, above)
no_lower low (input.Packet p) above = omega arith
no_lower low input.Poke above = omega arith
no_lower low input.Tick above = omega arith
no_lower low (input.Move k to) above = omega arith

not_below : (low : ℕ) (gs : List Given) → RiseIn low gs → low ≤ numbers_in low gs
not_below low [] r = omega arith
not_below low (g ∷ gs) r = omega (arith, no_lower low g.input r.0, not_below (number_in low g.input) gs r.1)

-- ---- the calls of a group

module _ (m : EngineMeaning) (set : Setting) where
  same_behind : (n : State) (is : List (Moment × Input)) (answers : List Answer) → node_behind m set n (done_in is answers) ≡ behind m set n is answers
  same_behind n [] answers = refl
  same_behind n (i ∷ is) [] = refl
  same_behind n (i ∷ is) (Ok outputs ∷ answers) = same_behind (left (decided m set n i.0 i.1)) is answers
  same_behind n (i ∷ is) (Err fault ∷ answers) = same_behind n is answers

  abbrev up_at : State → Stand
  up_at n = record { up = true; node = n }

  are_turns : (len : ℕ) (n : State) (end : ℕ) (is : List (Moment × Input)) (answers : List Answer) → Answered m set len end n is answers → AreTurns m set (up_at n) (turns_of m set n is answers)
  are_turns len n end [] [] h = tt
  are_turns len n end [] (a ∷ answers) h = absurd h
  are_turns len n end (i ∷ is) [] h = absurd h
  are_turns len n end (i ∷ is) (Ok outputs ∷ answers) h = ((refl, refl), are_turns len (left (decided m set n i.0 i.1)) _ is answers h.1)
  are_turns len n end (i ∷ is) (Err Failed ∷ answers) h = absurd h.0
  are_turns len n end (i ∷ is) (Err Full ∷ answers) h = (refl, are_turns len n _ is answers h.1)
  are_turns len n end (i ∷ is) (Err Device ∷ answers) h = absurd h.0
  are_turns len n end (i ∷ is) (Err Memory ∷ answers) h = (refl, are_turns len n _ is answers h.1)

  they_lead : (len : ℕ) (n : State) (end : ℕ) (is : List (Moment × Input)) (answers : List Answer) → Answered m set len end n is answers → behind_all (up_at n) (turns_of m set n is answers) ≡ up_at (behind m set n is answers)
  they_lead len n end [] [] h = refl
  they_lead len n end [] (a ∷ answers) h = absurd h
  they_lead len n end (i ∷ is) [] h = absurd h
  they_lead len n end (i ∷ is) (Ok outputs ∷ answers) h = they_lead len (left (decided m set n i.0 i.1)) _ is answers h.1
  they_lead len n end (i ∷ is) (Err Failed ∷ answers) h = absurd h.0
  they_lead len n end (i ∷ is) (Err Full ∷ answers) h = they_lead len n _ is answers h.1
  they_lead len n end (i ∷ is) (Err Device ∷ answers) h = absurd h.0
  they_lead len n end (i ∷ is) (Err Memory ∷ answers) h = they_lead len n _ is answers h.1

  -- what they put out is what was answered
  they_put_out : (len : ℕ) (n : State) (end : ℕ) (is : List (Moment × Input)) (answers : List Answer) → Answered m set len end n is answers → map (λ (t : Turn). t.after.outputs) (turns_of m set n is answers) ≡ map put_out_by answers
  they_put_out len n end [] [] h = refl
  they_put_out len n end [] (a ∷ answers) h = absurd h
  they_put_out len n end (i ∷ is) [] h = absurd h
  they_put_out len n end (i ∷ is) (Ok outputs ∷ answers) h = λ j. sym h.0 j ∷ they_put_out len (left (decided m set n i.0 i.1)) _ is answers h.1 j
  they_put_out len n end (i ∷ is) (Err Failed ∷ answers) h = absurd h.0
  they_put_out len n end (i ∷ is) (Err Full ∷ answers) h = ap (λ (l : List (List Output)). [] ∷ l) (they_put_out len n _ is answers h.1)
  they_put_out len n end (i ∷ is) (Err Device ∷ answers) h = absurd h.0
  they_put_out len n end (i ∷ is) (Err Memory ∷ answers) h = ap (λ (l : List (List Output)). [] ∷ l) (they_put_out len n _ is answers h.1)

  -- those of them that were done came under numbers that rise as those of all
  they_rise : (low : ℕ) (is : List (Moment × Input)) (answers : List Answer) → RiseIn low (all_given is) → RiseIn low (done_in is answers)
  they_rise low [] answers r = tt
  they_rise low (i ∷ is) [] r = tt
  they_rise low (i ∷ is) (Ok outputs ∷ answers) r = (r.0, they_rise (number_in low i.1) is answers r.1)
  they_rise low (i ∷ is) (Err fault ∷ answers) r = lower_all low (number_in low i.1) (done_in is answers) (no_lower low i.1 r.0) (they_rise (number_in low i.1) is answers r.1)

  none_higher : (low : ℕ) (is : List (Moment × Input)) (answers : List Answer) → RiseIn low (all_given is) → numbers_in low (done_in is answers) ≤ numbers_in low (all_given is)
  none_higher low [] answers r = omega arith
  none_higher low (i ∷ is) [] r = not_below low (all_given (i ∷ is)) r
  none_higher low (i ∷ is) (Ok outputs ∷ answers) r = none_higher (number_in low i.1) is answers r.1
  none_higher low (i ∷ is) (Err fault ∷ answers) r =
      omega (arith, lower_numbers low (number_in low i.1) (done_in is answers) (no_lower low i.1 r.0), none_higher (number_in low i.1) is answers r.1)

  -- and all of them, each by its answer
  turns_rise : (low : ℕ) (n : State) (is : List (Moment × Input)) (answers : List Answer) → RiseIn low (all_given is) → Rise low (numbers_in low (all_given is)) (turns_of m set n is answers)
  turns_rise low n [] answers r = omega arith
  turns_rise low n (i ∷ is) [] r = not_below low (all_given (i ∷ is)) r
  turns_rise low n (i ∷ is) (Ok outputs ∷ answers) r = (r.0, turns_rise (number_in low i.1) (left (decided m set n i.0 i.1)) is answers r.1)
  turns_rise low n (i ∷ is) (Err fault ∷ answers) r = (r.0, turns_rise (number_in low i.1) n is answers r.1)

  they_tell : (n : State) (is : List (Moment × Input)) (answers : List Answer) → told_in (turns_of m set n is answers) ≡ events_of m set n is answers
  they_tell n [] answers = refl
  they_tell n (i ∷ is) [] = refl
  they_tell n (i ∷ is) (Ok outputs ∷ answers) = ap (λ ts. told (decided m set n i.0 i.1) ++ ts) (they_tell (left (decided m set n i.0 i.1)) is answers)
  they_tell n (i ∷ is) (Err fault ∷ answers) = they_tell n is answers

module _ {E D : Type 0} (meaning : E → EngineMeaning) (heard : E → List (List ℕ)) (failed : D → ℕ) (old new : Node E D) (inputs : List (Moment × Input)) (live : IsTrue (journal_of old).live) where
  abbrev m : EngineMeaning
  m = meaning (engine_of old)

  stood : stand_of old ≡ record { up = true; node = state_of old }
  stood = λ j. record { up = live j; node = state_of old }

  pub group_done : (answers : List Answer) → GroupEnds meaning heard failed old inputs (Ok answers) new → IsTurns meaning heard old inputs answers new
  group_done answers h = record {
    turns = subst (λ s. AreTurns m (setting_of old) s (turns_of m (setting_of old) (state_of old) inputs answers)) (sym stood) (are_turns m (setting_of old) (journal_of old).len (state_of old) (journal_of old).end inputs answers h.0);
    lead = ap (λ s. behind_all s (turns_of m (setting_of old) (state_of old) inputs answers)) stood ∙ they_lead m (setting_of old) (journal_of old).len (state_of old) (journal_of old).end inputs answers h.0
        ∙ (λ j. record { up = sym h.4 j; node = sym h.1 j });
    heard_is = h.3 ∙ ap (heard_all m (heard (engine_of old))) (sym (they_tell m (setting_of old) (state_of old) inputs answers));
    outputs = they_put_out m (setting_of old) (journal_of old).len (state_of old) (journal_of old).end inputs answers h.0;
  }

  pub group_torn : (answers : List Answer) → state_of new ≡ behind m (setting_of old) (state_of old) inputs answers → (a b : List ℕ) → Restores (setting_of old) a b (durable_of old) ⊎ Restores (setting_of old) a b (durable_of new)
      → GivesGroup m (setting_of old) (state_of old) (done_in inputs answers) a b
  group_torn answers is a b (inl r) = inl (record { durable = durable_of old; gives = r; does = refl })
  group_torn answers is a b (inr r) = inr (record { durable = durable_of new; gives = r; does = (refl, ap (λ (x : State). quiet (kept x.durable)) (is ∙ sym (same_behind m (setting_of old) (state_of old) inputs answers))) })

  -- the same of the current disk beside the other one
  pub group_torn_on : (answers : List Answer) → state_of new ≡ behind m (setting_of old) (state_of old) inputs answers → (image other : List ℕ) → RestoresEither (setting_of old) other (durable_of old) (durable_of new) image
      → GivesGroupOn m (setting_of old) (state_of old) (done_in inputs answers) image other
  group_torn_on answers is image other (inl r) = inl (record { durable = durable_of old; gives = r; does = refl })
  group_torn_on answers is image other (inr r) = inr (record { durable = durable_of new; gives = r; does = (refl, ap (λ (x : State). quiet (kept x.durable)) (is ∙ sym (same_behind m (setting_of old) (state_of old) inputs answers))) })

-- ---- what a group adds to the history of a node

module _ {E D : Type 0} (meaning : E → EngineMeaning) (heard : E → List (List ℕ)) (tells : D → Type 0) (seen : D → List ℕ) (may_leave : D → List ℕ → Type 0) (moment : D → ℕ) (left_since : D → ℕ → List ℕ → Type 0) (failed : D → ℕ)
    (old new : Node E D) (inputs : List (Moment × Input)) (live : IsTrue (journal_of old).live) (low : ℕ) (rise : RiseIn low (all_given inputs)) where
  abbrev Grouped : Result (List Answer) StepFault → Type 0
  Grouped answer = IsGroup meaning heard tells seen may_leave moment left_since failed old inputs answer new

  abbrev high : ℕ
  high = numbers_in low (all_given inputs)

  both_tell : (answer : Result (List Answer) StepFault) → Grouped answer → TellsBoth tells (journal_of old) → TellsBoth tells (journal_of new)
  both_tell answer s both = (s.tells_on.tells_after both.0, subst tells (sym s.other) both.1)

  group_goes : (answers : List Answer) → Grouped (Ok answers) → GoesOn meaning heard tells low high old new
  group_goes answers s =
      let t = group_done meaning heard failed old new inputs live answers s.ends in
      let turns = turns_of (meaning (engine_of old)) (setting_of old) (state_of old) inputs answers in
      record {
        told = told_in turns;
        leads = record {
          turns = turns;
          are = t.turns;
          rise = turns_rise (meaning (engine_of old)) (setting_of old) low (state_of old) inputs answers rise;
          to_is = t.lead;
          told_is = refl;
        };
        live = s.ends.4;
        setting = s.setting;
        meaning_is = s.ends.2;
        heard_is = t.heard_is;
        tells_on = both_tell (Ok answers) s;
      }

  -- where a disk has failed it is a stop before all of them, or after all of which nothing has left
  pub group_leads : (answers : List Answer) → state_of new ≡ behind (meaning (engine_of old)) (setting_of old) (state_of old) inputs answers → (d : Durable) → (d ≡ durable_of old) ⊎ (d ≡ durable_of new)
      → Leads (meaning (engine_of old)) (setting_of old) low high (stand_of old) (halted d) []
  group_leads answers is d (inl none) =
      leads_by (meaning (engine_of old)) (setting_of old) low high (stand_of old) (halted d) (record { call = Stop; after = quiet (kept d) }) (ap (λ (x : Durable). quiet (kept x)) none) tt (not_below low (all_given inputs) rise) refl
  group_leads answers is d (inr all) =
      let givens = done_in inputs answers in
      let found : d ≡ (node_behind (meaning (engine_of old)) (setting_of old) (state_of old) givens).durable =
      all ∙ ap (λ (x : State). x.durable) (is ∙ sym (same_behind (meaning (engine_of old)) (setting_of old) (state_of old) inputs answers)) in
      leads_by (meaning (engine_of old)) (setting_of old) low high (stand_of old) (halted d) (record { call = Unsaid givens; after = quiet (kept d) }) (live, ap (λ (x : Durable). quiet (kept x)) found)
      (they_rise (meaning (engine_of old)) (setting_of old) low inputs answers rise) (none_higher (meaning (engine_of old)) (setting_of old) low inputs answers rise) refl

  group_fails : Grouped (Err Device) → Fails meaning heard tells may_leave low high old new
  group_fails s = record {
    told = [];
    before = durable_of old;
    after = durable_of new;
    leads = group_leads s.ends.0.0 s.ends.0.2;
    left = s.left live;
    meaning_is = s.ends.1;
    heard_is = s.ends.2;
  }

  group_untouched : Grouped (Err Memory) → GoesOn meaning heard tells low high old new
  group_untouched s =
      let node = same_state meaning heard old new s.ends.view in
      let same = same_live meaning heard old new s.ends.journal in
      record {
        told = [];
        leads = subst (λ (to : Stand). Leads (meaning (engine_of old)) (setting_of old) low high (stand_of old) to []) (λ i. record { up = sym same i; node = sym node i })
            (leads_nowhere (meaning (engine_of old)) (setting_of old) low high (stand_of old) (not_below low (all_given inputs) rise));
        live = same ∙ live;
        setting = s.setting;
        meaning_is = same_meaning meaning heard old new s.ends.view;
        heard_is = same_heard meaning heard old new s.ends.view;
        tells_on = both_tell (Err Memory) s;
      }

  -- by its answer: only after Device the node doesn't go on, and one that runs doesn't answer Failed
  abbrev pub GroupBy : Result (List Answer) StepFault → Type 0
  GroupBy (Ok answers) = GoesOn meaning heard tells low high old new
  GroupBy (Err Failed) = ⊥
  GroupBy (Err Full) = ⊥
  GroupBy (Err Device) = Fails meaning heard tells may_leave low high old new
  GroupBy (Err Memory) = GoesOn meaning heard tells low high old new

  pub group_by : (answer : Result (List Answer) StepFault) → Grouped answer → GroupBy answer
  group_by (Ok answers) s = group_goes answers s
  group_by (Err Failed) s = let dead = s.ends.1 in absurd cc
  group_by (Err Full) s = s.ends
  group_by (Err Device) s = group_fails s
  group_by (Err Memory) s = group_untouched s

  pub group_gone : (answer : Result (List Answer) StepFault) → Grouped answer → HasGone meaning heard tells may_leave low high old new answer
  group_gone (Ok answers) s = group_by (Ok answers) s
  group_gone (Err Failed) s = absurd (group_by (Err Failed) s)
  group_gone (Err Full) s = absurd (group_by (Err Full) s)
  group_gone (Err Device) s = inr (group_by (Err Device) s)
  group_gone (Err Memory) s = inl (group_by (Err Memory) s)
