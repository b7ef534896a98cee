-- Histories one after the other, and what a call of a node adds to its history.
use Rattle.std.proofs.Common.{◌≡◌, ◌≢◌, ◌⊎◌, inl, inr, ⊎_elim, ℕ, ◌≤◌, Bool, true, false, cond, IsTrue, Result, Ok, Err, List, [], ◌∷◌, ◌++◌, refl, sym, ap, ◌∙◌, subst, arith, append-nil}
use Rattle.std.specs.Prelude.{IsErr}
use Rattle.std.proofs.lemmas.List.Concat.{flat_map-append}
use Rattle.sv_node.proofs.Prelude.{disk_a, disk_b, JournalFault, Told, Input, Moment, Setting, Output, StepFault, Decision, EngineMeaning, heard_all, Durable}
use Rattle.sv_node.proofs.Prelude.{Node as State, last_number, IsCompaction, engine_of, setting_of, state_of, durable_of, journal_of, decided_at, IsNodeStep}
use Rattle.sv_node.proofs.Prelude.{IsStarted, restarted, TellsBoth, Stores, Restores, LeavesEither}
use Rattle.sv_journal.specs.declared.journal_fault.JournalFault.TheVariants as journal
use Rattle.sv_model.specs.declared.input.Input.TheVariants as input
use Rattle.sv_model.specs.declared.site.StepFault.TheVariants as step
use Rattle.sv_node.specs.Call.{Call, Open, Step, Unsaid, Compact, Stop, Done, Refused, Cut, Given, ending_of, After, quiet, kept, carried_out, Does}
use Rattle.sv_node.specs.Calls.{IsAfterStep, IsStepCall, IsAfterCompaction, IsCompactionCall}
use Rattle.sv_node.specs.History.{Turn, Stand, halted, behind, behind_all, AreTurns, IsAbove, number_in, RiseIn, numbers_in, RisesAt, lowest_behind, Rise, Leads, stand_of, GoesOn, Fails, HasGone, HasEnded, IsLife}
use Rattle.sv_node.specs.declared.node.Node.{Node}
use Rattle.sv_node.proofs.CallLemmas.{opened, stepped, compacted, same_state}
use Rattle.sv_node.proofs.OpenLemmas.{one_state}
use Rattle.sv_node.proofs.StopLemmas.{stores_left}

-- ---- calls in turn

behind_join : (s : Stand) (xs ys : List Turn) → behind_all s (xs ++ ys) ≡ behind_all (behind_all s xs) ys
behind_join s [] ys = refl
behind_join s (x ∷ xs) ys = behind_join (behind s x) xs ys

turns_join : (m : EngineMeaning) (set : Setting) (s : Stand) (xs ys : List Turn) → AreTurns m set s xs → AreTurns m set (behind_all s xs) ys → AreTurns m set s (xs ++ ys)
turns_join m set s [] ys are more = more
turns_join m set s (x ∷ xs) ys are more = (are.0, turns_join m set (behind s x) xs ys are.1 more)

pub heard_join : (m : EngineMeaning) (heard : List (List ℕ)) (ts us : List Told) → heard_all m heard (ts ++ us) ≡ heard_all m (heard_all m heard ts) us
heard_join m heard [] us = refl
heard_join m heard (t ∷ ts) us = heard_join m (m.hear heard t) ts us

-- ---- numbers

pub lower_input : (low mid : ℕ) (i : Input) → low ≤ mid → IsAbove mid i → IsAbove low i
lower_input low mid (input.Ask number r) le above = omega (arith, le, above)
lower_input low mid (input.Packet p) le above = tt
lower_input low mid input.Poke le above = tt
lower_input low mid input.Tick le above = tt
lower_input low mid (input.Move k to) le above = tt

pub lower_number : (low mid : ℕ) (i : Input) → low ≤ mid → number_in low i ≤ number_in mid i
lower_number low mid (input.Ask number r) le = omega arith
lower_number low mid (input.Packet p) le = le
lower_number low mid input.Poke le = le
lower_number low mid input.Tick le = le
lower_number low mid (input.Move k to) le = le

pub lower_all : (low mid : ℕ) (gs : List Given) → low ≤ mid → RiseIn mid gs → RiseIn low gs
lower_all low mid [] le rises = tt
lower_all low mid (g ∷ gs) le rises = (lower_input low mid g.input le rises.0, lower_all (number_in low g.input) (number_in mid g.input) gs (lower_number low mid g.input le) rises.1)

pub lower_numbers : (low mid : ℕ) (gs : List Given) → low ≤ mid → numbers_in low gs ≤ numbers_in mid gs
lower_numbers low mid [] le = le
lower_numbers low mid (g ∷ gs) le = lower_numbers (number_in low g.input) (number_in mid g.input) gs (lower_number low mid g.input le)

pub lower_call : (low mid : ℕ) (c : Call) → low ≤ mid → RisesAt mid c → RisesAt low c
lower_call low mid (Open ending) le rises = tt
lower_call low mid (Step at i ending) le rises = lower_input low mid i le rises
lower_call low mid (Unsaid gs) le rises = lower_all low mid gs le rises
lower_call low mid (Compact ending) le rises = tt
lower_call low mid Stop le rises = tt

pub lower_behind : (low mid : ℕ) (c : Call) → low ≤ mid → lowest_behind low c ≤ lowest_behind mid c
lower_behind low mid (Open Done) le = omega arith
lower_behind low mid (Open (Refused fault)) le = le
lower_behind low mid (Open Cut) le = le
lower_behind low mid (Step at i ending) le = lower_number low mid i le
lower_behind low mid (Unsaid gs) le = lower_numbers low mid gs le
lower_behind low mid (Compact ending) le = le
lower_behind low mid Stop le = le

pub lower_rise : (low mid high : ℕ) (ts : List Turn) → low ≤ mid → Rise mid high ts → Rise low high ts
lower_rise low mid high [] le rise = omega (arith, le, rise)
lower_rise low mid high (t ∷ ts) le rise = (lower_call low mid t.call le rise.0, lower_rise (lowest_behind low t.call) (lowest_behind mid t.call) high ts (lower_behind low mid t.call le) rise.1)

pub rise_join : (low mid high : ℕ) (xs ys : List Turn) → Rise low mid xs → Rise mid high ys → Rise low high (xs ++ ys)
rise_join low mid high [] ys le rise = lower_rise low mid high ys le rise
rise_join low mid high (x ∷ xs) ys first rise = (first.0, rise_join (lowest_behind low x.call) mid high xs ys first.1 rise)

rise_wider : (low mid high : ℕ) (ts : List Turn) → mid ≤ high → Rise low mid ts → Rise low high ts
rise_wider low mid high [] le rise = omega (arith, le, rise)
rise_wider low mid high (t ∷ ts) le rise = (rise.0, rise_wider (lowest_behind low t.call) mid high ts le rise.1)

-- ---- what they lead to

module _ (m : EngineMeaning) (set : Setting) where
  pub leads_nowhere : (low high : ℕ) (s : Stand) → low ≤ high → Leads m set low high s s []
  leads_nowhere low high s le = record { turns = []; are = tt; rise = le; to_is = refl; told_is = refl }

  pub leads_by : (low high : ℕ) (from to : Stand) (t : Turn) → Does m set from.up from.node t.call t.after → RisesAt low t.call → lowest_behind low t.call ≤ high → behind from t ≡ to
      → Leads m set low high from to t.after.told
  leads_by low high from to t does rises le is = record { turns = t ∷ []; are = (does, tt); rise = (rises, le); to_is = is; told_is = append-nil t.after.told }

  pub leads_join : (low mid high : ℕ) (a b c : Stand) (ts us : List Told) → Leads m set low mid a b ts → Leads m set mid high b c us → Leads m set low high a c (ts ++ us)
  leads_join low mid high a b c ts us x y = record {
    turns = x.turns ++ y.turns;
    are = turns_join m set a x.turns y.turns x.are (subst (λ (s : Stand). AreTurns m set s y.turns) (sym x.to_is) y.are);
    rise = rise_join low mid high x.turns y.turns x.rise y.rise;
    to_is = behind_join a x.turns y.turns ∙ ap (λ (s : Stand). behind_all s y.turns) x.to_is ∙ y.to_is;
    told_is = flat_map-append (λ (t : Turn). t.after.told) x.turns y.turns ∙ (λ i. x.told_is i ++ y.told_is i);
  }

  leads_wider : (low mid high : ℕ) (a b : Stand) (ts : List Told) → mid ≤ high → Leads m set low mid a b ts → Leads m set low high a b ts
  leads_wider low mid high a b ts le x = record { turns = x.turns; are = x.are; rise = rise_wider low mid high x.turns le x.rise; to_is = x.to_is; told_is = x.told_is }

-- both disks tell, by either name
by_names : {D : Type 0} (tells : D → Type 0) (old_on_a new_on_a : Bool) (current other : D) → tells (cond old_on_a (cond new_on_a current other) (cond new_on_a other current)) → tells (cond old_on_a (cond new_on_a other current) (cond new_on_a current other)) → tells current × tells other
by_names tells true true current other p q = (p, q)
by_names tells true false current other p q = (q, p)
by_names tells false true current other p q = (q, p)
by_names tells false false current other p q = (p, q)

-- ---- a node in code

module _ {E D : Type 0} (meaning : E → EngineMeaning) (heard : E → List (List ℕ)) (tells : D → Type 0) (may_leave : D → List ℕ → Type 0) (moment : D → ℕ) (left_since : D → ℕ → List ℕ → Type 0) where
  abbrev Goes : ℕ → ℕ → Node E D → Node E D → Type 0
  Goes low high old new = GoesOn meaning heard tells low high old new

  abbrev Gone : {T F : Type 0} → ℕ → ℕ → Node E D → Node E D → Result T F → Type 0
  Gone low high old new answer = HasGone meaning heard tells may_leave low high old new answer

  pub goes_nowhere : (low high : ℕ) (n : Node E D) → low ≤ high → IsTrue (journal_of n).live → Goes low high n n
  goes_nowhere low high n le live = record {
    told = [];
    leads = leads_nowhere (meaning (engine_of n)) (setting_of n) low high (stand_of n) le;
    live = live;
    setting = refl;
    meaning_is = refl;
    heard_is = refl;
    tells_on = λ both. both;
  }

  module _ (low mid high : ℕ) (a b c : Node E D) (x : Goes low mid a b) where
    -- where the calls after lead
    pub on_from : (to : Stand) (told : List Told) → Leads (meaning (engine_of b)) (setting_of b) mid high (stand_of b) to told → Leads (meaning (engine_of a)) (setting_of a) low high (stand_of a) to (x.told ++ told)
    on_from to told leads =
        leads_join (meaning (engine_of a)) (setting_of a) low mid high (stand_of a) (stand_of b) to x.told told x.leads
        (subst (λ (m : EngineMeaning). Leads m (setting_of a) mid high (stand_of b) to told) x.meaning_is
        (subst (λ (set : Setting). Leads (meaning (engine_of b)) set mid high (stand_of b) to told) x.setting leads))

    on_heard : (told : List Told) (new : E) → heard new ≡ heard_all (meaning (engine_of b)) (heard (engine_of b)) told → heard new ≡ heard_all (meaning (engine_of a)) (heard (engine_of a)) (x.told ++ told)
    on_heard told new is = is ∙ (λ i. heard_all (x.meaning_is i) (x.heard_is i) told) ∙ sym (heard_join (meaning (engine_of a)) (heard (engine_of a)) x.told told)

    pub goes_join : Goes mid high b c → Goes low high a c
    goes_join y = record {
      told = x.told ++ y.told;
      leads = on_from (stand_of c) y.told y.leads;
      live = y.live;
      setting = y.setting ∙ x.setting;
      meaning_is = y.meaning_is ∙ x.meaning_is;
      heard_is = on_heard y.told (engine_of c) y.heard_is;
      tells_on = λ both. y.tells_on (x.tells_on both);
    }

    pub fails_join : Fails meaning heard tells may_leave mid high b c → Fails meaning heard tells may_leave low high a c
    fails_join y = record {
      told = x.told ++ y.told;
      before = y.before;
      after = y.after;
      leads = λ d either. on_from (halted d) y.told (y.leads d either);
      left = λ both. subst (λ (set : Setting). LeavesEither may_leave (journal_of c) set y.before y.after) x.setting (y.left (x.tells_on both));
      meaning_is = y.meaning_is ∙ x.meaning_is;
      heard_is = on_heard y.told (engine_of c) y.heard_is;
    }

    pub gone_join : {T F : Type 0} (answer : Result T F) → Gone mid high b c answer → Gone low high a c answer
    gone_join (Ok value) y = goes_join y
    gone_join (Err fault) (inl y) = inl (goes_join y)
    gone_join (Err fault) (inr y) = inr (fails_join y)

  -- by what came of it
  -- the numbers were below a greater one, too
  pub goes_wider : (low mid high : ℕ) (old new : Node E D) → mid ≤ high → Goes low mid old new → Goes low high old new
  goes_wider low mid high old new le g = record {
    told = g.told;
    leads = leads_wider (meaning (engine_of old)) (setting_of old) low mid high (stand_of old) (stand_of new) g.told le g.leads;
    live = g.live;
    setting = g.setting;
    meaning_is = g.meaning_is;
    heard_is = g.heard_is;
    tells_on = g.tells_on;
  }

  pub fails_wider : (low mid high : ℕ) (old new : Node E D) → mid ≤ high → Fails meaning heard tells may_leave low mid old new → Fails meaning heard tells may_leave low high old new
  fails_wider low mid high old new le f = record {
    told = f.told;
    before = f.before;
    after = f.after;
    leads = λ d either. leads_wider (meaning (engine_of old)) (setting_of old) low mid high (stand_of old) (halted d) f.told le (f.leads d either);
    left = f.left;
    meaning_is = f.meaning_is;
    heard_is = f.heard_is;
  }

  pub gone_on : {T F : Type 0} (low high : ℕ) (old new : Node E D) (answer : Result T F) → Goes low high old new → Gone low high old new answer
  gone_on low high old new (Ok value) x = x
  gone_on low high old new (Err fault) x = inl x

  -- a fault is handed on
  pub gone_out : {T F U G : Type 0} (low high : ℕ) (old new : Node E D) (answer : Result T F) (fault : F) (given : Result U G) → answer ≡ Err fault → IsErr given → Gone low high old new answer
      → Gone low high old new given
  gone_out low high old new (Ok value) fault given is err x = gone_on low high old new given x
  gone_out low high old new (Err other) fault (Ok value) is err x = absurd (let no = err in cc)
  gone_out low high old new (Err other) fault (Err last) is err x = x

  -- an answer is handed on
  pub gone_in : {T F : Type 0} (low high : ℕ) (old new : Node E D) (answer : Result T F) (value : T) → answer ≡ Ok value → Gone low high old new answer → Goes low high old new
  gone_in low high old new (Ok other) value is x = x
  gone_in low high old new (Err fault) value is x = absurd (cc)

  -- ---- an opening

  pub opening_leads : (low : ℕ) (n : Node E D) (engine : E) (set : Setting) (d : Durable) → IsStarted meaning heard n engine set → d.boot ≢ last_number → durable_of n ≡ restarted set d
      → Leads (meaning engine) set low 0 (halted d) (stand_of n) []
  opening_leads low n engine set d s some is =
      let o = opened meaning heard n engine set d s some is in
      leads_by (meaning engine) set low 0 (halted d) (stand_of n) (record { call = Open Done; after = quiet (state_of n) }) (o.does (meaning engine)) tt (omega arith)
      (λ i. record { up = sym o.runs i; node = state_of n })

  -- ---- the life of a process

  module _ (seen : D → List ℕ) (set : Setting) (engine : E) (a b : D) (n new : Node E D) (s : IsStarted meaning heard n engine set)
      (first : tells a → tells b → (d : Durable) × Restores set (seen a) (seen b) d × (d.boot ≢ last_number) × (durable_of n ≡ restarted set d)) (both : tells a → tells b → TellsBoth tells (journal_of n)) where
    -- calls of the opened node, after its opening
    pub behind_opening : (low high : ℕ) (d : Durable) (told : List Told) (to : Stand) → tells a → tells b → Restores set (seen a) (seen b) d
        → Leads (meaning (engine_of n)) (setting_of n) 0 high (stand_of n) to told → Leads (meaning engine) set low high (halted d) to told
    behind_opening low high d told to ta tb r leads =
        let f = first ta tb in
        let same : f.0 ≡ d = one_state set (seen a) (seen b) f.0 d f.1 r in
        subst (λ (x : Durable). Leads (meaning engine) set low high (halted x) to told) same
        (leads_join (meaning engine) set low 0 high (halted f.0) (stand_of n) to [] told (opening_leads low n engine set f.0 s f.2 f.3)
        (subst (λ (m : EngineMeaning). Leads m set 0 high (stand_of n) to told) s.meaning_is
        (subst (λ (x : Setting). Leads (meaning (engine_of n)) x 0 high (stand_of n) to told) s.setting leads)))

    abbrev Life : Type 0
    Life = IsLife meaning heard tells seen may_leave set engine a b (engine_of new) (disk_a (journal_of new)) (disk_b (journal_of new))

    hears : (told : List Told) → heard (engine_of new) ≡ heard_all (meaning (engine_of n)) (heard (engine_of n)) told → heard (engine_of new) ≡ heard_all (meaning engine) (heard engine) told
    hears told is = is ∙ (λ i. heard_all (s.meaning_is i) (s.heard_is i) told)

    stopped : (high : ℕ) → GoesOn meaning heard tells 0 high n new → (IsTrue (journal_of new).live → TellsBoth tells (journal_of new) → Stores seen may_leave (journal_of new) (setting_of new) (durable_of new)) → Life
    stopped high x stored = record {
      told = x.told;
      high = high;
      meaning_is = x.meaning_is ∙ s.meaning_is;
      heard_is = hears x.told x.heard_is;
      leads = λ ta tb d r image other left_a left_b.
          let kept_all = stored x.live (x.tells_on (both ta tb)) in
          let restores = stores_left tells seen may_leave moment left_since (journal_of new) (setting_of new) (durable_of new) kept_all image other left_a left_b in (
            durable_of new,
            subst (λ (y : Setting). Restores y image other (durable_of new)) (x.setting ∙ s.setting) restores,
            λ low.
                behind_opening low high d x.told (halted (durable_of new)) ta tb r
                (subst (λ (ts : List Told). Leads (meaning (engine_of n)) (setting_of n) 0 high (stand_of n) (halted (durable_of new)) ts) (append-nil x.told)
                (leads_join (meaning (engine_of n)) (setting_of n) 0 high high (stand_of n) (stand_of new) (halted (durable_of new)) x.told [] x.leads
                (leads_by (meaning (engine_of n)) (setting_of n) high high (stand_of new) (halted (durable_of new)) (record { call = Stop; after = quiet (kept (durable_of new)) }) refl tt (omega arith) refl))),
          );
    }

    -- what the images give is the state on one side of the call that failed
    one_side : (high : ℕ) (x : Fails meaning heard tells may_leave 0 high n new) → tells a → tells b → (d : Durable) → Restores set (seen a) (seen b) d → (image other : List ℕ) (e : Durable)
        → (e ≡ x.before) ⊎ (e ≡ x.after) → Restores (setting_of n) image other e → (y : Durable) × Restores set image other y × ((low : ℕ) → Leads (meaning engine) set low high (halted d) (halted y) x.told)
    one_side high x ta tb d r image other e either restores =
        (e, subst (λ (y : Setting). Restores y image other e) s.setting restores, λ (low : ℕ). behind_opening low high d x.told (halted e) ta tb r (x.leads e either))

    failed_under : (high : ℕ) → Fails meaning heard tells may_leave 0 high n new → Life
    failed_under high x = record {
      told = x.told;
      high = high;
      meaning_is = x.meaning_is ∙ s.meaning_is;
      heard_is = hears x.told x.heard_is;
      leads = λ ta tb d r image other left_a left_b.
          ⊎_elim (λ before. one_side high x ta tb d r image other x.before (inl refl) before) (λ after. one_side high x ta tb d r image other x.after (inr refl) after) (x.left (both ta tb) image other left_a left_b);
    }

    pub lived : HasEnded meaning heard tells may_leave n new → (IsTrue (journal_of new).live → TellsBoth tells (journal_of new) → Stores seen may_leave (journal_of new) (setting_of new) (durable_of new)) → Life
    lived (high, inl x) stored = stopped high x stored
    lived (high, inr x) stored = failed_under high x

  -- ---- a step

  module _ (seen : D → List ℕ) (failed : D → ℕ) (old new : Node E D) (live : IsTrue (journal_of old).live) where
    -- nothing has failed
    on : (low high : ℕ) (t : Turn) → Does (meaning (engine_of old)) (setting_of old) (journal_of old).live (state_of old) t.call t.after → RisesAt low t.call → lowest_behind low t.call ≤ high
        → behind (stand_of old) t ≡ stand_of new → (journal_of new).live ≡ (journal_of old).live → setting_of new ≡ setting_of old → meaning (engine_of new) ≡ meaning (engine_of old)
        → heard (engine_of new) ≡ heard_all (meaning (engine_of old)) (heard (engine_of old)) t.after.told → (TellsBoth tells (journal_of old) → TellsBoth tells (journal_of new)) → Goes low high old new
    on low high t does rises le is same setting means hears both = record {
      told = t.after.told;
      leads = leads_by (meaning (engine_of old)) (setting_of old) low high (stand_of old) (stand_of new) t does rises le is;
      live = same ∙ live;
      setting = setting;
      meaning_is = means;
      heard_is = hears;
      tells_on = both;
    }

    module _ (at : Moment) (i : Input) (low : ℕ) (above : IsAbove low i) where
      abbrev decision : Decision
      decision = decided_at meaning old at i

      abbrev Stepped : Result (List Output) StepFault → Type 0
      Stepped answer = IsNodeStep meaning heard tells seen may_leave moment left_since failed old decision answer new

      abbrev call : Result (List Output) StepFault → Call
      call answer = Step at i (ending_of answer)

      same_number : number_in low i ≤ number_in low i
      same_number = omega arith

      both_tell : (answer : Result (List Output) StepFault) → Stepped answer → TellsBoth tells (journal_of old) → TellsBoth tells (journal_of new)
      both_tell answer s both = (s.tells_on.tells_after both.0, subst tells (sym s.other) both.1)

      as_call : (answer : Result (List Output) StepFault) → Stepped answer → IsStepCall meaning heard old at i answer new
      as_call answer s = stepped meaning heard failed old new at i tells seen may_leave moment left_since answer s

      -- the node runs on, and this is after the call
      step_on : (answer : Result (List Output) StepFault) (a : After) → (s : Stepped answer) → IsAfterStep old decision answer new a → a.node ≡ state_of new
          → (journal_of new).live ≡ (journal_of old).live → (heard (engine_of new) ≡ heard_all (meaning (engine_of old)) (heard (engine_of old)) a.told) → Goes low (number_in low i) old new
      step_on answer a s after node same hears =
          let c = as_call answer s in
          on low (number_in low i) (record { call = call answer; after = a }) (c.does a after) above same_number (λ j. record { up = sym c.runs j; node = node j })
          same c.setting c.meaning_is hears (both_tell answer s)

      -- by its answer: only after Device the node doesn't go on, and one that runs doesn't answer Failed
      abbrev pub WentBy : Result (List Output) StepFault → Type 0
      WentBy (Ok outputs) = Goes low (number_in low i) old new
      WentBy (Err step.Failed) = ⊥
      WentBy (Err step.Full) = Goes low (number_in low i) old new
      WentBy (Err step.Memory) = Goes low (number_in low i) old new
      WentBy (Err step.Device) = Fails meaning heard tells may_leave low (number_in low i) old new

      pub went_by : (answer : Result (List Output) StepFault) → Stepped answer → WentBy answer
      went_by (Ok outputs) s =
          let c = as_call (Ok outputs) s in
          step_on (Ok outputs) (record { node = state_of new; outputs = outputs; told = (carried_out decision).told }) s (refl, refl, refl) refl c.runs c.heard_is
      went_by (Err step.Failed) s = let dead = s.ends.1 in cc
      went_by (Err step.Full) s =
          let c = as_call (Err step.Full) s in
          step_on (Err step.Full) (quiet (state_of new)) s refl refl c.runs c.heard_is
      went_by (Err step.Memory) s =
          let c = as_call (Err step.Memory) s in
          step_on (Err step.Memory) (quiet (state_of new)) s refl refl c.runs c.heard_is
      went_by (Err step.Device) s =
          let c = as_call (Err step.Device) s in
          record {
            told = [];
            before = durable_of old;
            after = decision.durable;
            leads = λ d either.
                leads_by (meaning (engine_of old)) (setting_of old) low (number_in low i) (stand_of old) (halted d) (record { call = call (Err step.Device); after = quiet (kept d) })
                (c.does (quiet (kept d)) (⊎_elim (λ (is : d ≡ durable_of old). inl (ap (λ (x : Durable). quiet (kept x)) is)) (λ (is : d ≡ decision.durable). inr (ap (λ (x : Durable). quiet (kept x)) is)) either))
                above same_number refl;
            left = λ both. s.left live both;
            meaning_is = c.meaning_is;
            heard_is = c.heard_is;
          }

    -- ---- a compaction

    module _ {T : Type 0} (low high : ℕ) (le : low ≤ high) where
      abbrev Compacted : Result T JournalFault → Type 0
      Compacted answer = IsCompaction meaning heard tells seen may_leave moment left_since failed old answer new

      written_tell : (answer : Result T JournalFault) → Compacted answer → TellsBoth tells (journal_of old) → TellsBoth tells (journal_of new)
      written_tell answer s both =
          by_names tells (journal_of old).on_a (journal_of new).on_a (journal_of new).current (journal_of new).other (subst tells (sym s.kept) both.0) (s.tells_on.tells_after both.1)

      call_of : (answer : Result T JournalFault) → Compacted answer → IsCompactionCall meaning heard old answer new
      call_of answer s = compacted {T = T} meaning heard failed old new tells seen may_leave moment left_since answer s

      compact_on : (answer : Result T JournalFault) → Compacted answer → IsAfterCompaction answer new (quiet (state_of new)) → (journal_of new).live ≡ (journal_of old).live → Goes low high old new
      compact_on answer s after same =
          let c = call_of answer s in
          on low high (record { call = Compact (ending_of answer); after = quiet (state_of new) }) (c.does (meaning (engine_of old)) (quiet (state_of new)) after) tt le (λ j. record { up = sym c.runs j; node = state_of new })
          same c.setting c.meaning_is c.heard_is (written_tell answer s)

      -- by its answer: only after Device the node doesn't go on; it never answers Damaged, and one that runs not Failed
      abbrev pub CompactedBy : Result T JournalFault → Type 0
      CompactedBy (Ok x) = Goes low high old new
      CompactedBy (Err journal.Failed) = ⊥
      CompactedBy (Err journal.Damaged) = ⊥
      CompactedBy (Err journal.Full) = Goes low high old new
      CompactedBy (Err journal.Memory) = Goes low high old new
      CompactedBy (Err journal.Device) = Fails meaning heard tells may_leave low high old new

      pub compacted_by : (answer : Result T JournalFault) → Compacted answer → CompactedBy answer
      compacted_by (Ok x) s = compact_on (Ok x) s refl (call_of (Ok x) s).runs
      compacted_by (Err journal.Failed) s = let dead = s.ends.1 in cc
      compacted_by (Err journal.Damaged) s = s.ends
      compacted_by (Err journal.Full) s = compact_on (Err journal.Full) s refl (call_of (Err journal.Full) s).runs
      compacted_by (Err journal.Memory) s = compact_on (Err journal.Memory) s refl (call_of (Err journal.Memory) s).runs
      compacted_by (Err journal.Device) s =
          let c = call_of (Err journal.Device) s in
          let same : durable_of new ≡ durable_of old = ap (λ (n : State). n.durable) (same_state meaning heard old new s.ends.0) in
          record {
            told = [];
            before = durable_of old;
            after = durable_of old;
            leads = λ d either.
                let is : d ≡ durable_of old = ⊎_elim (λ p. p) (λ p. p) either in
                leads_by (meaning (engine_of old)) (setting_of old) low high (stand_of old) (halted d) (record { call = Compact (Refused journal.Device); after = quiet (kept d) })
                (c.does (meaning (engine_of old)) (quiet (kept d)) (ap (λ (x : Durable). quiet (kept x)) (is ∙ sym same)))
                tt le refl;
            left = λ both x y left_x left_y. inl (s.left live both x y left_x left_y);
            meaning_is = c.meaning_is;
            heard_is = c.heard_is;
          }
