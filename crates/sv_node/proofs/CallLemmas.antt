-- The calls of a node in code, as calls that are seen from outside.
use Rattle.std.proofs.Common.{◌≡◌, ◌≢◌, ℕ, Bool, true, false, Result, Ok, Err, List, refl, sym, ap, ◌∙◌}
use Rattle.sv_node.proofs.Prelude.{JournalView, JournalFault, Input, Moment, Setting, Output, StepFault, Decision, EngineMeaning, Durable, Node as State}
use Rattle.sv_node.proofs.Prelude.{last_number, View, CompactionEnds, IsCompaction, view_of, engine_of, setting_of, state_of, durable_of, journal_of}
use Rattle.sv_node.proofs.Prelude.{decided_at, Ends, IsNodeStep, IsStarted, restarted}
use Rattle.sv_journal.specs.declared.journal_fault.JournalFault.TheVariants as journal
use Rattle.sv_model.specs.declared.site.StepFault.TheVariants as step
use Rattle.sv_node.specs.Call.{Compact, ending_of, After, quiet, kept, Does, runs_behind}
use Rattle.sv_node.specs.Calls.{IsAfterCompaction, IsStepCall, IsCompactionCall, IsOpenCall}
use Rattle.sv_node.specs.declared.node.Node.{Node}

-- it runs, as it would have answered Failed
lives : {T F : Type 0} (live : Bool) (answer : Result T F) (fault : F) → (live ≡ false → answer ≡ Err fault) → (¬ (answer ≡ Err fault)) → live ≡ true
lives true answer fault failed other = refl
lives false answer fault failed other = absurd (other (failed refl))

-- ---- what hasn't changed

module _ {E D : Type 0} (meaning : E → EngineMeaning) (heard : E → List (List ℕ)) (old new : Node E D) where
  pub same_heard : view_of meaning heard new ≡ view_of meaning heard old → heard (engine_of new) ≡ heard (engine_of old)
  same_heard view = ap (λ (v : View). v.heard) view

  pub same_meaning : view_of meaning heard new ≡ view_of meaning heard old → meaning (engine_of new) ≡ meaning (engine_of old)
  same_meaning view = ap (λ (v : View). v.meaning) view

  pub same_state : view_of meaning heard new ≡ view_of meaning heard old → state_of new ≡ state_of old
  same_state view = ap (λ (v : View). v.node) view

  pub same_live : journal_of new ≡ journal_of old → (journal_of new).live ≡ (journal_of old).live
  same_live same = ap (λ (j : JournalView D). j.live) same

-- ---- an opening

pub opened : {E D : Type 0} (meaning : E → EngineMeaning) (heard : E → List (List ℕ)) (n : Node E D) (engine : E) (set : Setting) (d : Durable)
    → IsStarted meaning heard n engine set → d.boot ≢ last_number → durable_of n ≡ restarted set d → IsOpenCall set d n
opened meaning heard n engine set d s some is = record {
  does = λ m. (refl, some, λ i. quiet (record { durable = is i; parked = s.parked i; next_want = s.next_want i }));
  runs = s.live;
  setting = s.setting;
}

-- ---- a step

module _ {E D : Type 0} (meaning : E → EngineMeaning) (heard : E → List (List ℕ)) (failed : D → ℕ) (old new : Node E D) (at : Moment) (input : Input) where
  abbrev m : EngineMeaning
  m = meaning (engine_of old)

  abbrev decision : Decision
  decision = decided_at meaning old at input

  abbrev Stepped : Result (List Output) StepFault → Type 0
  Stepped answer = IsStepCall meaning heard old at input answer new

  step_call : (answer : Result (List Output) StepFault) → Ends meaning heard failed old decision answer new → ((journal_of old).live ≡ false → answer ≡ Err step.Failed) → setting_of new ≡ setting_of old → Stepped answer
  step_call (Ok outputs) ends gone setting =
      let s = ends.0 in
      let live : (journal_of old).live ≡ true = lives (journal_of old).live (Ok outputs) step.Failed gone (λ e. cc) in
      record {
        does = λ a is. (live, λ i. record { node = (is.0 ∙ s.node) i; outputs = (is.1 ∙ s.outputs_are) i; told = is.2 i });
        runs = ends.1 ∙ sym live;
        setting = setting;
        meaning_is = s.meaning;
        heard_is = s.heard;
      }
  step_call (Err step.Failed) ends gone setting = record {
    does = λ a is. (ends.1, is ∙ ap quiet (same_state meaning heard old new ends.0.view));
    runs = same_live meaning heard old new ends.0.journal;
    setting = setting;
    meaning_is = same_meaning meaning heard old new ends.0.view;
    heard_is = same_heard meaning heard old new ends.0.view;
  }
  step_call (Err step.Full) ends gone setting = record {
    does = λ a is. is ∙ ap quiet (same_state meaning heard old new ends.0.view);
    runs = same_live meaning heard old new ends.0.journal;
    setting = setting;
    meaning_is = same_meaning meaning heard old new ends.0.view;
    heard_is = same_heard meaning heard old new ends.0.view;
  }
  step_call (Err step.Memory) ends gone setting = record {
    does = λ a is. is ∙ ap quiet (same_state meaning heard old new ends.view);
    runs = same_live meaning heard old new ends.journal;
    setting = setting;
    meaning_is = same_meaning meaning heard old new ends.view;
    heard_is = same_heard meaning heard old new ends.view;
  }
  step_call (Err step.Device) ends gone setting = record {
    does = λ a is. (lives {T = List Output} (journal_of old).live (Err step.Device) step.Failed gone (λ e. cc), is);
    runs = ends.1;
    setting = setting;
    meaning_is = same_meaning meaning heard old new ends.0;
    heard_is = same_heard meaning heard old new ends.0;
  }

  pub stepped : (tells : D → Type 0) (seen : D → List ℕ) (may_leave : D → List ℕ → Type 0) (moment : D → ℕ) (left_since : D → ℕ → List ℕ → Type 0) (answer : Result (List Output) StepFault)
      → IsNodeStep meaning heard tells seen may_leave moment left_since failed old decision answer new → Stepped answer
  stepped tells seen may_leave moment left_since answer s = step_call answer s.ends s.failed_before s.setting

-- ---- a compaction

module _ {E D T : Type 0} (meaning : E → EngineMeaning) (heard : E → List (List ℕ)) (failed : D → ℕ) (old new : Node E D) where
  abbrev Compacted : Result T JournalFault → Type 0
  Compacted answer = IsCompactionCall meaning heard old answer new

  -- nothing but the disks has changed
  by_view : (answer : Result T JournalFault) → view_of meaning heard new ≡ view_of meaning heard old → setting_of new ≡ setting_of old
      → (journal_of new).live ≡ runs_behind (journal_of old).live (Compact (ending_of answer))
      → ((m : EngineMeaning) (a : After) → IsAfterCompaction answer new a → Does m (setting_of old) (journal_of old).live (state_of old) (Compact (ending_of answer)) a) → Compacted answer
  by_view answer view setting runs does = record { does = does; runs = runs; setting = setting; meaning_is = ap (λ (v : View). v.meaning) view; heard_is = ap (λ (v : View). v.heard) view }

  compact_call : (answer : Result T JournalFault) → CompactionEnds meaning heard failed old answer new → ((journal_of old).live ≡ false → answer ≡ Err journal.Failed) → setting_of new ≡ setting_of old → Compacted answer
  compact_call (Ok x) ends gone setting = by_view (Ok x) ends.0 setting (ends.1 ∙ sym (lives (journal_of old).live (Ok x) journal.Failed gone (λ e. cc)))
      (λ m a is. is ∙ ap quiet (same_state meaning heard old new ends.0))
  compact_call (Err journal.Failed) ends gone setting = by_view (Err journal.Failed) ends.0.view setting (same_live meaning heard old new ends.0.journal) (λ m a is. is ∙ ap quiet (same_state meaning heard old new ends.0.view))
  compact_call (Err journal.Damaged) ends gone setting = absurd ends
  compact_call (Err journal.Full) ends gone setting = by_view (Err journal.Full) ends.0.view setting (same_live meaning heard old new ends.0.journal) (λ m a is. is ∙ ap quiet (same_state meaning heard old new ends.0.view))
  compact_call (Err journal.Memory) ends gone setting = by_view (Err journal.Memory) ends.view setting (same_live meaning heard old new ends.journal) (λ m a is. is ∙ ap quiet (same_state meaning heard old new ends.view))
  compact_call (Err journal.Device) ends gone setting = by_view (Err journal.Device) ends.0 setting ends.1
      (λ m a is. is ∙ ap (λ (n : State). quiet (kept n.durable)) (same_state meaning heard old new ends.0))

  pub compacted : (tells : D → Type 0) (seen : D → List ℕ) (may_leave : D → List ℕ → Type 0) (moment : D → ℕ) (left_since : D → ℕ → List ℕ → Type 0) (answer : Result T JournalFault)
      → IsCompaction meaning heard tells seen may_leave moment left_since failed old answer new → Compacted answer
  compacted tells seen may_leave moment left_since answer s = compact_call answer s.ends s.failed_before s.setting
