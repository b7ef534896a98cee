-- A step of a node, from the steps of its core and its journal.
use Rattle.std.proofs.Common.{◌≡◌, ℕ, ◌≤◌, false, List, Result, Err, IsTrue, IsErrOf, refl, sym, ap, subst}
use Rattle.std.specs.Option.{option_to_list}
use Rattle.sv_node.proofs.Prelude.{LeavesOnly, TellsOn, HasRisen, JournalView, JournalFault, Setting, Output, StepFault, Failed, EngineMeaning, Decision}
use Rattle.sv_node.proofs.Prelude.{Durable, Node as State, IsRanged, IsSetting, step_fault, TellsBoth, Stores, RestoresEither, LeavesAdded, view_of, engine_of}
use Rattle.sv_node.proofs.Prelude.{setting_of, state_of, durable_of, journal_of, IsNode, IsTooLong, Ends, IsNodeStep}
use Rattle.sv_journal.specs.declared.journal_fault.JournalFault.TheVariants as journal
use Rattle.sv_model.specs.Step.{View, IsStep}
use Rattle.sv_node.specs.declared.node.Node.{Node}
use Rattle.sv_node.proofs.StopLemmas.{still, still_entries, left_behind}

module _ {E D : Type 0} (valid : E → Type 0) (meaning : E → EngineMeaning) (heard : E → List (List ℕ)) (tells : D → Type 0) (seen : D → List ℕ) (may_leave : D → List ℕ → Type 0) (moment : D → ℕ) (left_since : D → ℕ → List ℕ → Type 0) (failed : D → ℕ)
    (counts_now : (disk : D) (t : ℕ) (c : List ℕ) → tells disk → t ≤ moment disk → may_leave disk c → left_since disk t c)
    (only_now : (disk : D) (c : List ℕ) → tells disk → left_since disk (moment disk) c → may_leave disk c) where
  abbrev pub Steps : Node E D → Decision → Result (List Output) StepFault → Node E D → Type 0
  Steps = IsNodeStep meaning heard tells seen may_leave moment left_since failed

  -- what a stop leaves, where the disks are those of before
  abbrev pub Moments : JournalView D → JournalView D → Setting → Durable → Durable → Type 0
  Moments old new set before after = LeavesOnly moment left_since old.current new.current (RestoresEither set (seen old.other) before after)

  -- the journal's part of a step
  pub stepping : (old new : Node E D) (d : Decision) (answer : Result (List Output) StepFault) → IsNode valid tells seen may_leave old
      → Ends meaning heard failed old d answer new → ((journal_of old).live ≡ false → answer ≡ Err Failed) → setting_of new ≡ setting_of old → TellsOn tells (journal_of old).current (journal_of new).current
      → (journal_of new).other ≡ (journal_of old).other → (journal_of new).on_a ≡ (journal_of old).on_a
      → (tells (journal_of old).current → Stores seen may_leave (journal_of old) (setting_of old) (durable_of old) → Moments (journal_of old) (journal_of new) (setting_of old) (durable_of old) d.durable)
      → (tells (journal_of old).current → LeavesAdded seen may_leave moment left_since (journal_of old) (journal_of new) (option_to_list d.entry)) → (journal_of new).generation ≡ (journal_of old).generation
      → Steps old d answer new
  stepping old new d answer is ends gone setting tells_on other on_a moments writes generation =
      record {
        ends = ends;
        failed_before = gone;
        setting = setting;
        tells_on = tells_on;
        other = other;
        on_a = on_a;
        any_moment = λ live told. moments told.0 (is.stored live told);
        left = λ live told.
            let s = is.stored live told in
            left_behind tells seen may_leave moment left_since counts_now (journal_of old) (journal_of new) (setting_of old) (durable_of old) d.durable (tells_on.tells_after told.0) other s.holds.other_durable (moments told.0 s);
        writes = λ live told. writes told.0;
        generation = generation;
      }

  -- the journal isn't called
  pub quiet : (old new : Node E D) (d : Decision) (answer : Result (List Output) StepFault) → IsNode valid tells seen may_leave old
      → Ends meaning heard failed old d answer new → ((journal_of old).live ≡ false → answer ≡ Err Failed) → setting_of new ≡ setting_of old → journal_of new ≡ journal_of old → Steps old d answer new
  quiet old new d answer is ends gone setting same =
      stepping old new d answer is ends gone setting
      (record { tells_after = subst (λ (j : JournalView D). tells (journal_of old).current → tells j.current) (sym same) (λ t. t); told_before = subst (λ (j : JournalView D). tells j.current → tells (journal_of old).current) (sym same) (λ t. t) })
      (ap (λ (j : JournalView D). j.other) same) (ap (λ (j : JournalView D). j.on_a) same)
      (λ told s. subst (λ (j : JournalView D). Moments (journal_of old) j (setting_of old) (durable_of old) d.durable) (sym same) (still tells seen may_leave moment left_since only_now (journal_of old) (setting_of old) (durable_of old) d.durable told s))
      (λ told. subst (λ (j : JournalView D). LeavesAdded seen may_leave moment left_since (journal_of old) j (option_to_list d.entry)) (sym same) (still_entries tells seen may_leave moment left_since only_now (journal_of old) (option_to_list d.entry) told))
      (ap (λ (j : JournalView D). j.generation) same)

  -- the journal has refused
  pub refused : {T : Type 0} (old new : Node E D) (d : Decision) (fault : JournalFault) → view_of meaning heard new ≡ view_of meaning heard old
      → (¬ (IsErrOf {T = T} (Err fault) journal.Failed)) → (¬ (IsErrOf {T = T} (Err fault) journal.Damaged))
      → (IsErrOf {T = T} (Err fault) journal.Full → IsTooLong (journal_of old) d.entry)
      → (IsErrOf {T = T} (Err fault) journal.Device → ((journal_of new).live ≡ false) × HasRisen (failed (journal_of old).current) (failed (journal_of new).current))
      → (¬ (IsErrOf {T = T} (Err fault) journal.Device) → journal_of new ≡ journal_of old) → Ends meaning heard failed old d (Err (step_fault fault)) new
  refused old new d journal.Failed view no_failed no_damaged full device same = absurd (no_failed refl)
  refused old new d journal.Damaged view no_failed no_damaged full device same = absurd (no_damaged refl)
  refused old new d journal.Full view no_failed no_damaged full device same = (record { view = view; journal = same (λ e. cc) }, full refl)
  refused old new d journal.Device view no_failed no_damaged full device same = let d = device refl in (view, d.0, d.1)
  refused old new d journal.Memory view no_failed no_damaged full device same = record { view = view; journal = same (λ e. cc) }

  -- a journal that has refused and is still live is unchanged
  pub unchanged : {T X : Type 0} (j old : JournalView D) (fault : JournalFault) → IsTrue j.live
      → (IsErrOf {T = T} (Err fault) journal.Device → (j.live ≡ false) × X) → (¬ (IsErrOf {T = T} (Err fault) journal.Device) → j ≡ old) → j ≡ old
  unchanged j old journal.Failed live device same = same (λ e. cc)
  unchanged j old journal.Damaged live device same = same (λ e. cc)
  unchanged j old journal.Full live device same = same (λ e. cc)
  unchanged j old journal.Device live device same = let dead = (device refl).0 in cc
  unchanged j old journal.Memory live device same = same (λ e. cc)

  -- the node keeps what it kept, over a journal that is the same while it is live
  pub still_node : (old new : Node E D) → IsNode valid tells seen may_leave old → valid (engine_of new)
      → setting_of new ≡ setting_of old → state_of new ≡ state_of old → (IsTrue (journal_of new).live → journal_of new ≡ journal_of old) → IsNode valid tells seen may_leave new
  still_node old new is engine set node same =
      record {
        engine = engine;
        setting = subst IsSetting (sym set) is.setting;
        ranged = subst IsRanged (sym node) is.ranged;
        stored = λ live told.
            let e = same live in
            let s = is.stored (subst (λ (j : JournalView D). IsTrue j.live) e live) (subst (λ (j : JournalView D). TellsBoth tells j) e told) in
            subst (λ (x : Setting). Stores seen may_leave (journal_of new) x (durable_of new)) (sym set)
            (subst (λ (x : State). Stores seen may_leave (journal_of new) (setting_of old) x.durable) (sym node)
            (subst (λ (j : JournalView D). Stores seen may_leave j (setting_of old) (durable_of old)) (sym e) s));
      }

  -- the effect of a decision is the step of the view before it
  pub whole : (old mid new : View) (d e : Decision) (outputs : List Output) → mid ≡ old → e ≡ d → IsStep mid e outputs new → IsStep old d outputs new
  whole old mid new d e outputs same is s = subst (λ (x : View). IsStep x d outputs new) same (subst (λ (x : Decision). IsStep mid x outputs new) is s)
