-- What a call that a node was told to make has made of it, whatever its fault becomes.
use Rattle.sv_host.proofs.Prelude.{◌≡◌, ◌≤◌, inr, ℕ, true, false, cond, Result, Ok, Err, Bool, List, map, Vec, vec_items, arith, IfErr, OnOk, JournalFault}
use Rattle.sv_host.proofs.Prelude.{Moment, Input, Output, StepFault, EngineMeaning, with_list, step_ends, IsCompaction, all_given, RiseIn, numbers_in, GoesOn}
use Rattle.sv_host.proofs.Prelude.{HasGone, journal_of, Node, gone_on}
use Rattle.std.proofs.Common.{IsTrue, Global}
use Rattle.sv_journal.specs.declared.journal_fault.JournalFault.TheVariants as journal
use Rattle.sv_model.specs.declared.site.StepFault.TheVariants as step
use Rattle.sv_node.specs.Call.{compaction_ends}
use Rattle.sv_node.specs.Group.{Answer, IsGroup}
use Rattle.sv_node.proofs.GroupCallLemmas.{GroupBy, group_by}
use Rattle.sv_node.proofs.HistoryLemmas.{CompactedBy, compacted_by, fails_wider, goes_wider}

-- both disks tell, by the names of a journal
pub tell_by_names : {D : Type 0} (tells : D → Type 0) (on_a : Bool) (current other : D) → tells (cond on_a current other) → tells (cond on_a other current) → tells current × tells other
tell_by_names tells true current other a b = (a, b)
tell_by_names tells false current other a b = (b, a)

module _ {E D : Type 0} (meaning : E → EngineMeaning) (heard : E → List (List ℕ)) (tells : D → Type 0) (seen : D → List ℕ) (may_leave : D → List ℕ → Type 0) (moment : D → ℕ) (left_since : D → ℕ → List ℕ → Type 0) (failed : D → ℕ) where
  module _ (low : ℕ) (old new : Node E D) (live : IsTrue (journal_of old).live) where
    abbrev Gone : {U G : Type 0} → ℕ → Result U G → Type 0
    Gone high given = HasGone meaning heard tells may_leave low high old new given

    on : {U G : Type 0} (high : ℕ) (given : Result U G) → GoesOn meaning heard tells low high old new → Gone high given
    on high given goes = gone_on meaning heard tells may_leave moment left_since low high old new given goes

    module _ (high : ℕ) (inputs : List (Moment × Input)) (rise : RiseIn low (all_given inputs)) (is : numbers_in low (all_given inputs) ≤ high) where
      abbrev Grouped : Result (List Answer) StepFault → Type 0
      Grouped answer = IsGroup meaning heard tells seen may_leave moment left_since failed old inputs answer new

      abbrev By : Result (List Answer) StepFault → Type 0
      By answer = GroupBy meaning heard tells seen may_leave moment left_since failed old new inputs live low rise answer

      by : (answer : Result (List Answer) StepFault) → Grouped answer → By answer
      by answer g = group_by meaning heard tells seen may_leave moment left_since failed old new inputs live low rise answer g

      abbrev last : ℕ
      last = numbers_in low (all_given inputs)

      goes : GoesOn meaning heard tells low last old new → GoesOn meaning heard tells low high old new
      goes g = goes_wider meaning heard tells may_leave moment left_since low last high old new is g

      -- a group, whatever is made of what came of it
      pub group_served : {U G : Type 0} (answers : Result (Vec (Result (Vec Output Global) StepFault) Global) StepFault) (given : Result U G) → Grouped (with_list (λ a. map (with_list vec_items) a.items) answers)
          → IfErr answers (λ fault. OnOk given (step_ends fault ≡ false)) → Gone high given
      group_served (Ok answers) given g ok = on high given (goes (by (Ok (map (with_list vec_items) answers.items)) g))
      group_served (Err step.Full) given g ok = absurd (by (Err step.Full) g)
      group_served (Err step.Failed) given g ok = absurd (by (Err step.Failed) g)
      group_served (Err step.Memory) given g ok = on high given (goes (by (Err step.Memory) g))
      group_served (Err step.Device) (Ok value) g ok = absurd (let other = ok in cc)
      group_served (Err step.Device) (Err f) g ok = inr (fails_wider meaning heard tells may_leave moment left_since low last high old new is (by (Err step.Device) g))

    module _ {T : Type 0} where
      abbrev CompactedTo : Result T JournalFault → Type 0
      CompactedTo answer = CompactedBy meaning heard tells may_leave moment left_since seen failed old new live {T = T} low low (omega arith) answer

      to : (answer : Result T JournalFault) → IsCompaction meaning heard tells seen may_leave moment left_since failed old answer new → CompactedTo answer
      to answer s = compacted_by meaning heard tells may_leave moment left_since seen failed old new live {T = T} low low (omega arith) answer s

      -- a compaction that was done
      pub compaction_done : (x : T) → IsCompaction meaning heard tells seen may_leave moment left_since failed old (Ok x) new → GoesOn meaning heard tells low low old new
      compaction_done x s = to (Ok x) s

      -- a compaction with a fault
      pub compaction_refused : {U G : Type 0} (fault : JournalFault) (given : Result U G) → IsCompaction {T = T} meaning heard tells seen may_leave moment left_since failed old (Err fault) new
          → OnOk given (compaction_ends fault ≡ false) → Gone low given
      compaction_refused journal.Full given s goes = on low given (to (Err journal.Full) s)
      compaction_refused journal.Memory given s goes = on low given (to (Err journal.Memory) s)
      compaction_refused journal.Failed given s goes = absurd (to (Err journal.Failed) s)
      compaction_refused journal.Damaged given s goes = absurd (to (Err journal.Damaged) s)
      compaction_refused journal.Device (Ok value) s goes = absurd (let other = goes in cc)
      compaction_refused journal.Device (Err f) s goes = inr (to (Err journal.Device) s)
