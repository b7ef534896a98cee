-- Why a node ends.
use Rattle.sv_host.proofs.Prelude.{◌≡◌, ◌⊎◌, inl, inr, ℕ, List, Result, Ok, Err, false, IsTrue, IfErr, ⊤, JournalFault, EngineMeaning, IsCompaction, journal_of}
use Rattle.sv_host.proofs.Prelude.{Node, Stop, HasFailed}
use Rattle.sv_journal.specs.declared.journal_fault.JournalFault.TheVariants as journal
use Rattle.sv_host.specs.declared.fault.HostFault.TheVariants as host
use Rattle.sv_host.specs.declared.fault.Stop.TheVariants.{Fault}

module _ {E D : Type 0} (meaning : E → EngineMeaning) (heard : E → List (List ℕ)) (tells : D → Type 0) (seen : D → List ℕ) (may_leave : D → List ℕ → Type 0) (moment : D → ℕ) (left_since : D → ℕ → List ℕ → Type 0) (failed : D → ℕ) (old new : Node E D) (live : IsTrue (journal_of old).live) where
  abbrev Compacted : JournalFault → Type 0
  Compacted fault = IsCompaction {T = ⊤} meaning heard tells seen may_leave moment left_since failed old (Err fault) new

  down_by : (fault : JournalFault) → Compacted fault → (fault ≡ journal.Device) ⊎ (fault ≡ journal.Failed) → (journal_of new).live ≡ false
  down_by journal.Device s why = s.ends.1
  down_by journal.Failed s why = absurd (let dead = s.ends.1 in cc)
  down_by journal.Damaged s (inl why) = absurd (let h = why in cc)
  down_by journal.Damaged s (inr why) = absurd (let h = why in cc)
  down_by journal.Full s (inl why) = absurd (let h = why in cc)
  down_by journal.Full s (inr why) = absurd (let h = why in cc)
  down_by journal.Memory s (inl why) = absurd (let h = why in cc)
  down_by journal.Memory s (inr why) = absurd (let h = why in cc)

  -- a compaction after which the node ends
  pub compaction_stops : {U : Type 0} (fault : JournalFault) (answer : Result U Stop) → Compacted fault → IfErr answer (λ stop. ((fault ≡ journal.Device) ⊎ (fault ≡ journal.Failed)) × (stop ≡ Fault host.Device))
      → IfErr answer (HasFailed new)
  compaction_stops fault (Ok value) s why = tt
  compaction_stops fault (Err stop) s why = record { down = down_by fault s why.0; stop_is = why.1 }
