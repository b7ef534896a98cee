-- What a stop leaves at any moment: of a group, of a compaction, and of calls one after the other.
use Rattle.std.proofs.Common.{◌≡◌, ◌≢◌, inl, inr, ⊎_elim, ℕ, Bool, true, false, cond, IsTrue, Result, Ok, Err, List, [], ◌∷◌, ◌++◌, refl, sym, ap, subst, arith}
use Rattle.sv_node.proofs.Prelude.{Only, LeavesOnly, disk_a, disk_b, JournalFault, Input, Moment, Setting, StepFault, EngineMeaning, Durable, Node as State}
use Rattle.sv_node.proofs.Prelude.{last_number, Stop, quiet, kept, IsCompaction, RestoresBeside, written, Answer, GroupEnds, IsGroup, behind, all_given, Stand}
use Rattle.sv_node.proofs.Prelude.{halted, stand_of, RiseIn, numbers_in, Leads, GoesOn, engine_of, setting_of, state_of, durable_of, journal_of, IsStarted}
use Rattle.sv_node.proofs.Prelude.{StartsWithoutLoss, restarted, TellsBoth, Stores, RestoresOn, RestoresEither, Restores}
use Rattle.sv_journal.proofs.Quiet.{leaves_weaker}
use Rattle.sv_model.specs.declared.site.StepFault.TheVariants.{Failed, Full, Device, Memory}
use Rattle.sv_node.specs.Moments.{Disks, WritesBeside, WritesOneOf, AreStretches, LeavesBoth, disks_of, Reaches, RunsWithoutLoss, ReachesFrom, LivesWithoutLoss}
use Rattle.sv_node.specs.declared.node.Node.{Node}
use Rattle.sv_node.proofs.CallLemmas.{same_state}
use Rattle.sv_node.proofs.GroupCallLemmas.{group_leads}
use Rattle.sv_node.proofs.HistoryLemmas.{leads_by, on_from, behind_opening}

-- ---- images by their disks

-- the images of two disks, of which the first is A, or B
abbrev placed : Bool → (List ℕ → List ℕ → Type 0) → List ℕ → List ℕ → Type 0
placed true P image other = P image other
placed false P image other = P other image

restores : (on_a : Bool) (set : Setting) (image other : List ℕ) (d : Durable) → RestoresOn set image other d → placed on_a (λ a b. Restores set a b d) image other
restores true set image other d r = record { entries = r.entries; opens = inl r.opens; replays = r.replays }
restores false set image other d r = record { entries = r.entries; opens = inr (inl r.opens); replays = r.replays }

-- whichever of the two counts
restores_beside : (on_a : Bool) (set : Setting) (image other : List ℕ) (d : Durable) → RestoresBeside set other d image → placed on_a (λ a b. Restores set a b d) other image
restores_beside true set image other d (inl r) = restores true set other image d r
restores_beside true set image other d (inr r) = restores false set image other d r
restores_beside false set image other d (inl r) = restores false set other image d r
restores_beside false set image other d (inr r) = restores true set image other d r

reaches : (on_a : Bool) (m : EngineMeaning) (set : Setting) (low : ℕ) (from : Stand) (image other : List ℕ) (d : Durable) (high : ℕ) → Leads m set low high from (halted d) []
    → placed on_a (λ a b. Restores set a b d) image other → placed on_a (Reaches m set low from) image other
reaches true m set low from image other d high leads gives = record { durable = d; gives = gives; high = high; told = []; leads = leads }
reaches false m set low from image other d high leads gives = record { durable = d; gives = gives; high = high; told = []; leads = leads }

-- ---- stretches of time

module _ {D : Type 0} (seen : D → List ℕ) (may_leave : D → List ℕ → Type 0) (moment : D → ℕ) (left_since : D → ℕ → List ℕ → Type 0) where
  -- the current disk is written
  current_written : (on_a : Bool) (current other current' other' : D) (P : List ℕ → List ℕ → Type 0) → other' ≡ other → Only (seen other) (may_leave other)
      → LeavesOnly moment left_since current current' (λ image. placed on_a P image (seen other))
      → WritesOneOf seen may_leave moment left_since P (cond on_a current other, cond on_a other current) (cond on_a current' other', cond on_a other' current')
  current_written true current other current' other' P stands apart images = inl (record { stands = stands; apart = apart; images = images })
  current_written false current other current' other' P stands apart images = inr (record { stands = stands; apart = apart; images = images })

  -- the other disk is written
  other_written : (on_a : Bool) (current other a b : D) (P : List ℕ → List ℕ → Type 0) → cond on_a a b ≡ current → Only (seen current) (may_leave current)
      → LeavesOnly moment left_since other (cond on_a b a) (λ image. placed on_a P (seen current) image)
      → WritesOneOf seen may_leave moment left_since P (cond on_a current other, cond on_a other current) (a, b)
  other_written true current other a b P stands apart images = inr (record { stands = stands; apart = apart; images = images })
  other_written false current other a b P stands apart images = inl (record { stands = stands; apart = apart; images = images })

  beside_weaker : (P Q : List ℕ → List ℕ → Type 0) → ((x y : List ℕ) → P x y → Q x y) → (one other one' other' : D)
      → WritesBeside seen may_leave moment left_since P one other one' other' → WritesBeside seen may_leave moment left_since Q one other one' other'
  beside_weaker P Q f one other one' other' w = record {
    stands = w.stands;
    apart = w.apart;
    images = leaves_weaker moment left_since one one' (λ image. P image (seen other)) (λ image. Q image (seen other)) (λ image. f image (seen other)) w.images;
  }

  one_weaker : (P Q : List ℕ → List ℕ → Type 0) → ((x y : List ℕ) → P x y → Q x y) → (old new : Disks D)
      → WritesOneOf seen may_leave moment left_since P old new → WritesOneOf seen may_leave moment left_since Q old new
  one_weaker P Q f old new (inl w) = inl (beside_weaker P Q f old.0 old.1 new.0 new.1 w)
  one_weaker P Q f old new (inr w) = inr (beside_weaker (λ image other. P other image) (λ image other. Q other image) (λ x y. f y x) old.1 old.0 new.1 new.0 w)

  all_weaker : (P Q : List ℕ → List ℕ → Type 0) → ((x y : List ℕ) → P x y → Q x y) → (old : Disks D) (nexts : List (Disks D)) (new : Disks D)
      → AreStretches seen may_leave moment left_since P old nexts new → AreStretches seen may_leave moment left_since Q old nexts new
  all_weaker P Q f old [] new are = are
  all_weaker P Q f old (next ∷ nexts) new are = (one_weaker P Q f old next are.0, all_weaker P Q f next nexts new are.1)

  both_weaker : (P Q : List ℕ → List ℕ → Type 0) → ((x y : List ℕ) → P x y → Q x y) → (old new : Disks D)
      → LeavesBoth seen may_leave moment left_since P old new → LeavesBoth seen may_leave moment left_since Q old new
  both_weaker P Q f old new b = record { between = b.between; are = all_weaker P Q f old b.between new b.are }

  all_join : (P : List ℕ → List ℕ → Type 0) (old : Disks D) (xs : List (Disks D)) (mid : Disks D) (ys : List (Disks D)) (new : Disks D)
      → AreStretches seen may_leave moment left_since P old xs mid → AreStretches seen may_leave moment left_since P mid ys new → AreStretches seen may_leave moment left_since P old (xs ++ ys) new
  all_join P old [] mid ys new first more = subst (λ (from : Disks D). AreStretches seen may_leave moment left_since P from ys new) first more
  all_join P old (x ∷ xs) mid ys new first more = (first.0, all_join P x xs mid ys new first.1 more)

  both_join : (P : List ℕ → List ℕ → Type 0) (old mid new : Disks D) → LeavesBoth seen may_leave moment left_since P old mid → LeavesBoth seen may_leave moment left_since P mid new
      → LeavesBoth seen may_leave moment left_since P old new
  both_join P old mid new x y = record { between = x.between ++ y.between; are = all_join P old x.between mid y.between new x.are y.are }

  both_once : (P : List ℕ → List ℕ → Type 0) (old new : Disks D) → WritesOneOf seen may_leave moment left_since P old new → LeavesBoth seen may_leave moment left_since P old new
  both_once P old new one = record { between = new ∷ []; are = (one, refl) }

-- ---- of a node

module _ {E D : Type 0} (meaning : E → EngineMeaning) (heard : E → List (List ℕ)) (tells : D → Type 0) (seen : D → List ℕ) (may_leave : D → List ℕ → Type 0) (moment : D → ℕ) (left_since : D → ℕ → List ℕ → Type 0) where
  abbrev Runs : ℕ → Node E D → Node E D → Type 0
  Runs low old new = RunsWithoutLoss meaning tells seen may_leave moment left_since low old new

  -- nothing was written
  pub runs_nowhere : (low : ℕ) (n : Node E D) → Runs low n n
  runs_nowhere low n both = record { between = []; are = refl }

  -- one after the other
  pub runs_join : (low mid high : ℕ) (a b c : Node E D) → GoesOn meaning heard tells low mid a b → Runs low a b → Runs mid b c → Runs low a c
  runs_join low mid high a b c goes first more both =
      let P = Reaches (meaning (engine_of a)) (setting_of a) low (stand_of a) in
      let Q = Reaches (meaning (engine_of b)) (setting_of b) mid (stand_of b) in
      both_join seen may_leave moment left_since P (disks_of a) (disks_of b) (disks_of c) (first both)
      (both_weaker seen may_leave moment left_since Q P
      (λ x y q. record {
        durable = q.durable;
        gives = subst (λ (set : Setting). Restores set x y q.durable) goes.setting q.gives;
        high = q.high;
        told = goes.told ++ q.told;
        leads = on_from meaning heard tells may_leave moment left_since low mid q.high a b c goes (halted q.durable) q.told q.leads;
      }) (disks_of b) (disks_of c) (more (goes.tells_on both)))

  module _ (failed : D → ℕ) (old new : Node E D) (live : IsTrue (journal_of old).live) (stored : TellsBoth tells (journal_of old) → Stores seen may_leave (journal_of old) (setting_of old) (durable_of old)) where
    abbrev m : EngineMeaning
    m = meaning (engine_of old)

    abbrev set : Setting
    set = setting_of old

    abbrev on_a : Bool
    on_a = (journal_of old).on_a

    -- where nothing was kept of a call it is a stop
    nothing_kept : (low : ℕ) (image other : List ℕ) → placed on_a (λ a b. Restores set a b (durable_of old)) image other → placed on_a (Reaches m set low (stand_of old)) image other
    nothing_kept low image other gives =
        reaches on_a m set low (stand_of old) image other (durable_of old) low
        (leads_by m set low low (stand_of old) (halted (durable_of old)) (record { call = Stop; after = quiet (kept (durable_of old)) }) refl tt (omega arith) refl) gives

    module _ (inputs : List (Moment × Input)) (low : ℕ) (rise : RiseIn low (all_given inputs)) where
      all_kept : (answers : List Answer) → state_of new ≡ behind m set (state_of old) inputs answers → (image other : List ℕ) → RestoresOn set image other (durable_of new)
          → placed on_a (Reaches m set low (stand_of old)) image other
      all_kept answers is image other r =
          reaches on_a m set low (stand_of old) image other (durable_of new) (numbers_in low (all_given inputs))
          (group_leads meaning heard tells seen may_leave moment left_since failed old new inputs live low rise answers is (durable_of new) (inr refl)) (restores on_a set image other (durable_of new) r)

      behind_it : (answer : Result (List Answer) StepFault) → GroupEnds meaning heard failed old inputs answer new → (image other : List ℕ) → RestoresOn set image other (durable_of new)
          → placed on_a (Reaches m set low (stand_of old)) image other
      behind_it (Ok answers) ends = all_kept answers ends.1
      behind_it (Err Failed) ends = absurd (let dead = ends.1 in cc)
      behind_it (Err Full) ends = absurd ends
      behind_it (Err Device) ends = all_kept ends.0.0 ends.0.2
      behind_it (Err Memory) ends = λ image other r.
          nothing_kept low image other
          (restores on_a set image other (durable_of old) (subst (λ (d : Durable). RestoresOn set image other d) (ap (λ (n : State). n.durable) (same_state meaning heard old new ends.view)) r))

      -- a group
      pub group_runs : (answer : Result (List Answer) StepFault) → IsGroup meaning heard tells seen may_leave moment left_since failed old inputs answer new → Runs low old new
      group_runs answer s both =
          let o = journal_of old in
          let n = journal_of new in
          let P = Reaches m set low (stand_of old) in
          both_once seen may_leave moment left_since P (disks_of old) (disks_of new)
          (subst (λ (on : Bool). WritesOneOf seen may_leave moment left_since P (disks_of old) (cond on n.current n.other, cond on n.other n.current)) (sym s.on_a)
          (current_written seen may_leave moment left_since on_a o.current o.other n.current n.other P s.other (stored both).holds.other_durable
          (leaves_weaker moment left_since o.current n.current (RestoresEither set (seen o.other) (durable_of old) (durable_of new)) (λ image. placed on_a P image (seen o.other))
          (λ image. ⊎_elim (λ r. nothing_kept low image (seen o.other) (restores on_a set image (seen o.other) (durable_of old) r)) (λ r. behind_it answer s.ends image (seen o.other) r))
          (s.any_moment live both))))

    -- a compaction
    pub compaction_runs : {T : Type 0} (answer : Result T JournalFault) (low : ℕ) → IsCompaction meaning heard tells seen may_leave moment left_since failed old answer new → Runs low old new
    compaction_runs answer low s both =
        let o = journal_of old in
        let n = journal_of new in
        let P = Reaches m set low (stand_of old) in
        both_once seen may_leave moment left_since P (disks_of old) (disks_of new)
        (other_written seen may_leave moment left_since on_a o.current o.other (disk_a n) (disk_b n) P s.kept (stored both).holds.keeps.durable
        (leaves_weaker moment left_since o.other (written o n) (RestoresBeside set (seen o.current) (durable_of old)) (λ image. placed on_a P (seen o.current) image)
        (λ image r. nothing_kept low (seen o.current) image (restores_beside on_a set image (seen o.current) (durable_of old) r)) (s.any_moment live both)))

  -- ---- the life of a process

  module _ (set : Setting) (engine : E) (a b : D) (n new : Node E D) (s : IsStarted meaning heard n engine set)
      (first : tells a → tells b → (d : Durable) × Restores set (seen a) (seen b) d × (d.boot ≢ last_number) × (durable_of n ≡ restarted set d)) (both : tells a → tells b → TellsBoth tells (journal_of n)) where
    pub lives : (tells a → tells b → (d : Durable) → Restores set (seen a) (seen b) d → StartsWithoutLoss seen may_leave moment left_since set d a b (disk_a (journal_of n)) (disk_b (journal_of n)))
        → Runs 0 n new → tells a → tells b → (d : Durable) → Restores set (seen a) (seen b) d
        → LivesWithoutLoss seen may_leave moment left_since (meaning engine) set d a b (disk_a (journal_of new)) (disk_b (journal_of new))
    lives starts runs ta tb d r = record {
      opened = disks_of n;
      starts = starts ta tb d r;
      runs = both_weaker seen may_leave moment left_since (Reaches (meaning (engine_of n)) (setting_of n) 0 (stand_of n)) (ReachesFrom (meaning engine) set d)
          (λ x y q. record {
            durable = q.durable;
            gives = subst (λ (of : Setting). Restores of x y q.durable) s.setting q.gives;
            high = q.high;
            told = q.told;
            leads = λ low. behind_opening meaning heard tells may_leave moment left_since seen set engine a b n new s first both low q.high d q.told (halted q.durable) ta tb r q.leads;
          }) (disks_of n) (disks_of new) (runs (both ta tb));
    }
