-- Records in the place of others: what they give, and what a stop leaves.
use Rattle.std.proofs.Common.{◌≡◌, inl, inr, ⊎_elim, ℕ, ◌≤◌, Bool, true, false, cond, not, Option, Some, None, List, [], ◌∷◌, map, Result, Ok, Err, IsTrue, OnOk, OnErr, IsErr, IsErrOf, refl, ap, sym, subst, arith}
use Rattle.std.proofs.lemmas.List.Elements.{All-from_recursion}
use Rattle.std.specs.FinMap.{entries}
use Rattle.std.specs.List.{All, AllByRecursion}
use Rattle.sv_core.specs.Snapshot.{staged, state_record, head_by, snapshot_of}
use Rattle.sv_core.proofs.SoundLemmas.{sound_blank, sound_replayed}
use Rattle.sv_core.proofs.SnapshotLemmas.{snapshot_fits, snapshot_gives}
use Rattle.sv_node.proofs.Prelude.{Only, LeavesOnly, TellsOn, HasRisen, OpensOn, OpensReplaced, JournalView, disk_a, disk_b, JournalFault, Setting, Blank}
use Rattle.sv_node.proofs.Prelude.{Record, EngineMeaning, Durable, Node as State, blank, replayed, spelling, view_of, setting_of, durable_of, journal_of}
use Rattle.sv_node.proofs.Prelude.{IsNode, Give, Replays, TellsBoth, Stores, Restores}
use Rattle.sv_journal.specs.declared.journal_fault.JournalFault.TheVariants as journal
use Rattle.sv_model.specs.declared.key.Key.{Key}
use Rattle.sv_model.specs.declared.state.KeyState.{KeyState}
use Rattle.sv_model.specs.Membership.{In}
use Rattle.sv_model.specs.Ranges.{IsRecord, IsState, IsRanged}
use Rattle.sv_model.specs.Keys.{IsKey, IsNode as IsNumber, IsCounting}
use Rattle.std.specs.Prelude.{IfSome}
use Rattle.sv_model.proofs.EntryLemmas.{entry_kept}
use Rattle.sv_node.specs.Compaction.{HasTurned, written, spared, len_with, HasNoRoom, RestoresBeside, LeavesSame, LeavesReplaced, CompactionEnds, IsCompaction}
use Rattle.sv_node.specs.declared.node.Node.{Node}
use Rattle.sv_node.proofs.StopLemmas.{weaker, opens_on}

-- ---- a snapshot

states_ranged : (es : List (Key × KeyState)) → ((e : Key × KeyState) → In e es → IsKey e.0 × IsState e.1) → AllByRecursion IsRecord (map state_record es)
states_ranged [] f = tt
states_ranged (e ∷ es) f = (f e (inl refl), states_ranged es (λ x i. f x (inr i)))

head_ranged : (home : Option ℕ) (boot next : ℕ) → IfSome home IsNumber → IsCounting next → IsRecord (head_by home boot next)
head_ranged None boot next own counts = counts
head_ranged (Some h) boot next own counts = (own, counts)

pub snapshot_ranged : (n : State) → IsRanged n → All IsRecord (snapshot_of n.durable)
snapshot_ranged n r = All-from_recursion IsRecord (snapshot_of n.durable) (head_ranged n.durable.home n.durable.boot n.durable.next r.home r.next, states_ranged (entries n.durable.keys) (λ e i. r.known e.0 e.1 (entry_kept n.durable.keys e i)))

pub snapshot_is : (set : Setting) (entries : List (List ℕ)) (d : Durable) → Replays set entries d → Give set (snapshot_of d) d
snapshot_is set entries d r =
    let rs = r.records in
    subst (λ (e : Durable). Give set (snapshot_of e) e) r.gives
    (record { fit = snapshot_fits set (staged Blank rs) (replayed blank rs) (sound_replayed set Blank blank (sound_blank set) rs r.fit); gives = snapshot_gives (replayed blank rs) })

-- ---- which disk is which

-- the other disk is current from now on
turned : {X : Type 0} (o n : Bool) (x y : X) → n ≡ not o → cond o (cond n y x) (cond n x y) ≡ x
turned true true x y is = absurd cc
turned true false x y is = refl
turned false true x y is = refl
turned false false x y is = absurd cc

stayed : {X : Type 0} (o n : Bool) (x y : X) → n ≡ o → cond o (cond n y x) (cond n x y) ≡ y
stayed true true x y is = refl
stayed true false x y is = absurd cc
stayed false true x y is = absurd cc
stayed false false x y is = refl

pub written_turned : {D : Type 0} (old new : JournalView D) → new.on_a ≡ not old.on_a → written old new ≡ new.current
written_turned old new is = turned old.on_a new.on_a new.current new.other is

pub spared_turned : {D : Type 0} (old new : JournalView D) → new.on_a ≡ not old.on_a → spared old new ≡ new.other
spared_turned old new is = turned old.on_a new.on_a new.other new.current is

pub written_stayed : {D : Type 0} (old new : JournalView D) → new.on_a ≡ old.on_a → written old new ≡ new.other
written_stayed old new is = stayed old.on_a new.on_a new.current new.other is

pub spared_stayed : {D : Type 0} (old new : JournalView D) → new.on_a ≡ old.on_a → spared old new ≡ new.current
spared_stayed old new is = stayed old.on_a new.on_a new.other new.current is

-- ---- what a stop leaves

beside : (set : Setting) (current : List ℕ) (before after : List (List ℕ)) (d : Durable) → Replays set before d → Replays set after d
    → (image : List ℕ) → OpensReplaced current before after image → RestoresBeside set current d image
beside set current before after d old new image (inl opens) = inl (record { entries = before; opens = opens; replays = old })
beside set current before after d old new image (inr opens) = inr (record { entries = after; opens = opens; replays = new })

module _ {D : Type 0} (tells : D → Type 0) (seen : D → List ℕ) (may_leave : D → List ℕ → Type 0) (moment : D → ℕ) (left_since : D → ℕ → List ℕ → Type 0) where
  pub replacing : (journal : JournalView D) (new : D) (set : Setting) (before after : List (List ℕ)) (d : Durable) → Replays set before d → Replays set after d
      → LeavesOnly moment left_since journal.other new (OpensReplaced (seen journal.current) before after)
      → LeavesOnly moment left_since journal.other new (RestoresBeside set (seen journal.current) d)
  replacing journal new set before after d old more l =
      weaker tells seen may_leave moment left_since journal.other new (OpensReplaced (seen journal.current) before after) (RestoresBeside set (seen journal.current) d)
      (beside set (seen journal.current) before after d old more) l

  -- nothing is called
  pub unmoved : ((disk : D) (c : List ℕ) → tells disk → left_since disk (moment disk) c → may_leave disk c)
      → (journal : JournalView D) (set : Setting) (d : Durable) → tells journal.other → Stores seen may_leave journal set d
      → LeavesOnly moment left_since journal.other journal.other (RestoresBeside set (seen journal.current) d)
  unmoved only_now journal set d told s =
      let here : RestoresBeside set (seen journal.current) d (seen journal.other) = inl (record { entries = s.entries; opens = opens_on tells seen may_leave moment left_since journal s.entries s.holds; replays = s.replays }) in
      record {
        later = omega arith;
        each = λ c left. subst (RestoresBeside set (seen journal.current) d) (sym (s.holds.other_durable c (only_now journal.other c told left))) here;
        before = λ t c le left. inl left;
      }

  pub unmoved_entries : ((disk : D) (c : List ℕ) → tells disk → left_since disk (moment disk) c → may_leave disk c)
      → (journal : JournalView D) (records : List Record) → tells journal.other → LeavesReplaced seen may_leave moment left_since journal journal records
  unmoved_entries only_now journal records told before h =
      let P : List ℕ → Type 0 = OpensReplaced (seen journal.current) before (map spelling records) in
      subst (λ (z : D). LeavesOnly moment left_since journal.other z P) (sym (written_stayed journal journal refl))
      (record {
        later = omega arith;
        each = λ c left. subst P (sym (h.other_durable c (only_now journal.other c told left))) (inl (opens_on tells seen may_leave moment left_since journal before h));
        before = λ t c le left. inl left;
      })

  left_of : (o : Bool) (x y kept : D) (set : Setting) (d : Durable) → cond o x y ≡ kept → Only (seen kept) (may_leave kept)
      → ((c : List ℕ) → may_leave (cond o y x) c → RestoresBeside set (seen kept) d c) → (a b : List ℕ) → may_leave x a → may_leave y b → Restores set a b d
  left_of true x y kept set d is only f a b left_a left_b =
      let a_is : a ≡ seen kept = only a (subst (λ (z : D). may_leave z a) is left_a) in
      ⊎_elim (λ r. record { entries = r.entries; opens = inl (subst (λ (l : List ℕ). OpensOn l b r.entries) (sym a_is) r.opens); replays = r.replays })
      (λ r. record { entries = r.entries; opens = inr (inl (subst (λ (l : List ℕ). OpensOn b l r.entries) (sym a_is) r.opens)); replays = r.replays })
      (f b left_b)
  left_of false x y kept set d is only f a b left_a left_b =
      let b_is : b ≡ seen kept = only b (subst (λ (z : D). may_leave z b) is left_b) in
      ⊎_elim (λ r. record { entries = r.entries; opens = inr (inl (subst (λ (l : List ℕ). OpensOn l a r.entries) (sym b_is) r.opens)); replays = r.replays })
      (λ r. record { entries = r.entries; opens = inl (subst (λ (l : List ℕ). OpensOn a l r.entries) (sym b_is) r.opens); replays = r.replays })
      (f a left_a)

  -- after it
  pub left_alike : ((disk : D) (t : ℕ) (c : List ℕ) → tells disk → t ≤ moment disk → may_leave disk c → left_since disk t c)
      → (old new : JournalView D) (set : Setting) (d : Durable) → tells (written old new) → spared old new ≡ old.current → Only (seen old.current) (may_leave old.current)
      → LeavesOnly moment left_since old.other (written old new) (RestoresBeside set (seen old.current) d) → LeavesSame may_leave new set d
  left_alike counts_now old new set d told kept only l =
      left_of old.on_a (disk_a new) (disk_b new) old.current set d kept only (λ c left. l.each c (counts_now (written old new) (moment old.other) c told l.later left))

-- ---- by the answer

pub by_answer : {T E A1 A2 B1 B2 C : Type 0} (r : Result T E) → OnOk r A1 → OnOk r A2 → OnErr r B1 → OnErr r B2 → (A1 → A2 → C) → (B1 → B2 → C) → C
by_answer (Ok x) a1 a2 b1 b2 f g = f a1 a2
by_answer (Err e) a1 a2 b1 b2 f g = g b1 b2

pub ok_both : {T E A B C : Type 0} (r : Result T E) → (A → B → C) → OnOk r A → OnOk r B → OnOk r C
ok_both (Ok x) f a b = f a b
ok_both (Err e) f a b = tt

module _ {E D T : Type 0} (meaning : E → EngineMeaning) (heard : E → List (List ℕ)) (failed : D → ℕ) (old new : Node E D)
    (view : view_of meaning heard new ≡ view_of meaning heard old) where
  pub compaction_ends : (r : Result T JournalFault) → OnOk r (IsTrue (journal_of new).live) → OnOk r ((journal_of new).len ≡ len_with (snapshot_of (durable_of old))) → OnOk r (HasTurned (journal_of old) (journal_of new))
      → (¬ (IsErrOf r journal.Failed)) → (¬ (IsErrOf r journal.Damaged)) → (IsErrOf r journal.Full → HasNoRoom (journal_of old) (snapshot_of (durable_of old)))
      → (IsErrOf r journal.Device → ((journal_of new).live ≡ false) × HasRisen (failed (journal_of old).other) (failed (journal_of new).other))
      → (IsErr r → ¬ (IsErrOf r journal.Device) → journal_of new ≡ journal_of old) → CompactionEnds meaning heard failed old r new
  compaction_ends (Ok x) live len turned no_failed no_damaged full device same = (view, live, len, turned)
  compaction_ends (Err journal.Failed) live len turned no_failed no_damaged full device same = absurd (no_failed refl)
  compaction_ends (Err journal.Damaged) live len turned no_failed no_damaged full device same = absurd (no_damaged refl)
  compaction_ends (Err journal.Full) live len turned no_failed no_damaged full device same = (record { view = view; journal = same refl (λ e. cc) }, full refl)
  compaction_ends (Err journal.Device) live len turned no_failed no_damaged full device same = let d = device refl in (view, d.0, d.1)
  compaction_ends (Err journal.Memory) live len turned no_failed no_damaged full device same = record { view = view; journal = same refl (λ e. cc) }

-- what the journal stores after it
module _ {D : Type 0} (tells : D → Type 0) (seen : D → List ℕ) (may_leave : D → List ℕ → Type 0) (failed : D → ℕ) (set : Setting) (d : Durable) (records : List Record) (old new : JournalView D) where
  abbrev At : JournalView D → Type 0
  At journal = Stores seen may_leave journal set d

  unchanged_stores : IsTrue new.live → TellsBoth tells new → (IsTrue old.live → TellsBoth tells old → At old) → new ≡ old → At new
  unchanged_stores live told was same =
      subst At (sym same) (was (subst (λ (j : JournalView D). IsTrue j.live) same live) (subst (λ (j : JournalView D). TellsBoth tells j) same told))

  pub stored_behind : {T : Type 0} (r : Result T JournalFault) → IsTrue old.live → IsTrue new.live → TellsBoth tells new → (IsTrue old.live → TellsBoth tells old → At old) → (At old → Give set records d)
      → OnOk r ((set : Setting) (d : Durable) → tells old.other → Give set records d → Stores seen may_leave old set d → Stores seen may_leave new set d)
      → OnOk r (TellsOn tells old.other new.current) → OnOk r (new.other ≡ old.current)
      → (IsErrOf r journal.Device → (new.live ≡ false) × HasRisen (failed old.other) (failed new.other)) → (IsErr r → ¬ (IsErrOf r journal.Device) → new ≡ old) → At new
  stored_behind (Ok x) old_live live told was gives stored current other device same =
      let told_other = current.told_before told.0 in
      let s = was old_live (subst (λ (z : D). tells z) other told.1, told_other) in
      stored set d told_other (gives s) s
  stored_behind (Err journal.Failed) old_live live told was gives stored current other device same = unchanged_stores live told was (same refl (λ e. cc))
  stored_behind (Err journal.Damaged) old_live live told was gives stored current other device same = unchanged_stores live told was (same refl (λ e. cc))
  stored_behind (Err journal.Full) old_live live told was gives stored current other device same = unchanged_stores live told was (same refl (λ e. cc))
  stored_behind (Err journal.Device) old_live live told was gives stored current other device same = let dead = (device refl).0 in absurd cc
  stored_behind (Err journal.Memory) old_live live told was gives stored current other device same = unchanged_stores live told was (same refl (λ e. cc))

module _ {E D T : Type 0} (valid : E → Type 0) (meaning : E → EngineMeaning) (heard : E → List (List ℕ)) (tells : D → Type 0) (seen : D → List ℕ) (may_leave : D → List ℕ → Type 0) (moment : D → ℕ) (left_since : D → ℕ → List ℕ → Type 0) (failed : D → ℕ)
    (counts_now : (disk : D) (t : ℕ) (c : List ℕ) → tells disk → t ≤ moment disk → may_leave disk c → left_since disk t c)
    (only_now : (disk : D) (c : List ℕ) → tells disk → left_since disk (moment disk) c → may_leave disk c) where
  pub compacting : (old new : Node E D) (answer : Result T JournalFault) → IsNode valid tells seen may_leave old → CompactionEnds meaning heard failed old answer new
      → ((journal_of old).live ≡ false → answer ≡ Err journal.Failed) → setting_of new ≡ setting_of old → TellsOn tells (journal_of old).other (written (journal_of old) (journal_of new)) → spared (journal_of old) (journal_of new) ≡ (journal_of old).current
      → (tells (journal_of old).other → Stores seen may_leave (journal_of old) (setting_of old) (durable_of old)
      → LeavesOnly moment left_since (journal_of old).other (written (journal_of old) (journal_of new)) (RestoresBeside (setting_of old) (seen (journal_of old).current) (durable_of old)))
      → (tells (journal_of old).other → LeavesReplaced seen may_leave moment left_since (journal_of old) (journal_of new) (snapshot_of (durable_of old)))
      → IsCompaction meaning heard tells seen may_leave moment left_since failed old answer new
  compacting old new answer is ends gone setting tells_on kept moments writes =
      record {
        ends = ends;
        failed_before = gone;
        setting = setting;
        tells_on = tells_on;
        kept = kept;
        any_moment = λ live told. moments told.1 (is.stored live told);
        left = λ live told.
            let s = is.stored live told in
            left_alike tells seen may_leave moment left_since counts_now (journal_of old) (journal_of new) (setting_of old) (durable_of old) (tells_on.tells_after told.1) kept s.holds.keeps.durable (moments told.1 s);
        writes = λ live told. writes told.1;
      }

  -- nothing is called
  pub nothing_done : (node : Node E D) (fault : JournalFault) → IsNode valid tells seen may_leave node → CompactionEnds {T = T} meaning heard failed node (Err fault) node
      → ((journal_of node).live ≡ false → fault ≡ journal.Failed) → IsCompaction {T = T} meaning heard tells seen may_leave moment left_since failed node (Err fault) node
  nothing_done node fault is ends gone =
      let j = journal_of node in
      let here = sym (written_stayed j j refl) in
      compacting node node (Err fault) is ends (λ dead. ap Err (gone dead)) refl (subst (λ (z : D). TellsOn tells j.other z) here (record { tells_after = λ t. t; told_before = λ t. t })) (spared_stayed j j refl)
      (λ told s. subst (λ (z : D). LeavesOnly moment left_since j.other z (RestoresBeside (setting_of node) (seen j.current) (durable_of node))) here
      (unmoved tells seen may_leave moment left_since only_now j (setting_of node) (durable_of node) told s))
      (unmoved_entries tells seen may_leave moment left_since only_now j (snapshot_of (durable_of node)))
