-- Steps of a group, one after the other.
use Rattle.std.proofs.Common.{◌≡◌, ◌⊎◌, inl, inr, ℕ, ◌+◌, ◌<◌, ◌≤◌, max, IsErrOf, length-append, false, map, length, List, [], ◌∷◌, ◌++◌, Option, Some, None, Result, Ok, Err, IsTrue, IfSome, Vec, Global, vec_items, refl, sym, ◌∙◌, ap, subst, arith}
use Rattle.sv_node.proofs.HistoryLemmas.{heard_join}
use Rattle.std.proofs.lemmas.Grind.{flat_map-append}
use Rattle.std.proofs.lemmas.List.{append_assoc, append-nil, map-append}
use Rattle.std.specs.List.{flat_map, AllByRecursion}
use Rattle.std.specs.Option.{option_to_list}
use Rattle.sv_core.specs.Decision.{told_held, outputs_held}
use Rattle.sv_core.specs.Core as core
use Rattle.sv_core.specs.declared.node.Core.{Core}
use Rattle.sv_core.specs.declared.decision.Held.{Held}
use Rattle.sv_journal.specs.Batch.{Stages, bytes_in, size_of}
use Rattle.sv_node.proofs.Prelude.{LeavesOnly, TellsOn, JournalView, JournalFault, Told, Input, Moment, Setting, Record, StepFault, Output, Decision, left}
use Rattle.sv_node.proofs.Prelude.{EngineMeaning, heard_all, decided, Durable, Node as State, Fits, applied_if, with_list, told, spelling, HasSpelling, Replays}
use Rattle.sv_node.proofs.Prelude.{CanFollow, Stores, RestoresEither, LeavesAdded}
use Rattle.sv_journal.specs.Format.{entry, IsPayload, OpensEither}
use Rattle.sv_journal.specs.declared.batch.Batch.{Batch}
use Rattle.sv_journal.specs.declared.limits.TheConstants.{FILE_LIMIT}
use Rattle.sv_journal.specs.declared.journal_fault.JournalFault.TheVariants as journal
use Rattle.sv_model.specs.declared.site.StepFault.TheVariants.{Failed, Full, Memory}
use Rattle.sv_model.specs.Journaled.{IsJournaled}
use Rattle.sv_node.specs.declared.node.Node.{Node}
use Rattle.sv_node.specs.Group.{Answer, IsAnswer, left_by, entries_by, events_by, behind, entries_of, events_of, Answered, outcomes, events_held, bytes_of, ReplaysMore, LacksRoom, StagesMore, TakesOne, TakesAll, FitsIn, GroupEnds, GroupWrites, IsGroup}
use Rattle.sv_node.specs.Node.{setting_of, durable_of, journal_of, IsTooLongAt, IsNode}
use Rattle.sv_node.proofs.RecordLemmas.{replays_more}
use Rattle.sv_node.proofs.StopLemmas.{still, still_entries, weaker, restored, left_behind}

pub nothing : {X : Type 0} (xs : List X) → length xs ≡ 0 → xs ≡ []
nothing [] none = refl
nothing (x ∷ xs) none = absurd (omega (arith, none))

-- a batch that is as it was
pub same_batch : (old new : Batch) → bytes_in new ≡ bytes_in old → StagesMore old new []
same_batch old new same = λ entries s. record {
  payloads = subst (λ l. AllByRecursion IsPayload l) (sym (append-nil entries)) s.payloads;
  bytes = same ∙ s.bytes ∙ ap (λ l. flat_map entry l ++ 0 ∷ []) (sym (append-nil entries));
}

pub same_records : (set : Setting) (old new : State) → new ≡ old → ReplaysMore set old new []
same_records set old new is = λ entries r. subst (λ (n : State). Replays set (entries ++ []) n.durable) (sym is) (subst (λ l. Replays set l old.durable) (sym (append-nil entries)) r)

-- a record, if there is one, that may stand after
replays_if : (set : Setting) (old new : State) (o : Option Record) → IfSome o (λ r. HasSpelling r) → CanFollow set old.durable o → new.durable ≡ applied_if o old.durable → ReplaysMore set old new (option_to_list o)
replays_if set old new None has fits gives = λ entries r. subst (λ (d : Durable). Replays set (entries ++ []) d) (sym gives) (subst (λ l. Replays set l old.durable) (sym (append-nil entries)) r)
replays_if set old new (Some e) has fits gives = λ entries r. subst (λ (d : Durable). Replays set (entries ++ spelling e ∷ []) d) (sym gives) (replays_more set entries old.durable e r has fits)

-- one step is taken
pub taken : {D : Type 0} (journal : JournalView D) (m : EngineMeaning) (set : Setting) (n new : State) (at : Moment) (input : Input) (e : Decision) (copied : Option Record) (held : Held) (old batch : Batch) → e ≡ decided m set n at input → copied ≡ e.entry → IsJournaled set n e
    → new ≡ left e → told_held held ≡ told e → outputs_held held ≡ e.outputs → StagesMore old batch (option_to_list copied) → IfSome copied (λ r. HasSpelling r) → TakesOne journal m set n at input (Ok held) old batch new
taken journal m set n new at input e copied held old batch is copy j node told_is outputs staged spelled =
    let entry_is = copy ∙ ap (λ (x : Decision). x.entry) is in
    let follows : CanFollow set n.durable copied = λ stage. subst (λ (o : Option Record). IfSome o (λ r. Fits set stage n.durable r)) (sym copy) (j.fits stage) in
    let gives : new.durable ≡ applied_if copied n.durable = ap (λ (x : State). x.durable) node ∙ j.gives ∙ ap (λ (o : Option Record). applied_if o n.durable) (sym copy) in
    record {
      answer = λ end here. outputs ∙ ap (λ (x : Decision). x.outputs) is;
      node = node ∙ ap left is;
      told = told_is ∙ ap told is;
      staged = subst (λ (o : Option Record). StagesMore old batch (option_to_list o)) entry_is staged;
      replays = subst (λ (o : Option Record). ReplaysMore set n new (option_to_list o)) entry_is (replays_if set n new copied spelled follows gives);
    }

-- one step is refused
pub refused : {D : Type 0} (journal : JournalView D) (m : EngineMeaning) (set : Setting) (n new : State) (at : Moment) (input : Input) (e : Decision) (copied : Option Record) (fault : StepFault) (old batch : Batch) → e ≡ decided m set n at input → copied ≡ e.entry
    → new ≡ n → bytes_in batch ≡ bytes_in old → (fault ≡ Full) ⊎ (fault ≡ Memory) → (fault ≡ Full → LacksRoom journal old copied) → TakesOne journal m set n at input (Err fault) old batch new
refused journal m set n new at input e copied fault old batch is copy node same (inl full_is) full =
    subst (λ (f : StepFault). TakesOne journal m set n at input (Err f) old batch new) (sym full_is) (record {
      answer = λ end here. subst (λ (o : Option Record). IsTooLongAt journal.len end o) (copy ∙ ap (λ (x : Decision). x.entry) is) (full full_is end here);
      node = node;
      told = refl;
      staged = same_batch old batch same;
      replays = same_records set n new node;
    })
refused journal m set n new at input e copied fault old batch is copy node same (inr memory_is) full =
    subst (λ (f : StepFault). TakesOne journal m set n at input (Err f) old batch new) (sym memory_is) (record {
      answer = λ end here. tt;
      node = node;
      told = refl;
      staged = same_batch old batch same;
      replays = same_records set n new node;
    })

-- what is after more records
bytes_join : (rs more : List Record) → bytes_of (rs ++ more) ≡ bytes_of rs + bytes_of more
bytes_join rs more =
    ap (λ (l : List (List ℕ)). length (flat_map entry l)) (map-append spelling rs more) ∙ ap length (flat_map-append entry (map spelling rs) (map spelling more))
    ∙ length-append (flat_map entry (map spelling rs)) (flat_map entry (map spelling more))

-- the size of a batch of these records
sized : (batch : Batch) (rs : List Record) → Stages batch (map spelling rs) → size_of batch ≡ bytes_of rs + 1
sized batch rs s = ap length s.bytes ∙ length-append (flat_map entry (map spelling rs)) (0 ∷ [])

-- one step is told
pub told_one : (m m_now : EngineMeaning) (start was now : List (List ℕ)) (h : Result Held StepFault) (todo is : List (Result Held StepFault)) → m_now ≡ m → todo ≡ h ∷ is → now ≡ heard_all m_now was (events_held h)
    → heard_all m was (flat_map events_held todo) ≡ start → heard_all m now (flat_map events_held is) ≡ start
told_one m m_now start was now h todo is same here now_is so_far =
    let rest = flat_map events_held is in
    ap (λ (x : List (List ℕ)). heard_all m x rest) (now_is ∙ ap (λ (e : EngineMeaning). heard_all e was (events_held h)) same)
    ∙ sym (heard_join m was (events_held h) rest) ∙ ap (λ (xs : List (Result Held StepFault)). heard_all m was (flat_map events_held xs)) (sym here) ∙ so_far

-- one step is answered
pub answered_one : (answers put : List (Result (Vec Output Global) StepFault)) (x : Result (Vec Output Global) StepFault) (h : Result Held StepFault) (todo is : List (Result Held StepFault)) (all : List Answer)
    → put ≡ answers ++ x ∷ [] → with_list vec_items x ≡ with_list outputs_held h → todo ≡ h ∷ is → map (with_list vec_items) answers ++ outcomes todo ≡ all → map (with_list vec_items) put ++ outcomes is ≡ all
answered_one answers put x h todo is all put_is same here so_far =
    let f : Result (Vec Output Global) StepFault → Answer = with_list vec_items in
    ap (λ (xs : List (Result (Vec Output Global) StepFault)). map f xs ++ outcomes is) put_is ∙ ap (λ (l : List Answer). l ++ outcomes is) (map-append f answers (x ∷ []))
    ∙ append_assoc (map f answers) (f x ∷ []) (outcomes is) ∙ ap (λ (y : Answer). map f answers ++ y ∷ outcomes is) same
    ∙ ap (λ (xs : List (Result Held StepFault)). map f answers ++ outcomes xs) (sym here) ∙ so_far

module _ {D : Type 0} (journal : JournalView D) (m : EngineMeaning) (set : Setting) (first : State) (all : List (Moment × Input)) where
  -- these answers lead from the first node to this one, where so many inputs are still to be taken
  pub record Leads (so_far : List Answer) (rs : List Record) (ts : List Told) (n : State) (todo : List (Moment × Input)) : Type 0 where
    pub node : (rest : List Answer) → behind m set first all (so_far ++ rest) ≡ behind m set n todo rest
    pub entries : (rest : List Answer) → entries_of m set first all (so_far ++ rest) ≡ rs ++ entries_of m set n todo rest
    pub events : (rest : List Answer) → events_of m set first all (so_far ++ rest) ≡ ts ++ events_of m set n todo rest
    pub answers : (rest : List Answer) → Answered m set journal.len (journal.end + bytes_of rs) n todo rest → Answered m set journal.len journal.end first all (so_far ++ rest)

  leads_on : (so_far : List Answer) (rs : List Record) (ts : List Told) (n new : State) (todo is : List (Moment × Input)) (i : Moment × Input) (a : Answer) → Leads so_far rs ts n todo → todo ≡ i ∷ is
      → IsAnswer journal.len (journal.end + bytes_of rs) (decided m set n i.0 i.1) a → new ≡ left_by n (decided m set n i.0 i.1) a
      → Leads (so_far ++ a ∷ []) (rs ++ entries_by (decided m set n i.0 i.1) a) (ts ++ events_by (decided m set n i.0 i.1) a) new is
  leads_on so_far rs ts n new todo is i a l here right new_is =
      let d = decided m set n i.0 i.1 in
      let next = left_by n d a in
      record {
        node = λ rest. ap (λ (xs : List Answer). behind m set first all xs) (append_assoc so_far (a ∷ []) rest) ∙ l.node (a ∷ rest) ∙ ap (λ (xs : List (Moment × Input)). behind m set n xs (a ∷ rest)) here ∙ ap (λ (x : State). behind m set x is rest) (sym new_is);
        entries = λ rest. ap (λ (xs : List Answer). entries_of m set first all xs) (append_assoc so_far (a ∷ []) rest) ∙ l.entries (a ∷ rest) ∙ ap (λ (xs : List (Moment × Input)). rs ++ entries_of m set n xs (a ∷ rest)) here
            ∙ sym (append_assoc rs (entries_by d a) (entries_of m set next is rest)) ∙ ap (λ (x : State). (rs ++ entries_by d a) ++ entries_of m set x is rest) (sym new_is);
        events = λ rest. ap (λ (xs : List Answer). events_of m set first all xs) (append_assoc so_far (a ∷ []) rest) ∙ l.events (a ∷ rest) ∙ ap (λ (xs : List (Moment × Input)). ts ++ events_of m set n xs (a ∷ rest)) here
            ∙ sym (append_assoc ts (events_by d a) (events_of m set next is rest)) ∙ ap (λ (x : State). (ts ++ events_by d a) ++ events_of m set x is rest) (sym new_is);
        answers = λ rest more.
            let end : ℕ = journal.end + bytes_of (rs ++ entries_by d a) in
            let same : end ≡ journal.end + bytes_of rs + bytes_of (entries_by d a) = omega (arith, bytes_join rs (entries_by d a)) in
            subst (λ (xs : List Answer). Answered m set journal.len journal.end first all xs) (sym (append_assoc so_far (a ∷ []) rest))
            (l.answers (a ∷ rest) (subst (λ (xs : List (Moment × Input)). Answered m set journal.len (journal.end + bytes_of rs) n xs (a ∷ rest)) (sym here)
            (right, subst (λ (e : ℕ). Answered m set journal.len e next is rest) same (subst (λ (x : State). Answered m set journal.len end x is rest) new_is more))));
      }

  -- a group that is being taken
  pub record Taking (held : List (Result Held StepFault)) (batch : Batch) (n : State) (todo : List (Moment × Input)) : Type 0 where
    pub entries : List Record
    pub leads : Leads (outcomes held) entries (flat_map events_held held) n todo
    pub staged : Stages batch (map spelling entries)
    pub replays : ReplaysMore set first n entries

  pub begun : (held : List (Result Held StepFault)) (batch : Batch) → held ≡ [] → Stages batch [] → Taking held batch first all
  begun held batch none staged = subst (λ (xs : List (Result Held StepFault)). Taking xs batch first all) (sym none) (record {
    entries = [];
    leads = record { node = λ rest. refl; entries = λ rest. refl; events = λ rest. refl; answers = λ rest a. subst (λ (e : ℕ). Answered m set journal.len e first all rest) (omega arith) a };
    staged = staged;
    replays = same_records set first first refl;
  })

  pub goes_on : (held : List (Result Held StepFault)) (h : Result Held StepFault) (old batch : Batch) (n new : State) (todo is : List (Moment × Input)) (i : Moment × Input) → Taking held old n todo → todo ≡ i ∷ is
      → TakesOne journal m set n i.0 i.1 h old batch new → Taking (held ++ h ∷ []) batch new is
  goes_on held h old batch n new todo is i t here one =
      let a = with_list outputs_held h in
      let d = decided m set n i.0 i.1 in
      let more = entries_by d a in
      let ts = flat_map events_held held in
      let both : map spelling (t.entries ++ more) ≡ map spelling t.entries ++ map spelling more = map-append spelling t.entries more in
      let events : ts ++ events_by d a ≡ flat_map events_held (held ++ h ∷ []) = ap (λ (l : List Told). ts ++ l) (sym (append-nil (events_held h) ∙ one.told)) ∙ sym (flat_map-append events_held held (h ∷ [])) in
      record {
        entries = t.entries ++ more;
        leads = subst (λ (xs : List Answer). Leads xs (t.entries ++ more) (flat_map events_held (held ++ h ∷ [])) new is) (sym (map-append (with_list outputs_held) held (h ∷ [])))
            (subst (λ (l : List Told). Leads (outcomes held ++ a ∷ []) (t.entries ++ more) l new is) events
            (leads_on (outcomes held) t.entries ts n new todo is i a t.leads here (one.answer (journal.end + bytes_of t.entries) (omega (arith, sized old t.entries t.staged))) one.node));
        staged = subst (λ (l : List (List ℕ)). Stages batch l) (sym both) (one.staged (map spelling t.entries) t.staged);
        replays = λ entries r. subst (λ (l : List (List ℕ)). Replays set l new.durable) (append_assoc entries (map spelling t.entries) (map spelling more) ∙ ap (λ (l : List (List ℕ)). entries ++ l) (sym both))
            (one.replays (entries ++ map spelling t.entries) (t.replays entries r));
      }

  -- the same, from what the code knows
  pub goes_on_by : (m_now : EngineMeaning) (set_now : Setting) (held put : List (Result Held StepFault)) (h : Result Held StepFault) (old batch : Batch) (n new : State) (todo is : List (Moment × Input)) (i : Moment × Input)
      → m_now ≡ m → set_now ≡ set → put ≡ held ++ h ∷ [] → Taking held old n todo → todo ≡ i ∷ is → TakesOne journal m_now set_now n i.0 i.1 h old batch new → Taking put batch new is
  goes_on_by m_now set_now held put h old batch n new todo is i m_is set_is put_is t here one =
      subst (λ (xs : List (Result Held StepFault)). Taking xs batch new is) (sym put_is)
      (goes_on held h old batch n new todo is i t here
      (subst (λ (e : EngineMeaning). TakesOne journal e set n i.0 i.1 h old batch new) m_is (subst (λ (x : Setting). TakesOne journal m_now x n i.0 i.1 h old batch new) set_is one)))

  pub ended : (held : List (Result Held StepFault)) (batch : Batch) (n : State) (todo : List (Moment × Input)) → Taking held batch n todo → todo ≡ [] → TakesAll journal m set first all held batch n
  ended held batch n todo t none =
      let found = outcomes held in
      let l = t.leads in
      let whole : found ++ [] ≡ found = append-nil found in
      let entries_are : entries_of m set first all found ≡ t.entries =
      ap (λ (xs : List Answer). entries_of m set first all xs) (sym whole) ∙ l.entries [] ∙ ap (λ (xs : List (Moment × Input)). t.entries ++ entries_of m set n xs []) none ∙ append-nil t.entries in
      record {
        answers = subst (λ (xs : List Answer). Answered m set journal.len journal.end first all xs) whole (l.answers [] (subst (λ (xs : List (Moment × Input)). Answered m set journal.len (journal.end + bytes_of t.entries) n xs []) (sym none) tt));
        node = sym (ap (λ (xs : List Answer). behind m set first all xs) (sym whole) ∙ l.node [] ∙ ap (λ (xs : List (Moment × Input)). behind m set n xs []) none);
        told = sym (ap (λ (xs : List Answer). events_of m set first all xs) (sym whole) ∙ l.events [] ∙ ap (λ (xs : List (Moment × Input)). flat_map events_held held ++ events_of m set n xs []) none ∙ append-nil (flat_map events_held held));
        staged = subst (λ (rs : List Record). Stages batch (map spelling rs)) (sym entries_are) t.staged;
        replays = λ entries r. subst (λ (rs : List Record). Replays set (entries ++ map spelling rs) n.durable) (sym entries_are) (t.replays entries r);
      }

-- ---- the disks

module _ {E D : Type 0} (valid : E → Type 0) (meaning : E → EngineMeaning) (heard : E → List (List ℕ)) (tells : D → Type 0) (seen : D → List ℕ) (may_leave : D → List ℕ → Type 0) (moment : D → ℕ) (left_since : D → ℕ → List ℕ → Type 0) (failed : D → ℕ)
    (counts_now : (disk : D) (t : ℕ) (c : List ℕ) → tells disk → t ≤ moment disk → may_leave disk c → left_since disk t c) where
  -- the journal's part of a group
  pub grouping : (old new : Node E D) (inputs : List (Moment × Input)) (answer : Result (List Answer) StepFault) → IsNode valid tells seen may_leave old
      → GroupEnds meaning heard failed old inputs answer new → ((journal_of old).live ≡ false → answer ≡ Err Failed) → setting_of new ≡ setting_of old → TellsOn tells (journal_of old).current (journal_of new).current
      → (journal_of new).other ≡ (journal_of old).other → (journal_of new).on_a ≡ (journal_of old).on_a
      → (tells (journal_of old).current → Stores seen may_leave (journal_of old) (setting_of old) (durable_of old)
      → LeavesOnly moment left_since (journal_of old).current (journal_of new).current (RestoresEither (setting_of old) (seen (journal_of old).other) (durable_of old) (durable_of new)))
      → (tells (journal_of old).current → GroupWrites meaning old inputs answer new (λ records. LeavesAdded seen may_leave moment left_since (journal_of old) (journal_of new) records)) → (journal_of new).generation ≡ (journal_of old).generation
      → IsGroup meaning heard tells seen may_leave moment left_since failed old inputs answer new
  grouping old new inputs answer is ends gone setting tells_on other on_a moments writes generation =
      record {
        ends = ends;
        failed_before = gone;
        setting = setting;
        tells_on = tells_on;
        other = other;
        on_a = on_a;
        any_moment = λ live told. moments told.0 (is.stored live told);
        left = λ live told.
            let s = is.stored live told in
            left_behind tells seen may_leave moment left_since counts_now (journal_of old) (journal_of new) (setting_of old) (durable_of old) (durable_of new) (tells_on.tells_after told.0) other s.holds.other_durable (moments told.0 s);
        writes = λ live told. writes told.0;
        generation = generation;
      }

  -- a group is added
  pub adding_all : (journal : JournalView D) (set : Setting) (first n : State) (rs : List Record) (new : D) → (s : Stores seen may_leave journal set first.durable) → ReplaysMore set first n rs
      → LeavesOnly moment left_since journal.current new (OpensEither (seen journal.other) s.entries (s.entries ++ map spelling rs))
      → LeavesOnly moment left_since journal.current new (RestoresEither set (seen journal.other) first.durable n.durable)
  adding_all journal set first n rs new s more l =
      weaker tells seen may_leave moment left_since journal.current new (OpensEither (seen journal.other) s.entries (s.entries ++ map spelling rs)) (RestoresEither set (seen journal.other) first.durable n.durable)
      (restored set (seen journal.other) s.entries (s.entries ++ map spelling rs) first.durable n.durable s.replays (more s.entries s.replays)) l

  -- nothing is taken
  pub untouched : ((disk : D) (c : List ℕ) → tells disk → left_since disk (moment disk) c → may_leave disk c)
      → (old new : Node E D) (inputs : List (Moment × Input)) → IsNode valid tells seen may_leave old → IsTrue (journal_of old).live → new.core ≡ old.core → journal_of new ≡ journal_of old
      → IsGroup meaning heard tells seen may_leave moment left_since failed old inputs (Err Memory) new
  untouched only_now old new inputs is live core_is same =
      grouping old new inputs (Err Memory) is (record { view = ap (λ (x : Core E). core.view_of meaning heard x) core_is; journal = same }) (λ dead. absurd cc) (ap (λ (x : Core E). core.setting_of x) core_is)
      (record { tells_after = subst (λ (j : JournalView D). tells (journal_of old).current → tells j.current) (sym same) (λ t. t); told_before = subst (λ (j : JournalView D). tells j.current → tells (journal_of old).current) (sym same) (λ t. t) })
      (ap (λ (j : JournalView D). j.other) same) (ap (λ (j : JournalView D). j.on_a) same)
      (λ told s. subst (λ (j : JournalView D). LeavesOnly moment left_since (journal_of old).current j.current (RestoresEither (setting_of old) (seen (journal_of old).other) (durable_of old) (durable_of new))) (sym same)
      (still tells seen may_leave moment left_since only_now (journal_of old) (setting_of old) (durable_of old) (durable_of new) told s))
      (λ told. subst (λ (j : JournalView D). LeavesAdded seen may_leave moment left_since (journal_of old) j []) (sym same) (still_entries tells seen may_leave moment left_since only_now (journal_of old) [] told))
      (ap (λ (j : JournalView D). j.generation) same)

-- the fault of a journal that is live and has room, when nothing takes memory
pub device_alone : {T : Type 0} (fault : JournalFault) → (¬ (IsErrOf {T = T} (Err fault) journal.Failed)) → (¬ (IsErrOf {T = T} (Err fault) journal.Full)) → (¬ (IsErrOf {T = T} (Err fault) journal.Damaged))
    → (¬ (IsErrOf {T = T} (Err fault) journal.Memory)) → fault ≡ journal.Device
device_alone journal.Failed a b c d = absurd (a refl)
device_alone journal.Damaged a b c d = absurd (c refl)
device_alone journal.Full a b c d = absurd (b refl)
device_alone journal.Device a b c d = refl
device_alone journal.Memory a b c d = absurd (d refl)

pub has_room : {D : Type 0} (j : JournalView D) (batch : Batch) → FitsIn j batch → 1 < size_of batch → FILE_LIMIT < max j.len (j.end + size_of batch) → ⊥
has_room j batch (inl none) some long = omega (arith, none, some)
has_room j batch (inr fits) some long = omega (arith, fits, long)

pub grown : (batch : Batch) (rs : List Record) (before after : ℕ) → Stages batch (map spelling rs) → after + 1 ≡ before + size_of batch → after ≡ before + bytes_of rs
grown batch rs before after s is = omega (arith, is, sized batch rs s)
