-- A node in code, before a task and after it.
use Rattle.sv_world.proofs.Prelude.{◌≡◌, ◌++◌, ℕ, true, false, cond, Bool, Option, Some, None, OnOk, List, refl, sym, ap, ◌∙◌, subst, option_map}
use Rattle.sv_world.proofs.Prelude.{option_to_list, IfSome, is_some, is_none, Commit, Input, Moment, Setting, Blank, Record, Decision, left, EngineMeaning}
use Rattle.sv_world.proofs.Prelude.{heard_all, IsJournaled, Durable, Node, decided, blank, replayed, applied_if, AllFit, Core, Effect, Slot, row_at, MayFollow}
use Rattle.sv_world.proofs.Prelude.{Done, deed, told_by, heading_by, halted, quiet_at, IsSlot, HasDone, RunsOver, member_by, member_of, durable_of, engine_by}
use Rattle.sv_world.proofs.Prelude.{engine_in, Member, stopped, commit_with}
use Rattle.std.proofs.Common.{◌&&◌, Result, Ok, Err, IfOk}
use Rattle.sv_core.specs.Core as core
use Rattle.sv_world.specs.declared.line.Heading.{Heading}
use Rattle.sv_world.specs.declared.core_torn.Rest.{Rest}
use Rattle.sv_world.specs.declared.task.Task.TheVariants.{Step, Torn, Silent}
use Rattle.sv_world.specs.CoreStep.{rest_of, IsCarriedOut, IsSilenced, halted_with}
use Rattle.sv_world.specs.Deed.{torn_by, whole_at}
use Rattle.sv_world.specs.Slot.{meaning_in}
use Rattle.sv_world.proofs.CoreStepLemmas.{fits_more, replayed_more}

pub ok_both : {A B J : Type 0} {P Q : A → Type 0} (r : Result A B) → ((x : A) → P x → J → Q x) → IfOk r P → OnOk r J → IfOk r Q
ok_both (Ok x) f p j = f x p j
ok_both (Err e) f p j = tt

module _ {E : Type 0} (s : Slot E) (c : Core E) (is : s.core ≡ Some c) where
  pub runs_at : member_of s ≡ record { up = true; node = core.node_at c }
  runs_at = ap (λ o. member_by o (durable_of s)) is

  pub engine_at : engine_in s ≡ Some (core.engine_of c)
  engine_at = ap (λ o. engine_by o s.idle) is

  pub setting_at : (valid : E → Type 0) → IsSlot valid s → core.setting_of c ≡ s.setting
  setting_at valid slot = (subst (λ o. IfSome o (λ x. RunsOver s.setting (durable_of s) x)) is slot.runs).setting

some_is : {A : Type 0} (x y : A) → Some x ≡ Some y → x ≡ y
some_is x y h = cc

module _ {E : Type 0} (meaning : E → EngineMeaning) (noted : E → List (List ℕ)) (old : Slot E) (c : Core E) (is : old.core ≡ Some c) (set : core.setting_of c ≡ old.setting) where
  -- the row of the table, as the world says it
  pub row_is : (m : EngineMeaning) → meaning_in meaning old ≡ Some m → (moment : Moment) (input : Input) → row_at (meaning (core.engine_of c)) (core.setting_of c) (core.node_at c) moment input ≡ decided m old.setting (member_of old).node moment input
  unfolding row_at
  row_is m means moment input =
      let means_now : meaning (core.engine_of c) ≡ m = some_is _ _ (sym (ap (option_map meaning) (engine_at old c is)) ∙ means) in
      let node : core.node_at c ≡ (member_of old).node = sym (ap (λ (p : Member). p.node) (runs_at old c is)) in
      λ i. decided (means_now i) (set i) (node i) moment input

  pub step_done : (new : Slot E) (b : Core E) → new.core ≡ Some b → (moment : Moment) (input : Input) (h : Heading) (f : Effect) → h ≡ heading_by old.setting (member_of old).node.durable input
      → IsCarriedOut (meaning (core.engine_of c)) (row_at (meaning (core.engine_of c)) (core.setting_of c) (core.node_at c) moment input) h (noted (core.engine_of c)) (noted (core.engine_of b)) (core.node_at b) f
      → (m : EngineMeaning) → meaning_in meaning old ≡ Some m → HasDone noted m old new (Step moment input) f
  step_done new b now moment input h f h_is a m means =
      let row : row_at (meaning (core.engine_of c)) (core.setting_of c) (core.node_at c) moment input ≡ decided m old.setting (member_of old).node moment input = row_is m means moment input in
      let means_now : meaning (core.engine_of c) ≡ m = some_is _ _ (sym (ap (option_map meaning) (engine_at old c is)) ∙ means) in
      record {
        member = runs_at new b now ∙ ap (λ (n : Node). record { up = true; node = n }) (a.node ∙ ap left row);
        effect = a.effect ∙ (λ i. whole_at (h_is i) (row i));
        heard = ap (option_map noted) (engine_at new b now) ∙ ap Some (a.heard ∙ (λ i. heard_all (means_now i) (noted (core.engine_of c)) (ap told_by (sym a.effect) i))) ∙ ap (λ o. option_map (λ x. heard_all m x (told_by f)) (option_map noted o)) (sym (engine_at old c is));
      }

  pub silent_done : (new : Slot E) (b : Core E) → new.core ≡ Some b → (moment : Moment) (input : Input) (h : Heading) (f : Effect) → h ≡ heading_by old.setting (member_of old).node.durable input → noted (core.engine_of b) ≡ noted (core.engine_of c)
      → IsSilenced (row_at (meaning (core.engine_of c)) (core.setting_of c) (core.node_at c) moment input) h (core.node_at b) f
      → (m : EngineMeaning) → meaning_in meaning old ≡ Some m → HasDone noted m old new (Silent moment input) f
  silent_done new b now moment input h f h_is still a m means =
      let row : row_at (meaning (core.engine_of c)) (core.setting_of c) (core.node_at c) moment input ≡ decided m old.setting (member_of old).node moment input = row_is m means moment input in
      record {
        member = runs_at new b now ∙ ap (λ (n : Node). record { up = true; node = n }) (a.node ∙ ap left row);
        effect = a.effect ∙ (λ i. quiet_at (h_is i) (row i).entry (commit_with (row i).entry (row i).commit));
        heard = ap (option_map noted) (engine_at new b now) ∙ ap Some (still ∙ ap (heard_all m (noted (core.engine_of c))) (ap told_by (sym a.effect))) ∙ ap (λ o. option_map (λ x. heard_all m x (told_by f)) (option_map noted o)) (sym (engine_at old c is));
      }

-- ---- a torn step

abbrev rest_with : Bool → Option Record → Option Commit → Rest
rest_with b entry commit = cond b (record { kept = entry; entry = entry; commit = commit }) (record { kept = None; entry = None; commit = None })

kept_follows : (b : Bool) (set : Setting) (d : Durable) (o : Option Record) (commit : Option Commit) → MayFollow set d o → MayFollow set d (rest_with b o commit).kept
kept_follows true set d o commit f = f
kept_follows false set d o commit f = λ stage. tt

abbrev torn_at : Heading → Decision → Done
torn_at h d = record { member = stopped d.durable; effect = quiet_at h d.entry d.commit }

torn_if : (b : Bool) (h : Heading) (old : Durable) (d : Decision) → d.durable ≡ applied_if d.entry old → cond b (torn_at h d) (halted h old) ≡ halted_with h old (rest_with b d.entry d.commit)
torn_if true h old d gives = λ i. record { member = stopped (gives i); effect = quiet_at h d.entry d.commit }
torn_if false h old d gives = refl

-- what a stop leaves of it is what the task leaves
torn_is : (h : Heading) (old : Durable) (kept : Bool) (d : Decision) → d.durable ≡ applied_if d.entry old → torn_by h old kept d ≡ halted_with h old (rest_of kept d)
torn_is h old kept d gives = torn_if (kept && is_some d.entry) h old d gives

module _ {E : Type 0} (meaning : E → EngineMeaning) (old : Slot E) (c : Core E) (is : old.core ≡ Some c) (set : core.setting_of c ≡ old.setting) (kept : Bool) (row : Decision) (j : IsJournaled (core.setting_of c) (core.node_at c) row) (r : Rest) (rest : r ≡ rest_of kept row) where
  pub rest_follows : MayFollow old.setting (member_of old).node.durable r.kept
  rest_follows =
      subst (λ s. MayFollow s (member_of old).node.durable r.kept) set (subst (λ (p : Member). MayFollow (core.setting_of c) p.node.durable r.kept) (sym (runs_at old c is))
      (subst (λ (x : Rest). MayFollow (core.setting_of c) (core.durable_at c) x.kept) (sym rest) (kept_follows (kept && is_some row.entry) (core.setting_of c) (core.durable_at c) row.entry row.commit j.fits)))

  pub rest_is : (m : EngineMeaning) (moment : Moment) (input : Input) → row ≡ decided m old.setting (member_of old).node moment input → deed m old.setting (member_of old) (Torn moment input kept) ≡ halted_with (heading_by old.setting (member_of old).node.durable input) (member_of old).node.durable r
  rest_is m moment input is_row =
      let h = heading_by old.setting (member_of old).node.durable input in
      let d = (member_of old).node.durable in
      sym (ap (torn_by h d kept) is_row) ∙ torn_is h d kept row (j.gives ∙ ap (λ (p : Member). applied_if row.entry p.node.durable) (sym (runs_at old c is))) ∙ ap (halted_with h d) (sym rest)

pub none_by : {E : Type 0} (o : Option (Core E)) (d : Durable) → (member_by o d).up ≡ false → o ≡ None
none_by None d down = refl
none_by (Some c) d down = absurd (cc)

-- ---- a stopped node with one record more

module _ {E : Type 0} (old new : Slot E) (o : Option Record) (down : (member_of old).up ≡ false) (core_is : new.core ≡ old.core) (more : new.journal.items ≡ old.journal.items ++ option_to_list o) where
  none : old.core ≡ None
  none = none_by old.core (durable_of old) down

  durable_is : (member_of old).node.durable ≡ durable_of old
  durable_is = ap (λ x. (member_by x (durable_of old)).node.durable) none

  pub left_slot : (valid : E → Type 0) → IsSlot valid old → new.setting ≡ old.setting → new.idle ≡ old.idle → MayFollow old.setting (member_of old).node.durable o → IsSlot valid new
  left_slot valid slot set idle follows = record {
    engine = subst (λ x. IfSome x valid) (sym (λ i. engine_by (core_is i) (idle i))) slot.engine;
    fit = subst (λ x. AllFit x Blank blank new.journal.items) (sym set) (subst (AllFit old.setting Blank blank) (sym more)
        (fits_more old.setting Blank blank old.journal.items o slot.fit (subst (λ d. MayFollow old.setting d o) durable_is follows)));
    runs = subst (λ x. IfSome x (λ c. RunsOver new.setting (durable_of new) c)) (sym (core_is ∙ none)) tt;
    either = ap is_some idle ∙ slot.either ∙ ap is_none (sym core_is);
  }

  pub left_member : member_of new ≡ stopped (applied_if o (member_of old).node.durable)
  left_member =
      ap (λ x. member_by x (durable_of new)) (core_is ∙ none) ∙ ap stopped (ap (replayed blank) more ∙ replayed_more blank old.journal.items o ∙ ap (applied_if o) (sym durable_is))
