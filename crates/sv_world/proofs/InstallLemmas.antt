-- A stopped node gets something else, before it and after it.
use Rattle.sv_world.proofs.Prelude.{◌≡◌, ◌≢◌, ℕ, ◌<◌, ◌≤◌, ◌==◌, Bool, true, false, cond, get_or, Option, Some, None, List, arith, refl, sym, ap, ◌∙◌, subst}
use Rattle.sv_world.proofs.Prelude.{⊎_elim, eq-eqb, IfSome, slice_get, nat_lt, is_some, is_none, Result, Ok, Err, OnErr, IfErr, and_parts, cond_both, cases_eq}
use Rattle.sv_world.proofs.Prelude.{cases_lt, eqb-true, ne_eqb, lt-ltb, le-ltb, lt-leb, le-leb, slice_get_cases, Setting, Blank, Meanings, EngineMeaning}
use Rattle.sv_world.proofs.Prelude.{TouchesOnlyHanded, AllFit, blank, InstallFault, Rules, Slot, setting_by, IsSlot, RunsOver, member_of, engine_in, engine_by}
use Rattle.sv_world.proofs.Prelude.{durable_of, boot_if_up, Cluster, Member, World, setting_of, run, nothing_happened, rules_in, member_in, settings_by}
use Rattle.sv_world.proofs.Prelude.{world_of, size_of, cluster_of, meanings_of, IsSet, AreSet, events_in, since, Ran, fault_by, AreInstalled}
use Rattle.std.proofs.Common.{◌+◌, ◌&&◌, length}
use Rattle.std.specs.Prelude.{OnOk}
use Rattle.sv_world.specs.declared.installing.InstallFault.TheVariants.{NoNode, NotTold, Running}
use Rattle.sv_world.specs.declared.world.World.{World as Nodes}
use Rattle.sv_world.specs.Planned.{changed_behind, meanings_behind, cluster_behind, last_of, fault_in, IsCause}
use Rattle.sv_world.proofs.PlanLemmas.{Same, AreThere, there_by, run_so_far}
use Rattle.sv_world.proofs.SlotLemmas.{none_by}

-- ---- one node

module _ {E : Type 0} (old new : Slot E) (down : (member_of old).up ≡ false) (core : new.core ≡ old.core) (journal : new.journal.items ≡ old.journal.items) where
  none : old.core ≡ None
  none = none_by old.core (durable_of old) down

  pub set_slot : (valid : E → Type 0) (engine : E) → valid engine → new.idle ≡ Some engine → AllFit new.setting Blank blank old.journal.items → IsSlot valid new
  set_slot valid engine is idle fit = record {
    engine = subst (λ (o : Option E). IfSome o valid) (sym (ap (λ c. engine_by c new.idle) (core ∙ none) ∙ idle)) is;
    fit = subst (AllFit new.setting Blank blank) (sym journal) fit;
    runs = subst (λ x. IfSome x (λ c. RunsOver new.setting (durable_of new) c)) (sym (core ∙ none)) tt;
    either = ap is_some idle ∙ sym (ap is_none (core ∙ none));
  }

  pub set_engine : (engine : E) → new.idle ≡ Some engine → engine_in new ≡ Some engine
  set_engine engine idle = ap (λ c. engine_by c new.idle) (core ∙ none) ∙ idle

-- ---- no fault

running_by : (p : Member) → fault_in (boot_if_up p) ≡ None → p.up ≡ false
running_by p none = by p.up refl none
  where
    by : (b : Bool) → p.up ≡ b → fault_in (cond b (Some p.node.durable.boot) None) ≡ None → b ≡ false
    by true is h = absurd (let no : Some Running ≡ None = h in cc)
    by false is h = refl

module _ {E : Type 0} where
  pub ready_by : (n nodes : ℕ) (o : Option (Slot E)) → fault_by n nodes o ≡ None → (n < nodes) × ((member_in o).up ≡ false)
  ready_by n nodes None h = absurd (let no : Some NoNode ≡ None = h in cc)
  ready_by n nodes (Some s) h =
      let by : Bool → Option InstallFault = λ b. cond b (Some NotTold) (fault_in (boot_if_up (member_of s))) in
      ⊎_elim
      (λ (less : n < nodes). (less, running_by (member_of s) (sym (ap by (lt-leb nodes n less)) ∙ h)))
      (λ (past : nodes ≤ n). absurd (let no : Some NotTold ≡ None = sym (ap by (le-leb nodes n past)) ∙ h in cc))
      (cases_lt n nodes)

  pub there_by_fault : (n nodes : ℕ) (slots : List (Slot E)) → fault_by n nodes (slice_get slots n) ≡ None → n < length slots
  there_by_fault n nodes slots h = ⊎_elim
      (λ (found : (s : Slot E) × (n < length slots) × (slice_get slots n ≡ Some s) × (get_or slots n s ≡ s)). found.1)
      (λ (past : (length slots ≤ n) × (slice_get slots n ≡ None)). absurd (let no : Some NoNode ≡ None = sym (ap (fault_by n nodes) past.1) ∙ h in cc))
      (slice_get_cases slots n).1

-- ---- the plan after a start

by_number : {A : Type 0} (P : A → Type 0) (x n : ℕ) (a b : A) → (x ≡ n → P a) → (x ≢ n → P b) → P (cond (x == n) a b)
by_number P x n a b here there = ⊎_elim
    (λ (e : x ≡ n). subst (λ t. P (cond t a b)) (sym (eq-eqb x n e)) (here e))
    (λ (e : x ≢ n). subst (λ t. P (cond t a b)) (sym (ne_eqb x n e)) (there e))
    (cases_eq x n)

module _ {A : Type 0} (n last : ℕ) (v : A) (plan : ℕ → ℕ → A) (x boot : ℕ) where
  pub as_before : (x ≡ n → boot ≤ last) → changed_behind n last v plan x boot ≡ plan x boot
  as_before upto = ⊎_elim
      (λ (e : x ≡ n). λ i. cond (eq-eqb x n e i && le-ltb last boot (upto e) i) v (plan x boot))
      (λ (e : x ≢ n). λ i. cond (ne_eqb x n e i && nat_lt last boot) v (plan x boot))
      (cases_eq x n)

  pub as_now : x ≡ n → last < boot → changed_behind n last v plan x boot ≡ v
  as_now e less = λ i. cond (eq-eqb x n e i && lt-ltb last boot less i) v (plan x boot)

  pub one_of : (P : A → Type 0) → (x ≡ n → P v) → P (plan x boot) → P (changed_behind n last v plan x boot)
  one_of P now before = cond_both (x == n && nat_lt last boot) v (plan x boot) P (λ t. now (eqb-true x n (and_parts (x == n) (nat_lt last boot) t).0)) (λ _. before)

-- ---- a world

module _ {E : Type 0} (meaning : E → EngineMeaning) (noted : E → List (List ℕ)) (old new : Nodes E) (n nodes : ℕ) (rules : Rules) (engine : E) (size : size_of new ≡ size_of old) (there : n < size_of old) (less : n < nodes)
    (world : world_of new ≡ world_of old) (installed : AreInstalled meaning noted (setting_by rules n nodes) engine old.slots.items new.slots.items) where
  abbrev given : Setting
  given = setting_by rules n nodes

  pub all_set : AreSet old.slots.items → AreSet new.slots.items
  all_set set x inside = subst (IsSet x) (sym (installed.settings x))
      (by_number (IsSet x) x n given (settings_by old.slots.items x) (λ e. record { own = sym e; told = omega (arith, e, less) }) (λ _. set x (omega (arith, size, inside))))

  module _ (down : ((world_of old).members n).up ≡ false) (touches : TouchesOnlyHanded (meaning engine)) (m : Meanings) (c : Cluster) (r : Ran meaning m c old) where
    abbrev last : ℕ
    last = last_of old n

    abbrev m' : Meanings
    m' = meanings_behind n last (meaning engine) m

    abbrev c' : Cluster
    c' = cluster_behind n last nodes rules c

    next : since (world_of old) n ≡ last + 1
    next = ap (λ b. cond b last (last + 1)) down

    -- what counts of the new plan is what the old one says of the starts that were made
    same_before : (x boot : ℕ) → (x ≡ n → boot ≤ last) → Same m m' c c' x boot
    same_before x boot upto = record {
      meaning = sym (as_before n last (meaning engine) m x boot upto);
      setting = λ i. setting_by (sym (as_before n last rules c.rules x boot upto) i) x (sym (as_before n last nodes c.nodes x boot upto) i);
    }

    both_there : AreThere c c'
    both_there x boot = there_by x (c.nodes x boot) (c'.nodes x boot)
        (λ told. one_of n last nodes c.nodes x boot (λ k. x < k) (λ e. omega (arith, e, less)) told)
        (λ told. ⊎_elim
        (λ (e : x ≡ n). r.plan.inside x boot (omega (arith, e, there)))
        (λ (e : x ≢ n). subst (λ k. x < k) (as_before n last nodes c.nodes x boot (λ same. absurd (e same))) told)
        (cases_eq x n))

    now_since : (x boot : ℕ) → since (world_of new) x ≤ boot → since (world_of old) x ≤ boot
    now_since x boot le = subst (λ (w : World). since w x ≤ boot) world le

    meanings_now : (x boot : ℕ) → x < size_of old → since (world_of old) x ≤ boot → cond (x == n) (Some (meaning engine)) (meanings_of meaning old x) ≡ Some (m' x boot)
    meanings_now x boot inside le = by_number (λ o. o ≡ Some (m' x boot)) x n (Some (meaning engine)) (meanings_of meaning old x)
        (λ e. ap Some (sym (as_now n last (meaning engine) m x boot e (let more : since (world_of old) n ≤ boot = subst (λ y. since (world_of old) y ≤ boot) e le in omega (arith, more, next)))))
        (λ e. r.plan.meanings x boot inside le ∙ ap Some (sym (as_before n last (meaning engine) m x boot (λ same. absurd (e same)))))

    settings_now : (x boot : ℕ) → x < size_of old → since (world_of old) x ≤ boot → setting_of (cluster_of new) x boot ≡ setting_of c' x boot
    settings_now x boot inside le = ap (λ (s : Setting). setting_by (rules_in s) x s.nodes) (installed.settings x)
        ∙ by_number (λ (s : Setting). setting_by (rules_in s) x s.nodes ≡ setting_of c' x boot) x n given (settings_by old.slots.items x)
        (λ e. let more : last < boot = (let since_n : since (world_of old) n ≤ boot = subst (λ y. since (world_of old) y ≤ boot) e le in omega (arith, since_n, next)) in
        λ i. setting_by (sym (as_now n last rules c.rules x boot e more) i) x (sym (as_now n last nodes c.nodes x boot e more) i))
        (λ e. r.plan.settings x boot inside le ∙ (same_before x boot (λ same. absurd (e same))).setting)

    pub installed_ran : Ran meaning m' c' new
    installed_ran = record {
      touches = λ x boot. one_of n last (meaning engine) m x boot TouchesOnlyHanded (λ _. touches) (r.touches x boot);
      plan = record {
        inside = λ x boot inside. one_of n last nodes c.nodes x boot (λ k. x < k) (λ e. omega (arith, e, less)) (r.plan.inside x boot (omega (arith, size, inside)));
        beyond = λ x boot past. one_of n last nodes c.nodes x boot (λ k. k ≤ x) (λ e. absurd (omega (arith, e, there, size, past))) (r.plan.beyond x boot (omega (arith, size, past)));
        meanings = λ x boot inside le. installed.meanings x ∙ meanings_now x boot (omega (arith, size, inside)) (now_since x boot le);
        settings = λ x boot inside le. settings_now x boot (omega (arith, size, inside)) (now_since x boot le);
      };
      world = world ∙ r.world
          ∙ run_so_far m m' c c' both_there (events_in (world_of old)) nothing_happened
          (λ x boot le. same_before x boot (λ e. let made : boot ≤ ((world_of old).members x).node.durable.boot = subst (λ (w : World). boot ≤ (w.members x).node.durable.boot) (sym r.world) le in
          subst (λ y. boot ≤ ((world_of old).members y).node.durable.boot) e made))
          ∙ ap (λ w. run m' c' nothing_happened (events_in w)) (sym world);
    }

-- nothing was done
module _ {E : Type 0} (meaning : E → EngineMeaning) (old new : Nodes E) (size : size_of new ≡ size_of old) (world : world_of new ≡ world_of old) (settings : settings_by new.slots.items ≡ settings_by old.slots.items)
    (meanings : meanings_of meaning new ≡ meanings_of meaning old) where
  pub still_ran : (m : Meanings) (c : Cluster) → Ran meaning m c old → Ran meaning m c new
  still_ran m c r =
      let before : (x boot : ℕ) → since (world_of new) x ≤ boot → since (world_of old) x ≤ boot = λ x boot le. subst (λ (w : World). since w x ≤ boot) world le in
      record {
        touches = r.touches;
        plan = record {
          inside = λ x boot inside. r.plan.inside x boot (omega (arith, size, inside));
          beyond = λ x boot past. r.plan.beyond x boot (omega (arith, size, past));
          meanings = λ x boot inside le. (λ i. meanings i x) ∙ r.plan.meanings x boot (omega (arith, size, inside)) (before x boot le);
          settings = λ x boot inside le. ap (λ (s : Setting). setting_by (rules_in s) x s.nodes) (λ i. settings i x) ∙ r.plan.settings x boot (omega (arith, size, inside)) (before x boot le);
        };
        world = world ∙ r.world ∙ ap (λ w. run m c nothing_happened (events_in w)) (sym world);
      }

-- ---- by the answer of a call

pub ok_map : {A B : Type 0} {P Q : Type 0} (r : Result A B) → (P → Q) → OnOk r P → OnOk r Q
ok_map (Ok x) f p = f p
ok_map (Err e) f p = tt

pub err_map : {A B : Type 0} {P Q R S : Type 0} (r : Result A B) → (P → Q → R → S) → OnErr r P → OnErr r Q → OnErr r R → OnErr r S
err_map (Ok x) f p q s = tt
err_map (Err e) f p q s = f p q s

pub ok_or_err : {A B : Type 0} {P Q R : Type 0} (r : Result A B) → (P → R) → (Q → R) → OnOk r P → OnErr r Q → R
ok_or_err (Ok x) f g p q = f p
ok_or_err (Err e) f g p q = g q

pub err_all : {A B : Type 0} (r : Result A B) (P : B → Type 0) → ((e : B) → P e) → IfErr r P
err_all (Ok x) P f = tt
err_all (Err e) P f = f e

pub ok_all : {A B : Type 0} {P : Type 0} (r : Result A B) → P → OnOk r P
ok_all (Ok x) p = p
ok_all (Err e) p = tt

pub no_cause : (o : Option InstallFault) (f : InstallFault) → o ≡ None → IsCause o f
no_cause o f none = subst (λ x. IsCause x f) (sym none) tt

pub own_cause : (o r : Option InstallFault) (f : InstallFault) → r ≡ o → r ≡ Some f → IsCause o f
own_cause o r f is some = subst (λ x. IsCause x f) (sym some ∙ is) refl
