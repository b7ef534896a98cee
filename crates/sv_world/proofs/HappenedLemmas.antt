-- An event has happened in a world in code.
use Rattle.sv_world.proofs.Prelude.{◌≡◌, ◌≢◌, ℕ, ◌<◌, ◌≤◌, ◌==◌, get_or, Bool, true, false, cond, Option, Some, None, List, [], ◌∷◌, ◌++◌, arith, refl, sym, ap}
use Rattle.sv_world.proofs.Prelude.{◌∙◌, subst, ⊎_elim, eq-eqb, append-nil, not, is_some, is_none, slice_get, All, option_map, cases_eq, ne_eqb, cond-true}
use Rattle.sv_world.proofs.Prelude.{cond-false, same_Some, slice_get_cases, Core, engine_of, Told, Packet, Setting, EngineMeaning, heard_all, last_number}
use Rattle.sv_world.proofs.Prelude.{sends_in, decided, WorldEvent, Ask, Deliver, Poke, Tick, Crash, Torn, Silent, Restart, TornRestart, Effect, Action, Slot}
use Rattle.sv_world.proofs.Prelude.{Task, Done, deed, number_for, told_by, line_of, quiet_at, heading_at, heading_by, halted, booted, IsSlot, engine_by}
use Rattle.sv_world.proofs.Prelude.{action_of, Member, set_member, setting_of, stopped, started, setting_by, rules_in, members_by, setting_in, settings_by}
use Rattle.sv_world.proofs.Prelude.{meant_in, meanings_by, world_of, size_of, cluster_of, meanings_of, heard_of, IsSet, IsWorld, AllMean, by_node, HaveDone}
use Rattle.sv_world.proofs.Prelude.{AreUndone, HaveHappened, IsStill, told_at}
use Rattle.std.proofs.Common.{◌&&◌, length}
use Rattle.sv_world.specs.declared.event.WorldEvent.TheVariants.{Move}
use Rattle.sv_world.specs.declared.task.Task.TheVariants as task
use Rattle.sv_world.specs.declared.world.World.{World as Nodes}
use Rattle.sv_world.specs.Happened.{HasActed, is_start}
use Rattle.sv_world.proofs.ActionLemmas.{Goes, done_at, goes}

-- ---- what was done is done at the node, and a start tells nothing

node_by : (b : Bool) (x y : Done) (n : ℕ) → x.effect.heading.node ≡ n → y.effect.heading.node ≡ n → (cond b x y).effect.heading.node ≡ n
node_by true x y n f g = f
node_by false x y n f g = g

deed_node : (m : EngineMeaning) (set : Setting) (p : Member) (t : Task) → (deed m set p t).effect.heading.node ≡ set.node
deed_node m set p (task.Step moment input) = refl
deed_node m set p (task.Torn moment input kept) =
    let d = decided m set p.node moment input in
    let h = heading_by set p.node.durable input in
    node_by (kept && is_some d.entry) (record { member = stopped d.durable; effect = quiet_at h d.entry d.commit }) (halted h p.node.durable) set.node refl refl
deed_node m set p (task.Silent moment input) = refl
deed_node m set p task.Stop = refl
deed_node m set p task.Start = node_by (true && not (p.node.durable.boot == last_number)) (booted set (heading_at set p.node.durable None) p.node.durable started) (halted (heading_at set p.node.durable None) p.node.durable) set.node refl refl
deed_node m set p (task.TornStart kept) = node_by (kept && not (p.node.durable.boot == last_number)) (booted set (heading_at set p.node.durable None) p.node.durable stopped) (halted (heading_at set p.node.durable None) p.node.durable) set.node refl refl

silent_by : (b : Bool) (x y : Done) → told_by x.effect ≡ [] → told_by y.effect ≡ [] → told_by (cond b x y).effect ≡ []
silent_by true x y f g = f
silent_by false x y f g = g

start_silent : (m : EngineMeaning) (set : Setting) (p : Member) → told_by (deed m set p task.Start).effect ≡ []
start_silent m set p = silent_by (true && not (p.node.durable.boot == last_number)) (booted set (heading_at set p.node.durable None) p.node.durable started) (halted (heading_at set p.node.durable None) p.node.durable) refl refl

-- ---- each node has an engine

module _ {E : Type 0} (meaning : E → EngineMeaning) where
  engine_means : (core : Option (Core E)) (idle : Option E) → is_some idle ≡ is_none core → (m : EngineMeaning) × (option_map meaning (engine_by core idle) ≡ Some m)
  engine_means (Some c) idle h = (meaning (engine_of c), refl)
  engine_means None (Some e) h = (meaning e, refl)
  engine_means None None h = absurd (let no : false ≡ true = h in cc)

  pub means_at : (valid : E → Type 0) (slots : List (Slot E)) → All (λ s. IsSlot valid s) slots → (n : ℕ) → n < length slots → (m : EngineMeaning) × (meanings_by meaning slots n ≡ Some m)
  means_at valid slots all n less = ⊎_elim
      (λ (h : (s : Slot E) × (n < length slots) × (slice_get slots n ≡ Some s) × (get_or slots n s ≡ s)).
      let s = h.0 in
      let is : IsSlot valid s = subst (IsSlot valid) h.3 (all n s less) in
      let e = engine_means s.core s.idle is.either in
      (e.0, ap (meant_in meaning) h.2 ∙ e.1))
      (λ (h : (length slots ≤ n) × (slice_get slots n ≡ None)). absurd (omega arith))
      (slice_get_cases slots n).1

-- ---- settings

module _ {E : Type 0} where
  -- a node that isn't there was told of none
  pub told_there : (slots : List (Slot E)) (n : ℕ) → n < (settings_by slots n).nodes → n < length slots
  told_there slots n told = ⊎_elim
      (λ (h : (s : Slot E) × (n < length slots) × (slice_get slots n ≡ Some s) × (get_or slots n s ≡ s)). h.1)
      (λ (h : (length slots ≤ n) × (slice_get slots n ≡ None)). let none : n < 0 = subst (λ (o : Option (Slot E)). n < (setting_in o).nodes) h.1 told in absurd (omega (arith, none)))
      (slice_get_cases slots n).1

-- a setting that is a node's own is that of its rules
pub own_setting : (n : ℕ) (set : Setting) → set.node ≡ n → set ≡ setting_by (rules_in set) n set.nodes
own_setting n set own = λ i. record { node = own i; nodes = set.nodes; deadline = set.deadline; keys = set.keys; forget = set.forget }

-- ---- the numbers of nodes stay

module _ {E : Type 0} (old new : Nodes E) where
  pub same_cluster : settings_by new.slots.items ≡ settings_by old.slots.items → cluster_of new ≡ cluster_of old
  same_cluster same = λ i. record { nodes = λ n boot. (same i n).nodes; rules = λ n boot. rules_in (same i n) }

module _ {E : Type 0} (valid : E → Type 0) (old new : Nodes E) (number : length new.slots.items ≡ length old.slots.items) where
  pub still_world : IsWorld valid old → All (λ s. IsSlot valid s) new.slots.items → settings_by new.slots.items ≡ settings_by old.slots.items → IsWorld valid new
  still_world w all same = record {
    slots = all;
    settings = λ n less. subst (λ (s : Setting). IsSet n s) (λ i. sym same i n) (w.settings n (omega (arith, number)));
    some = omega (arith, number, w.some);
    few = omega (arith, number, w.few);
  }

module _ {E : Type 0} (meaning : E → EngineMeaning) (noted : E → List (List ℕ)) (old new : Nodes E) (number : length new.slots.items ≡ length old.slots.items) (settings : settings_by new.slots.items ≡ settings_by old.slots.items)
    (meanings : meanings_of meaning new ≡ meanings_of meaning old) where
  pub stays : AreUndone noted old.slots.items new.slots.items → new.packets.items ≡ old.packets.items → new.trace.items ≡ old.trace.items → IsStill meaning noted old new
  stays undone packets trace = record {
    size = number;
    cluster = same_cluster old new settings;
    world = λ i. record { members = undone.members i; packets = packets i; trace = trace i };
    meanings = meanings;
    heard = undone.heard;
  }

option_same : {A : Type 0} (f : A → A) (o : Option A) → ((x : A) → f x ≡ x) → option_map f o ≡ o
option_same f None h = refl
option_same f (Some x) h = ap Some (h x)

-- ---- one event

module _ {E : Type 0} (meaning : E → EngineMeaning) (noted : E → List (List ℕ)) (old new : Nodes E) (number : length new.slots.items ≡ length old.slots.items) (settings : settings_by new.slots.items ≡ settings_by old.slots.items)
    (meanings : meanings_of meaning new ≡ meanings_of meaning old) (e : WorldEvent) (o : Action) (f : Effect) (goes : Goes (cluster_of old) (world_of old) e o) (inside : o.node < size_of old)
    (set : IsSet o.node (settings_by old.slots.items o.node)) (means : (m : EngineMeaning) × (meanings_of meaning old o.node ≡ Some m))
    (done : (m : EngineMeaning) → meanings_of meaning old o.node ≡ Some m → HaveDone noted m old.slots.items new.slots.items o f) where
  abbrev deeds : EngineMeaning → Done
  deeds m = deed m (settings_by old.slots.items o.node) (members_by old.slots.items o.node) o.task

  -- the number of the start that the task is of
  abbrev number_now : ℕ
  number_now = number_for (members_by old.slots.items o.node).node.durable o.task

  as_set : (m : EngineMeaning) → deeds m ≡ deed m (setting_of (cluster_of old) o.node number_now) (members_by old.slots.items o.node) o.task
  as_set m = ap (λ s. deed m s (members_by old.slots.items o.node) o.task) (own_setting o.node (settings_by old.slots.items o.node) set.own)

  at_node : f.heading.node ≡ o.node
  at_node = ap (λ (x : Effect). x.heading.node) (done means.0 means.1).effect ∙ deed_node means.0 (settings_by old.slots.items o.node) (members_by old.slots.items o.node) o.task ∙ set.own

  world_is : new.packets.items ≡ old.packets.items ++ sends_in f.outputs → new.trace.items ≡ old.trace.items ++ line_of e f ∷ [] → (m : ℕ → EngineMeaning) → AllMean meaning m old → world_of new ≡ done_at (by_node m) (cluster_of old) (world_of old) e o
  world_is packets trace m all =
      let h = done (m o.node) (all o.node inside) in
      let is : f ≡ (deed (m o.node) (setting_of (cluster_of old) o.node number_now) (members_by old.slots.items o.node) o.task).effect = h.effect ∙ ap (λ (d : Done). d.effect) (as_set (m o.node)) in
      λ i. record {
        members = (h.members ∙ ap (λ (d : Done). set_member (members_by old.slots.items) o.node d.member) (as_set (m o.node))) i;
        packets = (packets ∙ ap (λ (x : Effect). old.packets.items ++ sends_in x.outputs) is) i;
        trace = (trace ∙ ap (λ (x : Effect). old.trace.items ++ line_of e x ∷ []) is) i;
      }

  heard_is : (n : ℕ) (m : EngineMeaning) → meanings_of meaning old n ≡ Some m → heard_of noted new n ≡ option_map (λ h. heard_all m h (told_at n (line_of e f ∷ []))) (heard_of noted old n)
  heard_is n m is =
      let h = done means.0 means.1 in
      let listen : EngineMeaning → List Told → Option (List (List ℕ)) = λ k told. option_map (λ x. heard_all k x told) (heard_of noted old n) in
      h.heard n ∙ ⊎_elim
      (λ (same : n ≡ o.node).
      cond-true (n == o.node) (listen means.0 (told_by f)) (heard_of noted old n) (eq-eqb n o.node same)
      ∙ ap (λ k. listen k (told_by f)) (same_Some means.0 m (sym means.1 ∙ ap (meanings_of meaning old) (sym same) ∙ is))
      ∙ ap (listen m) (sym (ap (λ b. cond b (told_by f) [] ++ []) (eq-eqb f.heading.node n (at_node ∙ sym same)) ∙ append-nil (told_by f))))
      (λ (apart : n ≢ o.node).
      cond-false (n == o.node) (listen means.0 (told_by f)) (heard_of noted old n) (ne_eqb n o.node apart)
      ∙ sym (option_same (λ (x : List (List ℕ)). x) (heard_of noted old n) (λ x. refl))
      ∙ ap (listen m) (sym (ap (λ b. cond b (told_by f) [] ++ []) (ne_eqb f.heading.node n (λ k. apart (sym k ∙ at_node))))))
      (cases_eq n o.node)

  pub happened : new.packets.items ≡ old.packets.items ++ sends_in f.outputs → new.trace.items ≡ old.trace.items ++ line_of e f ∷ [] → HaveHappened meaning noted old new (e ∷ [])
  happened packets trace = record {
    size = number;
    cluster = same_cluster old new settings;
    world = λ m all. world_is packets trace m all ∙ sym (goes.happens (by_node m));
    lines = line_of e f ∷ [];
    trace = trace;
    each = refl;
    meanings = meanings;
    heard = heard_is;
  }

  pub silent_start : o.task ≡ task.Start → heard_of noted new ≡ heard_of noted old
  silent_start is =
      let h = done means.0 means.1 in
      let told : told_by f ≡ [] = ap told_by h.effect ∙ ap (λ t. told_by (deed means.0 (settings_by old.slots.items o.node) (members_by old.slots.items o.node) t).effect) is ∙ start_silent means.0 (settings_by old.slots.items o.node) (members_by old.slots.items o.node) in
      let none : (n : ℕ) → option_map (λ x. heard_all means.0 x (told_by f)) (heard_of noted old n) ≡ heard_of noted old n = λ n. option_same _ (heard_of noted old n) (λ x. ap (heard_all means.0 x) told) in
      λ j n. (h.heard n ∙ ap (λ x. cond (n == o.node) x (heard_of noted old n)) (none n) ∙ either_same (n == o.node) (heard_of noted old n)) j
    where
      either_same : (b : Bool) (x : Option (List (List ℕ))) → cond b x x ≡ x
      either_same true x = refl
      either_same false x = refl

pub start_task : (sent : List Packet) (e : WorldEvent) (o : Action) → is_start e ≡ true → action_of sent e ≡ Some o → o.task ≡ task.Start
start_task sent (Ask n moment token r) o h is = absurd (let no : false ≡ true = h in cc)
start_task sent (Deliver moment place) o h is = absurd (let no : false ≡ true = h in cc)
start_task sent (Poke n moment) o h is = absurd (let no : false ≡ true = h in cc)
start_task sent (Tick n moment) o h is = absurd (let no : false ≡ true = h in cc)
start_task sent (Move n moment k to) o h is = absurd (let no : false ≡ true = h in cc)
start_task sent (Crash n) o h is = absurd (let no : false ≡ true = h in cc)
start_task sent (Torn n moment given kept) o h is = absurd (let no : false ≡ true = h in cc)
start_task sent (Silent n moment given) o h is = absurd (let no : false ≡ true = h in cc)
start_task sent (Restart n) o h is = ap (λ (x : Action). x.task) (sym (same_Some (record { node = n; task = task.Start }) o is))
start_task sent (TornRestart n kept) o h is = absurd (let no : false ≡ true = h in cc)

-- ---- what a node has done, and then the line

-- the lists of a world are those of another
pub acted_world : {E : Type 0} (valid : E → Type 0) (mid new : Nodes E) → new.slots ≡ mid.slots → IsWorld valid mid → new.slots.items ≡ mid.slots.items → IsWorld valid new
acted_world valid mid new slots w items = still_world valid mid new (ap length items) w (subst (λ xs. All (λ s. IsSlot valid s) xs) (sym items) w.slots) (ap settings_by items)

module _ {E : Type 0} (meaning : E → EngineMeaning) (noted : E → List (List ℕ)) (valid : E → Type 0) (old mid : Nodes E) where
  acted_goes : (e : WorldEvent) (f : Effect) (h : HasActed meaning noted old mid e f) → Goes (cluster_of old) (world_of old) e h.action
  acted_goes e f h = goes (cluster_of old) (world_of old) h.action e h.possible h.asked

  module _ (new : Nodes E) (e : WorldEvent) (f : Effect) (w : IsWorld valid old) (h : HasActed meaning noted old mid e f) where
    pub acted_happened : new.slots.items ≡ mid.slots.items → new.packets.items ≡ mid.packets.items → new.trace.items ≡ mid.trace.items ++ line_of e f ∷ [] → HaveHappened meaning noted old new (e ∷ [])
    acted_happened slots packets trace =
        let o = h.action in
        let gone = acted_goes e f h in
        let inside = told_there old.slots.items o.node gone.there in
        happened meaning noted old new (ap length slots ∙ h.number) (ap settings_by slots ∙ h.settings) (ap (meanings_by meaning) slots ∙ h.meanings) e o f gone inside
        (w.settings o.node inside) (means_at meaning valid old.slots.items w.slots o.node inside)
        (λ m is. subst (λ xs. HaveDone noted m old.slots.items xs o f) (sym slots) (h.done m is))
        (packets ∙ h.packets) (trace ∙ ap (λ ls. ls ++ line_of e f ∷ []) h.trace)

  module _ (e : WorldEvent) (f : Effect) (w : IsWorld valid old) (h : HasActed meaning noted old mid e f) where
    pub acted_silent : is_start e ≡ true → heard_of noted mid ≡ heard_of noted old
    acted_silent start =
        let o = h.action in
        let gone = acted_goes e f h in
        let inside = told_there old.slots.items o.node gone.there in
        silent_start meaning noted old mid h.number h.settings h.meanings e o f gone inside (w.settings o.node inside) (means_at meaning valid old.slots.items w.slots o.node inside) h.done
        (start_task old.packets.items e o start h.asked)
