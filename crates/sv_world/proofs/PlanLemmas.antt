-- Two plans of what each start is started with make the same of events, where they say the same of the starts that these are of.
use Rattle.sv_world.proofs.Prelude.{◌≡◌, ℕ, ◌<◌, ◌≤◌, ◌==◌, Bool, true, false, cond, Option, Some, None, List, [], ◌∷◌, arith, refl, sym, ap, ◌∙◌, subst}
use Rattle.sv_world.proofs.Prelude.{⊎_elim, not, nat_lt, IsSome, cond_both, cond-true, cases_lt, lt-ltb, le-ltb, Meanings, left, Durable, last_number}
use Rattle.sv_world.proofs.Prelude.{boot_record, applied, asked_of, Call, WorldEvent, Ask, Deliver, Poke, Tick, Crash, Torn, Silent, Restart, TornRestart}
use Rattle.sv_world.proofs.Prelude.{WorldFault, Action, Task, Done, deed, wants_up, number_for, heading_at, halted, booted, start_by, step_fault, call_fault}
use Rattle.sv_world.proofs.Prelude.{start_fault, stop_fault, fault_of, action_of, since, may_come, Cluster, Member, World, durable_at, set_member, stopped}
use Rattle.sv_world.proofs.Prelude.{started, setting_of, items, call_of, decision, token_of_call, is_unused, is_there, happens, run}
use Rattle.std.proofs.Common.{◌+◌, ◌&&◌}
use Rattle.sv_world.specs.declared.event.WorldEvent.TheVariants.{Move}
use Rattle.sv_world.specs.declared.task.Task.TheVariants as task
use Rattle.sv_world.specs.Planned.{since_at}
use Rattle.sv_world.proofs.Events.{behind, start_boot}
use Rattle.sv_world.proofs.FaultLemmas.{faulty}
use Rattle.sv_world.proofs.ActionLemmas.{Goes, done_by, goes, asks}
use Rattle.sv_world.proofs.ProgressLemmas.{boot_kept}
use Rattle.sv_world.proofs.Waiting.{by_node}

-- ---- the numbers of starts rise

boot_below : (p : Member) → p.node.durable.boot ≤ since_at p
boot_below p = cond_both p.up p.node.durable.boot (p.node.durable.boot + 1) (λ x. p.node.durable.boot ≤ x) (λ _. omega arith) (λ _. omega arith)

since_below : (p : Member) → since_at p ≤ p.node.durable.boot + 1
since_below p = cond_both p.up p.node.durable.boot (p.node.durable.boot + 1) (λ x. x ≤ p.node.durable.boot + 1) (λ _. omega arith) (λ _. omega arith)

since_up : (p : Member) → p.up ≡ true → since_at p ≡ p.node.durable.boot
since_up p up = ap (λ b. cond b p.node.durable.boot (p.node.durable.boot + 1)) up

since_down : (p : Member) → p.up ≡ false → since_at p ≡ p.node.durable.boot + 1
since_down p down = ap (λ b. cond b p.node.durable.boot (p.node.durable.boot + 1)) down

pub record Later (old new : ℕ → Member) : Type 0 where
  pub from : (x : ℕ) → since_at (old x) ≤ since_at (new x)
  pub boot : (x : ℕ) → (old x).node.durable.boot ≤ (new x).node.durable.boot

later_still : (members : ℕ → Member) → Later members members
later_still members = record { from = λ x. omega arith; boot = λ x. omega arith }

later_at : (members : ℕ → Member) (n : ℕ) (p : Member) → since_at (members n) ≤ since_at p → (members n).node.durable.boot ≤ p.node.durable.boot → Later members (set_member members n p)
later_at members n p more boot = record {
  from = λ x. by_node (λ y z. since_at (members y) ≤ since_at z) members n p x (λ same. subst (λ y. since_at (members y) ≤ since_at p) (sym same) more) (λ _. omega arith);
  boot = λ x. by_node (λ y z. (members y).node.durable.boot ≤ z.node.durable.boot) members n p x (λ same. subst (λ y. (members y).node.durable.boot ≤ p.node.durable.boot) (sym same) boot) (λ _. omega arith);
}

later_then : (a b c : ℕ → Member) → Later a b → Later b c → Later a c
later_then a b c f g = record { from = λ x. omega (arith, f.from x, g.from x); boot = λ x. omega (arith, f.boot x, g.boot x) }

-- a step leaves its node running, or stops it
step_later : (old p : Member) → old.up ≡ true → p.node.durable.boot ≡ old.node.durable.boot → (since_at old ≤ since_at p) × (old.node.durable.boot ≤ p.node.durable.boot)
step_later old p up same = (omega (arith, since_up old up, boot_below p, same), omega (arith, same))

module _ (m : Meanings) (c : Cluster) where
  pub happens_later : (w : World) (e : WorldEvent) → Later w.members (happens m c w e).members
  happens_later w e = behind m c w (λ v. Later w.members v.members) e (record {
    still = later_still w.members;
    whole_by = λ call is r. let p : Member = record { up = true; node = left (decision m c w call) } in let s = step_later (w.members call.node) p r.up (boot_kept m c w call) in later_at w.members call.node p s.0 s.1;
    torn_by = λ call is r. let p = stopped (decision m c w call).durable in let s = step_later (w.members call.node) p r.up (boot_kept m c w call) in later_at w.members call.node p s.0 s.1;
    silent_by = λ call is r. let p : Member = record { up = true; node = left (decision m c w call) } in let s = step_later (w.members call.node) p r.up (boot_kept m c w call) in later_at w.members call.node p s.0 s.1;
    halt_by = λ n asked _. later_at w.members n (stopped (durable_at w n)) (since_below (w.members n)) (omega arith);
    boots_by = λ n p may none same.
        let more : p.node.durable.boot ≡ (durable_at w n).boot + 1 = ap (λ (d : Durable). d.boot) same ∙ start_boot (setting_of c n ((durable_at w n).boot + 1)) (durable_at w n) in
        later_at w.members n p (omega (arith, since_below (w.members n), boot_below p, more)) (omega (arith, more));
  })

  pub run_later : (es : List WorldEvent) (w : World) → Later w.members (run m c w es).members
  run_later [] w = later_still w.members
  run_later (e ∷ es) w = later_then w.members (happens m c w e).members (run m c (happens m c w e) es).members (happens_later w e) (run_later es (happens m c w e))

-- ---- two plans

-- they start a node with the same at this start
pub record Same (m m' : Meanings) (c c' : Cluster) (n boot : ℕ) : Type 0 where
  pub meaning : m n boot ≡ m' n boot
  pub setting : setting_of c n boot ≡ setting_of c' n boot

-- they tell the same starts of their own nodes
abbrev pub AreThere : Cluster → Cluster → Type 0
AreThere c c' = (n boot : ℕ) → is_there c n boot ≡ is_there c' n boot

pub there_by : (n a b : ℕ) → (n < a → n < b) → (n < b → n < a) → nat_lt n a ≡ nat_lt n b
there_by n a b f g = ⊎_elim
    (λ (h : n < a). lt-ltb n a h ∙ sym (lt-ltb n b (f h)))
    (λ (h : a ≤ n). le-ltb n a h ∙ sym (le-ltb n b (⊎_elim (λ (k : n < b). let l : n < a = g k in absurd (omega (arith, h, l))) (λ (k : b ≤ n). k) (cases_lt n b))))
    (cases_lt n a)

either_same : (b : Bool) (x x' y : Done) → (b ≡ true → x ≡ x') → cond b x y ≡ cond b x' y
either_same true x x' y f = f refl
either_same false x x' y f = refl

task_since : (p : Member) (t : Task) → p.up ≡ wants_up t → number_for p.node.durable t ≡ since_at p
task_since p (task.Step moment input) up = sym (since_up p up)
task_since p (task.Torn moment input kept) up = sym (since_up p up)
task_since p (task.Silent moment input) up = sym (since_up p up)
task_since p task.Stop up = sym (since_up p up)
task_since p task.Start down = sym (since_down p down)
task_since p (task.TornStart kept) down = sym (since_down p down)

own_member : (members : ℕ → Member) (n : ℕ) (p : Member) → (set_member members n p n).node.durable.boot ≡ p.node.durable.boot
own_member members n p = by_node (λ y z. y ≡ n → z.node.durable.boot ≡ p.node.durable.boot) members n p n (λ _ _. refl) (λ ne same. absurd (ne same)) refl

module _ (m m' : Meanings) (c c' : Cluster) where
  abbrev task_done : World → ℕ → Task → Done
  task_done w n t = deed (m n (number_for (durable_at w n) t)) (setting_of c n (number_for (durable_at w n) t)) (w.members n) t

  abbrev task_done' : World → ℕ → Task → Done
  task_done' w n t = deed (m' n (number_for (durable_at w n) t)) (setting_of c' n (number_for (durable_at w n) t)) (w.members n) t

  by_start : (w : World) (n : ℕ) (t : Task) → Same m m' c c' n (number_for (durable_at w n) t) → task_done w n t ≡ task_done' w n t
  by_start w n t s = λ i. deed (s.meaning i) (s.setting i) (w.members n) t

  -- a start is as its plan says only where its record stands
  start_same : (w : World) (n : ℕ) (kept : Bool) (member : Durable → Member) → ((d : Durable) → (member d).node.durable ≡ d)
      → ((boot : ℕ) → boot ≤ (start_by (setting_of c n ((durable_at w n).boot + 1)) (durable_at w n) kept member).member.node.durable.boot → Same m m' c c' n boot)
      → start_by (setting_of c n ((durable_at w n).boot + 1)) (durable_at w n) kept member ≡ start_by (setting_of c' n ((durable_at w n).boot + 1)) (durable_at w n) kept member
  start_same w n kept member gives upto =
      let d = durable_at w n in
      let set = setting_of c n (d.boot + 1) in
      let set' = setting_of c' n (d.boot + 1) in
      let b = kept && not (d.boot == last_number) in
      either_same b (booted set (heading_at set d None) d member) (booted set' (heading_at set' d None) d member) (halted (heading_at set d None) d) (λ t.
      let more : (start_by set d kept member).member.node.durable.boot ≡ d.boot + 1 =
      ap (λ (x : Done). x.member.node.durable.boot) (cond-true b (booted set (heading_at set d None) d member) (halted (heading_at set d None) d) t) ∙ ap (λ (x : Durable). x.boot) (gives (applied (boot_record set d) d)) ∙ start_boot set d in
      let same = upto (d.boot + 1) (omega (arith, more)) in
      ap (λ s. booted s (heading_at s d None) d member) same.setting)

  -- a task, where they say the same of all starts that were made after it
  task_same : (w : World) (n : ℕ) (t : Task) → ((boot : ℕ) → boot ≤ (task_done w n t).member.node.durable.boot → Same m m' c c' n boot) → (durable_at w n).boot ≤ (task_done w n t).member.node.durable.boot → task_done w n t ≡ task_done' w n t
  task_same w n (task.Step moment input) upto le = by_start w n (task.Step moment input) (upto (durable_at w n).boot le)
  task_same w n (task.Torn moment input kept) upto le = by_start w n (task.Torn moment input kept) (upto (durable_at w n).boot le)
  task_same w n (task.Silent moment input) upto le = by_start w n (task.Silent moment input) (upto (durable_at w n).boot le)
  task_same w n task.Stop upto le = by_start w n task.Stop (upto (durable_at w n).boot le)
  task_same w n task.Start upto le = start_same w n true started (λ d. refl) upto
  task_same w n (task.TornStart kept) upto le = start_same w n kept stopped (λ d. refl) upto

  module _ (there : AreThere c c') where
    calls_same : (w : World) (call : Option Call) → call_fault c w call ≡ call_fault c' w call
    calls_same w None = refl
    calls_same w (Some call) = ap (λ b. step_fault b (w.members call.node).up (may_come w.packets call.input) (is_unused (asked_of (items w.trace)) (token_of_call c w call))) (there call.node (durable_at w call.node).boot)

    faults_same : (w : World) (e : WorldEvent) → fault_of c w e ≡ fault_of c' w e
    faults_same w (Ask n moment token r) = calls_same w (call_of w.packets (Ask n moment token r))
    faults_same w (Deliver moment place) = calls_same w (call_of w.packets (Deliver moment place))
    faults_same w (Poke n moment) = calls_same w (call_of w.packets (Poke n moment))
    faults_same w (Tick n moment) = calls_same w (call_of w.packets (Tick n moment))
    faults_same w (Move n moment k to) = calls_same w (call_of w.packets (Move n moment k to))
    faults_same w (Torn n moment given kept) = calls_same w (call_of w.packets (Torn n moment given kept))
    faults_same w (Silent n moment given) = calls_same w (call_of w.packets (Silent n moment given))
    faults_same w (Crash n) = ap (λ b. stop_fault b (w.members n).up) (there n (durable_at w n).boot)
    faults_same w (Restart n) = ap (λ b. start_fault b (w.members n).up) (there n ((durable_at w n).boot + 1))
    faults_same w (TornRestart n kept) = ap (λ b. start_fault b (w.members n).up) (there n ((durable_at w n).boot + 1))

    action_same : (w : World) (e : WorldEvent) (o : Option Action) → fault_of c w e ≡ None → action_of w.packets e ≡ o → IsSome o → ((x : Action) → Goes c w e x → task_done w x.node x.task ≡ task_done' w x.node x.task) → happens m c w e ≡ happens m' c' w e
    action_same w e None none at some same = absurd (let no : false ≡ true = some in cc)
    action_same w e (Some x) none at some same =
        let g = goes c w x e none at in
        g.happens m ∙ ap (done_by w e x.node) (same x g) ∙ sym ((goes c' w x e (sym (faults_same w e) ∙ none) at).happens m')

    event_same : (w : World) (e : WorldEvent) (f : Option WorldFault) → fault_of c w e ≡ f → ((x : Action) → Goes c w e x → task_done w x.node x.task ≡ task_done' w x.node x.task) → happens m c w e ≡ happens m' c' w e
    event_same w e (Some f) is same = (faulty m c w e).still f is ∙ sym ((faulty m' c' w e).still f (sym (faults_same w e) ∙ is))
    event_same w e None is same = action_same w e (action_of w.packets e) is refl (asks c w e is) same

    -- ---- the same of all starts from now on

    abbrev pub FromNowOn : World → Type 0
    FromNowOn w = (n boot : ℕ) → n < c.nodes n boot → since w n ≤ boot → Same m m' c c' n boot

    pub run_on : (es : List WorldEvent) (w : World) → FromNowOn w → run m c w es ≡ run m' c' w es
    run_on [] w from = refl
    run_on (e ∷ es) w from =
        let on = happens_later m c w e in
        let one : happens m c w e ≡ happens m' c' w e = event_same w e (fault_of c w e) refl (λ x g. by_start w x.node x.task
        (from x.node (number_for (durable_at w x.node) x.task) g.there (omega (arith, task_since (w.members x.node) x.task g.up)))) in
        run_on es (happens m c w e) (λ n boot inside le. from n boot inside (omega (arith, le, on.from n))) ∙ ap (λ v. run m' c' v es) one

    -- ---- the same of all starts that were made

    abbrev pub UpTo : World → Type 0
    UpTo w = (n boot : ℕ) → boot ≤ (durable_at w n).boot → Same m m' c c' n boot

    event_so_far : (w : World) (e : WorldEvent) → UpTo (happens m c w e) → happens m c w e ≡ happens m' c' w e
    event_so_far w e upto = event_same w e (fault_of c w e) refl (λ x g.
        let at : (durable_at (happens m c w e) x.node).boot ≡ (task_done w x.node x.task).member.node.durable.boot = ap (λ v. (durable_at v x.node).boot) (g.happens m) ∙ own_member w.members x.node (task_done w x.node x.task).member in
        let more : (durable_at w x.node).boot ≤ (durable_at (happens m c w e) x.node).boot = (happens_later m c w e).boot x.node in
        task_same w x.node x.task (λ boot le. upto x.node boot (omega (arith, le, at))) (omega (arith, at, more)))

    pub run_so_far : (es : List WorldEvent) (w : World) → UpTo (run m c w es) → run m c w es ≡ run m' c' w es
    run_so_far [] w upto = refl
    run_so_far (e ∷ es) w upto =
        let on = run_later m c es (happens m c w e) in
        run_so_far es (happens m c w e) upto ∙ ap (λ v. run m' c' v es) (event_so_far w e (λ n boot le. upto n boot (omega (arith, le, on.boot n))))
