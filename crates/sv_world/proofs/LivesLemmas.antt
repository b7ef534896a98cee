-- The calls of one process are calls of its starts, whatever other starts mean.
use Rattle.sv_world.proofs.Prelude.{◌≡◌, ℕ, ◌<◌, ◌≤◌, Bool, true, false, cond, List, [], ◌∷◌, arith, refl, ap, ◌∙◌, subst, inl, ⊎_elim, Input, Moment, Setting}
use Rattle.sv_world.proofs.Prelude.{left, EngineMeaning, decided, Node, Ending, Open, Step, Unsaid, Compact, Stop, Refused, Cut, Given, After, quiet, kept}
use Rattle.sv_world.proofs.Prelude.{node_behind, Does, StopsStart, StopsStep, goes_on, runs_behind, step_ends, compaction_ends, Turn, Stand, behind_all}
use Rattle.sv_world.proofs.Prelude.{AreTurns, restarted, number_of, AreTurnsBy, Cluster}
use Rattle.std.proofs.Common.{◌+◌}
use Rattle.sv_journal.specs.declared.journal_fault.JournalFault.TheVariants as journal
use Rattle.sv_model.specs.declared.site.StepFault.TheVariants as step
use Rattle.sv_node.specs.declared.fault.OpenFault.TheVariants as opening
use Rattle.sv_node.specs.Call.{Call, Done}
use Rattle.sv_node.specs.History.{behind}
use Rattle.sv_world.proofs.Events.{start_boot}
use Rattle.sv_world.proofs.Thrift.{decide_thrifty}

-- a step keeps the number of the start
alone : Setting → Cluster
alone set = record { nodes = λ n b. set.nodes; rules = λ n b. record { deadline = set.deadline; keys = set.keys; forget = set.forget } }

step_boot : (m : EngineMeaning) (set : Setting) (n : Node) (at : Moment) (i : Input) → (decided m set n at i).durable.boot ≡ n.durable.boot
unfolding alone
step_boot m set n at i = (decide_thrifty (λ n b. m) (alone set) set.node n at i).boot

steps_boot : (m : EngineMeaning) (set : Setting) (n : Node) (gs : List Given) → (node_behind m set n gs).durable.boot ≡ n.durable.boot
steps_boot m set n [] = refl
steps_boot m set n (g ∷ gs) = steps_boot m set (left (decided m set n g.at g.input)) gs ∙ step_boot m set n g.at g.input

module _ (m : EngineMeaning) (set : Setting) (up : Bool) (n : Node) (a : After) where
  abbrev same : (x : Node) → a ≡ quiet x → a.node.durable.boot ≡ x.durable.boot
  same x is = ap (λ (b : After). b.node.durable.boot) is

  next : a ≡ quiet (kept (restarted set n.durable)) → a.node.durable.boot ≡ n.durable.boot + 1
  next is = ap (λ (b : After). b.node.durable.boot) is ∙ start_boot set n.durable

  stopped_start : StopsStart set n.durable a → n.durable.boot ≤ a.node.durable.boot
  stopped_start d = ⊎_elim (λ x. omega (arith, same (kept n.durable) x)) (λ x. omega (arith, next x.1)) d

  stopped_step : (at : Moment) (i : Input) → StopsStep n.durable (decided m set n at i) a → n.durable.boot ≤ a.node.durable.boot
  stopped_step at i d = ⊎_elim (λ x. omega (arith, same (kept n.durable) x)) (λ x. omega (arith, same (kept (decided m set n at i).durable) x, step_boot m set n at i)) d

  rises : (call : Call) → Does m set up n call a → n.durable.boot ≤ a.node.durable.boot
  rises (Open Done) d = omega (arith, next d.2)
  rises (Open (Refused opening.Damaged)) d = omega (arith, same n d.2)
  rises (Open (Refused opening.Full)) d = omega (arith, same n d.1)
  rises (Open (Refused opening.Memory)) d = omega (arith, same n d.1)
  rises (Open (Refused opening.Device)) d = stopped_start d.1
  rises (Open Cut) d = stopped_start d.1
  rises (Step at i Done) d = omega (arith, ap (λ (b : After). b.node.durable.boot) d.1, step_boot m set n at i)
  rises (Step at i (Refused step.Failed)) d = omega (arith, same n d.1)
  rises (Step at i (Refused step.Full)) d = omega (arith, same n d)
  rises (Step at i (Refused step.Memory)) d = omega (arith, same n d)
  rises (Step at i (Refused step.Device)) d = stopped_step at i d.1
  rises (Step at i Cut) d = stopped_step at i d.1
  rises (Unsaid gs) d = omega (arith, same (kept (node_behind m set n gs).durable) d.1, steps_boot m set n gs)
  rises (Compact Done) d = omega (arith, same n d)
  rises (Compact (Refused journal.Damaged)) d = absurd d
  rises (Compact (Refused journal.Failed)) d = omega (arith, same n d)
  rises (Compact (Refused journal.Full)) d = omega (arith, same n d)
  rises (Compact (Refused journal.Memory)) d = omega (arith, same n d)
  rises (Compact (Refused journal.Device)) d = omega (arith, same (kept n.durable) d)
  rises (Compact Cut) d = omega (arith, same (kept n.durable) d)
  rises Stop d = omega (arith, same (kept n.durable) d)

pub rise_all : (m : EngineMeaning) (set : Setting) (s : Stand) (ts : List Turn) → AreTurns m set s ts → s.node.durable.boot ≤ (behind_all s ts).node.durable.boot
rise_all m set s [] are = omega arith
rise_all m set s (t ∷ ts) are = omega (arith, rises m set s.up s.node t.after t.call are.0, rise_all m set (behind s t) ts are.1)

unless : (b up : Bool) → cond b false up ≡ true → up ≡ true
unless true up is = absurd (let no : false ≡ true = is in cc)
unless false up is = is

went_on : {F : Type 0} (ends : F → Bool) (up : Bool) (e : Ending F) → goes_on ends up e ≡ true → up ≡ true
went_on ends up Done is = is
went_on ends up (Refused fault) is = unless (ends fault) up is
went_on ends up Cut is = absurd (let no : false ≡ true = is in cc)

-- a process of this meaning and setting, whose starts are those above `low` up to `high`
module _ (m : EngineMeaning) (set : Setting) (ms : ℕ → EngineMeaning) (sets : ℕ → Setting) (low high : ℕ)
    (means : (b : ℕ) → low < b → b ≤ high → m ≡ ms b) (has : (b : ℕ) → low < b → b ≤ high → set ≡ sets b) where
  does_of : (b : ℕ) → low < b → b ≤ high → (up : Bool) (n : Node) (call : Call) (a : After) → Does m set up n call a → Does (ms b) (sets b) up n call a
  does_of b more most up n call a d = subst (λ st. Does (ms b) st up n call a) (has b more most) (subst (λ x. Does x set up n call a) (means b more most) d)

  module _ (up : Bool) (n : Node) (a : After) (live : up ≡ true → low < n.durable.boot) (least : low ≤ n.durable.boot) (most : a.node.durable.boot ≤ high) where
    here : (call : Call) → number_of n.durable call ≡ n.durable.boot → up ≡ true → Does m set up n call a → Does (ms n.durable.boot) (sets n.durable.boot) up n call a
    here call is runs d = does_of n.durable.boot (live runs) (omega (arith, most, rises m set up n a call d)) up n call a d

    opened : (call : Call) → a ≡ quiet (kept (restarted set n.durable)) → Does m set up n call a → Does (ms (n.durable.boot + 1)) (sets (n.durable.boot + 1)) up n call a
    opened call is d = does_of (n.durable.boot + 1) (omega (arith, least)) (omega (arith, most, next m set up n a is)) up n call a d

    does_by : (call : Call) → Does m set up n call a → Does (ms (number_of n.durable call)) (sets (number_of n.durable call)) up n call a
    does_by (Open Done) d = opened (Open Done) d.2 d
    does_by (Open (Refused opening.Damaged)) d = d
    does_by (Open (Refused opening.Full)) d = d
    does_by (Open (Refused opening.Memory)) d = d
    does_by (Open (Refused opening.Device)) d = ⊎_elim (λ x. (d.0, inl x)) (λ x. opened (Open (Refused opening.Device)) x.1 d) d.1
    does_by (Open Cut) d = ⊎_elim (λ x. (d.0, inl x)) (λ x. opened (Open Cut) x.1 d) d.1
    does_by (Step at i Done) d = here (Step at i Done) refl d.0 d
    does_by (Step at i (Refused step.Failed)) d = d
    does_by (Step at i (Refused step.Full)) d = d
    does_by (Step at i (Refused step.Memory)) d = d
    does_by (Step at i (Refused step.Device)) d = here (Step at i (Refused step.Device)) refl d.0 d
    does_by (Step at i Cut) d = here (Step at i Cut) refl d.0 d
    does_by (Unsaid gs) d = here (Unsaid gs) refl d.0 d
    does_by (Compact Done) d = d
    does_by (Compact (Refused journal.Damaged)) d = absurd d
    does_by (Compact (Refused journal.Failed)) d = d
    does_by (Compact (Refused journal.Full)) d = d
    does_by (Compact (Refused journal.Memory)) d = d
    does_by (Compact (Refused journal.Device)) d = d
    does_by (Compact Cut) d = d
    does_by Stop d = d

    -- whoever runs after it is of a start of the process
    lives_on : (call : Call) → Does m set up n call a → runs_behind up call ≡ true → low < a.node.durable.boot
    lives_on (Open Done) d is = omega (arith, least, next m set up n a d.2)
    lives_on (Open (Refused fault)) d is = absurd (let no : false ≡ true = is in cc)
    lives_on (Open Cut) d is = absurd (let no : false ≡ true = is in cc)
    lives_on (Step at i ending) d is = omega (arith, live (went_on step_ends up ending is), rises m set up n a (Step at i ending) d)
    lives_on (Unsaid gs) d is = absurd (let no : false ≡ true = is in cc)
    lives_on (Compact ending) d is = omega (arith, live (went_on compaction_ends up ending is), rises m set up n a (Compact ending) d)
    lives_on Stop d is = absurd (let no : false ≡ true = is in cc)

  pub turns_by : (s : Stand) (ts : List Turn) → (s.up ≡ true → low < s.node.durable.boot) → low ≤ s.node.durable.boot → (behind_all s ts).node.durable.boot ≤ high
      → AreTurns m set s ts → AreTurnsBy ms sets s ts
  turns_by s [] live least most are = tt
  turns_by s (t ∷ ts) live least most are =
      let after : t.after.node.durable.boot ≤ high = omega (arith, most, rise_all m set (behind s t) ts are.1) in (
        does_by s.up s.node t.after live least after t.call are.0,
        turns_by (behind s t) ts (lives_on s.up s.node t.after live least after t.call are.0) (omega (arith, least, rises m set s.up s.node t.after t.call are.0)) most are.1,
      )
