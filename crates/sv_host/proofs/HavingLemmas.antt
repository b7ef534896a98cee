-- Each request that waits at a node has its client: as more is gathered, and after a group.
use Rattle.sv_host.proofs.Prelude.{◌≡◌, ℕ, ◌+◌, List, [], map, Vec, vec_items, Result, Ok, Err, arith, sym, ap, subst, IfErr, OnOk, Group, Way, ParkedClient}
use Rattle.sv_host.proofs.Prelude.{Server, AskedFor, GathersFor, Has, HaveClients, HaveWays, WaitFor, IsRising, before_of, inputs_of, number_of, ways_of}
use Rattle.sv_host.proofs.Prelude.{HandsOutGroup, RefusesAll, way_at, clients_of, HasGathered, JournalFault, Input, Moment, Parked, Output, StepFault}
use Rattle.sv_host.proofs.Prelude.{EngineMeaning, with_list, step_ends, IsCompaction, GroupEnds, behind, all_given, numbers_in, engine_of, journal_of}
use Rattle.sv_host.proofs.Prelude.{setting_of, state_of, Node}
use Rattle.std.proofs.Common.{Global}
use Rattle.std.specs.Prelude.{false}
use Rattle.sv_host.proofs.TellingLemmas.{askers_of, group_waits, refused_group_waits}
use Rattle.sv_host.proofs.WaitLemmas.{wait_below, wait_map}
use Rattle.sv_journal.specs.declared.journal_fault.JournalFault.TheVariants as journal
use Rattle.sv_model.specs.declared.site.StepFault.TheVariants as step
use Rattle.sv_model.specs.NodeState.{Node as State}
use Rattle.sv_model.specs.Step.{View}
use Rattle.sv_node.specs.Compaction.{CompactionEnds}
use Rattle.sv_node.specs.Group.{Answer}
use Rattle.sv_node.specs.Node.{view_of}

-- more is gathered
pub have_on : {E D : Type 0} (waiters others : List ParkedClient) (node : Node E D) (group next : Group) → HasGathered group next → GathersFor group next waiters others → HaveClients waiters node group → HaveClients others node next
have_on waiters others node group next gathered clients have = record {
  waiting = subst (λ (high : ℕ). WaitFor 0 high others (state_of node).parked) (sym gathered.before)
      (wait_map (λ token. Has token waiters) (λ token. Has token others) 0 (before_of group) (state_of node).parked (λ token _ le has. clients.kept token le has) have.waiting);
  asked = clients.asked have.asked;
  ways = clients.ways have.ways;
}

-- nothing is gathered yet
have_none : {E D : Type 0} (waiters : List ParkedClient) (node : Node E D) (group : Group) → WaitFor 0 (before_of group) waiters (state_of node).parked → inputs_of group ≡ [] → ways_of group ≡ [] → HaveClients waiters node group
have_none waiters node group waiting inputs ways = record {
  waiting = waiting;
  asked = subst (λ (is : List (Moment × Input)). AskedFor waiters is) (sym inputs) tt;
  ways = subst (λ (is : List (Moment × Input)). HaveWays is (ways_of group)) (sym inputs) (subst (λ (ws : List Way). HaveWays [] ws) (sym ways) tt);
}

-- nobody waits
pub have_nobody : {E D : Type 0} (waiters : List ParkedClient) (node : Node E D) (group : Group) → (state_of node).parked ≡ [] → inputs_of group ≡ [] → ways_of group ≡ [] → HaveClients waiters node group
have_nobody waiters node group nobody inputs ways =
    have_none waiters node group (subst (λ (ps : List Parked). WaitFor 0 (before_of group) waiters ps) (sym nobody) (omega arith)) inputs ways

-- the state is the same
pub have_same : {E D : Type 0} (waiters others : List ParkedClient) (old new : Node E D) (group : Group) → state_of new ≡ state_of old → others ≡ waiters → HaveClients waiters old group → HaveClients others new group
have_same waiters others old new group same clients have = record {
  waiting = subst (λ (cs : List ParkedClient). WaitFor 0 (before_of group) cs (state_of new).parked) (sym clients)
      (subst (λ (n : State). WaitFor 0 (before_of group) waiters n.parked) (sym same) have.waiting);
  asked = subst (λ (cs : List ParkedClient). AskedFor cs (inputs_of group)) (sym clients) have.asked;
  ways = have.ways;
}

-- ---- a group

module _ {E D : Type 0} (meaning : E → EngineMeaning) (heard : E → List (List ℕ)) (failed : D → ℕ) (old new : Node E D) (group next : Group) (rising : IsRising group) (server start after : Server) (now : ℕ)
    (same : clients_of start.parked ≡ clients_of server.parked) (have : HaveClients (clients_of server.parked) old group) (before : before_of next ≡ number_of group) (inputs : inputs_of next ≡ []) (ways : ways_of next ≡ []) where
  abbrev Ended : Result (List Answer) StepFault → Type 0
  Ended answer = GroupEnds meaning heard failed old (inputs_of group) answer new

  abbrev waiters : List ParkedClient
  waiters = clients_of after.parked

  abbrev high : ℕ
  high = numbers_in (before_of group) (all_given (inputs_of group))

  waited : WaitFor 0 (before_of group) (clients_of start.parked) (state_of old).parked
  waited = subst (λ (cs : List ParkedClient). WaitFor 0 (before_of group) cs (state_of old).parked) (sym same) have.waiting

  had_asked : AskedFor (clients_of start.parked) (inputs_of group)
  had_asked = subst (λ (cs : List ParkedClient). AskedFor cs (inputs_of group)) (sym same) have.asked

  have_behind : (n : State) → state_of new ≡ n → WaitFor 0 high waiters n.parked → HaveClients waiters new next
  have_behind n is w =
      have_none waiters new next
      (subst (λ (n : State). WaitFor 0 (before_of next) waiters n.parked) (sym is) (wait_below (λ token. Has token waiters) 0 high (before_of next) n.parked (omega (arith, rising.number, before)) w))
      inputs ways

  refused : (fault : StepFault) → state_of new ≡ state_of old → RefusesAll (ways_of group) fault now start after → HaveClients waiters new next
  refused fault is told =
      have_behind (state_of old) is
      (refused_group_waits (inputs_of group) (ways_of group) fault now (before_of group) start after (state_of old).parked waited rising.rises have.ways told)

  same_state : view_of meaning heard new ≡ view_of meaning heard old → state_of new ≡ state_of old
  same_state view = ap (λ (v : View). v.node) view

  -- a group, whatever is made of what came of it
  pub have_group : {T F : Type 0} (answers : Result (Vec (Result (Vec Output Global) StepFault) Global) StepFault) (given : Result T F) → Ended (with_list (λ a. map (with_list vec_items) a.items) answers)
      → HandsOutGroup (ways_of group) answers given now start after → IfErr answers (λ fault. OnOk given (step_ends fault ≡ false)) → OnOk given (HaveClients waiters new next)
  have_group answers (Err stop) ended told ok = tt
  have_group (Ok answers) (Ok taken) ended told ok =
      have_behind (behind (meaning (engine_of old)) (setting_of old) (state_of old) (inputs_of group) (map (with_list vec_items) answers.items)) ended.1
      (group_waits (meaning (engine_of old)) (setting_of old) (journal_of old).len (journal_of old).end 0 (state_of old) (inputs_of group) (ways_of group) answers.items now (before_of group) start after waited rising.rises had_asked
      (askers_of (λ k. (way_at (ways_of group) k).asker) 0 (inputs_of group) (ways_of group) have.ways (λ k. let same_place : 0 + k ≡ k = omega arith in ap (λ (k : ℕ). (way_at (ways_of group) k).asker) same_place)) ended.0 told)
  have_group (Err step.Failed) (Ok taken) ended told ok = refused step.Failed (same_state ended.0.view) told
  have_group (Err step.Full) (Ok taken) ended told ok = absurd ended
  have_group (Err step.Memory) (Ok taken) ended told ok = refused step.Memory (same_state ended.view) told
  have_group (Err step.Device) (Ok taken) ended told ok = absurd (let other = ok in cc)

-- ---- a compaction

viewed : {E D : Type 0} (meaning : E → EngineMeaning) (heard : E → List (List ℕ)) (old new : Node E D) → view_of meaning heard new ≡ view_of meaning heard old → state_of new ≡ state_of old
viewed meaning heard old new view = ap (λ (v : View). v.node) view

waiting_by : {E D T : Type 0} (meaning : E → EngineMeaning) (heard : E → List (List ℕ)) (failed : D → ℕ) (old new : Node E D) (answer : Result T JournalFault) → CompactionEnds meaning heard failed old answer new → state_of new ≡ state_of old
waiting_by meaning heard failed old new (Ok x) ends = viewed meaning heard old new ends.0
waiting_by meaning heard failed old new (Err journal.Failed) ends = viewed meaning heard old new ends.0.view
waiting_by meaning heard failed old new (Err journal.Damaged) ends = absurd ends
waiting_by meaning heard failed old new (Err journal.Full) ends = viewed meaning heard old new ends.0.view
waiting_by meaning heard failed old new (Err journal.Memory) ends = viewed meaning heard old new ends.view
waiting_by meaning heard failed old new (Err journal.Device) ends = viewed meaning heard old new ends.0

-- whoever waits goes on waiting
pub same_waiting : {E D T : Type 0} {meaning : E → EngineMeaning} {heard : E → List (List ℕ)} {tells : D → Type 0} {seen : D → List ℕ} {may_leave : D → List ℕ → Type 0} {moment : D → ℕ} {left_since : D → ℕ → List ℕ → Type 0}
    {failed : D → ℕ} {old new : Node E D} {answer : Result T JournalFault} → IsCompaction meaning heard tells seen may_leave moment left_since failed old answer new → state_of new ≡ state_of old
same_waiting {meaning = meaning} {heard = heard} {failed = failed} {old = old} {new = new} {answer = answer} compacted = waiting_by meaning heard failed old new answer compacted.ends
