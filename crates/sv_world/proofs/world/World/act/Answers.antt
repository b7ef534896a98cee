use Rattle.sv_world.proofs.Prelude.{◌≡◌, ℕ, Option, None, List, sym, ap, ◌∙◌, subst, rules, IsSome, Result, Ok, Err, IfErr, EngineMeaning, Packet, WorldEvent}
use Rattle.sv_world.proofs.Prelude.{WorldFault, Line, Slot, fault_of, IsStill, IsRefused, refusal, action_of, state_by, cluster_by, world_of, cluster_of}
use Rattle.sv_world.proofs.Prelude.{AreSet}
use Rattle.sv_world.specs.declared.fault.WorldFault.TheVariants.{Memory}
use Rattle.sv_world.specs.declared.world.World.{World as Nodes}
use Rattle.sv_world.proofs.ActionLemmas.{goes, asks}
use Rattle.sv_world.proofs.HappenedLemmas.{told_there, still_world, stays}
use Rattle.sv_world.proofs.world.World.act.Goals as goal

-- the fault that was looked for is that of the world
at_lists : {E : Type 0} (xs slots : List (Slot E)) (ps packets : List Packet) (ls trace : List Line) (e : WorldEvent) (r : Option WorldFault) → AreSet slots → xs ≡ slots → ps ≡ packets → ls ≡ trace
    → (AreSet xs → r ≡ fault_of (cluster_by xs) (state_by xs ps ls) e) → r ≡ None → fault_of (cluster_by slots) (state_by slots packets trace) e ≡ None
at_lists xs slots ps packets ls trace e r set a b d is none = (λ i. fault_of (cluster_by (sym a i)) (state_by (sym a i) (sym b i) (sym d i)) e) ∙ sym (is (subst AreSet (sym a) set)) ∙ none

-- refused for want of memory
refused_by : {E A : Type 0} (meaning : E → EngineMeaning) (noted : E → List (List ℕ)) (old new : Nodes E) (e : WorldEvent) (r : Result A WorldFault) → fault_of (cluster_of old) (world_of old) e ≡ None
    → IsStill meaning noted old new → IfErr r (λ f. f ≡ Memory) → IfErr r (λ f. IsRefused meaning noted old new e f)
refused_by meaning noted old new e (Ok x) none still is = tt
refused_by meaning noted old new e (Err f) none still is = record { still = still; fault = is ∙ ap refusal (sym none) }

pub action_for-requires : goal.action_for-requires
action_for-requires g c =
    let self = c.args.self.now in
    let none = at_lists c.deref.result.now self.slots.items c.deref-2.result.now self.packets.items c.deref-3.result.now self.trace.items c.args.event.now c.fault_of.result
    c.requires.settings c.deref.ensures.value c.deref-2.ensures.value c.deref-3.ensures.value c.fault_of.ensures c.in_default.is in
    subst (λ (ps : List Packet). IsSome (action_of ps c.args.event.now)) (sym c.deref-4.ensures.value) (asks (cluster_of self) (world_of self) c.args.event.now none)

pub perform_at-requires-clause-there : goal.perform_at-requires-clause-there
perform_at-requires-clause-there g c =
    let self = c.args.self.now in
    let none = at_lists c.deref.result.now self.slots.items c.deref-2.result.now self.packets.items c.deref-3.result.now self.trace.items c.args.event.now c.fault_of.result
    c.requires.settings c.deref.ensures.value c.deref-2.ensures.value c.deref-3.ensures.value c.fault_of.ensures c.in_default.is in
    told_there self.slots.items c.in_ok-action.action.node (goes (cluster_of self) (world_of self) c.in_ok-action.action c.args.event.now none (ap (λ (ps : List Packet). action_of ps c.args.event.now) (sym c.deref-4.ensures.value) ∙ c.in_ok-action.ensures)).there

pub perform_at-requires-clause-up : goal.perform_at-requires-clause-up
perform_at-requires-clause-up g c =
    let self = c.args.self.now in
    let none = at_lists c.deref.result.now self.slots.items c.deref-2.result.now self.packets.items c.deref-3.result.now self.trace.items c.args.event.now c.fault_of.result
    c.requires.settings c.deref.ensures.value c.deref-2.ensures.value c.deref-3.ensures.value c.fault_of.ensures c.in_default.is in
    (goes (cluster_of self) (world_of self) c.in_ok-action.action c.args.event.now none (ap (λ (ps : List Packet). action_of ps c.args.event.now) (sym c.deref-4.ensures.value) ∙ c.in_ok-action.ensures)).up

pub returns-in_err-perform_at-clause-world : goal.returns-in_err-perform_at-clause-world
returns-in_err-perform_at-clause-world g c = still_world g.E.Engine.valid c.args.self.now _ c.perform_at.ensures.number c.requires c.perform_at.ensures.slots c.perform_at.ensures.settings

pub returns-in_err-perform_at-clause-refused : goal.returns-in_err-perform_at-clause-refused
returns-in_err-perform_at-clause-refused g c =
    let self = c.args.self.now in
    let none = at_lists c.deref.result.now self.slots.items c.deref-2.result.now self.packets.items c.deref-3.result.now self.trace.items c.args.event.now c.fault_of.result
    c.requires.settings c.deref.ensures.value c.deref-2.ensures.value c.deref-3.ensures.value c.fault_of.ensures c.in_default.is in
    let new : Nodes g.row.E.Denot = record { alloc = self.alloc; slots = c.perform_at.new.slots; packets = c.perform_at.new.packets; trace = c.try_reserve.new.self } in
    let still : IsStill g.E.Engine.meaning g.E.Engine.heard self new = stays g.E.Engine.meaning g.E.Engine.heard self new c.perform_at.ensures.number c.perform_at.ensures.settings c.perform_at.ensures.meanings
    c.in_err-perform_at.ensures.undone c.in_err-perform_at.ensures.unsent c.try_reserve.ensures.items in
    let memory : IfErr c.from_residual-in_err-perform_at.result (λ (f : WorldFault). f ≡ Memory) = search rules in
    refused_by g.E.Engine.meaning g.E.Engine.heard self new c.args.event.now c.from_residual-in_err-perform_at.result none still memory

pub returns-clause-world : goal.returns-clause-world
returns-clause-world g c = still_world g.E.Engine.valid c.args.self.now _ c.perform_at.ensures.number c.requires c.perform_at.ensures.slots c.perform_at.ensures.settings

pub returns-clause-acted : goal.returns-clause-acted
returns-clause-acted g c =
    let self = c.args.self.now in
    let none = at_lists c.deref.result.now self.slots.items c.deref-2.result.now self.packets.items c.deref-3.result.now self.trace.items c.args.event.now c.fault_of.result
    c.requires.settings c.deref.ensures.value c.deref-2.ensures.value c.deref-3.ensures.value c.fault_of.ensures c.in_default.is in
    record {
      possible = none;
      action = c.in_ok-action.action;
      asked = ap (λ (ps : List Packet). action_of ps c.args.event.now) (sym c.deref-4.ensures.value) ∙ c.in_ok-action.ensures;
      number = c.perform_at.ensures.number;
      settings = c.perform_at.ensures.settings;
      meanings = c.perform_at.ensures.meanings;
      done = c.in_ok-perform_at.ensures.done;
      packets = c.in_ok-perform_at.ensures.sent;
      trace = c.try_reserve.ensures.items;
    }
