use Rattle.std.proofs.Common.{◌≡◌, ◌∙◌, [], ◌∷◌, inl, ap, sym, refl, subst, arith, rules, length, length-append}
use Rattle.std.specs.List.{AllByRecursion}
use Rattle.std.specs.Vec.Iter.{into_iter_items}
use Rattle.sv_core.specs.Core.{engine_of, node_at, setting_of}
use Rattle.sv_model.specs.Ranges.{IsInput}
use Rattle.sv_node.proofs.GroupLemmas.{Taking, begun, goes_on_by, ended, nothing}
use Rattle.sv_node.proofs.group.take_all.Goals as goal

pub loop-next-init : goal.loop-next-init
loop-next-init g c =
    let m = g.E.Engine.meaning (engine_of c.args.core.now) in
    let set = setting_of c.args.core.now in
    let first = node_at c.args.core.now in
    let all = c.args.inputs.items in
    let is : into_iter_items c.into_iter-next-iterator.result ≡ all = search rules in
    record {
      valid = c.requires.valid;
      meaning = refl;
      heard = refl;
      setting = refl;
      ranged = c.requires.ranged;
      room = inl (ap length c.requires.batch.bytes);
      inputs = subst (λ xs. AllByRecursion (λ i. IsInput i.1) xs) (sym is) c.requires.inputs;
      taking = subst (λ xs. Taking c.args.journal.now m set first all c.args.held.now.items c.args.batch.now first xs) (sym is) (begun c.args.journal.now m set first all c.args.held.now.items c.args.batch.now c.requires.empty c.requires.batch);
      long = search rules;
      memory = search (rules, arith);
      count = search (rules, arith);
    }

pub loop-next-preserved : goal.loop-next-preserved
loop-next-preserved g c =
    let at = c.loop-next in
    let e = g.E.Engine in
    let old = c.args.core.now in
    let here = c.in-Some.ensures.steps.0 in
    let long = ap length here in
    let grown = ap length c.push_reserved.ensures.items in
    record {
      valid = c.take.ensures.valid;
      meaning = c.take.ensures.meaning ∙ at.invariant.meaning;
      heard = c.take.ensures.heard ∙ at.invariant.heard;
      setting = c.take.ensures.setting ∙ at.invariant.setting;
      ranged = c.take.ensures.ranged;
      room = c.take.ensures.room;
      inputs = (subst (λ xs. AllByRecursion (λ i. IsInput i.1) xs) here at.invariant.inputs).1;
      taking = goes_on_by c.args.journal.now (e.meaning (engine_of old)) (setting_of old) (node_at old) c.args.inputs.items (e.meaning (engine_of at.core)) (setting_of at.core) at.held.items c.push_reserved.new.self.items c.take.result at.batch c.take.new.batch (node_at at.core) (node_at c.take.new.core) (into_iter_items at.next-iterator) (into_iter_items c.next.new.self) c.in-Some.next
          at.invariant.meaning at.invariant.setting c.push_reserved.ensures.items at.invariant.taking here c.take.ensures.taken;
      long = omega (arith, c.in-Some.ensures.steps.1, at.invariant.long, long);
      memory = omega (arith, c.push_reserved.ensures.len, c.push_reserved.ensures.capacity, c.in-Some.ensures.steps.1, at.invariant.memory);
      count = omega (arith, grown, length-append at.held.items (c.take.result ∷ []), c.in-Some.ensures.steps.1, at.invariant.count);
    }

pub returns-clause-taken : goal.returns-clause-taken
returns-clause-taken g c =
    let at = c.loop-next in
    let old = c.args.core.now in
    let none = nothing (into_iter_items at.next-iterator) (sym at.invariant.long ∙ c.in-None.ensures.steps.0) in
    ended c.args.journal.now (g.E.Engine.meaning (engine_of old)) (setting_of old) (node_at old) c.args.inputs.items at.held.items at.batch (node_at at.core) (into_iter_items at.next-iterator) at.invariant.taking none
