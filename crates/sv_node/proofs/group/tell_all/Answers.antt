use Rattle.std.proofs.Common.{◌∙◌, ap, arith, length}
use Rattle.std.specs.Vec.Iter.{into_iter_items}
use Rattle.sv_core.specs.Core.{engine_of}
use Rattle.sv_node.proofs.GroupLemmas.{told_one, answered_one}
use Rattle.sv_node.proofs.group.tell_all.Goals as goal

pub loop-one-preserved : goal.loop-one-preserved
loop-one-preserved g c =
    let at = c.loop-one in
    let e = g.E.Engine in
    let here = c.in-Some.ensures.steps.0 in
    let long = ap length here in
    record {
      valid = c.tell.ensures.valid;
      meaning = c.tell.ensures.meaning ∙ at.invariant.meaning;
      node = c.tell.ensures.node ∙ at.invariant.node;
      setting = c.tell.ensures.setting ∙ at.invariant.setting;
      heard = told_one (e.meaning (engine_of c.args.core.now)) (e.meaning (engine_of at.core)) _ (e.heard (engine_of at.core)) (e.heard (engine_of c.tell.new.core)) c.in-Some.one (into_iter_items at.one-iterator) (into_iter_items c.next.new.self) at.invariant.meaning here c.tell.ensures.heard at.invariant.heard;
      answers = answered_one at.answers.items c.push_reserved.new.self.items c.tell.result c.in-Some.one (into_iter_items at.one-iterator) (into_iter_items c.next.new.self) _ c.push_reserved.ensures.items c.tell.ensures.answer here at.invariant.answers;
      long = omega (arith, c.in-Some.ensures.steps.1, at.invariant.long, long);
      memory = omega (arith, c.push_reserved.ensures.len, c.push_reserved.ensures.capacity, c.in-Some.ensures.steps.1, at.invariant.memory);
    }
