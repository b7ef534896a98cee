use Rattle.sv_world.proofs.Prelude.{◌≡◌, ◌<◌, ◌∷◌, [], ◌++◌, arith, sym, ap, ◌∙◌, subst, List, setting_by, Slot, AreFilled}
use Rattle.std.proofs.Common.{◌+◌, take, length, length-drop}
use Rattle.std.proofs.lemmas.List.{length_push}
use Rattle.sv_world.proofs.MakingLemmas.{first_rest, more_dropped, more_taken, one_filled}
use Rattle.sv_world.proofs.filling.fill_slots.Goals as goal

pub loop-node-preserved : goal.loop-node-preserved
loop-node-preserved g c =
    let node = c.loop-node.node in
    let engines = c.args.engines.now.items in
    let rest = c.loop-node.engines.items in
    let slots = c.loop-node.slots.items in
    let e = c.remove-engine.result in
    let s = c.new_slot.result in
    let behind = c.remove-engine.new.self.items in
    let h = c.loop-node.invariant in
    let nodes : c.len-nodes.result ≡ length engines = omega arith in
    let less : 0 < length rest = omega (arith, ap length h.rest, length-drop node engines) in
    let is : rest ≡ e ∷ behind = first_rest rest e behind less c.remove-engine.ensures.value c.remove-engine.ensures.by_index.2 in
    let more : AreFilled (length engines) c.args.rules (take node engines ++ e ∷ []) (slots ++ s ∷ []) =
    one_filled (length engines) c.args.rules (take node engines) slots e s h.filled c.new_slot.ensures.idle c.new_slot.ensures.core c.new_slot.ensures.journal
    (c.new_slot.ensures.setting ∙ c.setting-setting.ensures ∙ (λ i. setting_by c.args.rules (sym h.long i) (nodes i))) in
    record {
      filled = subst (λ (xs : List (Slot g.row.E.Denot)). AreFilled (length engines) c.args.rules (take (node + 1) engines) xs) (sym c.push_reserved.ensures.items)
          (subst (λ (xs : List g.row.E.Denot). AreFilled (length engines) c.args.rules xs (slots ++ s ∷ [])) (sym (more_taken engines node rest e behind h.rest is)) more);
      rest = more_dropped engines node rest e behind h.rest is;
      long = ap length c.push_reserved.ensures.items ∙ length_push slots s ∙ ap (λ n. n + 1) h.long;
      capacity = c.remove-engine.ensures.capacity ∙ h.capacity;
      room = c.push_reserved.ensures.capacity ∙ h.room;
    }
