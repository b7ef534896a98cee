use Rattle.sv_core.proofs.Prelude.{sym, ap, subst, ◌∙◌, node_of, keys_of, durable_by, Rise, keys_in, wants_in, wants_where, wants_here, is_here, settles}
use Rattle.sv_core.proofs.Prelude.{settled_by}
use Rattle.sv_core.proofs.WantLemmas.{line_rises}
use Rattle.sv_core.proofs.SettledLemmas.{settled_behind}
use Rattle.sv_core.proofs.kept.Kept.take_plainly.Goals as goal

pub settle_behind-requires-clause-rise : goal.settle_behind-requires-clause-rise
settle_behind-requires-clause-rise c = let k = c.args.self.now in subst (λ l. Rise (wants_in l)) (sym c.deref.ensures.value) (line_rises k.next_want k.parked.items k.line)

pub settle_behind-requires-clause-keyed : goal.settle_behind-requires-clause-keyed
settle_behind-requires-clause-keyed c = let k = c.args.self.now in c.deref-2.ensures.value ∙ k.keyed ∙ ap keys_in (sym c.deref.ensures.value)

pub invariant_of-self : goal.invariant_of-self
invariant_of-self c =
    let k = c.args.self.now in
    let here = is_here (node_of k).durable in
    record {
      keyed = k.keyed;
      line = k.line;
      walked = c.settle_behind.ensures.items here (k.walked ∙ ap (wants_where here) (sym c.deref.ensures.value))
          ∙ ap (wants_where (settled_by (settles c.args.entry) here)) c.deref.ensures.value
          ∙ settled_behind (keys_of k.keys) k.boot k.next k.home c.args.entry k.parked.items c.requires.plain c.requires.stays
          ∙ (λ i. wants_here (durable_by (sym c.take_record.ensures i) (sym c.counts_behind-boot.ensures i).0 (sym c.counts_behind-boot.ensures i).1 (c.requires.stays i)) k.parked.items)
          ∙ (λ i. wants_here (durable_by (keys_of c.take_record.new.self) c.counts_behind-boot.result.0 c.counts_behind-boot.result.1 (sym c.requires.plain i)) k.parked.items);
      ended = k.ended;
    }
