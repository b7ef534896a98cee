use Rattle.sv_core.proofs.Prelude.{length, arith, ap, ◌∙◌, keys_of, durable_by, wants_here}
use Rattle.sv_core.proofs.kept.Kept.take_anew.Goals as goal

pub settle_anew-requires : goal.settle_anew-requires
settle_anew-requires c = let k = c.args.self.now in omega (arith, ap length c.deref.ensures.value, c.requires.room.settled)

pub invariant_of-self : goal.invariant_of-self
invariant_of-self c =
    let k = c.args.self.now in
    record {
      keyed = k.keyed;
      line = k.line;
      walked = c.settle_anew.ensures.items ∙ ap (wants_here (durable_by (keys_of c.take_record.new.self) 0 c.counts_behind-boot.result.1 c.home_behind-home.result)) c.deref.ensures.value;
      ended = k.ended;
    }
