use Rattle.sv_container.proofs.Prelude.{◌≡◌, ◌∷◌, ◌∙◌, arith, drop, sym, into_iter_items}
use Rattle.sv_container.proofs.AssembleLemmas.{more_dropped, one_more_filled}
use Rattle.sv_container.proofs.assemble.fill.Goals as goal

pub loop-count-preserved : goal.loop-count-preserved
loop-count-preserved g c =
    let here : drop c.loop-count.count (into_iter_items c.args.objects.now) ≡ c.in-Some.named ∷ into_iter_items c.next.new.self =
    sym c.loop-count.invariant.rest ∙ c.in-Some.ensures.items in
    record {
      filled = one_more_filled (into_iter_items c.args.objects.now) c.loop-count.count c.in-Some.named (into_iter_items c.next.new.self)
          c.loop-count.room.items c.push.new.self.items c.hosted.result here c.loop-count.invariant.filled c.hosted.ensures c.in-Ok.ensures.items;
      rest = more_dropped (into_iter_items c.args.objects.now) c.loop-count.count c.in-Some.named (into_iter_items c.next.new.self) here;
      room = omega (arith, c.loop-count.invariant.room, c.push.ensures.capacity);
      long = omega (arith, c.in-Ok.ensures.len, c.loop-count.invariant.long, c.loop-count.room.ok, c.push.new.self.ok);
    }
