use Rattle.sv_world.proofs.Prelude.{◌<◌, ◌∷◌, [], ◌++◌, arith, refl, sym, ap, ◌∙◌, slice_get_read}
use Rattle.std.proofs.Common.{take, length}
use Rattle.std.proofs.lemmas.List.{take_more}
use Rattle.sv_world.proofs.RanLemmas.{one_more, stopped_at}
use Rattle.sv_world.proofs.world.World.happen_all.Goals as goal

pub returns-in-Err-clause-stopped : goal.returns-in-Err-clause-stopped
returns-in-Err-clause-stopped g c =
    let events = c.args.events.now in
    let place = c.loop-place.place in
    let e = c.index-events-place.result in
    let less : place < length events = omega arith in
    stopped_at g.E.Engine.meaning g.E.Engine.heard c.args.self.now c.loop-place.self c.happen_once.new.self events place e c.in-Err.fault less
    (slice_get_read events (length events) place e refl less c.index-events-place.is) c.loop-place.invariant.happened c.in-Err.ensures.refused

pub loop-place-preserved : goal.loop-place-preserved
loop-place-preserved g c =
    let events = c.args.events.now in
    let place = c.loop-place.place in
    let e = c.index-events-place.result in
    let less : place < length events = omega arith in
    record {
      world = c.happen_once.ensures.world;
      happened = one_more g.E.Engine.meaning g.E.Engine.heard c.args.self.now c.loop-place.self c.happen_once.new.self events place e
          (take_more events place e less ∙ ap (λ x. take place events ++ x ∷ []) (sym c.index-events-place.is)) c.loop-place.invariant.happened c.in_default.ensures.happened;
    }
