use Rattle.sv_world.proofs.Prelude.{◌∷◌, [], refl, sym, ap, ◌∙◌, subst, add-one, Restart, HaveHappened, restarts}
use Rattle.sv_world.proofs.RanLemmas.{joined}
use Rattle.sv_world.proofs.world.World.start_all.Goals as goal

pub loop-node-preserved : goal.loop-node-preserved
loop-node-preserved g c =
    let node = c.loop-node.node in
    record {
      world = c.happen.ensures.world;
      happened = subst (HaveHappened g.E.Engine.meaning g.E.Engine.heard c.args.self.now c.happen.new.self) (ap restarts (sym (add-one node)))
          (joined g.E.Engine.meaning g.E.Engine.heard c.args.self.now c.loop-node.self c.happen.new.self (restarts node) (Restart node ∷ []) c.loop-node.invariant.happened c.in_ok-happen.ensures.happened);
      heard = c.in_ok-happen.ensures.silent refl ∙ c.loop-node.invariant.heard;
    }

pub returns-in_err-happen-clause-size : goal.returns-in_err-happen-clause-size
returns-in_err-happen-clause-size g c = c.in_err-happen.ensures.refused.still.size ∙ c.loop-node.invariant.happened.size

pub returns-in_err-happen-clause-meanings : goal.returns-in_err-happen-clause-meanings
returns-in_err-happen-clause-meanings g c = c.in_err-happen.ensures.refused.still.meanings ∙ c.loop-node.invariant.happened.meanings

pub returns-in_err-happen-clause-heard : goal.returns-in_err-happen-clause-heard
returns-in_err-happen-clause-heard g c = c.in_err-happen.ensures.refused.still.heard ∙ c.loop-node.invariant.heard
