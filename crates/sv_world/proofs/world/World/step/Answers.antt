use Rattle.sv_world.proofs.Prelude.{always, steady}
use Rattle.sv_world.proofs.RanLemmas.{step_some, some_ran, ran_headline, ran_steady, ran_fit, ran_progress}
use Rattle.sv_world.proofs.world.World.step.Goals as goal

pub returns-clause-ran : goal.returns-clause-ran
returns-clause-ran g c m k r =
    let old = c.args.self.now in
    let new = c.happen.new.self in
    let some = step_some g.E.Engine.meaning g.E.Engine.heard c.happen.result old new c.args.event c.happen.ensures.happened c.happen.ensures.refused in
    some_ran g.E.Engine.meaning g.E.Engine.heard old new some m k r

pub returns-clause-headline : goal.returns-clause-headline
returns-clause-headline g c m k r knows =
    let old = c.args.self.now in
    let new = c.happen.new.self in
    let some = step_some g.E.Engine.meaning g.E.Engine.heard c.happen.result old new c.args.event c.happen.ensures.happened c.happen.ensures.refused in
    ran_headline g.E.Engine.meaning g.E.Engine.heard m k new (some_ran g.E.Engine.meaning g.E.Engine.heard old new some m k r) knows

pub returns-clause-steady : goal.returns-clause-steady
returns-clause-steady g c m nodes rules r =
    let old = c.args.self.now in
    let new = c.happen.new.self in
    let some = step_some g.E.Engine.meaning g.E.Engine.heard c.happen.result old new c.args.event c.happen.ensures.happened c.happen.ensures.refused in
    ran_steady g.E.Engine.meaning g.E.Engine.heard m nodes rules new (some_ran g.E.Engine.meaning g.E.Engine.heard old new some (always m) (steady nodes rules) r)

pub returns-clause-fit : goal.returns-clause-fit
returns-clause-fit g c m k wide r within =
    let old = c.args.self.now in
    let new = c.happen.new.self in
    let some = step_some g.E.Engine.meaning g.E.Engine.heard c.happen.result old new c.args.event c.happen.ensures.happened c.happen.ensures.refused in
    ran_fit g.E.Engine.meaning g.E.Engine.heard m k new (some_ran g.E.Engine.meaning g.E.Engine.heard old new some m k r) wide within

pub returns-clause-progress : goal.returns-clause-progress
returns-clause-progress g c m k r =
    let old = c.args.self.now in
    let new = c.happen.new.self in
    let some = step_some g.E.Engine.meaning g.E.Engine.heard c.happen.result old new c.args.event c.happen.ensures.happened c.happen.ensures.refused in
    ran_progress g.E.Engine.meaning g.E.Engine.heard m k new (some_ran g.E.Engine.meaning g.E.Engine.heard old new some m k r)
