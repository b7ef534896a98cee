use Rattle.std.proofs.Common.{sym}
use Rattle.test_engine.specs.CountingLaws.{hears_nothing}
use Rattle.test_engine.proofs.counter.CounterEngine.tell.Goals as goal

pub returns-clause-heard : goal.returns-clause-heard
returns-clause-heard c = sym (hears_nothing c.args.self.now.secret c.args._told.now)
