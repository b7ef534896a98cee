use Rattle.std.proofs.Common.{[], sym, refl}
use Rattle.sv_solo.proofs.QuietLemmas.{notes_nothing}
use Rattle.test_requests.specs.Turns.{turns}
use Rattle.test_requests.proofs.connection.tests.engines.TurnerEngine.tell.Goals as goal

pub returns-clause-heard : goal.returns-clause-heard
returns-clause-heard c = sym (notes_nothing (turns c.args.self.now.named) (λ heard told. refl) [] c.args.told.now)
