use Rattle.std.proofs.Common.{[], sym, refl}
use Rattle.std.specs.Prelude.{None, false}
use Rattle.sv_model.specs.Engine.{EngineMeaning}
use Rattle.sv_model.specs.declared.outcome.Fate.TheVariants.{Untouched}
use Rattle.sv_model.specs.declared.outcome.Birth.TheVariants.{Absent}
use Rattle.sv_solo.proofs.QuietLemmas.{notes_nothing}
use Rattle.test_requests.proofs.connection.tests.engines.GreeterEngine.tell.Goals as goal

pub returns-clause-heard : goal.returns-clause-heard
returns-clause-heard c =
    let m : EngineMeaning = record {
      names = λ r. None;
      serve = λ r held now fresh. record {
        response = record { status = 200; fields = []; body = r.raw_path; head_only = false; close = r.close };
        fate = Untouched;
        birth = Absent;
        events = [];
      };
      hear = λ heard told. heard;
    } in
    sym (notes_nothing m (λ heard told. refl) [] c.args._told.now)
