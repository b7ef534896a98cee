-- Stages of the tests' servlets and filters, each of which is ready.
use Rattle.sv_dispatch.specs.Stages.{IsSound, table_of}
use Rattle.sv_dispatch.specs.declared.stage.Stage.{Stage}
use Rattle.test_rows.specs.Scripted.{marking, scripted}
use Rattle.test_rows.specs.declared.scripted.Marking.{Marking}
use Rattle.test_rows.specs.declared.scripted.Scripted.{Scripted}

abbrev pub IsStaged : Stage Scripted Marking → Type 0
IsStaged stage =
    IsSound (table_of (record { serves = λ s call l. scripted s.status s.says s.then call l; servlet_phase = λ s. s.phase })
    (record { filtering = λ f. marking f.before.now f.after.now f.then; filter_phase = λ f. f.phase }) stage)
