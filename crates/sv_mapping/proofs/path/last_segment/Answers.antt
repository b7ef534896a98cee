use Rattle.sv_mapping.proofs.Prelude.{◌∙◌, None, Some, arith, rfind_char}
use Rattle.sv_mapping.specs.Path.{last_segment}
use Rattle.sv_mapping.proofs.PathLemmas.{after_last-at, after_last-none}
use Rattle.sv_mapping.proofs.path.last_segment.Goals as goal

pub returns-in-Some : goal.returns-in-Some
unfolding last_segment
returns-in-Some c =
    let path = c.args.path.now in
    let found = rfind_char 47 path (Some c.in-Some.slash) c.in-Some.ensures.cases (omega arith) in
    c.range_from.ensures.value ∙ after_last-at 47 path c.in-Some.slash found.0 found.1 found.2

pub returns-in-None : goal.returns-in-None
unfolding last_segment
returns-in-None c =
    let path = c.args.path.now in
    after_last-none 47 path (rfind_char 47 path None c.in-None.ensures.cases (omega arith))
