use Rattle.sv_mapping.proofs.Prelude.{None, Some, refl, ◌∙◌, arith, rfind_char, extension_of}
use Rattle.sv_mapping.proofs.PathLemmas.{after_last-at, list_any-none, list_any-at}
use Rattle.sv_mapping.proofs.path.extension_of.Goals as goal

pub returns-in_err-dot : goal.returns-in_err-dot
unfolding extension_of
returns-in_err-dot c =
    let segment = c.last_segment-segment.result.now in
    let none = list_any-none 46 segment (rfind_char 46 segment None c.in_err-dot.ensures.cases (omega arith)) in
    rw (c.from_residual.ensures, ← c.last_segment-segment.ensures, none) refl

pub returns : goal.returns
unfolding extension_of
returns c =
    let segment = c.last_segment-segment.result.now in
    let found = rfind_char 46 segment (Some c.in_ok-dot.dot) c.in_ok-dot.ensures.cases (omega arith) in
    let some = list_any-at 46 segment c.in_ok-dot.dot found.0 found.1 in
    let behind = c.range_from.ensures.value ∙ after_last-at 46 segment c.in_ok-dot.dot found.0 found.1 found.2 in
    rw (← c.last_segment-segment.ensures, some, behind) refl
