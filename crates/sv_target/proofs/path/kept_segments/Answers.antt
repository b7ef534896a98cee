use Rattle.sv_target.proofs.PathLemmas.{segments_of}
use Rattle.sv_target.proofs.path.kept_segments.Goals as goal

pub returns-clause-ok : goal.returns-clause-ok
returns-clause-ok c =
    let segs = segments_of c.in_ok-parts.parts.items c.args.rest.now c.in_ok-parts.ensures in
    rw (c.deref.ensures.value, segs) at c.resolve.ensures.ok

pub returns-clause-bad : goal.returns-clause-bad
returns-clause-bad c =
    let segs = segments_of c.in_ok-parts.parts.items c.args.rest.now c.in_ok-parts.ensures in
    rw (c.deref.ensures.value, segs) at c.resolve.ensures.bad
