use Rattle.sv_target.proofs.Prelude.{rules, tests, all_from_yields_List, YieldsList-from_slice_split, are_escapes, is_percent}
use Rattle.sv_target.specs.Segment.{begins_escape}
use Rattle.sv_target.proofs.segment.are_escapes.Goals as goal

pub returns : goal.returns
unfolding are_escapes
returns c =
    all_from_yields_List begins_escape _ _ c.all.result c.all.ensures.ran
    (YieldsList-from_slice_split _ is_percent c.args.behind.now c.split.ensures.rest c.split.ensures.done c.split.ensures.closure (λ x b q k. search (rules, tests)))
    (λ x b q k. search (rules, tests))
