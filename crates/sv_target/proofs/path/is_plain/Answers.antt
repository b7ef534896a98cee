use Rattle.sv_target.proofs.Prelude.{rules, tests, ◌∙◌, all_from_yields_List, YieldsList-from_slice_split, is_plain_segment, is_slash}
use Rattle.sv_target.proofs.path.is_plain.Goals as goal

pub returns : goal.returns
returns c =
    all_from_yields_List is_plain_segment _ _ c.all.result c.all.ensures.ran
    (YieldsList-from_slice_split _ is_slash c.args.rest.now (c.split.ensures.rest ∙ c.as_bytes.ensures.value) c.split.ensures.done c.split.ensures.closure (λ x b q k. search (rules, tests)))
    (λ x b q k. search (rules, tests))
