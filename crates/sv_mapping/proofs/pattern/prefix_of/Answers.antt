use Rattle.sv_mapping.proofs.Prelude.{◌-◌, length, arith, IsCharBoundary-before_ascii}
use Rattle.sv_mapping.proofs.PatternLemmas.{prefix_len, prefix_slash_at}
use Rattle.sv_mapping.proofs.pattern.prefix_of.Goals as goal

pub overflow_sub-pattern : goal.overflow_sub-pattern
overflow_sub-pattern c = prefix_len c.args.pattern.now c.requires

pub range-requires-clause-end_boundary : goal.range-requires-clause-end_boundary
range-requires-clause-end_boundary c =
    let pattern = c.args.pattern.now in
    let long = prefix_len pattern c.requires in
    let slash = prefix_slash_at pattern c.requires in
    IsCharBoundary-before_ascii pattern (length pattern - 2) (omega arith) (omega arith)
