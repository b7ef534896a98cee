use Rattle.sv_mapping.proofs.Prelude.{arith}
use Rattle.std.proofs.lemmas.Str.{IsCharBoundary-after_ascii}
use Rattle.sv_mapping.proofs.PatternLemmas.{extension_len, extension_dot}
use Rattle.sv_mapping.proofs.pattern.suffix_of.Goals as goal

pub range_from-requires : goal.range_from-requires
range_from-requires c =
    let pattern = c.args.pattern.now in
    let long = extension_len pattern c.requires in
    let dot = extension_dot pattern c.requires in
    λ _. IsCharBoundary-after_ascii pattern 1 c.utf8.pattern (omega arith) (omega arith)
