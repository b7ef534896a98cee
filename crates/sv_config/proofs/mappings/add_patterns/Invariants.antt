use Rattle.sv_config.proofs.Prelude.{◌≡◌, map, take, fold}
use Rattle.sv_config.specs.Values as spec
use Rattle.sv_config.proofs.mappings.add_patterns.Given as goal

abbrev pub invariant-loop-pattern : goal.invariant-loop-pattern
invariant-loop-pattern l =
    l.mappings ≡ fold (spec.with_pattern l.servlet) l.fn.mappings (map (λ pattern. pattern.now) (take l.pattern-index l.patterns))
