use Rattle.sv_config.proofs.Prelude.{◌≡◌, map, drop, list_all}
use Rattle.sv_config.specs.Spelling.{is_segment}
use Rattle.sv_config.proofs.spelling.are_segments.Given as goal

abbrev pub invariant-loop-segment : goal.invariant-loop-segment
invariant-loop-segment l =
    list_all is_segment (map (λ segment. segment.now) l.segments) ≡ list_all is_segment (map (λ segment. segment.now) (drop l.segment-index l.segments))
