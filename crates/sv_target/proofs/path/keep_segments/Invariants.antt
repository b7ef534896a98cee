use Rattle.sv_target.proofs.Prelude.{◌≡◌, [], map, take, Some, fold, cow_str_bytes, step, cut}
use Rattle.sv_target.proofs.path.keep_segments.Given as goal

abbrev pub invariant-loop-part : goal.invariant-loop-part
invariant-loop-part l =
    fold step (Some []) (take l.part-index (map (λ part. cut part.now) l.parts)) ≡ Some (map cow_str_bytes l.kept.items)
