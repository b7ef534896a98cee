use Rattle.sv_target.proofs.Prelude.{◌≡◌, ◌++◌, map, trim, pairs_among}
use Rattle.sv_target.proofs.cookie_fields.add_pairs.Given as goal

abbrev pub invariant-loop-part : goal.invariant-loop-part
invariant-loop-part l = l.cookies ≡ l.fn.cookies ++ pairs_among (map (λ part. trim part.now) l.yielded)
