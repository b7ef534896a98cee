use Rattle.sv_mapping.proofs.Prelude.{◌≡◌, sym, arith, Some, None, nat_tests, stripped}
use Rattle.sv_mapping.proofs.PathLemmas.{is_at_or_below-rest, is_at_or_below-apart, stripped-none, stripped-rest}
use Rattle.sv_mapping.proofs.path.is_at_or_below.Goals as goal

pub returns-then-is_empty : goal.returns-then-is_empty
returns-then-is_empty c =
    let found : Some c.in-Some.rest.now ≡ stripped c.args.front.now c.args.path.now = rw (c.as_bytes.ensures.value, c.as_bytes-2.ensures.value) at c.in-Some.ensures in
    let behind = is_at_or_below-rest c.args.front.now c.args.path.now c.in-Some.rest.now (stripped-rest _ _ _ (sym found)) in
    grind (arith, nat_tests, behind)

pub returns-else-is_empty : goal.returns-else-is_empty
returns-else-is_empty c =
    let found : Some c.in-Some.rest.now ≡ stripped c.args.front.now c.args.path.now = rw (c.as_bytes.ensures.value, c.as_bytes-2.ensures.value) at c.in-Some.ensures in
    let behind = is_at_or_below-rest c.args.front.now c.args.path.now c.in-Some.rest.now (stripped-rest _ _ _ (sym found)) in
    grind (arith, nat_tests, behind)

pub returns-in-None : goal.returns-in-None
returns-in-None c =
    let none : None ≡ stripped c.args.front.now c.args.path.now = rw (c.as_bytes.ensures.value, c.as_bytes-2.ensures.value) at c.in-None.ensures in
    sym (is_at_or_below-apart c.args.front.now c.args.path.now (stripped-none _ _ (sym none)))
