use Rattle.sv_target.proofs.Prelude.{arith, ◌<◌, List, ℕ, length, map, [], sym, ◌∙◌, Bor, cow_str_bytes, cut}
use Rattle.std.proofs.lemmas.List.{get_or-map, length-map}
use Rattle.std.proofs.lemmas.Result.{err_from_is_err_and}
use Rattle.sv_target.proofs.PathLemmas.{fold_next, stopped}
use Rattle.sv_target.proofs.path.keep_segments.Goals as goal

pub returns-in_err-take_segment-clause-bad : goal.returns-in_err-take_segment-clause-bad
returns-in_err-take_segment-clause-bad c = λ is_bad.
    let p = err_from_is_err_and c.from_residual-in_err-take_segment.result c.from_residual-in_err-take_segment.ensures.1 in
    let none : Bor (List ℕ) = record { ref_ptr = (0, 0); now = [] } in
    let seg = λ (part : Bor (List ℕ)). cut part.now in
    let ss = map seg c.args.parts.now in
    let i = c.loop-part.part-index in
    let within : i < length c.args.parts.now = omega arith in
    let inside : i < length ss = omega (arith, length-map c.args.parts.now seg) in
    let here = c.cut.ensures ∙ sym (get_or-map seg c.args.parts.now i none [] within) in
    stopped ss i c.cut.result.now (map cow_str_bytes c.loop-part.kept.items) inside here c.loop-part.invariant
    (c.in_err-take_segment.ensures.bad (cc (p.1, p.2)))

pub loop-part-preserved : goal.loop-part-preserved
loop-part-preserved c =
    let none : Bor (List ℕ) = record { ref_ptr = (0, 0); now = [] } in
    let seg = λ (part : Bor (List ℕ)). cut part.now in
    let ss = map seg c.args.parts.now in
    let i = c.loop-part.part-index in
    let within : i < length c.args.parts.now = omega arith in
    let inside : i < length ss = omega (arith, length-map c.args.parts.now seg) in
    let here = c.cut.ensures ∙ sym (get_or-map seg c.args.parts.now i none [] within) in
    fold_next ss i c.cut.result.now (map cow_str_bytes c.loop-part.kept.items) (map cow_str_bytes c.take_segment.new.kept.items)
    inside here c.loop-part.invariant c.in_ok-take_segment.ensures.ok
