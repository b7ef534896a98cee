use Rattle.sv_config.proofs.Prelude.{◌<◌, length, [], arith, Text}
use Rattle.std.specs.Borrow.{Bor}
use Rattle.sv_config.proofs.AgainLemmas.{found_more}
use Rattle.sv_config.proofs.unknown.names_of.Goals as goal

pub loop-name-preserved : goal.loop-name-preserved
loop-name-preserved c = λ text.
    let none : Bor Text = record { ref_ptr = (0, 0); now = [] } in
    let asked : Bor Text = record { ref_ptr = (0, 0); now = text } in
    let within : c.loop-name.name-index < length c.args.names.now = omega arith in
    found_more text c.args.names.now c.loop-name.name-index none _ _ within (c.in_ok-insert.ensures.updates.0 asked) (c.loop-name.invariant text)
