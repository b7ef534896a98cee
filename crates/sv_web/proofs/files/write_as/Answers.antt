use Rattle.sv_web.specs.Files.{nosniff, typed}
use Rattle.sv_web.proofs.PartLemmas.{part_ends, part_then}
use Rattle.sv_web.proofs.files.write_as.Goals as goal

pub returns-in-Ok : goal.returns-in-Ok
returns-in-Ok c =
    part_then (λ more. nosniff more) (λ more. typed c.args.media_type.now c.args.bytes.now more) c.args.web.now c.set_nosniff.new.web c.write_typed.new.web tt c.write_typed.result c.in-Ok.ensures c.write_typed.ensures

pub returns-in-Err : goal.returns-in-Err
returns-in-Err c = part_ends (λ more. nosniff more) (λ more. typed c.args.media_type.now c.args.bytes.now more) c.args.web.now c.set_nosniff.new.web c.in-Err.refusal c.in-Err.ensures
