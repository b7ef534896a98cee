use Rattle.sv_servlet.specs.declared.servlet.Next.TheVariants.{Done}
use Rattle.sv_web.specs.Files.{nosniff, typed}
use Rattle.sv_web.specs.Work.{Ends}
use Rattle.sv_web.proofs.DoneLemmas.{part_done, part_stops}
use Rattle.sv_web.proofs.files.send_as.Goals as goal

pub returns-in-Ok : goal.returns-in-Ok
returns-in-Ok c =
    part_done (λ more. nosniff (typed c.args.media_type.now c.args.bytes.now more)) Done c.args.web.now c.write_as.new.web tt c.in-Ok.ensures

pub returns-in-Err : goal.returns-in-Err
returns-in-Err c =
    part_stops (λ more. nosniff (typed c.args.media_type.now c.args.bytes.now more)) (Ends Done) c.args.web.now c.write_as.new.web c.in-Err.refusal c.in-Err.ensures
