use Rattle.std.specs.declared.fs.File.{File}
use Rattle.sv_host.specs.Running.{HasRun}
use Rattle.sv_journal.specs.declared.file_disk.OnFile.{OnFile}
use Rattle.sv_journal.specs.contracts.raw_file.FileRawFile.TheImpl as file
use Rattle.sv_launch.proofs.StartedLemmas.{runs_as_read}
use Rattle.sv_launch.proofs.program.serve_in_cluster.Goals as goal

pub returns : goal.returns
returns g c =
    runs_as_read (g.A.Applications.means c.args.applications.now)
    (λ m heard p. HasRun {D = OnFile File file.ghosts} (λ d. file.ghosts.tells d.file) (λ d. file.ghosts.seen d.file) (λ d. file.ghosts.may_leave d.file) m heard p
    c.args.node.now.options.persistence)
    c.args.node.now.number c.in_ok-deployment.deployment c.as_slice-2.result.now c.in_ok-place.place c.start.result c.start.ensures.started
    c.in_ok-deployment.ensures.read c.in_ok-place.ensures
