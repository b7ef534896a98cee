use Rattle.std.proofs.Common.{rules, ◌≤◌, length, take, arith}
use Rattle.std.proofs.lemmas.List.{length-take}
use Rattle.sv_journal.specs.MemoryDisk.{tells_all, may_be_left, moment_of, was_left_since}
use Rattle.sv_journal.proofs.PastLemmas.{passes_longer}
use Rattle.sv_journal.proofs.memory_disk.MemoryDiskDisk.extend.Goals as goal

pub returns-in_err-write_at-clause-stop : goal.returns-in_err-write_at-clause-stop
returns-in_err-write_at-clause-stop c =
    passes_longer tells_all may_be_left moment_of was_left_since c.args.self.now c.write_at.new.self c.args.at (length (take c.min.result c.args.bytes.now)) (length c.args.bytes.now)
    (omega (arith, length-take c.min.result c.args.bytes.now)) c.write_at.ensures.stop

pub returns-clause-stop : goal.returns-clause-stop
returns-clause-stop c =
    let p = passes_longer tells_all may_be_left moment_of was_left_since c.args.self.now c.write_at.new.self c.args.at (length (take c.min.result c.args.bytes.now)) (length c.args.bytes.now)
    (omega (arith, length-take c.min.result c.args.bytes.now)) c.write_at.ensures.stop in
    record { tells_after = p.tells_after; told_before = p.told_before; stop = p.stop; time = p.time }
