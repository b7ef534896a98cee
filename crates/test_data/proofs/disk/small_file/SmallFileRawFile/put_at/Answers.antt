use Rattle.std.proofs.Common.{rules, length, take, arith}
use Rattle.std.proofs.lemmas.List.{length-take}
use Rattle.sv_journal.specs.MemoryDisk.{disk_bytes, may_be_left, moment_of, tells_all, was_left_since}
use Rattle.sv_journal.proofs.FrontLemmas.{nothing_written}
use Rattle.sv_journal.proofs.PastLemmas.{passes_longer}
use Rattle.test_data.proofs.disk.small_file.SmallFileRawFile.put_at.Goals as goal

pub returns-then-is_err-clause-front : goal.returns-then-is_err-clause-front
returns-then-is_err-clause-front c =
    λ _. nothing_written c.args.at c.args.bytes.now (disk_bytes c.args.self.now.disk) (disk_bytes c.write_at.new.self) (c.write_at.ensures.fails.bytes (search rules))

pub returns-then-is_err-clause-stop : goal.returns-then-is_err-clause-stop
returns-then-is_err-clause-stop c =
    let p = passes_longer tells_all may_be_left moment_of was_left_since c.args.self.now.disk c.write_at.new.self c.args.at (length (take c.min.result c.args.bytes.now)) (length c.args.bytes.now)
    (omega (arith, length-take c.min.result c.args.bytes.now)) c.write_at.ensures.stop in
    record { tells_after = p.tells_after; told_before = p.told_before; stop = p.stop; time = p.time }

pub returns-then-front-bytes-clause-stop : goal.returns-then-front-bytes-clause-stop
returns-then-front-bytes-clause-stop c =
    let p = passes_longer tells_all may_be_left moment_of was_left_since c.args.self.now.disk c.write_at.new.self c.args.at (length (take c.min.result c.args.bytes.now)) (length c.args.bytes.now)
    (omega (arith, length-take c.min.result c.args.bytes.now)) c.write_at.ensures.stop in
    record { tells_after = p.tells_after; told_before = p.told_before; stop = p.stop; time = p.time }
