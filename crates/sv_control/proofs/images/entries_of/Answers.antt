use Rattle.sv_journal.specs.Format.{Opens}
use Rattle.sv_journal.specs.MemoryDisk.{disk_bytes}
use Rattle.sv_control.proofs.images.entries_of.Goals as goal

pub returns-in-Err-clause-none : goal.returns-in-Err-clause-none
returns-in-Err-clause-none c = λ is entries opens.
    let found : Opens (disk_bytes c.in_ok-a.a) (disk_bytes c.in_ok-b.b) entries = rw (c.in_ok-a.ensures.bytes, c.in_ok-b.ensures.bytes) opens in
    c.in-Err.ensures.damaged (c.found_fault.ensures.damaged is) tt tt entries found

pub returns-in-Ok-records-clause-opens : goal.returns-in-Ok-records-clause-opens
returns-in-Ok-records-clause-opens c =
    let opened = c.in-Ok.ensures.opens tt tt in
    rw (← c.in_ok-a.ensures.bytes, ← c.in_ok-b.ensures.bytes, c.in-Ok-records.ensures.entries opened.0 tt (c.in-Ok.ensures.holds tt tt opened.0 opened.1)) opened.1

pub returns-in-Ok-records-clause-entries : goal.returns-in-Ok-records-clause-entries
returns-in-Ok-records-clause-entries c = λ entries opens.
    let found : Opens (disk_bytes c.in_ok-a.a) (disk_bytes c.in_ok-b.b) entries = rw (c.in_ok-a.ensures.bytes, c.in_ok-b.ensures.bytes) opens in
    c.in-Ok-records.ensures.entries entries tt (c.in-Ok.ensures.holds tt tt entries found)
