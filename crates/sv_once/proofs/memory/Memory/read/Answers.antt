use Rattle.std.proofs.Common.{All, List, subst, sym}
use Rattle.sv_once.specs.Entries.{IsSmall}
use Rattle.sv_once.specs.declared.entry.Entry.{Entry}
use Rattle.sv_once.proofs.EntryLemmas.{entries_small}
use Rattle.sv_once.proofs.memory.Memory.read.Goals as goal

pub invariant_of-result : goal.invariant_of-result
invariant_of-result c = subst (λ (es : List Entry). All IsSmall es) (sym c.in_ok-read_entries.ensures) (entries_small 16 _)
