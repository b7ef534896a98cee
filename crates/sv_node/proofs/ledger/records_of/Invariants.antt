use Rattle.std.specs.Prelude.{take}
use Rattle.std.specs.List.{AllByRecursion}
use Rattle.sv_node.proofs.Prelude.{payloads, IsRecord, Spell}
use Rattle.sv_node.proofs.ledger.records_of.Given as goal

abbrev pub invariant-loop-payload : goal.invariant-loop-payload
invariant-loop-payload l = Spell (payloads (take l.payload-index l.all)) l.records.items × AllByRecursion IsRecord l.records.items
