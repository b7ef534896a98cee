use Rattle.std.proofs.Common.{sym, ap, ◌∙◌}
use Rattle.std.specs.Option.{option_map}
use Rattle.sv_solo.specs.Table.{state_of}
use Rattle.sv_solo.proofs.TableLemmas.{get_made, get_unmade}
use Rattle.sv_solo.proofs.table.state_at.Goals as goal

pub returns-in-Some : goal.returns-in-Some
returns-in-Some c = ap (option_map state_of) c.slot_at.ensures ∙ sym (get_made c.args.sessions.now c.args.key c.in-Some.place c.in-Some.ensures.0)

pub returns-in-None : goal.returns-in-None
returns-in-None c = sym (get_unmade c.args.sessions.now c.args.key c.in-None.ensures)
