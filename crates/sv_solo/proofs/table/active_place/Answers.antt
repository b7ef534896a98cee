use Rattle.sv_solo.proofs.TableLemmas.{is_place, held_unmade}
use Rattle.sv_solo.proofs.table.active_place.Goals as goal

pub returns-in-Some : goal.returns-in-Some
returns-in-Some c = is_place c.args.sessions.now c.args.key c.args.secret c.in-Some.place c.if_active.result c.in-Some.ensures c.if_active.ensures

pub returns-in-None : goal.returns-in-None
returns-in-None c = held_unmade c.args.sessions.now c.args.key c.args.secret c.in-None.ensures
