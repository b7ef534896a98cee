use Rattle.sv_world.proofs.Prelude.{sym, ap, ◌∙◌, not}
use Rattle.sv_world.proofs.Arrivals.{unused_is}
use Rattle.sv_world.proofs.used.is_unused.Goals as goal

pub returns-in-Some : goal.returns-in-Some
returns-in-Some c = rw (c.in-Some.is) (ap not c.is_used.ensures ∙ sym (unused_is c.in-Some.token c.args.trace.now))
