use Rattle.std.proofs.Common.{sym, ap, ◌∙◌}
use Rattle.std.specs.Option.{option_copied}
use Rattle.sv_solo.proofs.TableLemmas.{held_found}
use Rattle.sv_solo.proofs.table.session_at.Goals as goal

pub returns-in-Some-active_session : goal.returns-in-Some-active_session
returns-in-Some-active_session c =
    held_found c.args.sessions.now c.args.named c.args.place c.in-Some-named.key c.in-Some-named.field-0-1 c.in-Some.place _ c.in-Some-named.is c.in-Some.is c.requires
    (sym (ap option_copied c.in-Some-active_session.is) ∙ c.active_session.ensures)
