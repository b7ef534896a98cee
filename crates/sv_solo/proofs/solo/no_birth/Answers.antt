use Rattle.sv_solo.proofs.TableLemmas.{birth_refused, birth_allowed}
use Rattle.sv_solo.proofs.solo.no_birth.Goals as goal

pub returns-then-sessions-ge-KEY_LIMIT : goal.returns-then-sessions-ge-KEY_LIMIT
returns-then-sessions-ge-KEY_LIMIT c = birth_refused c.args.sessions.now c.args.birth.now c.requires c.if-not-is_birth.ensures c.if-sessions-ge-KEY_LIMIT.true

pub returns : goal.returns
returns c = birth_allowed c.args.sessions.now c.args.birth.now c.requires c.if-sessions-ge-KEY_LIMIT.false
