use Rattle.std.proofs.Common.{[], sym, append-nil}
use Rattle.std.proofs.KnownBytes.{Appends-kept}
use Rattle.sv_connection.proofs.speak.write_text.Goals as goal

pub returns-then-write_whole-clause-part : goal.returns-then-write_whole-clause-part
returns-then-write_whole-clause-part g c = λ _. ([], (c.args.text.now, sym (append-nil _), Appends-kept _ _ _ _ (c.write_whole.ensures.whole c.if-write_whole.true) c.flush.ensures.bytes))
