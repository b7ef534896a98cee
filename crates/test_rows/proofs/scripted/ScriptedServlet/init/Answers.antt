use Rattle.test_rows.proofs.ScriptedLemmas.{scripted_keeps}
use Rattle.test_rows.proofs.scripted.ScriptedServlet.init.Goals as goal

pub returns-clause-keeps_edits : goal.returns-clause-keeps_edits
returns-clause-keeps_edits c call l = (scripted_keeps c.args.self.now.status c.args.self.now.says c.args.self.now.then call l).edit

pub returns-clause-keeps_replies : goal.returns-clause-keeps_replies
returns-clause-keeps_replies c call l = (scripted_keeps c.args.self.now.status c.args.self.now.says c.args.self.now.then call l).reply
