use Rattle.sv_web.proofs.WorkLemmas.{answered_keeps}
use Rattle.sv_web.proofs.web.WebAnswers.goes_on.Goals as goal

pub returns-clause-keeps_edits : goal.returns-clause-keeps_edits
returns-clause-keeps_edits g c call l = (answered_keeps (g.S.HttpServlet.work c.args.self.now.object call) l).edit

pub returns-clause-keeps_replies : goal.returns-clause-keeps_replies
returns-clause-keeps_replies g c call l = (answered_keeps (g.S.HttpServlet.work c.args.self.now.object call) l).reply
