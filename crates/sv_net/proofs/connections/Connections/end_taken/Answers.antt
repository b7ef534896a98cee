use Rattle.sv_net.proofs.ContinueLemmas.{all_places}
use Rattle.sv_net.proofs.connections.Connections.end_taken.Goals as goal

pub returns-in-Some : goal.returns-in-Some
returns-in-Some c = all_places c.args.self.now (record c.leave.new.self { report = c.note.new.self }) c.leave.ensures.places

pub returns : goal.returns
returns c = all_places c.args.self.now c.leave.new.self c.leave.ensures.places
