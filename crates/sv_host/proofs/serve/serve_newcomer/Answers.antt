use Rattle.sv_host.proofs.StoryLemmas.{carried, with_then}
use Rattle.sv_host.proofs.serve.serve_newcomer.Goals as goal

-- more of it is read
pub returns-in-More-clause-with_one : goal.returns-in-More-clause-with_one
returns-in-More-clause-with_one c = λ reads none.
    let mid = c.listen_once.new.server.connections in
    let new = c.serve.new.server.connections in
    with_then c.args.place c.args.open c.args.server.now.connections mid new (c.listen_once.ensures.with_one reads none) (carried mid new c.serve.ensures.carried)
