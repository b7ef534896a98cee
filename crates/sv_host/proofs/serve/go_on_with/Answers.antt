use Rattle.sv_host.proofs.Prelude.{[], inr, refl, sym, ◌∙◌, append-nil, came_of}
use Rattle.sv_host.proofs.HaltLemmas.{not_served}
use Rattle.sv_host.proofs.StoryLemmas.{err_more, reads, serves, with_answer, with_continue}
use Rattle.sv_host.proofs.TakeLemmas.{all_heard, read, served}
use Rattle.sv_host.proofs.serve.go_on_with.Goals as goal

pub returns-in-Serve-clause-heard : goal.returns-in-Serve-clause-heard
returns-in-Serve-clause-heard c =
    all_heard c.args.server.now.peers c.args.server.now.connections.greets c.args.open.state _ c.args.token c.take.result c.take.ensures.takes

-- what it held was heard
pub returns-in-Serve-clause-goes_on : goal.returns-in-Serve-clause-goes_on
returns-in-Serve-clause-goes_on c =
    served c.args.server.now.peers c.args.server.now.connections.greets c.args.open c.args.place c.args.token c.args.server.now c.take.new.server c.take.result c.take.ensures.hears

-- a piece was read
pub returns-in-Read-clause-goes_on : goal.returns-in-Read-clause-goes_on
returns-in-Read-clause-goes_on c =
    read c.args.server.now.peers c.args.server.now.connections.greets c.args.open c.args.place c.args.token c.args.server.now c.listen_once.new.server c.listen_once.result
    c.listen_once.ensures.listens

-- more was said
pub returns-in-Socket-clause-goes_on : goal.returns-in-Socket-clause-goes_on
returns-in-Socket-clause-goes_on c = inr (inr (λ none. (refl, c.go_on.ensures none)))

pub returns-in-Serve-clause-told : goal.returns-in-Serve-clause-told
returns-in-Serve-clause-told c =
    err_more _ _ c.take.result (λ stop. not_served c.args.server.now.connections.greets c.args.open stop (sym c.turn.ensures ∙ c.in-Serve.is)) c.take.ensures.told

pub returns-in-Serve-clause-with_one : goal.returns-in-Serve-clause-with_one
returns-in-Serve-clause-with_one c = λ none.
    with_answer c.args.server.now.peers c.args.server.now.connections.greets c.args.open c.args.open [] c.args.place c.args.token c.args.server.now c.take.new.server
    c.take.result refl (sym (append-nil (came_of c.args.open.socket))) refl c.take.ensures.hears c.take.ensures.halted (serves c.args.open.state (sym c.turn.ensures ∙ c.in-Serve.is)) none

pub returns-in-Read-clause-with_one : goal.returns-in-Read-clause-with_one
returns-in-Read-clause-with_one c = λ none. c.listen_once.ensures.with_one (reads c.args.open.state (sym c.turn.ensures ∙ c.in-Read.is)) none

pub returns-in-Socket-clause-with_one : goal.returns-in-Socket-clause-with_one
returns-in-Socket-clause-with_one c = λ none. with_continue c.args.place c.args.open c.args.server.now.connections c.go_on.new.self (c.go_on.ensures none)
