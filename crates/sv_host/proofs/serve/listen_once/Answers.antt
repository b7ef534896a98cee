use Rattle.sv_host.proofs.Prelude.{[], inr, refl}
use Rattle.sv_host.proofs.HaltLemmas.{told}
use Rattle.sv_host.proofs.StoryLemmas.{err_more, with_answer, with_read}
use Rattle.sv_host.proofs.TakeLemmas.{all_heard, listens}
use Rattle.sv_host.proofs.serve.listen_once.Goals as goal

pub returns-in-Ok-clause-heard : goal.returns-in-Ok-clause-heard
returns-in-Ok-clause-heard c =
    all_heard c.args.server.now.peers c.args.server.now.connections.greets c.args.open.state _ c.args.token c.take.result c.take.ensures.takes

-- the piece that was read
pub returns-in-Ok-clause-listens : goal.returns-in-Ok-clause-listens
returns-in-Ok-clause-listens c =
    listens c.args.server.now.peers c.args.server.now.connections.greets c.args.open (record c.args.open { socket = c.look.new.socket }) _ c.args.place c.args.token c.args.server.now c.take.new.server
    c.take.result refl c.in-Ok.ensures.came c.in-Ok.ensures.went c.take.ensures.hears

-- nothing was
pub returns-in-Err-clause-listens : goal.returns-in-Err-clause-listens
returns-in-Err-clause-listens c = record {
  piece = [];
  read = record c.args.open { socket = c.look.new.socket };
  state = refl;
  came = c.in-Err.ensures.came;
  went = c.in-Err.ensures.went;
  heard_as = inr (refl, (refl, c.keep_or_leave.ensures.go_on));
}

pub returns-in-Ok-clause-told : goal.returns-in-Ok-clause-told
returns-in-Ok-clause-told c = err_more _ _ c.take.result
    (λ stop. told c.args.server.now.connections.greets c.args.open (record c.args.open { socket = c.look.new.socket }) c.in-Ok.count c.look.new.piece stop c.in-Ok.ensures.some c.in-Ok.ensures.most.0 c.in-Ok.ensures.came)
    c.take.ensures.told

pub returns-in-Ok-clause-with_one : goal.returns-in-Ok-clause-with_one
returns-in-Ok-clause-with_one c = λ reads none.
    with_answer c.args.server.now.peers c.args.server.now.connections.greets c.args.open (record c.args.open { socket = c.look.new.socket }) _ c.args.place c.args.token c.args.server.now c.take.new.server
    c.take.result refl c.in-Ok.ensures.came c.in-Ok.ensures.went c.take.ensures.hears c.take.ensures.halted reads none

pub returns-in-Err-clause-with_one : goal.returns-in-Err-clause-with_one
returns-in-Err-clause-with_one c = λ reads none.
    with_read c.args.open (record c.args.open { socket = c.look.new.socket }) [] c.args.place c.args.server.now.connections c.keep_or_leave.new.server.connections refl c.in-Err.ensures.came c.in-Err.ensures.went refl
    c.keep_or_leave.ensures.go_on
