use Rattle.sv_host.proofs.Prelude.{ap, clients_of}
use Rattle.sv_host.proofs.ReasonLemmas.{ending_reasons}
use Rattle.sv_host.proofs.ServingLemmas.{gathered_then, serves_gathered, serves_same}
use Rattle.sv_host.proofs.event_loop.take_turn.Goals as goal

pub finish_turn-requires : goal.finish_turn-requires
finish_turn-requires g c = serves_gathered (serves_same (ap (λ p. clients_of p) c.wait.ensures.clients) c.requires) c.gather-gathered.ensures.gathered c.gather-gathered.ensures.clients

pub returns-clause-served : goal.returns-clause-served
returns-clause-served g c = gathered_then c.gather-gathered.ensures.gathered c.finish_turn.ensures.served

pub returns-clause-carried : goal.returns-clause-carried
returns-clause-carried g c = λ first so_far. c.finish_turn.ensures.carried first (c.gather-gathered.ensures.carried first (c.wait.ensures.carried first so_far))

pub returns-clause-reason : goal.returns-clause-reason
returns-clause-reason g c = c.finish_turn.ensures.reason (ending_reasons c.gather-gathered.new.server c.gather-gathered.new.group c.gather-gathered.result c.gather-gathered.ensures.ends)
