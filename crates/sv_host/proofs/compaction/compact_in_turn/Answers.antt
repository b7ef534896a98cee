use Rattle.sv_host.proofs.Prelude.{ap, HaveClients, before_of, clients_of}
use Rattle.sv_host.proofs.HavingLemmas.{have_same}
use Rattle.sv_host.proofs.ServingLemmas.{on_any}
use Rattle.sv_host.proofs.compaction.compact_in_turn.Goals as goal

pub returns-clause-served : goal.returns-clause-served
returns-clause-served g c = record {
  valid = c.compact.ensures.valid;
  rising = c.requires.rising;
  gone = c.compact.ensures.gone (before_of c.args.group.now);
  runs = c.compact.ensures.runs (before_of c.args.group.now);
  clients = on_any c.compact.result (HaveClients (clients_of c.compact.new.server.parked) c.compact.new.node c.args.group.now)
      (have_same (clients_of c.args.server.now.parked) (clients_of c.compact.new.server.parked) c.args.node.now c.compact.new.node c.args.group.now c.compact.ensures.waiting (ap (λ p. clients_of p) c.compact.ensures.clients)
      c.requires.clients);
}
