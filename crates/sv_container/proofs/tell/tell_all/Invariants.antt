use Rattle.sv_container.proofs.Prelude.{◌≡◌, drop, ears_of, heard_of, noted_of}
use Rattle.sv_container.proofs.tell.tell_all.Given as goal

abbrev pub invariant-loop-one : goal.invariant-loop-one
invariant-loop-one g l = record {
  same : ears_of g.L.Listener.hears l.listeners.items ≡ ears_of g.L.Listener.hears l.fn.listeners.items;
  rest : heard_of (ears_of g.L.Listener.hears l.fn.listeners.items) (noted_of g.L.Listener.noted l.listeners.items) (drop l.one-index l.told) ≡ heard_of (ears_of g.L.Listener.hears l.fn.listeners.items) (noted_of g.L.Listener.noted l.fn.listeners.items) l.told;
}
