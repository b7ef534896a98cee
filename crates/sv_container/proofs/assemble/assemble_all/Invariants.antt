use Rattle.sv_container.proofs.Prelude.{◌≡◌, into_iter_items, app_of, identities_of, AreNamedNew, ears_of}
use Rattle.sv_container.proofs.AssembleLemmas.{Assembled}
use Rattle.sv_container.proofs.assemble.assemble_all.Given as goal

abbrev pub invariant-loop-at : goal.invariant-loop-at
invariant-loop-at g l = record {
  apps : Assembled (app_of g.S.Servlet g.F.Filter) l.fn.applications.items l.applications.items l.at
      (identities_of g.S.Servlet.serves (into_iter_items l.servlets)) (identities_of g.S.Servlet.serves l.fn.servlets.items)
      (identities_of g.F.Filter.filtering (into_iter_items l.filters)) (identities_of g.F.Filter.filtering l.fn.filters.items);
  servlets : AreNamedNew g.S.Servlet.servlet_phase (into_iter_items l.servlets);
  filters : AreNamedNew g.F.Filter.filter_phase (into_iter_items l.filters);
  ears : ears_of g.L.Listener.hears l.listeners.items ≡ ears_of g.L.Listener.hears l.fn.listeners.items;
}
