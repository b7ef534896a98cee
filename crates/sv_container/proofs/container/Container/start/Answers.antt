use Rattle.sv_container.proofs.Prelude.{◌≡◌, New}
use Rattle.std.proofs.lemmas.List.Sorted.{All-permutation}
use Rattle.sv_container.specs.declared.arrange.Kind.TheVariants.{Servlet, Filter, Listener}
use Rattle.sv_container.proofs.StartingLemmas.{exact}
use Rattle.sv_container.proofs.container.Container.start.Goals as goal

pub assemble_all-requires-clause-servlets : goal.assemble_all-requires-clause-servlets
assemble_all-requires-clause-servlets g c = All-permutation (λ n. g.S.Servlet.servlet_phase n.object ≡ New) _ _ c.arrange-arranged.ensures.servlets c.requires.servlets

pub assemble_all-requires-clause-filters : goal.assemble_all-requires-clause-filters
assemble_all-requires-clause-filters g c = All-permutation (λ n. g.F.Filter.filter_phase n.object ≡ New) _ _ c.arrange-arranged.ensures.filters c.requires.filters

pub returns-in_default-prepare-clause-fault : goal.returns-in_default-prepare-clause-fault
returns-in_default-prepare-clause-fault g c =
    let servlets = exact Servlet _ _ _ _ c.as_slice.ensures.value c.arrange-arranged.ensures.servlets c.in_default.ensures.named_servlets in
    let filters = exact Filter _ _ _ _ c.as_slice.ensures.value c.arrange-arranged.ensures.filters c.in_default.ensures.named_filters in
    let listeners = exact Listener _ _ _ _ c.as_slice.ensures.value c.arrange-arranged.ensures.listeners c.in_default.ensures.named_listeners in
    ((servlets.0, filters.0, listeners.0), (servlets.1, filters.1, listeners.1))
