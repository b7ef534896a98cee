use Rattle.std.proofs.Common.{sym}
use Rattle.sv_launch.proofs.application.Application.container.Goals as goal

pub returns-in-Ok-clause-launched : goal.returns-in-Ok-clause-launched
returns-in-Ok-clause-launched g c =
    record {
      servlets = c.in_ok-servlets.servlets.items;
      servlets_are = rw (sym c.as_slice.ensures.value, sym c.in_ok-servlets.servlets-is) c.in_ok-servlets.ensures.servlets_are;
      filters = c.in_ok-servlets.filters.items;
      filters_are = rw (sym c.as_slice.ensures.value, sym c.in_ok-servlets.filters-is) c.in_ok-servlets.ensures.filters_are;
      listeners = c.in_ok-servlets.listeners.items;
      listeners_are = rw (sym c.as_slice.ensures.value, sym c.in_ok-servlets.listeners-is) c.in_ok-servlets.ensures.listeners_are;
      paths = c.in-Ok.ensures.paths;
      objects = rw (sym c.in_ok-servlets.servlets-is, sym c.in_ok-servlets.filters-is, sym c.in_ok-servlets.listeners-is) c.in-Ok.ensures.deployed;
    }
