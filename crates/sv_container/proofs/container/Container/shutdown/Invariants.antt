use Rattle.sv_container.proofs.Prelude.{◌≡◌, ℕ, ◌+◌, ◌-◌, ◌<◌, ◌≤◌, length, get_or, take, min, apps_of, ready_filters, ready_servlets}
use Rattle.std.proofs.Common.{◌^◌}
use Rattle.sv_container.proofs.container.Container.shutdown.Given as goal

abbrev pub invariant-loop-at : goal.invariant-loop-at
invariant-loop-at g l = record {
  within : l.at ≤ length l.fn.self.applications.items;
  long : length l.applications.items ≡ length l.fn.self.applications.items;
  rest : (k : ℕ) (d : _) → k < l.at → get_or l.applications.items k d ≡ get_or l.fn.self.applications.items k d;
  few_servlets : l.servlets ≤ 2 ^ 64 - 1;
  few_filters : l.filters ≤ 2 ^ 64 - 1;
  servlets : min (l.servlets + ready_servlets (take l.at (apps_of g.S.Servlet g.F.Filter l.fn.self.applications.items))) (2 ^ 64 - 1)
      ≡ min (ready_servlets (apps_of g.S.Servlet g.F.Filter l.fn.self.applications.items)) (2 ^ 64 - 1);
  filters : min (l.filters + ready_filters (take l.at (apps_of g.S.Servlet g.F.Filter l.fn.self.applications.items))) (2 ^ 64 - 1)
      ≡ min (ready_filters (apps_of g.S.Servlet g.F.Filter l.fn.self.applications.items)) (2 ^ 64 - 1);
}
