use Rattle.sv_container.proofs.Prelude.{◌≡◌, ℕ, ◌+◌, ◌<◌, ◌≤◌, length, get_or, take, rows, ready_count}
use Rattle.sv_container.proofs.life.destroy_servlets.Given as goal

abbrev pub invariant-loop-at : goal.invariant-loop-at
invariant-loop-at g l = record {
  within : l.at ≤ length l.fn.all.items;
  long : length l.all.items ≡ length l.fn.all.items;
  rest : (k : ℕ) (d : _) → k < l.at → get_or l.all.items k d ≡ get_or l.fn.all.items k d;
  counted : l.count + ready_count (take l.at (rows g.S.Servlet.serves g.S.Servlet.servlet_phase l.fn.all.items)) ≡ ready_count (rows g.S.Servlet.serves g.S.Servlet.servlet_phase l.fn.all.items);
}
