use Rattle.sv_dispatch.proofs.Prelude.{◌≡◌, current, whole, work, IsRunning, table_of, lent_of}
use Rattle.sv_dispatch.proofs.stack.run_from.Given as goal

abbrev pub invariant-loop-mode : goal.invariant-loop-mode
invariant-loop-mode g l =
    let table = table_of g.S.Servlet g.F.Filter in
    record {
      same : table l.stage ≡ table l.fn.stage;
      running : IsRunning (table l.fn.stage) l.frames.items l.mode;
      whole : whole (table l.fn.stage) 16 l.frames.items l.mode l.left (lent_of l.stage) ≡ current (table l.fn.stage) 16 l.fn.mode l.fn.left (lent_of l.fn.stage);
    }

abbrev pub decreases-loop-mode : goal.decreases-loop-mode
decreases-loop-mode g l = work l.frames.items l.mode l.left
