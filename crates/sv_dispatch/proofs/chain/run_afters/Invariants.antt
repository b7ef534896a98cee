use Rattle.sv_dispatch.proofs.Prelude.{◌≡◌, All, IsReadyAt, afters, call_of, table_of, lent_of}
use Rattle.std.proofs.Common.{vec_len}
use Rattle.sv_dispatch.proofs.chain.run_afters.Given as goal

abbrev pub invariant-loop-k : goal.invariant-loop-k
invariant-loop-k g l =
    let table = table_of g.S.Servlet g.F.Filter in
    record {
      same : table l.stage ≡ table l.fn.stage;
      ready : All (IsReadyAt (table l.fn.stage).filters) l.passed.items;
      rest : afters (table l.fn.stage).filters l.passed.items (call_of l.view 0) (lent_of l.stage) ≡ afters (table l.fn.stage).filters l.fn.passed.items (call_of l.view 0) (lent_of l.fn.stage);
    }

abbrev pub decreases-loop-k : goal.decreases-loop-k
decreases-loop-k g l = vec_len l.passed
