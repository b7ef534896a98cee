use Rattle.sv_core.proofs.Prelude.{◌≡◌, ◌≤◌, take, vec_len, vec_capacity, keys_of, durable_by, wants_here}
use Rattle.sv_core.proofs.wants.settle_anew.Given as goal

abbrev pub invariant-loop-parked : goal.invariant-loop-parked
invariant-loop-parked l =
    record {
      items : l.wants.items ≡ wants_here (durable_by (keys_of l.keys) 0 l.next l.home) (take l.parked-index l.all);
      len : vec_len l.wants ≤ l.parked-index;
      capacity : vec_capacity l.fn.wants ≤ vec_capacity l.wants;
    }
