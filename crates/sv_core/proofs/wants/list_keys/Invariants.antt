use Rattle.sv_core.proofs.Prelude.{◌≡◌, ◌≤◌, take, vec_len, vec_capacity, keys_in}
use Rattle.sv_core.proofs.wants.list_keys.Given as goal

abbrev pub invariant-loop-parked : goal.invariant-loop-parked
invariant-loop-parked l =
    record {
      items : l.keys.items ≡ keys_in (take l.parked-index l.all);
      len : vec_len l.keys ≤ l.parked-index;
      capacity : vec_capacity l.fn.keys ≤ vec_capacity l.keys;
    }
