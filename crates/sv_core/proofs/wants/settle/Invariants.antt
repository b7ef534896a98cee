use Rattle.sv_core.proofs.Prelude.{◌≡◌, ◌+◌, ◌≤◌, Bool, vec_len, vec_capacity, Parked, wants_where, with_key}
use Rattle.sv_core.proofs.WantLemmas.{walked}
use Rattle.sv_core.proofs.wants.settle.Given as goal

abbrev pub invariant-loop-parked : goal.invariant-loop-parked
invariant-loop-parked l =
    record {
      items : (test : Parked → Bool) → l.initial.wants.items ≡ wants_where test l.all → l.wants.items ≡ walked (with_key l.key l.is_settled test) test l.parked-index l.all;
      len : vec_len l.wants ≤ vec_len l.initial.wants + l.parked-index;
      capacity : vec_capacity l.initial.wants ≤ vec_capacity l.wants;
    }
