use Rattle.sv_host.proofs.Prelude.{◌≡◌, ◌≤◌, ◌+◌, ◌-◌, ◌^◌, min, drop}
use Rattle.sv_host.specs.Holding.{waiting_in}
use Rattle.sv_host.proofs.holding.waiting.Given as goal

-- those before were counted
abbrev pub invariant-loop-one : goal.invariant-loop-one
invariant-loop-one l = record {
  count : min (l.count + waiting_in l.key (drop l.one-index l.parked)) (2 ^ 64 - 1) ≡ min (waiting_in l.key l.parked) (2 ^ 64 - 1);
  fits : l.count ≤ 2 ^ 64 - 1;
}
