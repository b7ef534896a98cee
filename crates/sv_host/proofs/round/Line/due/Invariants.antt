use Rattle.sv_host.proofs.Prelude.{◌≡◌, ◌≤◌, ◌+◌, ◌-◌, ◌^◌, min, drop, behind_in, front_in}
use Rattle.sv_host.proofs.round.Line.due.Given as goal

-- those before were counted
abbrev pub invariant-loop-output : goal.invariant-loop-output
invariant-loop-output l = record {
  behind : min (l.due.behind + behind_in l.wants l.self.last (drop l.output-index l.outputs)) (2 ^ 64 - 1) ≡ min (behind_in l.wants l.self.last l.outputs) (2 ^ 64 - 1);
  front : min (l.due.front + front_in l.wants l.self.last (drop l.output-index l.outputs)) (2 ^ 64 - 1) ≡ min (front_in l.wants l.self.last l.outputs) (2 ^ 64 - 1);
  behind_fits : l.due.behind ≤ 2 ^ 64 - 1;
  front_fits : l.due.front ≤ 2 ^ 64 - 1;
}
