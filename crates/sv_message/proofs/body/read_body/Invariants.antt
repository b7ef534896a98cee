use Rattle.sv_message.proofs.Prelude.{◌-◌, ◌≤◌, length, IsPartial}
use Rattle.sv_message.proofs.body.read_body.Given as goal

abbrev pub invariant-loop : goal.invariant-loop
invariant-loop l = record { partial : IsPartial l.rest l.partial; place : l.fn.partial.at ≤ l.partial.at }

abbrev pub decreases-loop : goal.decreases-loop
decreases-loop l = length l.rest - l.partial.at
