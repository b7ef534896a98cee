use Rattle.std.proofs.Common.{◌-◌, ◌≡◌, ◌≤◌, ◌<◌, ◌++◌, take, drop, length}
use Rattle.std.specs.List.{filter}
use Rattle.sv_servlet.specs.Fields.{has_other_name}
use Rattle.sv_servlet.proofs.fields.clear_behind.Given as goal

-- what stands from `next` on is done
abbrev pub invariant-loop-next : goal.invariant-loop-next
invariant-loop-next l = record {
  behind : l.at < l.next;
  within : l.next ≤ length l.fn.fields.items;
  done : l.fields.items ≡ take l.next l.fn.fields.items ++ filter (has_other_name l.name) (drop l.next l.fn.fields.items);
}

abbrev pub decreases-loop-next : goal.decreases-loop-next
decreases-loop-next l = l.next - l.at
