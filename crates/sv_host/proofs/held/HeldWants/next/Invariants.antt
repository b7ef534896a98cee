use Rattle.sv_host.proofs.Prelude.{◌≡◌, drop}
use Rattle.sv_host.specs.Held.{next_from, next_of, wants_of}
use Rattle.sv_host.specs.Lease.{leases_of}
use Rattle.sv_host.proofs.held.HeldWants.next.Given as goal

-- those before were looked at
abbrev pub invariant-loop-held : goal.invariant-loop-held
invariant-loop-held l = next_from l.next (leases_of l.leases) (drop l.held-index (wants_of l.self)) ≡ next_of (leases_of l.leases) (wants_of l.self)
