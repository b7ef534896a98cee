-- Which requests wait for a session, which inputs bring one, and how long one stays that has come.
use Rattle.std.specs.Prelude.{◌≡◌, ◌⊎◌, ℕ, ◌||◌, ◌&&◌, Bool, cond, nat_lt, List, Option, Some, None}
use Rattle.std.specs.List.{sum_by}
use Rattle.sv_model.specs.declared.key.Key.{Key}
use Rattle.sv_model.specs.declared.node.Parked.{Parked}
use Rattle.sv_model.specs.declared.key.Moment.{Moment}
use Rattle.sv_model.specs.declared.input.Input.{Input}
use Rattle.sv_model.specs.declared.input.Input.TheVariants as input
use Rattle.sv_model.specs.declared.packet.Packet.{Packet}
use Rattle.sv_model.specs.declared.packet.Packet.TheVariants as packet
use Rattle.sv_host.specs.declared.holding.Granted.{Granted}
use Rattle.sv_host.specs.declared.holding.TheConstants.{LEASE, TURN}
use Rattle.sv_host.specs.declared.lease.Lease.{Lease}
use Rattle.sv_host.specs.Asking.{later}
use Rattle.sv_host.specs.Lease.{few, is_key, with, without}

abbrev pub waiting_in : Key → List Parked → ℕ
waiting_in key ps = sum_by (λ p. cond (is_key key p.key) 1 0) ps

-- the session that an input brings
abbrev pub grant_in : Packet → Option Granted
grant_in (packet.Want from to key boot want) = None
grant_in (packet.Grant from to key e s) = Some (record { key = key; from = from; epoch = e })
grant_in (packet.Ack from to key e) = None
grant_in (packet.No from to key boot want) = None

abbrev pub grant_of : Input → Option Granted
grant_of (input.Ask number r) = None
grant_of (input.Packet p) = grant_in p
grant_of input.Poke = None
grant_of input.Tick = None
grant_of (input.Move k to) = None

abbrev pub grant_at : Option (Moment × Input) → Option Granted
grant_at None = None
grant_at (Some i) = grant_of i.1

-- a session stays longer for which several requests wait, or that another node wants as well
abbrev pub stay_of : ℕ → Bool → ℕ
stay_of count wanted = cond (nat_lt 1 count || (nat_lt 0 count && wanted)) LEASE TURN

abbrev pub lease_for : Granted → ℕ → Bool → ℕ → Lease
lease_for granted count wanted now = record { key = granted.key; epoch = granted.epoch; end = Some (later now (stay_of count wanted)) }

-- a session has come; where there is no memory for it, it isn't remembered
abbrev pub HasCome : Lease → List Lease → List Lease → Type 0
HasCome l old new = (new ≡ with l old) ⊎ (new ≡ few (without l.key old))

-- a want is held while its session stays that has come, or while another want for it is held; where the session hasn't come, while
-- requests wait for it
abbrev pub is_held : Option ℕ → Bool → Bool → ℕ → Bool
is_held None wanted waits now = waits
is_held (Some end) wanted waits now = nat_lt now end || wanted
