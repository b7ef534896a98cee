-- The ranges of what a node is given, keeps, writes and sends: those that the types don't show already.
use Rattle.std.specs.Prelude.{◌≡◌, ◌<◌, ◌≤◌, ℕ, Bool, true, false, ◌&&◌, Some, IfSome, ⊤}
use Rattle.std.specs.List.{AllByRecursion}
use Rattle.std.specs.FinMap.{get}
use Rattle.sv_model.specs.declared.key.Key.{Key}
use Rattle.sv_model.specs.declared.key.TheConstants.{NODE_LIMIT}
use Rattle.sv_model.specs.declared.node.Setting.{Setting}
use Rattle.sv_model.specs.declared.session.Session.{Session}
use Rattle.sv_model.specs.declared.state.KeyState.{KeyState}
use Rattle.sv_model.specs.declared.state.KeyState.TheVariants as kept
use Rattle.sv_model.specs.declared.record.Change.{Change}
use Rattle.sv_model.specs.declared.record.Change.TheVariants.{Absent, Alive, Ended}
use Rattle.sv_model.specs.declared.record.Record.{Record}
use Rattle.sv_model.specs.declared.record.Record.TheVariants.{Boot, Commit, Expired, Sent, Taken, Gone, State, Counters, Forgets, Counted}
use Rattle.sv_model.specs.declared.packet.Packet.{Packet}
use Rattle.sv_model.specs.declared.packet.Packet.TheVariants.{Want, Grant, Ack, No}
use Rattle.sv_model.specs.declared.input.Input.{Input}
use Rattle.sv_model.specs.declared.input.Input.TheVariants.{Ask, Packet as Incoming, Poke, Tick, Move}
use Rattle.sv_model.specs.Keys.{IsNode, IsCounting, IsKey}
use Rattle.sv_model.specs.Limits.{IsWithinLimits}
use Rattle.sv_model.specs.NodeState.{Node, last_number}
use Rattle.sv_model.specs.Decision.{Decision, left}
use Rattle.sv_model.specs.Outputs.{sends_in}

-- a cluster has a node and at most 8, and this is one of them
pub record IsSetting (set : Setting) : Type 0 where
  pub few : set.nodes ≤ NODE_LIMIT
  pub inside : set.node < set.nodes

-- ---- records and packets

-- what a commit may say of a key
abbrev pub IsChange : Change → Type 0
IsChange Absent = Unit {0}
IsChange (Alive k s) = IsKey k × IsWithinLimits s
IsChange (Ended k) = IsKey k

abbrev pub is_absent : Change → Bool
is_absent Absent = true
is_absent (Alive k s) = false
is_absent (Ended k) = false

-- at least one of the two isn't absent
abbrev pub IsCommit : Change → Change → Type 0
IsCommit named born = IsChange named × IsChange born × ((is_absent named && is_absent born) ≡ false)

-- what a node may keep of a key
abbrev pub IsState : KeyState → Type 0
IsState (kept.Active e s) = IsCounting e × IsWithinLimits s
IsState (kept.Sent e s to) = IsCounting e × IsWithinLimits s × IsNode to
IsState (kept.Gone e) = IsCounting e
IsState (kept.Ended e) = IsCounting e

-- a session that may go from node to node
abbrev pub IsHandover : Key → ℕ → ℕ → Session → Type 0
IsHandover k e n s = IsKey k × IsCounting e × IsNode n × IsWithinLimits s

-- a record that may be written
abbrev pub IsRecord : Record → Type 0
IsRecord (Boot b) = IsCounting b
IsRecord (Commit named born) = IsCommit named born
IsRecord (Expired k) = IsKey k
IsRecord (Sent k e to s) = IsHandover k e to s
IsRecord (Taken k e from s) = IsHandover k e from s
IsRecord (Gone k e) = IsKey k × IsCounting e
IsRecord (State k s) = IsKey k × IsState s
IsRecord (Counters b next) = IsCounting next
IsRecord (Forgets home b) = IsNode home × IsCounting b
IsRecord (Counted home b next) = IsNode home × IsCounting next

-- a packet that may be written
abbrev pub IsPacket : Packet → Type 0
IsPacket (Want from to k boot want) = IsNode from × IsNode to × IsKey k
IsPacket (Grant from to k e s) = IsNode from × IsNode to × IsKey k × IsCounting e × IsWithinLimits s
IsPacket (Ack from to k e) = IsNode from × IsNode to × IsKey k × IsCounting e
IsPacket (No from to k boot want) = IsNode from × IsNode to × IsKey k

-- ---- steps

-- what a step may be given
abbrev pub IsInput : Input → Type 0
IsInput (Ask token request) = ⊤
IsInput (Incoming p) = IsPacket p
IsInput Poke = ⊤
IsInput Tick = ⊤
-- an order for a key or to a node that there can't be is refused by the step itself
IsInput (Move k to) = ⊤

-- what a node keeps
pub record IsRanged (n : Node) : Type 0 where
  pub known : (k : Key) (st : KeyState) → get n.durable.keys k ≡ Some st → IsKey k × IsState st
  pub next : IsCounting n.durable.next
  pub waiting : AllByRecursion (λ p. IsKey p.key) n.parked
  pub home : IfSome n.durable.home IsNode
  -- no number is past the last
  pub next_within : n.durable.next ≤ last_number
  pub want_within : n.next_want ≤ last_number

-- what a step does, and what it leaves
pub record IsRangedStep (d : Decision) : Type 0 where
  pub entry : IfSome d.entry IsRecord
  pub packets : AllByRecursion IsPacket (sends_in d.outputs)
  pub left_is : IsRanged (left d)
