-- Why a node ends.
use Rattle.std.specs.Prelude.{◌≡◌, ◌⊎◌, ◌<◌, ◌++◌, ℕ, List, Option, Some, None, Ok, false, length}
use Rattle.sv_host.specs.declared.fault.HostFault.{HostFault}
use Rattle.sv_host.specs.declared.fault.HostFault.TheVariants as host
use Rattle.sv_host.specs.declared.fault.Stop.{Stop}
use Rattle.sv_host.specs.declared.fault.Stop.TheVariants.{Told, Spent, Fault}
use Rattle.sv_host.specs.declared.group.Group.{Group}
use Rattle.sv_host.specs.declared.server.Server.{Server}
use Rattle.sv_host.specs.Group.{number_of}
use Rattle.sv_host.specs.Secrets.{last_of}
use Rattle.sv_model.specs.NodeState.{last_number}
use Rattle.sv_net.specs.Bytes.{came_of}
use Rattle.sv_net.specs.Frames.{first_frame}
use Rattle.sv_net.specs.declared.socket.Socket.{Socket}
use Rattle.sv_node.specs.Node.{journal_of}
use Rattle.sv_node.specs.declared.node.Node.{Node}
use Rattle.sv_record.specs.declared.frame.Frame.TheVariants.{Halt}

-- with a piece that came last on this socket, the command to stop was whole: with what its connection held it is its first frame
pub record HasHalted (socket : Socket) : Type 0 where
  pub before : List ℕ
  pub held : List ℕ
  pub piece : List ℕ
  pub some : 0 < length piece
  pub came : came_of socket ≡ before ++ piece
  pub halt : first_frame (held ++ piece) ≡ Ok (Some Halt)

-- the command has told it to, on a connection by this socket
pub record IsTold (stop : Stop) : Type 0 where
  pub socket : Socket
  pub halted : HasHalted socket
  pub stop_is : stop ≡ Told socket

-- the same of a connection that was heard, by the socket that it had
abbrev pub IsToldBy : Socket → Stop → Type 0
IsToldBy was stop = (socket : Socket) × (stop ≡ Told socket) × (came_of socket ≡ came_of was)

-- the last number was given
pub record IsLast (last : ℕ) (stop : Stop) : Type 0 where
  pub is_last : last ≡ last_number
  pub stop_is : stop ≡ Spent last

-- no secret is left of those that are counted, or none can be read
abbrev pub LacksSecrets : Option ℕ → Stop → Type 0
LacksSecrets (Some last) stop = IsLast last stop
LacksSecrets None stop = stop ≡ Fault host.Secrets

-- no number is left for a request
abbrev pub LacksNumbers : Group → Stop → Type 0
LacksNumbers group stop = IsLast (number_of group) stop

-- why what comes is gathered no longer
abbrev pub IsEnding : Server → Group → Stop → Type 0
IsEnding server group stop = IsTold stop ⊎ (LacksNumbers group stop ⊎ LacksSecrets (last_of server.secrets) stop)

-- a disk has failed, and the node doesn't run any more
pub record HasFailed {E D : Type 0} (node : Node E D) (stop : Stop) : Type 0 where
  pub down : (journal_of node).live ≡ false
  pub stop_is : stop ≡ Fault host.Device

-- its disk has failed at a step
abbrev pub IsLost : Stop → Type 0
IsLost stop = stop ≡ Fault host.Device

-- why what a node is told by itself is the last of it
abbrev pub IsSpent : Server → Stop → Type 0
IsSpent server stop = LacksSecrets (last_of server.secrets) stop ⊎ IsLost stop

-- what is at fault
abbrev pub fault_in : Stop → Option HostFault
fault_in (Told socket) = None
fault_in (Spent last) = None
fault_in (Fault fault) = Some fault

-- why a node ends: it was told to, numbers are spent, or there is a fault
abbrev pub HasReason : Stop → Type 0
HasReason stop = IsTold stop ⊎ ((last : ℕ) × IsLast last stop) ⊎ ((fault : HostFault) × (stop ≡ Fault fault))
