-- Why the program ends before its work is done.
use Rattle.std.specs.Prelude.{ℕ}
use Rattle.sv_config.specs.declared.fault.ConfigFault.{ConfigFault}
use Rattle.sv_config.specs.declared.fault.ConfigFault.TheVariants as config
use Rattle.sv_container.specs.declared.named.StartFault.{StartFault}
use Rattle.sv_container.specs.declared.named.StartFault.TheVariants as start
use Rattle.sv_launch.specs.declared.fault.Fault.{Fault}
use Rattle.sv_launch.specs.declared.fault.Fault.TheVariants.{Arguments, Unreadable, NotToml, MissingField, WrongKind, UnknownName, BadPattern, Duplicate}
use Rattle.sv_launch.specs.declared.fault.Fault.TheVariants.{LimitExceeded, MissingObject, NotServed, ExtraObject, Ports, SameFile, Device, NoJournal, Locked, OlderCopy, Untold, Unannounced, Damaged, Full, JournalMemory}
use Rattle.sv_launch.specs.declared.fault.Fault.TheVariants.{Secrets, Socket, Log, Metrics, Input, Output, Memory}
use Rattle.sv_host.specs.declared.fault.HostFault.{HostFault}
use Rattle.sv_host.specs.declared.fault.HostFault.TheVariants as host
use Rattle.sv_host.specs.declared.place.PlaceFault.{PlaceFault}
use Rattle.sv_host.specs.declared.place.PlaceFault.TheVariants as place
use Rattle.sv_launch.specs.declared.stream.OnceFault.{OnceFault}
use Rattle.sv_launch.specs.declared.stream.OnceFault.TheVariants.{Input as InputFault, Output as OutputFault}

-- a fault of a stream ends the program
abbrev pub fault_of : OnceFault → Fault
fault_of InputFault = Input
fault_of OutputFault = Output

-- a fault of a descriptor ends the program by its name
abbrev pub fault_in : ConfigFault → Fault
fault_in config.NotToml = NotToml
fault_in config.MissingField = MissingField
fault_in config.WrongKind = WrongKind
fault_in config.UnknownName = UnknownName
fault_in config.BadPattern = BadPattern
fault_in config.Duplicate = Duplicate
fault_in config.LimitExceeded = LimitExceeded
fault_in config.Memory = Memory

-- a fault of the container's start, likewise
abbrev pub fault_at : StartFault → Fault
fault_at start.MissingObject = MissingObject
fault_at start.ExtraObject = ExtraObject
fault_at start.Memory = Memory

-- a number that no node of the cluster has is none that the program takes
abbrev pub place_fault : PlaceFault → Fault
place_fault place.Ports = Ports
place_fault place.NoNode = Arguments
place_fault place.Memory = Memory

-- a fault of a running node, likewise
abbrev pub host_fault : HostFault → Fault
host_fault host.Secrets = Secrets
host_fault host.Socket = Socket
host_fault host.Output = Output
host_fault host.Device = Device
host_fault host.NoJournal = NoJournal
host_fault host.Locked = Locked
host_fault host.OlderCopy = OlderCopy
host_fault host.Untold = Untold
host_fault host.Unannounced = Unannounced
host_fault host.Damaged = Damaged
host_fault host.Full = Full
host_fault host.Memory = JournalMemory
host_fault host.Log = Log
host_fault host.Metrics = Metrics

-- the exit status: of the words, of the descriptor and its objects, of the journal, of the machine, of another process that has the journal
abbrev pub status_of : Fault → ℕ
status_of Arguments = 2
status_of (SameFile clash) = 2
status_of Unreadable = 3
status_of NotToml = 3
status_of MissingField = 3
status_of WrongKind = 3
status_of UnknownName = 3
status_of BadPattern = 3
status_of Duplicate = 3
status_of LimitExceeded = 3
status_of MissingObject = 3
status_of NotServed = 3
status_of ExtraObject = 3
status_of Ports = 3
status_of Untold = 3
status_of Unannounced = 3
status_of Device = 4
status_of NoJournal = 4
status_of OlderCopy = 4
status_of Damaged = 4
status_of Full = 4
status_of JournalMemory = 4
status_of Secrets = 5
status_of Socket = 5
status_of Log = 5
status_of Metrics = 5
status_of Input = 5
status_of Output = 5
status_of Memory = 5
status_of Locked = 6
