-- Where a node stands in its cluster.
use Rattle.std.specs.Prelude.{◌≡◌, ◌⊎◌, ◌<◌, ◌≤◌, ℕ, length, ⊤}
use Rattle.sv_config.specs.declared.deployment.Cluster.{Cluster}
use Rattle.sv_model.specs.declared.key.TheConstants.{NODE_LIMIT}
use Rattle.sv_model.specs.declared.node.Setting.{Setting}
use Rattle.sv_host.specs.declared.place.PlaceFault.{PlaceFault}
use Rattle.sv_host.specs.declared.place.PlaceFault.TheVariants.{Ports, NoNode, Memory}

-- how many nodes there are
abbrev pub nodes_of : Cluster → ℕ
nodes_of c = length c.ports.items

abbrev pub setting_in : Cluster → ℕ → Setting
setting_in c number = record { node = number; nodes = nodes_of c; deadline = c.deadline; keys = c.keys; forget = c.forget }

-- there are nodes, and no more than there may be
abbrev pub HasPorts : Cluster → Type 0
HasPorts c = (0 < nodes_of c) × (nodes_of c ≤ NODE_LIMIT)

-- where the fault stands; want of memory stands nowhere
abbrev pub IsFault : Cluster → ℕ → PlaceFault → Type 0
IsFault c number Ports = (nodes_of c ≡ 0) ⊎ (NODE_LIMIT < nodes_of c)
IsFault c number NoNode = HasPorts c × (nodes_of c ≤ number)
IsFault c number Memory = ⊤
