-- Where a host's node stands, where those beside it listen, and how its clients are served.
use Rattle.std.specs.Prelude.{◌≡◌, ℕ, List, Option}
use Rattle.sv_connection.specs.declared.reply.Naming.{Naming}
use Rattle.sv_host.specs.Secrets.{first_by, last_of}
use Rattle.sv_host.specs.declared.host.Host.{Host}
use Rattle.sv_host.specs.declared.place.Place.{Place}
use Rattle.sv_model.specs.declared.node.Setting.{Setting}
use Rattle.sv_net.specs.Places as places
use Rattle.sv_net.specs.declared.persistence.Persistence.{Persistence}

abbrev pub setting_of : Host → Setting
setting_of h = h.setting

-- the port of each node, by its number
abbrev pub ports_of : Host → List ℕ
ports_of h = h.server.ports.items

-- how many requests a client's connection brings
abbrev pub persistence_of : Host → Persistence
persistence_of h = places.persistence_of h.server.connections

-- where its refusals name their cause
abbrev pub naming_of : Host → Naming
naming_of h = places.naming_of h.server.connections

-- the number of its last secret where they are counted; none where they are read
abbrev pub counted_of : Host → Option ℕ
counted_of h = last_of h.server.secrets

-- it is a host at this place
pub record IsAt (place : Place) (persistence : Persistence) (host : Host) : Type 0 where
  pub setting : setting_of host ≡ place.setting
  pub ports : ports_of host ≡ place.ports.items
  pub persistence_is : persistence_of host ≡ persistence
  pub naming : naming_of host ≡ place.naming
  pub secrets : counted_of host ≡ first_by place.secrets
