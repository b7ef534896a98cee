-- How a node at a place has run, over two disks.
use Rattle.std.specs.Prelude.{ℕ, List}
use Rattle.sv_model.specs.Engine.{EngineMeaning}
use Rattle.sv_net.specs.declared.persistence.Persistence.{Persistence}
use Rattle.sv_node.specs.History.{IsLife}
use Rattle.sv_host.specs.Host.{IsAt, setting_of}
use Rattle.sv_host.specs.declared.host.Host.{Host}
use Rattle.sv_host.specs.declared.place.Place.{Place}

-- an engine as a caller sees it: what it means, and what its listeners have heard
abbrev pub Seen : Type 0
Seen = EngineMeaning × List (List ℕ)

-- A host at this place had the life of a process, by an engine that means this and whose listeners had heard this before.
pub record HasRun {D : Type 0} (tells : D → Type 0) (seen : D → List ℕ) (may_leave : D → List ℕ → Type 0) (meaning : EngineMeaning)
    (heard : List (List ℕ)) (place : Place) (persistence : Persistence) : Type 0 where
  pub host : Host
  pub stands : IsAt place persistence host
  pub a : D
  pub b : D
  pub ended : Seen
  pub a' : D
  pub b' : D
  pub life : IsLife (λ (e : Seen). e.0) (λ (e : Seen). e.1) tells seen may_leave (setting_of host) (meaning, heard) a b ended a' b'
