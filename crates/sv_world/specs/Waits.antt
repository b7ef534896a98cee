-- Requests that wait, and the packets that ask for their sessions.
use Rattle.std.specs.Prelude.{◌≡◌, ◌⊎◌, ℕ, ◌<◌, ◌≤◌, false, Some, List, [], length}
use Rattle.sv_model.specs.declared.key.Key.{Key}
use Rattle.sv_model.specs.declared.key.Secret.{Secret}
use Rattle.sv_model.specs.declared.key.Token.{Token}
use Rattle.sv_model.specs.declared.node.Parked.{Parked}
use Rattle.sv_model.specs.declared.request.Request.{Request}
use Rattle.sv_model.specs.declared.packet.Packet.{Packet}
use Rattle.sv_model.specs.declared.packet.Packet.TheVariants.{Want, No}
use Rattle.sv_model.specs.declared.commit.Commit.{Commit}
use Rattle.sv_model.specs.Container.{Meanings, IsExcused, AllMayStand}
use Rattle.sv_model.specs.Membership.{In}
use Rattle.sv_world.specs.Headline.{AllServed}
use Rattle.sv_world.specs.World.{Member}

abbrev pub tok : ℕ → ℕ → ℕ → Token
tok n boot number = record { number = number; node = n; boot = boot }

abbrev pub boot_of : Member → ℕ
boot_of p = p.node.durable.boot

-- the boot and the want are of the past
abbrev pub IsPast : Member → ℕ → ℕ → Type 0
IsPast p b w = (b < p.node.durable.boot) ⊎ ((b ≡ p.node.durable.boot) × ((w < p.node.next_want) ⊎ (p.up ≡ false)))

-- a request that waits came before now, names its key, and its want is of the past
pub record IsParked (m : Meanings) (size : ℕ) (arr : Token → ℕ) (asked : Token → Request → Type 0) (t : Token) (want : ℕ) (p : Parked) : Type 0 where
  pub arrived : arr t ≤ size
  pub came : asked t p.request
  pub named : Key × Secret
  pub names : (m t.node t.boot).names p.request ≡ Some named
  pub key : named.0 ≡ p.key
  pub below : p.want < want

pub record Waits (m : Meanings) (members : ℕ → Member) (packets : List Packet) (cs : List Commit) (arr : Token → ℕ)
    (asked : Token → Request → Type 0) : Type 0 where
  pub want_past : (from to : ℕ) (k : Key) (b x : ℕ) → In (Want from to k b x) packets → IsPast (members from) b x
  pub no_past : (from to : ℕ) (k : Key) (b x : ℕ) → In (No from to k b x) packets → IsPast (members to) b x
  pub no_excuse : (from to : ℕ) (k : Key) (b x : ℕ) (p : Parked) → In (No from to k b x) packets → In p (members to).node.parked
      → b ≡ (members to).node.durable.boot → p.want ≡ x → p.key ≡ k → IsExcused m cs (arr (tok to (boot_of (members to)) p.token)) k
  pub parked : (n : ℕ) (p : Parked) → In p (members n).node.parked
      → IsParked m (length cs) arr asked (tok n (boot_of (members n)) p.token) (members n).node.next_want p
  pub excused : AllMayStand m arr [] cs
  pub served : AllServed asked cs
