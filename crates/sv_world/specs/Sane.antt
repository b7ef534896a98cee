-- What holds of all that is durable, and of all packets.
use Rattle.std.specs.Prelude.{◌≡◌, ◌≢◌, ◌⊎◌, ℕ, ◌<◌, ◌≤◌, true, Some, None, List}
use Rattle.std.specs.FinMap.{get}
use Rattle.sv_model.specs.declared.key.Key.{Key}
use Rattle.sv_model.specs.declared.packet.Packet.{Packet}
use Rattle.sv_model.specs.declared.packet.Packet.TheVariants.{Ack}
use Rattle.sv_model.specs.declared.commit.Commit.{Commit}
use Rattle.sv_model.specs.Container.{Meanings, after, AreLawful, Store, nothing_stored}
use Rattle.sv_model.specs.NodeState.{Durable, known}
use Rattle.sv_model.specs.Membership.{In}
use Rattle.sv_model.specs.Opening.{Opening}
use Rattle.sv_world.specs.Life.{Life}
use Rattle.sv_world.specs.World.{Cluster}
use Rattle.sv_world.specs.Headline.{granted, opened}

-- an Ack of the epoch of the key was sent
abbrev pub acked : List Packet → Key → ℕ → ℕ → Type 0
acked packets k e to = (from : ℕ) × In (Ack from to k e) packets

abbrev pub store_of : Meanings → List Commit → Store
store_of m cs = after m nothing_stored cs

-- its home has not yet handed it out, or never will
abbrev pub IsUnmade : (ℕ → Durable) → Key → Type 0
IsUnmade disks q = ((disks q.home).next ≤ q.serial) ⊎ (q.serial ≡ 0)

pub record Sane (m : Meanings) (c : Cluster) (disks : ℕ → Durable) (packets : List Packet) (openings : List Opening) (commits : List Commit) : Type 0 where
  pub lives : (q : Key) → Life (λ x. known (disks x) q) (granted packets q) (acked packets q) (opened openings q) ((store_of m commits).map q)
  pub unmade : (x : ℕ) (q : Key) → IsUnmade disks q → known (disks x) q ≡ None
  pub made : (q : Key) → (store_of m commits).made q ≡ true → q.serial < (disks q.home).next
  pub lawful : AreLawful m nothing_stored commits
  pub counts : (x : ℕ) → 0 < (disks x).next
  -- a node forgets no keys but its own
  pub own : (x h : ℕ) → (disks x).home ≡ Some h → h ≡ x
  -- one that forgets none keeps all that it has handed out
  pub full : (x : ℕ) → (disks x).home ≡ None → (q : Key) → q.home ≡ x → 0 < q.serial → q.serial < (disks x).next → get (disks x).keys q ≢ None
