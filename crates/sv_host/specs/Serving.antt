-- What stands before each call by which a node may be given what was gathered, and what holds after it.
use Rattle.std.specs.Prelude.{◌≡◌, ℕ, List, Result, IsTrue, OnOk}
use Rattle.sv_host.specs.Clients.{HaveClients}
use Rattle.sv_host.specs.declared.group.Group.{Group}
use Rattle.sv_host.specs.Group.{IsRising, before_of}
use Rattle.sv_host.specs.declared.parked.ParkedClient.{ParkedClient}
use Rattle.sv_journal.specs.declared.disk.Disk as disk_trait
use Rattle.sv_journal.specs.Journal.{disk_a, disk_b}
use Rattle.sv_model.specs.declared.engine.Engine as engine_trait
use Rattle.sv_node.specs.History.{HasEnded, HasGone}
use Rattle.sv_node.specs.Moments.{RunsWithoutLoss}
use Rattle.sv_node.specs.Node.{IsNode, engine_of, journal_of}
use Rattle.sv_node.specs.declared.node.Node.{Node}

-- a node that may be given what was gathered, beside the clients that wait
pub record IsServing {E D : Type 0} (engine : engine_trait.Ghosts E) (disk : disk_trait.Ghosts D) (waiters : List ParkedClient) (node : Node E D) (group : Group) : Type 0 where
  pub valid : IsNode engine.valid disk.tells disk.seen disk.may_leave node
  pub live : IsTrue (journal_of node).live
  pub rising : IsRising group
  pub clients : HaveClients waiters node group

-- by what came of it: some groups were given to the node, and what is gathered from now on comes after them; these clients wait then
pub record HasServed {E D T F : Type 0} (engine : engine_trait.Ghosts E) (disk : disk_trait.Ghosts D)
    (old : Node E D) (group : Group) (waiters : List ParkedClient) (new : Node E D) (next : Group) (answer : Result T F) : Type 0 where
  pub valid : IsNode engine.valid disk.tells disk.seen disk.may_leave new
  pub rising : IsRising next
  pub gone : HasGone engine.meaning engine.heard disk.tells disk.may_leave (before_of group) (before_of next) old new answer
  -- and a stop at any moment loses nothing
  pub runs : RunsWithoutLoss engine.meaning disk.tells disk.seen disk.may_leave disk.moment disk.left_since (before_of group) old new
  pub clients : OnOk answer (HaveClients waiters new next)

-- none was given to it: what has come was gathered
pub record HasGathered (group next : Group) : Type 0 where
  pub rising : IsRising next
  pub before : before_of next ≡ before_of group

-- it served until its end, and was taken apart into these
pub record HasLived {E D : Type 0} (engine : engine_trait.Ghosts E) (disk : disk_trait.Ghosts D)
    (node : Node E D) (given_back : E) (a b : D) : Type 0 where
  pub last : Node E D
  pub valid : IsNode engine.valid disk.tells disk.seen disk.may_leave last
  pub ended : HasEnded engine.meaning engine.heard disk.tells disk.may_leave node last
  pub runs : RunsWithoutLoss engine.meaning disk.tells disk.seen disk.may_leave disk.moment disk.left_since 0 node last
  pub parts : ◌≡◌ {A = E × D × D} (given_back, a, b) (engine_of last, disk_a (journal_of last), disk_b (journal_of last))
