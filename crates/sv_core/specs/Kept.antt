-- What a core keeps, seen as a node.
use Rattle.std.specs.Prelude.{◌+◌, ◌<◌, ◌≤◌, length, vec_len, vec_capacity}
use Rattle.sv_model.specs.NodeState.{Node}
use Rattle.sv_core.specs.Table.{keys_of, durable_by, HasRoom}
use Rattle.sv_core.specs.declared.kept.Kept.{Kept}

abbrev pub node_of : Kept → Node
node_of k = record { durable = durable_by (keys_of k.keys) k.boot k.next k.home; parked = k.parked.items; next_want = k.next_want }

-- a record can be taken without taking memory: the requests for a key that it settles may be all that wait
pub record TakesRecord (k : Kept) : Type 0 where
  pub keys : HasRoom k.keys
  pub settled : vec_len k.settled + length k.parked.items ≤ vec_capacity k.settled

-- a decision can be accepted without taking memory
pub record IsReady (k : Kept) : Type 0 where
  pub taking : TakesRecord k
  pub parked : vec_len k.parked < vec_capacity k.parked
  pub waited : vec_len k.waited < vec_capacity k.waited
  pub settled : length k.parked.items < vec_capacity k.settled
