-- Room for requests that wait, by the home of the session that each of them waits for.
use Rattle.std.specs.Prelude.{◌≡◌, ℕ, ◌+◌, Bool, true, false, cond, nat_lt, List, [], ◌∷◌}
use Rattle.std.specs.Prelude.{replicate, Option, Some, None, slice_get, slice_index_or, slice_set, remove}
use Rattle.sv_core.specs.Waiting.{awaited}
use Rattle.sv_model.specs.declared.input.Input.{Input}
use Rattle.sv_model.specs.declared.input.Input.TheVariants.{Ask, Packet, Poke, Tick, Move}
use Rattle.sv_model.specs.declared.key.Moment.{Moment}
use Rattle.sv_model.specs.declared.node.Setting.{Setting}
use Rattle.sv_model.specs.declared.node.Parked.{Parked}
use Rattle.sv_model.specs.Engine.{EngineMeaning}
use Rattle.sv_model.specs.NodeState.{Durable}
use Rattle.sv_model.specs.declared.key.Key.{Key}
use Rattle.sv_host.specs.declared.group.Group.{Group}
use Rattle.sv_host.specs.declared.room.Room.{Room}
use Rattle.sv_host.specs.Group.{inputs_of, ways_of}
use Rattle.sv_host.specs.declared.room.TheConstants.{HOME_LIMIT}

-- how many wait for sessions of a home; where there is no such home, as many as may
abbrev pub count_in : Room → ℕ → ℕ
count_in r home = slice_index_or r.counts home HOME_LIMIT

abbrev pub has_room : Room → ℕ → Bool
has_room r home = nat_lt (count_in r home) HOME_LIMIT

-- a request may be given to the node: it would wait for no session, or for one whose home has room
abbrev pub may_come : Room → Option Key → Bool
may_come r None = true
may_come r (Some key) = has_room r key.home

-- one more waits for a session of this home, if it has room
abbrev pub counted : Room → ℕ → Room
counted r home = record { counts = cond (has_room r home) (slice_set r.counts home (count_in r home + 1)) r.counts }

-- what room there is after a request
abbrev pub room_behind : Room → Option Key → Room
room_behind r None = r
room_behind r (Some key) = counted r key.home

-- requests that wait are counted, from the first on
abbrev pub counted_all : Room → List Parked → Room
counted_all r [] = r
counted_all r (p ∷ ps) = counted_all (counted r p.key.home) ps

-- what room there is beside these
abbrev pub room_of : List Parked → Room
room_of ps = counted_all (record { counts = replicate 8 0 }) ps

-- for which session an input would wait: what is no request waits for none
abbrev pub awaited_by : EngineMeaning → Setting → Durable → Input → Option Key
awaited_by m set d (Ask number r) = awaited set d (m.names r)
awaited_by m set d (Packet p) = None
awaited_by m set d Poke = None
awaited_by m set d Tick = None
awaited_by m set d (Move k to) = None

abbrev pub awaited_in : (Input → Option Key) → Option (Moment × Input) → Option Key
awaited_in waits None = None
awaited_in waits (Some i) = waits i.1

-- the one at a place of a group stays there if it may be given to the node, and else is left out; what room there is then
pub record KeepsOne (waits : Input → Option Key) (at : ℕ) (old : Room) (group : Group) (new : Room) (next : Group) (stays : Bool) : Type 0 where
  pub may : stays ≡ may_come old (awaited_in waits (slice_get (inputs_of group) at))
  pub room : new ≡ room_behind old (awaited_in waits (slice_get (inputs_of group) at))
  pub inputs : inputs_of next ≡ cond stays (inputs_of group) (remove (inputs_of group) at)
  pub ways : ways_of next ≡ cond stays (ways_of group) (remove (ways_of group) at)

-- an input of several, before those that stay behind it
abbrev pub stays : {A : Type 0} → Bool → A → List A → List A
stays true i is = i ∷ is
stays false i is = is

-- those of several that may be given to the node, one after the other, by what each of them waits for
abbrev pub left_of : (Input → Option Key) → Room → List (Moment × Input) → List (Moment × Input)
left_of waits r [] = []
left_of waits r (i ∷ is) = stays (may_come r (waits i.1)) i (left_of waits (room_behind r (waits i.1)) is)
