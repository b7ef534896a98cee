-- Wants of other nodes that are held, in the order in which they came.
use Rattle.std.specs.Prelude.{◌≡◌, ℕ, ◌++◌, ◌∷◌, [], ◌==◌, ◌&&◌, Bool, true, false, not, is_some, min, nat_lt, List, Option, Some, None}
use Rattle.std.specs.Prelude.{filter, position, remove, slice_get, slice_set, ⊤}
use Rattle.std.specs.List.{AllByRecursion}
use Rattle.sv_model.specs.declared.key.Key.{Key}
use Rattle.sv_model.specs.declared.key.Moment.{Moment}
use Rattle.sv_model.specs.declared.input.Input.{Input}
use Rattle.sv_model.specs.declared.input.Input.TheVariants as input
use Rattle.sv_model.specs.declared.packet.Packet.{Packet}
use Rattle.sv_model.specs.declared.packet.Packet.TheVariants as packet
use Rattle.sv_host.specs.declared.group.Group.{Group}
use Rattle.sv_host.specs.declared.held.HeldWant.{HeldWant}
use Rattle.sv_host.specs.declared.held.HeldWants.{HeldWants}
use Rattle.sv_host.specs.declared.want.Want.{Want}
use Rattle.sv_host.specs.declared.lease.Lease.{Lease}
use Rattle.sv_host.specs.Group.{inputs_of}
use Rattle.sv_host.specs.Lease.{end_of, is_key}

-- an input that wants a session
abbrev pub is_want_in : Packet → Bool
is_want_in (packet.Want from to key boot want) = true
is_want_in (packet.Grant from to key e s) = false
is_want_in (packet.Ack from to key e) = false
is_want_in (packet.No from to key boot want) = false

abbrev pub is_want : Input → Bool
is_want (input.Ask number r) = false
is_want (input.Packet p) = is_want_in p
is_want input.Poke = false
is_want input.Tick = false
is_want (input.Move k to) = false

abbrev pub is_want_at : Option (Moment × Input) → Bool
is_want_at None = false
is_want_at (Some i) = is_want i.1

-- a want as an input, and that of an input
abbrev pub input_of : Want → Input
input_of w = input.Packet (packet.Want w.from w.to w.key w.boot w.want)

abbrev pub IsWantOf : Input → Option Want → Type 0
IsWantOf i None = is_want i ≡ false
IsWantOf i (Some w) = i ≡ input_of w

abbrev pub IsWantAt : Option (Moment × Input) → Option Want → Type 0
IsWantAt None None = ⊤
IsWantAt None (Some w) = ⊥
IsWantAt (Some i) want = IsWantOf i.1 want

abbrev pub wants_of : HeldWants → List HeldWant
wants_of h = h.wants.items

abbrev pub is_for : Key → HeldWant → Bool
is_for key h = is_key key h.want.key

abbrev pub is_like : Key → ℕ → HeldWant → Bool
is_like key from h = is_for key h && (h.want.from == from)

abbrev pub has : Key → List HeldWant → Bool
has key hs = is_some (position (is_for key) hs)

-- one in the place of that of the same node for the same session, or after the others
abbrev pub put_at : Option ℕ → HeldWant → List HeldWant → List HeldWant
put_at None h hs = hs ++ h ∷ []
put_at (Some at) h hs = slice_set hs at h

abbrev pub held_with : HeldWant → List HeldWant → List HeldWant
held_with h hs = put_at (position (is_like h.want.key h.want.from) hs) h hs

abbrev pub held_until : Want → ℕ → List HeldWant → List HeldWant
held_until want until hs = held_with (record { want = want; until = until }) hs

abbrev pub others_than : Option ℕ → List HeldWant → List HeldWant
others_than None hs = hs
others_than (Some at) hs = remove hs at

abbrev pub without : Key → ℕ → List HeldWant → List HeldWant
without key from hs = others_than (position (is_like key from) hs) hs

-- one is due when its session may leave that has come, or else at its own end
abbrev pub due_by : Option ℕ → ℕ → ℕ
due_by None until = until
due_by (Some end) until = end

abbrev pub due_of : List Lease → HeldWant → ℕ
due_of leases h = due_by (end_of h.want.key leases) h.until

abbrev pub is_due : List Lease → ℕ → HeldWant → Bool
is_due leases now h = not (nat_lt now (due_of leases h))

abbrev pub first_due : List Lease → ℕ → List HeldWant → Option ℕ
first_due leases now hs = position (is_due leases now) hs

abbrev pub held_at : List HeldWant → Option ℕ → Option HeldWant
held_at hs None = None
held_at hs (Some at) = slice_get hs at

abbrev pub due_in : List Lease → ℕ → List HeldWant → Option HeldWant
due_in leases now hs = held_at hs (first_due leases now hs)

-- the soonest of their times
abbrev pub sooner_of : Option ℕ → ℕ → Option ℕ
sooner_of None other = Some other
sooner_of (Some one) other = Some (min one other)

abbrev pub next_from : Option ℕ → List Lease → List HeldWant → Option ℕ
next_from next leases [] = next
next_from next leases (h ∷ hs) = next_from (sooner_of next (due_of leases h)) leases hs

abbrev pub next_of : List Lease → List HeldWant → Option ℕ
next_of leases hs = next_from None leases hs

-- of a group, what is no want
abbrev pub is_other : Moment × Input → Bool
is_other i = not (is_want i.1)

abbrev pub others_in : List (Moment × Input) → List (Moment × Input)
others_in is = filter is_other is

-- what stands after the others are wants
pub record HasMoreWants (group next : Group) : Type 0 where
  pub more : List (Moment × Input)
  pub inputs : inputs_of next ≡ inputs_of group ++ more
  pub wants : AllByRecursion (λ i. is_want i.1 ≡ true) more
