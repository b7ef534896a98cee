use Rattle.std.proofs.Common.{◌≡◌, map, take}
use Rattle.serde_json.specs.View.{view}
use Rattle.club_site.specs.Bookings.{slot_data}
use Rattle.club_site.proofs.bookings.list_value.Given as goal

-- the slots so far
abbrev pub invariant-loop-slot : goal.invariant-loop-slot
invariant-loop-slot l = map view l.values.items ≡ map slot_data (take l.slot-index l.slots)
