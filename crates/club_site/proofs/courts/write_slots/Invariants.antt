use Rattle.std.proofs.Common.{◌≡◌, ◌++◌, take}
use Rattle.std.specs.List.{flat_map}
use Rattle.club_site.specs.Courts.{slot_html}
use Rattle.club_site.proofs.courts.write_slots.Given as goal

-- the slots so far
abbrev pub invariant-loop-slot : goal.invariant-loop-slot
invariant-loop-slot l = l.page ≡ l.fn.page ++ flat_map slot_html (take l.slot-index l.slots)
