-- A visit: the pages that a session is shown, and the nodes that show them.
use Rattle.std.specs.Prelude.{ℕ, ◌+◌, ◌-◌, ◌^◌, ◌==◌, min, if◌then◌else◌}
use Rattle.example_cart.specs.declared.visit.Visit.{Visit}

-- one more, up to the greatest number of 32 bits
abbrev pub next : ℕ → ℕ
next n = min (n + 1) (2 ^ 32 - 1)

-- the next page, which is shown by this node
abbrev pub arrived : ℕ → Visit → Visit
arrived node v = record { page = next v.page; node = node; moves = if v.node == node then v.moves else next v.moves }
