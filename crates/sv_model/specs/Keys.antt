-- Keys in their order, and what is kept under them.
use Rattle.std.specs.Prelude.{ℕ, ◌<◌, Bool, cond}
use Rattle.std.specs.Ordering.{nat_cmp, ordering_then, eq_by_cmp}
use Rattle.std.specs.declared.cmp.Ordering.{Ordering}
use Rattle.sv_model.specs.declared.key.Key.{Key}
use Rattle.sv_model.specs.declared.key.TheConstants.{NODE_LIMIT}

-- by home, then by serial
abbrev pub key_cmp : Key → Key → Ordering
key_cmp a b = ordering_then (nat_cmp a.home b.home) (nat_cmp a.serial b.serial)

abbrev pub same_key : Key → Key → Bool
same_key a b = eq_by_cmp key_cmp a b

-- the function with another value at a key
abbrev pub set_key : {A : Type 0} → (Key → A) → Key → A → Key → A
set_key f k x q = cond (same_key q k) x (f q)

-- a node's number
abbrev pub IsNode : ℕ → Type 0
IsNode n = n < NODE_LIMIT

-- an epoch, a serial or a boot that was begun
abbrev pub IsCounting : ℕ → Type 0
IsCounting n = 0 < n

-- the name of a session that a node could have made
abbrev pub IsKey : Key → Type 0
IsKey k = IsNode k.home × IsCounting k.serial
