-- What the listener notes that counts orders.
use Rattle.std.specs.Prelude.{ℕ, ◌+◌, ◌-◌, ◌^◌, Bool, false, bytes_eq, codes, map, min, List, if◌then◌else◌}
use Rattle.sv_model.specs.declared.event.Event.{Event}
use Rattle.sv_model.specs.declared.event.Event.TheVariants.{ContextUp, ContextDown, RequestIn, RequestOut, Created, Destroyed}
use Rattle.sv_model.specs.declared.event.Event.TheVariants.{Added, Removed, Replaced, Passivate, Activate, IdChanged}
use Rattle.sv_model.specs.declared.event.Told.{Told}

-- an order was kept in a session, as its first or in the place of the last
abbrev pub is_order : Event → Bool
is_order ContextUp = false
is_order ContextDown = false
is_order RequestIn = false
is_order RequestOut = false
is_order (Created key) = false
is_order (Destroyed key) = false
is_order (Added key name value) = bytes_eq name (codes "order")
is_order (Removed key name old) = false
is_order (Replaced key name old) = bytes_eq name (codes "order")
is_order (Passivate key) = false
is_order (Activate key) = false
is_order (IdChanged key old) = false

-- one more; the greatest number of 64 bits stays
abbrev pub counted : Told → List ℕ → List ℕ
counted told numbers = if is_order told.event then map (λ n. min (n + 1) (2 ^ 64 - 1)) numbers else numbers
