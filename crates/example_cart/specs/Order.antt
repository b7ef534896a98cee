-- The orders of a session.
use Rattle.std.specs.Prelude.{ℕ, ◌+◌, ◌*◌, ◌/◌, ◌%◌, ◌&&◌, ◌==◌, not, Bool, List, [], ◌∷◌, nat_lt, Option, Some, None}
use Rattle.example_cart.specs.declared.order.Order.{Order}
use Rattle.example_cart.specs.Cart.{is_empty, new_cart}
use Rattle.example_cart.specs.Kept.{cart_in}

-- the form of the next order, of something; the last number of 16 bits never is
abbrev pub is_ordered : Order → List ℕ → ℕ → Bool
is_ordered order cart form = (order.number == form) && (nat_lt form 65535 && not (is_empty cart))

-- two bytes of the number, and those of what was ordered
abbrev pub kept_order : Order → List ℕ
kept_order order = (order.number / 256) ∷ (order.number % 256) ∷ order.cart

-- no order yet
abbrev pub no_order : Order
no_order = record { number = 0; cart = new_cart }

-- the order of some bytes
abbrev pub order_in : Option (List ℕ) → Order
order_in None = no_order
order_in (Some []) = no_order
order_in (Some (high ∷ [])) = no_order
order_in (Some (high ∷ low ∷ rest)) = record { number = high * 256 + low; cart = cart_in (Some rest) }
