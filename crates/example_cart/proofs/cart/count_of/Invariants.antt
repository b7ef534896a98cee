use Rattle.std.proofs.Common.{◌≡◌, ◌*◌, ◌≤◌, take, sum}
use Rattle.example_cart.proofs.cart.count_of.Given as goal

-- the sum of the quantities so far
abbrev pub invariant-loop-quantity : goal.invariant-loop-quantity
invariant-loop-quantity l = record {
  sum : l.count ≡ sum (take l.quantity-index l.quantities);
  small : l.count ≤ l.quantity-index * 255;
}
