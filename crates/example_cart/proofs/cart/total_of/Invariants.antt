use Rattle.std.proofs.Common.{◌≡◌, ◌+◌, ◌*◌, ◌^◌, ◌≤◌, drop}
use Rattle.std.specs.List.{sum_by, zip}
use Rattle.example_cart.specs.Cart.{cost, total}
use Rattle.example_cart.proofs.cart.total_of.Given as goal

-- what the rows so far cost, and what the rest does
abbrev pub invariant-loop-at : goal.invariant-loop-at
invariant-loop-at l = record {
  sum : l.total + sum_by cost (zip (drop l.at l.articles) (drop l.at l.quantities)) ≡ total l.articles l.quantities;
  small : l.total ≤ l.at * 2 ^ 40;
}
