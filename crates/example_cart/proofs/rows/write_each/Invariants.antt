use Rattle.std.proofs.Common.{◌≡◌, ◌++◌, drop}
use Rattle.example_cart.specs.Pages.{rows_html, sheet_of}
use Rattle.example_cart.proofs.rows.write_each.Given as goal

-- the entries so far, before those of the rest
abbrev pub invariant-loop-at : goal.invariant-loop-at
invariant-loop-at l =
    l.page ++ rows_html (sheet_of l.rows) l.at (drop l.at l.articles) (drop l.at l.quantities) ≡ l.fn.page ++ rows_html (sheet_of l.rows) 0 l.articles l.quantities
