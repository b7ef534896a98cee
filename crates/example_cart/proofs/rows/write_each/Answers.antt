use Rattle.std.proofs.Common.{◌≤◌, length, min, arith}
use Rattle.example_cart.specs.Pages.{sheet_of}
use Rattle.example_cart.proofs.RowsLemmas.{all_done, any_default, html_ends, next_html, one_has_ended, one_more}
use Rattle.example_cart.proofs.rows.write_each.Goals as goal

pub loop-at-preserved : goal.loop-at-preserved
loop-at-preserved c =
    one_more c.loop-at.page c.write_row.new.page _ _ _ _ c.in_ok-write_row.ensures
    (next_html (sheet_of c.args.rows) c.args.articles.now c.args.quantities.now c.loop-at.at _ _ (omega arith) (omega arith)
    (any_default c.args.articles.now c.loop-at.at _ _ (omega arith)) (any_default c.args.quantities.now c.loop-at.at _ _ (omega arith)))
    c.loop-at.invariant

pub returns : goal.returns
returns c =
    let over : min (length c.args.articles.now) (length c.args.quantities.now) ≤ c.loop-at.at = omega arith in
    all_done c.loop-at.page _ _ (html_ends (sheet_of c.args.rows) c.args.articles.now c.args.quantities.now c.loop-at.at (one_has_ended _ _ _ over)) c.loop-at.invariant
