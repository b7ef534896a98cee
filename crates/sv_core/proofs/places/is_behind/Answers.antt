use Rattle.sv_core.proofs.Prelude.{sym, ap, ◌∙◌, is_lt}
use Rattle.sv_core.proofs.PlaceLemmas.{behind_last}
use Rattle.sv_core.proofs.places.is_behind.Goals as goal

pub returns-in-Some : goal.returns-in-Some
returns-in-Some c is =
    let item = c.in-Some.ensures.item in
    let above = sym (ap is_lt c.cmp.ensures) ∙ sym c.is_lt.ensures ∙ is in
    behind_last c.args.key c.args.places.now c.in-Some.field-0.now c.requires item.3.0 (λ d. sym (item.3.1 d)) above
