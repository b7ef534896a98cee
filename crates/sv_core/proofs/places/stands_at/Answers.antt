use Rattle.sv_core.proofs.Prelude.{sym, ap, ◌∙◌, is_eq}
use Rattle.sv_core.proofs.PlaceLemmas.{met_at}
use Rattle.sv_core.proofs.places.stands_at.Goals as goal

pub returns-in-Some : goal.returns-in-Some
returns-in-Some c is =
    let item = c.in-Some.ensures.lookup in
    let equal = sym (ap is_eq c.cmp.ensures) ∙ sym c.is_eq.ensures ∙ is in
    met_at c.args.key c.args.places.now c.args.at c.in-Some.field-0.now c.requires item.3.0 (λ d. sym (item.3.1 d)) equal
