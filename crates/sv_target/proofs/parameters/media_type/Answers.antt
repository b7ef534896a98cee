use Rattle.sv_target.proofs.Prelude.{ap, sym, take, ◌∙◌}
use Rattle.sv_target.specs.Segment.{is_semicolon}
use Rattle.sv_target.proofs.CookieLemmas.{position_or_len-position, before_none}
use Rattle.sv_target.proofs.parameters.media_type.Goals as goal

pub returns-in-Some : goal.returns-in-Some
returns-in-Some c =
    let s = c.args.value.now in
    ap (λ i. take i s) (sym (position_or_len-position is_semicolon s c.in-Some.at (sym c.place_of_semicolon.ensures ∙ c.in-Some.is)))

pub returns-in-None : goal.returns-in-None
returns-in-None c =
    let s = c.args.value.now in
    sym (before_none is_semicolon s (sym c.place_of_semicolon.ensures ∙ c.in-None.is))
