use Rattle.sv_target.proofs.Prelude.{◌+◌, ap, drop, sym, take, ◌∙◌, take_rest, is_some, is_equals, is_pair, pair_of}
use Rattle.sv_target.proofs.CookieLemmas.{is_some-position, position_or_len-position}
use Rattle.sv_target.proofs.cookie_fields.split_pair.Goals as goal

pub returns-in_err-equals-clause-found : goal.returns-in_err-equals-clause-found
unfolding is_pair
returns-in_err-equals-clause-found c =
    ap is_some c.from_residual.ensures ∙ (ap is_some c.in_err-equals.ensures ∙ is_some-position is_equals c.args.part.now)

pub returns-clause-found : goal.returns-clause-found
unfolding is_pair
returns-clause-found c = ap is_some c.in_ok-equals.ensures ∙ is_some-position is_equals c.args.part.now

pub returns-clause-name : goal.returns-clause-name
unfolding pair_of
returns-clause-name c =
    let place = position_or_len-position is_equals c.args.part.now c.in_ok-equals.equals (sym c.in_ok-equals.ensures) in
    ap (λ i. take i c.args.part.now) (sym place)

pub returns-clause-value : goal.returns-clause-value
unfolding pair_of
returns-clause-value c =
    let place = position_or_len-position is_equals c.args.part.now c.in_ok-equals.equals (sym c.in_ok-equals.ensures) in
    take_rest c.args.part.now (c.in_ok-equals.equals + 1) ∙ ap (λ i. drop (i + 1) c.args.part.now) (sym place)
