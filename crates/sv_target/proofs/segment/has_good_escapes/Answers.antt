use Rattle.sv_target.proofs.Prelude.{◌+◌, ◌≡◌, true, false, ap, sym, ◌∙◌, take_rest, is_some, list_any, has_good_escapes, are_escapes, is_percent}
use Rattle.sv_target.proofs.CookieLemmas.{is_some-position, position_or_len-position}
use Rattle.sv_target.proofs.segment.has_good_escapes.Goals as goal

pub returns-in-Some : goal.returns-in-Some
unfolding has_good_escapes
returns-in-Some c =
    let s = c.args.segment.now in
    let found = sym c.place_of_percent.ensures ∙ c.in-Some.is in
    let any : list_any is_percent s ≡ true = sym (is_some-position is_percent s) ∙ ap is_some found in
    let place = position_or_len-position is_percent s c.in-Some.at found in
    c.are_escapes.ensures ∙ ap are_escapes (take_rest s (c.in-Some.at + 1)) ∙ rw (any, place)

pub returns-in-None : goal.returns-in-None
unfolding has_good_escapes
returns-in-None c =
    let s = c.args.segment.now in
    let none : list_any is_percent s ≡ false = sym (is_some-position is_percent s) ∙ ap is_some (sym c.place_of_percent.ensures ∙ c.in-None.is) in
    rw none
