use Rattle.sv_target.proofs.Prelude.{◌++◌, map, sym, ap, ◌∙◌, rules, tests, YieldsList-from_slice_split, trim, is_semicolon, pairs_among, pairs_of}
use Rattle.std.proofs.lemmas.Iterator.Consumers.{YieldsList-end}
use Rattle.sv_target.proofs.CookieLemmas.{map-map}
use Rattle.sv_target.proofs.cookie_fields.add_pairs.Goals as goal

pub returns : goal.returns
unfolding pairs_of
returns c =
    let all = YieldsList-end (YieldsList-from_slice_split _ is_semicolon c.args.value.now (cc) (cc) (cc) (λ x b q k. search (rules, tests))) c.loop-part.yielded _ c.loop-part.yielded_by _ _ c.in-None.is c.next.ensures.steps in
    c.loop-part.invariant ∙ ap (λ parts. c.args.cookies.now ++ pairs_among parts) (sym (map-map trim (λ part. part.now) c.loop-part.yielded) ∙ ap (map trim) all.0)
