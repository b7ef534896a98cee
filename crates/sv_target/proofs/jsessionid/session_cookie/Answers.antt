use Rattle.sv_target.proofs.Prelude.{◌+◌, ◌∷◌, ap, arith, drop, sym, ◌∙◌, slice_get, cons_option, filter_map, session_of_cookie, session_cookie}
use Rattle.std.proofs.lemmas.List.{drop_all, drop_more}
use Rattle.sv_target.proofs.jsessionid.session_cookie.Goals as goal

pub returns-in-Some : goal.returns-in-Some
unfolding session_cookie
returns-in-Some c =
    let names = session_of_cookie c.args.name.now c.args.context in
    let cookies = c.args.cookies.now in
    let i = c.loop-cookie.cookie-index in
    let here = drop_more cookies i c.cookie-item.result c.loop-cookie-test.true ∙ ap (λ item. item ∷ drop (i + 1) cookies) (sym c.cookie-item.is) in
    sym (ap (λ named. slice_get named 0) (c.loop-cookie.invariant ∙ ap (filter_map names) here
    ∙ ap (λ named. cons_option named (filter_map names (drop (i + 1) cookies))) (sym c.in-Some.ensures)))

pub returns : goal.returns
unfolding session_cookie
returns c =
    let names = session_of_cookie c.args.name.now c.args.context in
    let none = drop_all c.loop-cookie.cookie-index c.args.cookies.now (omega arith) in
    sym (ap (λ named. slice_get named 0) (c.loop-cookie.invariant ∙ ap (filter_map names) none))
