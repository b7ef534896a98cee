use Rattle.sv_target.proofs.Prelude.{◌≡◌, List, ℕ, map, true, sym, ◌∙◌, ap, rules, Bor, cow_str_bytes, cut, ends_in_dots}
use Rattle.std.specs.Prelude.{Some}
use Rattle.std.proofs.lemmas.List.{map-append}
use Rattle.sv_target.proofs.PathLemmas.{resolved_closed}
use Rattle.sv_target.proofs.path.resolve.Goals as goal

pub returns-clause-ok : goal.returns-clause-ok
returns-clause-ok c =
    let ss = map (λ (part : Bor (List ℕ)). cut part.now) c.args.parts.now in
    let closed : ends_in_dots ss ≡ true = search (rules, c.if-not-ends_in_dots.ensures) in
    resolved_closed ss (map cow_str_bytes c.in_ok-kept.kept.items) closed c.in_ok-kept.ensures.ok
    ∙ ap Some (sym (ap (map cow_str_bytes) c.in_ok-push.ensures.items
    ∙ map-append cow_str_bytes c.in_ok-kept.kept.items _))
