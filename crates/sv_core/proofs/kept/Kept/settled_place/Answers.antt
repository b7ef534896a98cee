use Rattle.sv_core.proofs.Prelude.{sym, ap, subst, ◌∙◌, option_copied, slice_get, node_of, is_here, Rise, wants_in}
use Rattle.sv_core.proofs.WantLemmas.{line_rises, serves_want, serves_nobody}
use Rattle.sv_core.proofs.kept.Kept.settled_place.Goals as goal

pub returns-in_err-want : goal.returns-in_err-want
returns-in_err-want c =
    let k = c.args.self.now in
    c.from_residual.ensures
    ∙ serves_nobody (is_here (node_of k).durable) k.parked.items k.settled.items k.walked (sym (ap option_copied c.in_err-want.was) ∙ c.first.ensures.value ∙ ap (λ l. slice_get l 0) c.deref.ensures.value)

pub search-requires : goal.search-requires
search-requires c = let k = c.args.self.now in subst (λ l. Rise (wants_in l)) (sym c.deref-2.ensures.value) (line_rises k.next_want k.parked.items k.line)

pub returns : goal.returns
returns c =
    let k = c.args.self.now in
    c.ok.ensures.value ∙ serves_want (is_here (node_of k).durable) k.parked.items c.deref-2.result.now k.settled.items c.in_ok-want.field-0.now c.search.result k.walked
    (sym (ap option_copied c.in_ok-want.was) ∙ c.first.ensures.value ∙ ap (λ l. slice_get l 0) c.deref.ensures.value) c.deref-2.ensures.value c.search.ensures.found c.search.ensures.absent
