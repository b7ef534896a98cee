use Rattle.sv_core.proofs.Prelude.{sym, ap, subst, cond, Some, None, ◌∙◌, ◌<◌, Rise, wants_in}
use Rattle.sv_core.proofs.WantLemmas.{line_rises, wanted_none, wanted_at, stands_within}
use Rattle.sv_core.proofs.kept.Kept.wanted_place.Goals as goal

pub search-requires : goal.search-requires
search-requires c = let k = c.args.self.now in subst (λ l. Rise (wants_in l)) (sym c.deref.ensures.value) (line_rises k.next_want k.parked.items k.line)

pub returns-in_err-at : goal.returns-in_err-at
returns-in_err-at c =
    let k = c.args.self.now in
    c.from_residual.ensures ∙ wanted_none c.args.key c.args.want k.parked.items c.deref.result.now c.search.result (sym c.ok.ensures.value ∙ c.in_err-at.was) c.deref.ensures.value c.search.ensures.absent

pub index-requires : goal.index-requires
index-requires c =
    let k = c.args.self.now in
    subst (λ n. c.in_ok-at.at < n) (sym k.parked.ok.0)
    (stands_within c.args.want k.parked.items c.deref.result.now c.search.result c.in_ok-at.at (sym c.ok.ensures.value ∙ c.in_ok-at.was) c.deref.ensures.value c.search.ensures.found)

pub returns-then-is_same : goal.returns-then-is_same
returns-then-is_same c =
    let k = c.args.self.now in
    ap (λ b. cond b (Some c.in_ok-at.at) None) (sym c.if-is_same.true)
    ∙ wanted_at c.args.key c.args.want k.parked.items c.deref.result.now c.search.result c.in_ok-at.at c.index.result.now c.is_same.result (sym c.ok.ensures.value ∙ c.in_ok-at.was) c.deref.ensures.value c.search.ensures.found c.index.ensures c.is_same.ensures

pub returns-else-is_same : goal.returns-else-is_same
returns-else-is_same c =
    let k = c.args.self.now in
    ap (λ b. cond b (Some c.in_ok-at.at) None) (sym c.if-is_same.false)
    ∙ wanted_at c.args.key c.args.want k.parked.items c.deref.result.now c.search.result c.in_ok-at.at c.index.result.now c.is_same.result (sym c.ok.ensures.value ∙ c.in_ok-at.was) c.deref.ensures.value c.search.ensures.found c.index.ensures c.is_same.ensures
