use Rattle.sv_core.proofs.Prelude.{length, sym, ap, subst, ◌∙◌, first_over, Directory, AreWithin, places_in}
use Rattle.sv_core.proofs.DirectoryLemmas.{front_within, back_within, over_low, over_high, nobody_over}
use Rattle.sv_core.proofs.TableLemmas.{entries_are}
use Rattle.sv_core.proofs.table.Table.first_over.Goals as goal

pub first_among-requires : goal.first_among-requires
first_among-requires c =
    let t = c.args.self.now in
    subst (AreWithin (length t.states.items)) (sym (c.low.ensures ∙ ap (λ (d : Directory). d.low.items) c.places.ensures)) (front_within (length t.states.items) t.places.low.items t.places.high.items t.within)

pub first_among-requires-in-None : goal.first_among-requires-in-None
first_among-requires-in-None c =
    let t = c.args.self.now in
    subst (AreWithin (length t.states.items)) (sym (c.high.ensures ∙ ap (λ (d : Directory). d.high.items) c.places-in-None.ensures)) (back_within (length t.states.items) t.places.low.items t.places.high.items t.within)

pub returns-in-Some : goal.returns-in-Some
returns-in-Some c =
    let t = c.args.self.now in
    over_low c.args.now t.states.items t.places.low.items t.places.high.items c.low.result.now (c.low.ensures ∙ ap (λ (d : Directory). d.low.items) c.places.ensures) _ c.in-Some.ensures
    ∙ sym (ap (first_over c.args.now) (entries_are t.states.items (places_in t.places) t.places.rises))

pub returns-in-None : goal.returns-in-None
returns-in-None c =
    let t = c.args.self.now in
    over_high c.args.now t.states.items t.places.low.items t.places.high.items c.low.result.now (c.low.ensures ∙ ap (λ (d : Directory). d.low.items) c.places.ensures)
    c.high.result.now _ c.in-None.ensures (c.high.ensures ∙ ap (λ (d : Directory). d.high.items) c.places-in-None.ensures) c.first_among-in-None.ensures
    ∙ sym (ap (first_over c.args.now) (entries_are t.states.items (places_in t.places) t.places.rises))

pub returns-then-not-is_any_over : goal.returns-then-not-is_any_over
returns-then-not-is_any_over c =
    let t = c.args.self.now in
    nobody_over c.args.now t.states.items (places_in t.places) c.is_any_over.result c.is_any_over.ensures c.if-not-is_any_over.true t.within
    ∙ sym (ap (first_over c.args.now) (entries_are t.states.items (places_in t.places) t.places.rises))
