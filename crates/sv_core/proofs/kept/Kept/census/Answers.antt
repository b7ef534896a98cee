use Rattle.sv_core.proofs.Prelude.{length, arith, sym, ap, subst, ◌∙◌, Directory, AreWithin, seen, places_in, with_all, total}
use Rattle.sv_core.specs.Census.{nobody}
use Rattle.sv_core.proofs.DirectoryLemmas.{front_within, back_within, seen_append}
use Rattle.sv_core.proofs.CensusLemmas.{all_append, total_seen}
use Rattle.sv_core.proofs.TableLemmas.{entries_are}
use Rattle.sv_core.proofs.kept.Kept.census.Goals as goal

pub with_all-low-requires-clause-within : goal.with_all-low-requires-clause-within
with_all-low-requires-clause-within c =
    let t = c.args.self.now.keys in
    subst (AreWithin (length t.states.items)) (sym (c.low.ensures ∙ ap (λ (d : Directory). d.low.items) c.places.ensures)) (front_within (length t.states.items) t.places.low.items t.places.high.items t.within)

pub with_all-requires : goal.with_all-requires
with_all-requires c =
    let t = c.args.self.now.keys in
    let low = c.low.ensures ∙ ap (λ (d : Directory). d.low.items) c.places.ensures in
    let high = c.high.ensures ∙ ap (λ (d : Directory). d.high.items) c.places-2.ensures in
    record {
      within = subst (AreWithin (length t.states.items)) (sym high) (back_within (length t.states.items) t.places.low.items t.places.high.items t.within);
      room = omega (arith, ap total (c.with_all-low.ensures ∙ ap (λ l. with_all (seen t.states.items l) c.nobody.result) low ∙ ap (with_all (seen t.states.items t.places.low.items)) c.nobody.ensures), total_seen t.states.items t.places.low.items nobody, ap length high, t.places.low.ok, t.places.low.small, t.places.high.ok, t.places.high.small);
    }

pub returns : goal.returns
returns c =
    let t = c.args.self.now.keys in
    c.with_all.ensures
    ∙ ap (λ l. with_all (seen t.states.items l) c.with_all-low.result) (c.high.ensures ∙ ap (λ (d : Directory). d.high.items) c.places-2.ensures)
    ∙ ap (with_all (seen t.states.items t.places.high.items)) (c.with_all-low.ensures ∙ ap (λ l. with_all (seen t.states.items l) c.nobody.result) (c.low.ensures ∙ ap (λ (d : Directory). d.low.items) c.places.ensures) ∙ ap (with_all (seen t.states.items t.places.low.items)) c.nobody.ensures)
    ∙ sym (all_append (seen t.states.items t.places.low.items) (seen t.states.items t.places.high.items) nobody)
    ∙ ap (λ es. with_all es nobody) (sym (entries_are t.states.items (places_in t.places) t.places.rises ∙ seen_append t.states.items t.places.low.items t.places.high.items))
