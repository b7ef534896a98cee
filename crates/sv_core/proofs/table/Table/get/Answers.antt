use Rattle.sv_core.proofs.Prelude.{◌≡◌, ◌<◌, Some, None, sym, ap, subst, ◌∙◌, option_copied, option_map, find, key_cmp, Gone, state_at, places_in}
use Rattle.std.proofs.lemmas.List.{get_or_default}
use Rattle.sv_core.proofs.PlaceLemmas.{found_within}
use Rattle.sv_core.proofs.TableLemmas.{get_is}
use Rattle.sv_core.proofs.table.Table.get.Goals as goal

pub returns-in_err-place : goal.returns-in_err-place
returns-in_err-place c =
    let t = c.args.self.now in
    let none : find key_cmp c.args.key (places_in t.places) ≡ None = sym c.place_of.ensures ∙ c.in_err-place.was in
    ap option_copied c.from_residual.ensures ∙ sym (get_is t.states.items (places_in t.places) t.places.rises c.args.key ∙ ap (option_map (state_at t.states.items)) none)

pub index-requires : goal.index-requires
index-requires c =
    let t = c.args.self.now in
    subst (λ n. c.in_ok-place.place < n) (sym t.states.ok.0)
    (found_within c.args.key c.in_ok-place.place _ (places_in t.places) (sym c.place_of.ensures ∙ c.in_ok-place.was) t.within)

pub returns : goal.returns
returns c =
    let t = c.args.self.now in
    let at = c.in_ok-place.place in
    let found : find key_cmp c.args.key (places_in t.places) ≡ Some at = sym c.place_of.ensures ∙ c.in_ok-place.was in
    ap Some (c.index.ensures ∙ get_or_default t.states.items at c.index.result.now (Gone 0) (found_within c.args.key at _ (places_in t.places) found t.within))
    ∙ sym (get_is t.states.items (places_in t.places) t.places.rises c.args.key ∙ ap (option_map (state_at t.states.items)) found)
