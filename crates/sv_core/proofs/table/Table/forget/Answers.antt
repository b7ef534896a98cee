use Rattle.sv_core.proofs.Prelude.{◌≡◌, ◌<◌, Some, refl, sym, ap, subst, ◌∙◌, find, key_cmp, Gone, Rises, erase, places_in}
use Rattle.sv_core.proofs.SentLemmas.{sent_rises}
use Rattle.sv_core.proofs.PlaceLemmas.{found_within}
use Rattle.sv_core.proofs.TableLemmas.{left_within, left_apart, left_spare, keys_left, sent_left, forgets_none}
use Rattle.sv_core.proofs.table.Table.forget.Goals as goal

pub remove-requires-in-Some : goal.remove-requires-in-Some
remove-requires-in-Some c = let t = c.args.self.now in subst Rises (sym t.walked) (sent_rises t.states.items (places_in t.places) t.places.rises)

pub index_mut-requires : goal.index_mut-requires
index_mut-requires c =
    let t = c.args.self.now in
    subst (λ n. c.in-Some.place < n) (sym t.states.ok.0)
    (found_within c.args.key c.in-Some.place _ (places_in t.places) (sym c.place_of.ensures ∙ c.in-Some.is) t.within)

pub invariant_of-self : goal.invariant_of-self
invariant_of-self c =
    let t = c.args.self.now in
    let k = c.args.key in
    let at = c.in-Some.place in
    let found : find key_cmp k (places_in t.places) ≡ Some at = sym c.place_of.ensures ∙ c.in-Some.is in
    record {
      within = left_within t.states.items (places_in t.places) t.places.rises k at (Gone 0) _ _ found t.within t.apart c.remove.ensures.places refl;
      apart = left_apart t.states.items (places_in t.places) t.places.rises k at (Gone 0) _ _ found t.within t.apart c.remove.ensures.places refl;
      spare = left_spare t.states.items (places_in t.places) t.places.rises k at (Gone 0) _ _ found t.within t.apart c.remove.ensures.places refl t.free.items _ c.push_reserved.ensures.items t.spare;
      walked = sent_left t.states.items (places_in t.places) t.places.rises k at (Gone 0) _ _ found t.within t.apart c.remove.ensures.places refl _ refl (c.remove-in-Some.ensures.items ∙ ap (erase k) t.walked);
    }

pub returns-in-Some-clause-keys : goal.returns-in-Some-clause-keys
returns-in-Some-clause-keys c =
    let t = c.args.self.now in
    keys_left t.states.items (places_in t.places) t.places.rises c.args.key c.in-Some.place (Gone 0) _ _ (sym c.place_of.ensures ∙ c.in-Some.is) t.within t.apart c.remove.ensures.places refl

pub returns-in_default-clause-keys : goal.returns-in_default-clause-keys
returns-in_default-clause-keys c =
    let t = c.args.self.now in
    forgets_none t.states.items (places_in t.places) t.places.rises c.args.key (sym c.place_of.ensures ∙ c.in_default.is)
