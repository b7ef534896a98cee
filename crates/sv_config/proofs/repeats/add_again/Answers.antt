use Rattle.sv_config.proofs.Prelude.{◌≡◌, ◌∙◌, ◌<◌, ◌+◌, ◌++◌, [], ◌∷◌, cond, true, ap, List, length, map, take, drop, get_or, arith, refl, not, contains}
use Rattle.sv_config.proofs.Prelude.{list_any, eq_by_cmp, Spot, spot, repeated_behind}
use Rattle.sv_config.proofs.AgainLemmas.{passed_more, again_more, was_there}
use Rattle.sv_config.proofs.repeats.add_again.Goals as goal

pub loop-key-init : goal.loop-key-init
loop-key-init g c = record {
  passed = λ key. rw c.new-passed.ensures.empty;
  added = refl;
}

pub loop-key-preserved : goal.loop-key-preserved
loop-key-preserved g c =
    let same = eq_by_cmp g.K.Ord.cmp in
    let items = c.args.items.now in
    let i = c.loop-key.key-index in
    let item = c.loop-key-item.result in
    let within : i < length items = omega arith in
    let here : item ≡ get_or items i item = c.loop-key-item.is in
    let old = contains g.K.Ord.cmp c.loop-key.passed in
    let out : List Spot = map spot c.loop-key.places.items in
    let holds = not c.in_ok-is_new.is_new in
    let had : holds ≡ list_any (λ x. same x (get_or items i item).0) (map (λ j. j.0) (take i items))
    = was_there c.in_ok-is_new.is_new (old item.0) c.in_ok-is_new.ensures.added ∙ c.loop-key.invariant.passed item.0
    ∙ ap (λ j. list_any (λ x. same x j.0) (map (λ k. k.0) (take i items))) here in
    record {
      passed = λ key. passed_more same items i item within key (contains g.K.Ord.cmp c.insert.new.self key) (old key)
          (c.in_ok-is_new.ensures.updates.0 key ∙ ap (λ j. cond (same j.0 key) true (old key)) here)
          (c.loop-key.invariant.passed key);
      added =
          ap (λ all. all ++ repeated_behind same (map (λ j. j.0) (take (i + 1) items)) (map (λ j. (j.0, spot j.1)) (drop (i + 1) items)))
          (c.in_ok-add_where.ensures ∙ ap (λ j. out ++ cond holds (spot j.1 ∷ []) []) here)
          ∙ again_more same items i item within out holds had
          ∙ c.loop-key.invariant.added;
    }
