use Rattle.sv_config.proofs.Prelude.{◌≡◌, ◌∙◌, ◌+◌, ◌<◌, ap, map, drop, get_or, length, arith, List, ℕ, Bor, String, BTreeMap, Global, codes, fold, table_view}
use Rattle.sv_config.proofs.Prelude.{Value, texts_at, mapped_from, with_pattern}
use Rattle.std.proofs.Common.{sym}
use Rattle.sv_config.proofs.MappingLemmas.{mapped_next}
use Rattle.sv_config.proofs.mappings.mappings_of.Goals as goal

pub loop-place-preserved : goal.loop-place-preserved
loop-place-preserved c =
    let servlets = c.args.servlets.now in
    let place = c.loop-place.place in
    let servlet = c.index-servlets-place.result in
    let old = c.loop-place.mappings in
    let shown : Bor (List ℕ) → List ℕ = λ pattern. pattern.now in
    let within : place < length servlets = omega arith in
    let added : c.add_patterns.new.mappings ≡ fold (with_pattern place) old (texts_at (codes "patterns") (table_view servlet.now))
    = c.in_ok-add_patterns.ensures ∙ ap (fold (with_pattern place) old) (ap (map shown) c.deref.ensures.value ∙ c.in_ok-patterns.ensures) in
    let here : fold (with_pattern place) old (texts_at (codes "patterns") (table_view (get_or servlets place servlet).now)) ≡ c.add_patterns.new.mappings
    = ap (λ (s : Bor (BTreeMap (String Global) Value)). fold (with_pattern place) old (texts_at (codes "patterns") (table_view s.now))) (sym c.index-servlets-place.is) ∙ sym added in
    c.loop-place.invariant ∙ mapped_next servlets place servlet old within
    ∙ ap (mapped_from (place + 1) (map (λ t. table_view t.now) (drop (place + 1) servlets))) here
