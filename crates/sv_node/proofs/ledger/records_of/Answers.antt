use Rattle.std.proofs.Common.{◌∷◌, ◌++◌, [], ◌≡◌, ◌∙◌, ◌+◌, List, ℕ, Vec, Global, take, drop, ap, sym, subst}
use Rattle.std.proofs.lemmas.List.{drop_more, map-append, take_more}
use Rattle.std.specs.List.{AllByRecursion}
use Rattle.std.specs.List.{drop-map}
use Rattle.sv_node.proofs.Prelude.{payloads, Record, IsSpelling, IsRecord, Spell}
use Rattle.sv_node.proofs.RecordLemmas.{nowhere, spell_more, all_more}
use Rattle.sv_node.proofs.ledger.records_of.Goals as goal

pub returns-in-Err-clause-bad : goal.returns-in-Err-clause-bad
returns-in-Err-clause-bad c = λ damaged.
    let all = c.args.all.now in
    let i = c.loop-payload.payload-index in
    let p = c.payload-item.result.items in
    let here = drop_more all i c.payload-item.result c.loop-payload-test.true ∙ ap (λ item. item ∷ drop (i + 1) all) (sym c.payload-item.is) in
    let bad = subst (λ (q : List ℕ). (r : Record) → IsSpelling q r → ⊥) c.deref.ensures.value (c.in-Err.ensures.bad damaged) in
    nowhere i (payloads all) p (payloads (drop (i + 1) all)) (drop-map (λ v. v.items) i all ∙ ap payloads here) bad

pub loop-payload-preserved : goal.loop-payload-preserved
loop-payload-preserved c =
    let all = c.args.all.now in
    let i = c.loop-payload.payload-index in
    let p = c.payload-item.result in
    let r = c.in-Ok.record in
    let records = c.loop-payload.records.items in
    let more : take (i + 1) all ≡ take i all ++ p ∷ [] = take_more all i p c.loop-payload-test.true ∙ ap (λ (x : Vec ℕ Global). take i all ++ x ∷ []) (sym c.payload-item.is) in
    let items : payloads (take (i + 1) all) ≡ payloads (take i all) ++ p.items ∷ [] = ap payloads more ∙ map-append (λ (v : Vec ℕ Global). v.items) (take i all) (p ∷ []) in
    let spells = subst (λ (q : List ℕ). IsSpelling q r) c.deref.ensures.value c.in-Ok.ensures.found in
    let one = spell_more (payloads (take i all)) records p.items r c.loop-payload.invariant.0 spells in (
      subst (λ (rs : List Record). Spell (payloads (take (i + 1) all)) rs) (sym c.in_ok-add_record.ensures.added) (subst (λ (ps : List (List ℕ)). Spell ps (records ++ r ∷ [])) (sym items) one),
      subst (AllByRecursion IsRecord) (sym c.in_ok-add_record.ensures.added) (all_more IsRecord records r c.loop-payload.invariant.1 c.in-Ok.ensures.within),
    )
