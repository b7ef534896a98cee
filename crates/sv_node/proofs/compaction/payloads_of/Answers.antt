use Rattle.std.proofs.Common.{◌≡◌, ◌≤◌, ◌+◌, ℕ, List, [], ◌∷◌, ◌++◌, map, length, take, Vec, Global, sym, ap, ◌∙◌, subst}
use Rattle.std.proofs.lemmas.List.{map-append, take_more}
use Rattle.std.proofs.lemmas.List.Elements.{All-push}
use Rattle.std.specs.List.{All}
use Rattle.sv_node.proofs.Prelude.{payloads, Record, spelling, Spell}
use Rattle.sv_node.proofs.RecordLemmas.{map_more, spell_more, written}
use Rattle.sv_node.proofs.compaction.payloads_of.Goals as goal

abbrev IsSmall : Vec ℕ Global → Type 0
IsSmall payload = length payload.items ≤ 524288

pub loop-entry-preserved : goal.loop-entry-preserved
loop-entry-preserved c =
    let rs = c.args.records.now in
    let i = c.loop-entry.entry-index in
    let r = c.entry-item.result in
    let p = c.in_ok-payload_of.field-0 in
    let before = payloads c.loop-entry.found.items in
    let more : take (i + 1) rs ≡ take i rs ++ r ∷ [] = take_more rs i r c.loop-entry-test.true ∙ ap (λ (x : Record). take i rs ++ x ∷ []) (sym c.entry-item.is) in
    let items : payloads c.push.new.self.items ≡ before ++ p.items ∷ [] = ap payloads c.in_ok-push.ensures.items ∙ map-append (λ v. v.items) c.loop-entry.found.items (p ∷ []) in
    let one = spell_more before (take i rs) p.items r c.loop-entry.invariant.spelled (written p.items r c.in_ok-payload_of.ensures.fits c.in_ok-payload_of.ensures.bytes) in
    record {
      bytes = items ∙ (λ j. c.loop-entry.invariant.bytes j ++ c.in_ok-payload_of.ensures.bytes j ∷ []) ∙ sym (map_more (take i rs) r) ∙ ap (map spelling) (sym more);
      spelled = subst (λ (ps : List (List ℕ)). Spell ps (take (i + 1) rs)) (sym items) (subst (λ (xs : List Record). Spell (before ++ p.items ∷ []) xs) (sym more) one);
      size = subst (λ (vs : List (Vec ℕ Global)). All IsSmall vs) (sym c.in_ok-push.ensures.items) (All-push IsSmall c.loop-entry.found.items p c.loop-entry.invariant.size c.in_ok-payload_of.ensures.size);
    }
