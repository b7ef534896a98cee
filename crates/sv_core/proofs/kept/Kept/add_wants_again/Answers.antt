use Rattle.sv_core.proofs.Prelude.{◌≡◌, ℕ, ◌+◌, ◌<◌, List, [], ◌∷◌, ◌++◌, length, get_or, take, arith, sym, ap, ◌∙◌, append_assoc, take_more, take_all, Setting}
use Rattle.sv_core.proofs.Prelude.{Parked, Output, Durable, node_of, wants_of}
use Rattle.sv_core.proofs.TimeLemmas.{wants_of_more}
use Rattle.sv_core.proofs.kept.Kept.add_wants_again.Goals as goal

-- the wants of one request more
step : (set : Setting) (d : Durable) (now : ℕ) (ps qs : List Parked) (i : ℕ) (p : Parked) (before outs new : List Output) → qs ≡ ps → i < length qs → p ≡ get_or qs i p
    → outs ≡ before ++ wants_of set d now (take i ps) → new ≡ outs ++ wants_of set d now (p ∷ []) → new ≡ before ++ wants_of set d now (take (i + 1) ps)
step set d now ps qs i p before outs new same is read so more =
    more ∙ ap (λ l. l ++ wants_of set d now (p ∷ [])) so ∙ append_assoc before (wants_of set d now (take i ps)) (wants_of set d now (p ∷ []))
    ∙ ap (λ l. before ++ l) (sym (wants_of_more set d now (take i ps) p)
    ∙ ap (λ l. wants_of set d now l) (sym (ap (λ l. take (i + 1) l) (sym same) ∙ take_more qs i p is ∙ (λ j. take i (same j) ++ sym read j ∷ []))))

pub loop-parked-preserved : goal.loop-parked-preserved
loop-parked-preserved c =
    let k = c.args.self.now in
    step k.setting (node_of k).durable c.args.steady k.parked.items c.deref-parked-items.result.now c.loop-parked.parked-index c.parked-item.result c.args.outputs.now.items c.loop-parked.outputs.items _
    c.deref-parked-items.ensures.value c.loop-parked-test.true c.parked-item.is c.loop-parked.invariant c.in_ok-add_wants_of.ensures

pub returns : goal.returns
returns c =
    let k = c.args.self.now in
    c.loop-parked.invariant ∙ ap (λ l. c.args.outputs.now.items ++ wants_of k.setting (node_of k).durable c.args.steady l) (take_all c.loop-parked.parked-index k.parked.items (omega (arith, ap length c.deref-parked-items.ensures.value)))
