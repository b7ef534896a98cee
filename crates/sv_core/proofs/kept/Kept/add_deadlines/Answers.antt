use Rattle.sv_core.proofs.Prelude.{◌≡◌, ℕ, ◌+◌, ◌<◌, true, false, cond, List, [], ◌∷◌, ◌++◌, map, length, get_or, take, arith, sym, ap, ◌∙◌, filter}
use Rattle.sv_core.proofs.Prelude.{append_assoc, append-nil, map-append, take_more, take_all, filter-append, Setting, Parked, Output, is_late, deadlines}
use Rattle.sv_model.specs.declared.output.Output.TheVariants.{Refuse}
use Rattle.sv_model.specs.declared.output.Cause.TheVariants.{Deadline}
use Rattle.sv_core.proofs.kept.Kept.add_deadlines.Goals.{then-is_late+in_ok-push, else-is_late}
use Rattle.sv_core.proofs.kept.Kept.add_deadlines.Goals as goal

-- those of one list after those of another
both : (set : Setting) (now : ℕ) (a b : List Parked) → deadlines set now (a ++ b) ≡ deadlines set now a ++ deadlines set now b
both set now a b = ap (map (λ p. Refuse p.token Deadline)) (filter-append (is_late set now) a b) ∙ map-append (λ p. Refuse p.token Deadline) (filter (is_late set now) a) (filter (is_late set now) b)

-- one request more, which has waited long enough
late : (set : Setting) (now : ℕ) (ps qs : List Parked) (i : ℕ) (p : Parked) (before outs new : List Output) → qs ≡ ps → i < length qs → p ≡ get_or qs i p → is_late set now p ≡ true
    → outs ≡ before ++ deadlines set now (take i ps) → new ≡ outs ++ Refuse p.token Deadline ∷ [] → new ≡ before ++ deadlines set now (take (i + 1) ps)
late set now ps qs i p before outs new same is read passes so more =
    more ∙ ap (λ l. l ++ Refuse p.token Deadline ∷ []) so ∙ append_assoc before (deadlines set now (take i ps)) (Refuse p.token Deadline ∷ [])
    ∙ ap (λ l. before ++ l) (ap (λ b. deadlines set now (take i ps) ++ map (λ q. Refuse q.token Deadline) (cond b (p ∷ []) [])) (sym passes)
    ∙ sym (both set now (take i ps) (p ∷ []))
    ∙ ap (λ l. deadlines set now l) (sym (ap (λ l. take (i + 1) l) (sym same) ∙ take_more qs i p is ∙ (λ j. take i (same j) ++ sym read j ∷ []))))

-- one request more, which has not
early : (set : Setting) (now : ℕ) (ps qs : List Parked) (i : ℕ) (p : Parked) (before outs new : List Output) → qs ≡ ps → i < length qs → p ≡ get_or qs i p → is_late set now p ≡ false
    → outs ≡ before ++ deadlines set now (take i ps) → new ≡ outs → new ≡ before ++ deadlines set now (take (i + 1) ps)
early set now ps qs i p before outs new same is read fails so stays =
    stays ∙ so
    ∙ ap (λ l. before ++ l) (sym (append-nil (deadlines set now (take i ps))) ∙ ap (λ b. deadlines set now (take i ps) ++ map (λ q. Refuse q.token Deadline) (cond b (p ∷ []) [])) (sym fails)
    ∙ sym (both set now (take i ps) (p ∷ []))
    ∙ ap (λ l. deadlines set now l) (sym (ap (λ l. take (i + 1) l) (sym same) ∙ take_more qs i p is ∙ (λ j. take i (same j) ++ sym read j ∷ []))))

pub loop-parked-preserved : goal.loop-parked-preserved
loop-parked-preserved c =
    let set = c.args.self.now.setting in
    let ps = c.args.self.now.parked.items in
    let i = c.loop-parked.parked-index in
    let before = c.args.outputs.now.items in
    elim c.if-is_late.branch [
      | then-is_late+in_ok-push w ↦ late set c.args.steady ps c.deref-parked-items.result.now i c.parked-item.result before c.loop-parked.outputs.items _ c.deref-parked-items.ensures.value c.loop-parked-test.true c.parked-item.is
          (sym c.is_late.ensures ∙ w.if-is_late.true) c.loop-parked.invariant (ap (λ v. v.items) w.outputs-is ∙ w.in_ok-push.ensures.items)
      | else-is_late w ↦ early set c.args.steady ps c.deref-parked-items.result.now i c.parked-item.result before c.loop-parked.outputs.items _ c.deref-parked-items.ensures.value c.loop-parked-test.true c.parked-item.is
          (sym c.is_late.ensures ∙ w.if-is_late.false) c.loop-parked.invariant (ap (λ v. v.items) w.outputs-is)
    ]

pub returns : goal.returns
returns c =
    let ps = c.args.self.now.parked.items in
    c.loop-parked.invariant ∙ ap (λ l. c.args.outputs.now.items ++ deadlines c.args.self.now.setting c.args.steady l) (take_all c.loop-parked.parked-index ps (omega (arith, ap length c.deref-parked-items.ensures.value)))
