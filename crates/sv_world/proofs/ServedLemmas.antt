-- After a round nobody waits any more where a session has come that was on its way, unless it was handed on.
use Rattle.sv_world.proofs.Prelude.{◌≡◌, ℕ, ◌<◌, ◌≤◌, true, List, [], ◌∷◌, arith, sym, ap, ◌∙◌, inl, inr, ⊎_elim, true≢false, cases_lt, Key, Meanings}
use Rattle.sv_world.proofs.Prelude.{AllTouchOnlyHanded, epoch_in, known, is_settled, WorldEvent, states, Cluster, World, durable_at, happens, run, IsStep}
use Rattle.sv_world.proofs.Prelude.{AreSteps, Went, ticked, behind, ServedInARound}
use Rattle.std.proofs.Common.{◌⊎◌}
use Rattle.sv_world.proofs.EpochLemmas.{Gave, Took, step_moves}
use Rattle.sv_world.proofs.MovesLemmas.{Onward, onward_stays, onward_comes}
use Rattle.sv_world.proofs.RoundLemmas.{arrives_in_a_round}
use Rattle.sv_world.proofs.Runs.{Inv, happens_keeps, run_keeps}

-- it is still to come, or at hand
abbrev pub IsDue : World → Key → ℕ → ℕ → Type 0
IsDue w k x e = (epoch_in (states w k x) < e) ⊎ (is_settled (states w k x) ≡ true)

module _ (m : Meanings) (touches : AllTouchOnlyHanded m) (c : Cluster) where
  -- a step leaves it so, unless it gives the session away
  pub due_step : (w : World) (y : WorldEvent) (k : Key) (x e : ℕ) → IsStep y → Inv m c w → IsDue w k x e → IsDue (happens m c w y) k x e ⊎ Gave c k x w (happens m c w y) (states (happens m c w y) k x)
  due_step w y k x e s inv h =
      let v = happens m c w y in
      ⊎_elim
      (λ (on : Onward (states w k x) (states v k x)). inl (⊎_elim
      (λ (low : epoch_in (states w k x) < e). ⊎_elim
      (λ (still : epoch_in (states v k x) < e). inl still)
      (λ (up : e ≤ epoch_in (states v k x)). inr (onward_comes (states w k x) (states v k x) on (omega (arith, low, up))))
      (cases_lt (epoch_in (states v k x)) e))
      (λ (hand : is_settled (states w k x) ≡ true). inr (onward_stays (states w k x) (states v k x) on hand))
      h))
      (λ (more : Gave c k x w v (states v k x) ⊎ Took k x w (states v k x)). ⊎_elim
      (λ (g : Gave c k x w v (states v k x)). inr g)
      (λ (t : Took k x w (states v k x)). inl (inr (ap is_settled t.now)))
      more)
      (step_moves m touches c w y s inv k x)

  pub due_along : (es : List WorldEvent) (w : World) (k : Key) (x e : ℕ) → AreSteps es → Inv m c w → IsDue w k x e → IsDue (run m c w es) k x e ⊎ Went m c k x w es
  due_along [] w k x e s inv h = inl h
  due_along (y ∷ es) w k x e s inv h =
      let v = happens m c w y in
      ⊎_elim
      (λ (a : IsDue v k x e). ⊎_elim (λ (b : IsDue (run m c v es) k x e). inl b) (λ (b : Went m c k x v es). inr (inr b)) (due_along es v k x e s.1 (happens_keeps m touches c w y inv) a))
      (λ (g : Gave c k x w v (states v k x)). inr (inl g.handed))
      (due_step w y k x e s.0 inv h)

  pub served_in_a_round : (w : World) → Inv m c w → ServedInARound m c w
  served_in_a_round w inv nodes n e k s to a inside there way fair room =
      let r = fair.rounds_are.0 in
      let v = ticked m c w a in
      let end = behind m c w a in
      let come : e ≤ epoch_in (states end k to) = arrives_in_a_round m touches c w inv nodes n e k s to a inside there way.0 fair room in
      ⊎_elim
      (λ (x : IsDue v k to e). ⊎_elim
      (λ (y : IsDue end k to e). inl (λ p i same. ⊎_elim
      (λ (z : epoch_in (states end k to) < e). absurd (omega (arith, z, come)))
      (λ (z : is_settled (states end k to) ≡ true). absurd (true≢false (sym (ap (λ q. is_settled (known (durable_at end to) q)) same ∙ z) ∙ r.settled to there p i)))
      y))
      (λ (y : Went m c k to v a.rest). inr (inr y))
      (due_along a.rest v k to e r.steps.1 (run_keeps m touches c w a.ticks inv) x))
      (λ (x : Went m c k to w a.ticks). inr (inl x))
      (due_along a.ticks w k to e r.steps.0 inv (inl way.1))
