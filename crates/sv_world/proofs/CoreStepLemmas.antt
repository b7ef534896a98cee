-- A core over its records, before a task and after it.
use Rattle.sv_world.proofs.Prelude.{◌≡◌, ℕ, ◌++◌, Option, Some, None, OnOk, List, [], ◌∷◌, refl, sym, ap, ◌∙◌, subst, append-nil, option_to_list, Setting}
use Rattle.sv_world.proofs.Prelude.{Stage, Blank, Record, Decision, left, EngineMeaning, IsJournaled, Durable, Node, blank, applied, applied_if, replayed}
use Rattle.sv_world.proofs.Prelude.{AllFit, stage_behind, Core, node_at, decision_at, MayFollow}
use Rattle.std.proofs.Common.{Result, Ok, Err, OnErr}
use Rattle.sv_model.specs.Step.{View}
use Rattle.sv_core.specs.declared.decision.Decision as code
use Rattle.sv_core.specs.Core.{setting_of, durable_at, view_of, WasDecided}
use Rattle.sv_world.specs.declared.plan.Plan.{Plan}
use Rattle.sv_world.specs.CoreStep.{IsOver, IsPlan, plan_of}
use Rattle.sv_world.specs.Deed.{traced_of}

pub fits_more : (set : Setting) (stage : Stage) (d : Durable) (rs : List Record) (o : Option Record) → AllFit set stage d rs → MayFollow set (replayed d rs) o → AllFit set stage d (rs ++ option_to_list o)
fits_more set stage d [] None h f = tt
fits_more set stage d [] (Some r) h f = (f stage, tt)
fits_more set stage d (x ∷ rs) o h f = (h.0, fits_more set (stage_behind x stage) (applied x d) rs o h.1 f)

pub replayed_more : (d : Durable) (rs : List Record) (o : Option Record) → replayed d (rs ++ option_to_list o) ≡ applied_if o (replayed d rs)
replayed_more d [] None = refl
replayed_more d [] (Some r) = refl
replayed_more d (x ∷ rs) o = replayed_more (applied x d) rs o

module _ {E : Type 0} (old new : Core E) (before now : List Record) where
  -- one record more, or none
  pub over_more : (o : Option Record) → IsOver before old → setting_of new ≡ setting_of old → durable_at new ≡ applied_if o (durable_at old) → now ≡ before ++ option_to_list o → MayFollow (setting_of old) (durable_at old) o → IsOver now new
  over_more o over set gives more fit = record {
    fit = subst (λ s. AllFit s Blank blank now) (sym set) (subst (AllFit (setting_of old) Blank blank) (sym more)
        (fits_more (setting_of old) Blank blank before o over.fit (subst (λ d. MayFollow (setting_of old) d o) over.durable fit)));
    durable = gives ∙ ap (applied_if o) over.durable ∙ sym (replayed_more blank before o) ∙ ap (replayed blank) (sym more);
  }

  pub over_same : IsOver before old → setting_of new ≡ setting_of old → node_at new ≡ node_at old → now ≡ before → IsOver now new
  over_same over set same still =
      over_more None over set (ap (λ (n : Node). n.durable) same) (still ∙ sym (append-nil before)) (λ stage. tt)

module _ {E : Type 0} (meaning : E → EngineMeaning) (heard : E → List (List ℕ)) where
  pub planned : (old new : Core E) (d : code.Decision) (row : Decision) (p : Plan) → p ≡ plan_of d → view_of meaning heard new ≡ view_of meaning heard old → setting_of new ≡ setting_of old → WasDecided meaning new d → decision_at new d ≡ row → IsJournaled (setting_of old) (node_at old) (decision_at new d) → IsPlan meaning new row p
  planned old new d row p is view set was gives j =
      subst (IsPlan meaning new row) (sym is) (record {
        decided = was;
        decision = gives;
        journaled = subst (λ s. IsJournaled s (node_at new) row) (sym set) (subst (λ n. IsJournaled (setting_of old) n row) (sym (ap (λ (v : View). v.node) view)) (subst (IsJournaled (setting_of old) (node_at old)) gives j));
        entry = ap (λ (x : Decision). x.entry) gives;
        traced = ap traced_of gives;
      })

  -- after what was planned, or want of memory
  pub over_plan : {A B : Type 0} (r : Result A B) (first old new : Core E) (before now : List Record) (row : Decision) (p : Plan) → IsOver before first → view_of meaning heard old ≡ view_of meaning heard first → setting_of old ≡ setting_of first → IsPlan meaning old row p → setting_of new ≡ setting_of old → OnOk r (node_at new ≡ left (decision_at old p.decision)) → OnOk r (now ≡ before ++ option_to_list p.entry) → OnErr r (new ≡ old) → OnErr r (now ≡ before) → IsOver now new
  over_plan (Ok x) first old new before now row p over view set is set_is node more _ _ =
      over_more old new before now row.entry (over_same first old before before over set (ap (λ (v : View). v.node) view) refl) set_is
      (ap (λ (n : Node). n.durable) (node ∙ ap left is.decision) ∙ is.journaled.gives) (more ∙ ap (λ o. before ++ option_to_list o) is.entry) is.journaled.fits
  over_plan (Err e) first old new before now row p over view set is set_is _ _ still unkept =
      over_same first new before now over (set_is ∙ set) (ap node_at still ∙ ap (λ (v : View). v.node) view) unkept
