-- What is durable at a node is its records, one after the other.
use Rattle.sv_world.proofs.Prelude.{◌≡◌, ◌≢◌, ℕ, ◌==◌, true, cond, Option, Some, None, List, [], ◌∷◌, ◌++◌, refl, sym, ap, ◌∙◌, subst, ⊎_elim, eq-eqb}
use Rattle.sv_world.proofs.Prelude.{append-nil, option_to_list, cases_eq, ne_eqb, cond_both, cond-true, cond-false, flat_map-append, Packet, Record, Boot}
use Rattle.sv_world.proofs.Prelude.{Forgets, Meanings, AllTouchOnlyHanded, Durable, IfSome, Setting, Stage, Blank, blank, boot_record, applied, applied_if}
use Rattle.sv_world.proofs.Prelude.{replayed, Fits, AllFit, stage_behind, journaled, left, WorldEvent, Line, Call, Rules, setting_by, Cluster, setting_of}
use Rattle.sv_world.proofs.Prelude.{Member, World, set_member, durable_at, stopped, nothing_happened, records_at, decision, happens}
use Rattle.std.proofs.Common.{◌+◌}
use Rattle.sv_world.proofs.Waiting.{by_node}
use Rattle.sv_world.proofs.Events.{behind}
use Rattle.sv_world.proofs.Runs.{Inv, sound_at}

pub record Kept (wide : Rules) (w : World) : Type 0 where
  pub replay : (n : ℕ) → durable_at w n ≡ replayed blank (records_at n w.trace)
  pub fits : (n : ℕ) → AllFit (setting_by wide n 0) Blank blank (records_at n w.trace)

start_fits : (set : Setting) (d : Durable) (stage : Stage) → Fits set stage d (boot_record set d)
start_fits set d stage = cond_both set.forget (Forgets set.node (d.boot + 1)) (Boot (d.boot + 1)) (Fits set stage d) (λ _. (refl, refl)) (λ _. refl)

-- the record that may be there fits
abbrev pub FitsIf : Setting → Durable → Option Record → Type 0
FitsIf set d o = (stage : Stage) → IfSome o (λ r. Fits set stage d r)

fits_more : (set : Setting) (stage : Stage) (d : Durable) (rs : List Record) (o : Option Record) → AllFit set stage d rs → FitsIf set (replayed d rs) o → AllFit set stage d (rs ++ (option_to_list o ++ []))
fits_more set stage d [] None h f = tt
fits_more set stage d [] (Some r) h f = (f stage, tt)
fits_more set stage d (x ∷ rs) o h f = (h.0, fits_more set (stage_behind x stage) (applied x d) rs o h.1 f)

replayed_more : (d : Durable) (rs ss : List Record) → replayed d (rs ++ ss) ≡ replayed (replayed d rs) ss
replayed_more d [] ss = refl
replayed_more d (r ∷ rs) ss = replayed_more (applied r d) rs ss

one_more : (d : Durable) (o : Option Record) → replayed d (option_to_list o ++ []) ≡ applied_if o d
one_more d None = refl
one_more d (Some r) = refl

grows : (wide : Rules) (w : World) (n : ℕ) (p : Member) (l : Line) (packets : List Packet) → l.node ≡ n → p.node.durable ≡ applied_if l.entry (durable_at w n) → FitsIf (setting_by wide n 0) (durable_at w n) l.entry → Kept wide w → Kept wide (record { members = set_member w.members n p; packets = packets; trace = w.trace ++ l ∷ [] })
grows wide w n p l packets at applies fit j = record {
  replay = λ y.
      let split : replayed blank (records_at y (w.trace ++ l ∷ [])) ≡ replayed (durable_at w y) (cond (l.node == y) (option_to_list l.entry) [] ++ []) =
      ap (replayed blank) (flat_map-append (λ (x : Line). cond (x.node == y) (option_to_list x.entry) []) w.trace (l ∷ [])) ∙ replayed_more blank (records_at y w.trace) _ ∙ ap (λ d. replayed d (cond (l.node == y) (option_to_list l.entry) [] ++ [])) (sym (j.replay y)) in
      by_node (λ z q. y ≡ z → q.node.durable ≡ replayed blank (records_at y (w.trace ++ l ∷ []))) w.members n p y
      (λ e _. applies ∙ sym (one_more (durable_at w n) l.entry) ∙ ap (λ d. replayed d (option_to_list l.entry ++ [])) (ap (durable_at w) (sym e)) ∙ ap (λ rs. replayed (durable_at w y) (rs ++ [])) (sym (cond-true (l.node == y) (option_to_list l.entry) [] (eq-eqb l.node y (at ∙ sym e)))) ∙ sym split)
      (λ e _. ap (λ rs. replayed (durable_at w y) (rs ++ [])) (sym (cond-false (l.node == y) (option_to_list l.entry) [] (ne_eqb l.node y (λ h. e (sym h ∙ at))))) ∙ sym split) refl;
  fits = λ y.
      let now : records_at y (w.trace ++ l ∷ []) ≡ records_at y w.trace ++ (cond (l.node == y) (option_to_list l.entry) [] ++ []) = flat_map-append (λ (x : Line). cond (x.node == y) (option_to_list x.entry) []) w.trace (l ∷ []) in
      subst (AllFit (setting_by wide y 0) Blank blank) (sym now) (⊎_elim
      (λ (e : y ≡ n). subst (λ rs. AllFit (setting_by wide y 0) Blank blank (records_at y w.trace ++ (rs ++ []))) (sym (cond-true (l.node == y) (option_to_list l.entry) [] (eq-eqb l.node y (at ∙ sym e))))
      (fits_more (setting_by wide y 0) Blank blank (records_at y w.trace) l.entry (j.fits y) (subst (λ d. FitsIf (setting_by wide y 0) d l.entry) (j.replay y) (subst (λ z. FitsIf (setting_by wide z 0) (durable_at w z) l.entry) (sym e) fit))))
      (λ (e : y ≢ n). subst (λ rs. AllFit (setting_by wide y 0) Blank blank (records_at y w.trace ++ (rs ++ []))) (sym (cond-false (l.node == y) (option_to_list l.entry) [] (ne_eqb l.node y (λ h. e (sym h ∙ at)))))
      (subst (AllFit (setting_by wide y 0) Blank blank) (sym (append-nil (records_at y w.trace))) (j.fits y)))
      (cases_eq y n));
}

-- what fits under the rules of an event fits under those that the journals are seen by
abbrev pub IsWider : Rules → Cluster → Type 0
IsWider wide c = (n boot : ℕ) (stage : Stage) (d : Durable) (r : Record) → Fits (setting_of c n boot) stage d r → Fits (setting_by wide n 0) stage d r

module _ (m : Meanings) (touches : AllTouchOnlyHanded m) (c : Cluster) (wide : Rules) (wider : IsWider wide c) where
  if_wider : (n boot : ℕ) (d : Durable) (o : Option Record) → FitsIf (setting_of c n boot) d o → FitsIf (setting_by wide n 0) d o
  if_wider n boot d None h stage = tt
  if_wider n boot d (Some r) h stage = wider n boot stage d r (h stage)

  fits_at : (w : World) (call : Call) → FitsIf (setting_by wide call.node 0) (durable_at w call.node) (decision m c w call).entry
  fits_at w call = if_wider call.node (durable_at w call.node).boot (durable_at w call.node) (decision m c w call).entry (journaled (setting_of c call.node (durable_at w call.node).boot) (w.members call.node).node (m call.node (durable_at w call.node).boot) (touches call.node (durable_at w call.node).boot) call.moment call.input).fits

  pub happens_kept : (w : World) (e : WorldEvent) → Inv m c w → Kept wide w → Kept wide (happens m c w e)
  happens_kept w e inv j = behind m c w (Kept wide) e (record {
    still = j;
    whole_by = λ call is r. grows wide w call.node (record { up = true; node = left (decision m c w call) }) _ _ refl (sound_at m touches c w call inv r).applies (fits_at w call) j;
    torn_by = λ call is r. grows wide w call.node (stopped (decision m c w call).durable) _ w.packets refl (sound_at m touches c w call inv r).applies (fits_at w call) j;
    silent_by = λ call is r. grows wide w call.node (record { up = true; node = left (decision m c w call) }) _ w.packets refl (sound_at m touches c w call inv r).applies (fits_at w call) j;
    halt_by = λ n asked _. grows wide w n (stopped (durable_at w n)) _ w.packets refl refl (λ stage. tt) j;
    boots_by = λ n p may none same. grows wide w n p _ w.packets refl same (if_wider n ((durable_at w n).boot + 1) (durable_at w n) (Some (boot_record (setting_of c n ((durable_at w n).boot + 1)) (durable_at w n))) (start_fits (setting_of c n ((durable_at w n).boot + 1)) (durable_at w n))) j;
  })

pub first_kept : (wide : Rules) → Kept wide nothing_happened
first_kept wide = record { replay = λ n. refl; fits = λ n. tt }
