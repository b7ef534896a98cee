-- A node that runs was told of every node that has made a session, where all starts are told of as many nodes.
use Rattle.sv_world.proofs.Prelude.{◌≡◌, ℕ, ◌<◌, ◌≤◌, true, List, [], ◌∷◌, arith, refl, ap, ◌∙◌, inl, inr, ⊎_elim, cond_both, cases_lt, Setting, Boot, Forgets}
use Rattle.sv_world.proofs.Prelude.{Durable, boot_record, applied, left, Meanings, AllTouchOnlyHanded, WorldEvent, Cluster, Member, World, durable_at}
use Rattle.sv_world.proofs.Prelude.{set_member, stopped, setting_of, decision, happens, nothing_happened, KnowsAll, AlwaysKnows, session_of, IsUnmade}
use Rattle.std.proofs.Common.{◌+◌}
use Rattle.sv_world.proofs.OneKey.{is_unborn}
use Rattle.sv_world.proofs.Runs.{Inv, disks_of, happens_keeps, at_first}
use Rattle.sv_world.proofs.Events.{behind}
use Rattle.sv_world.proofs.Waiting.{by_node}

start_next : (set : Setting) (d : Durable) → (applied (boot_record set d) d).next ≡ d.next
start_next set d = cond_both set.forget (Forgets set.node (d.boot + 1)) (Boot (d.boot + 1)) (λ r. (applied r d).next ≡ d.next) (λ _. refl) (λ _. refl)

module _ (m : Meanings) (c : Cluster) (number : ℕ) (all : (n boot : ℕ) → c.nodes n boot ≡ number) where
  -- nodes beyond that number have made no session
  record Far (w : World) : Type 0 where
    far : (h : ℕ) → number ≤ h → (durable_at w h).next ≡ 1

  inside_far : (members : ℕ → Member) (n : ℕ) (p : Member) → n < number → ((h : ℕ) → number ≤ h → (members h).node.durable.next ≡ 1)
      → (h : ℕ) → number ≤ h → (set_member members n p h).node.durable.next ≡ 1
  inside_far members n p less far h most = by_node (λ y x. number ≤ y → x.node.durable.next ≡ 1) members n p h (λ e le. absurd (omega (arith, e, le, less))) (λ ne le. far h le) most

  alike_far : (members : ℕ → Member) (n : ℕ) (p : Member) → p.node.durable.next ≡ (members n).node.durable.next → ((h : ℕ) → number ≤ h → (members h).node.durable.next ≡ 1)
      → (h : ℕ) → number ≤ h → (set_member members n p h).node.durable.next ≡ 1
  alike_far members n p same far h most = by_node (λ y x. number ≤ y → x.node.durable.next ≡ 1) members n p h (λ e le. same ∙ far n (omega (arith, e, le))) (λ ne le. far h le) most

  happens_far : (w : World) (e : WorldEvent) → Far w → Far (happens m c w e)
  happens_far w e j = behind m c w Far e (record {
    still = j;
    whole_by = λ call is r. record { far = inside_far w.members call.node (record { up = true; node = left (decision m c w call) }) (omega (arith, r.inside, all call.node (durable_at w call.node).boot)) j.far };
    torn_by = λ call is r. record { far = inside_far w.members call.node (stopped (decision m c w call).durable) (omega (arith, r.inside, all call.node (durable_at w call.node).boot)) j.far };
    silent_by = λ call is r. record { far = inside_far w.members call.node (record { up = true; node = left (decision m c w call) }) (omega (arith, r.inside, all call.node (durable_at w call.node).boot)) j.far };
    halt_by = λ n asked _. record { far = alike_far w.members n (stopped (durable_at w n)) refl j.far };
    boots_by = λ n p may none same. record { far = alike_far w.members n p (ap (λ (d : Durable). d.next) same ∙ start_next (setting_of c n ((durable_at w n).boot + 1)) (durable_at w n)) j.far };
  })

  far_knows : (w : World) → Inv m c w → Far w → KnowsAll m c w
  far_knows w inv j x k up le =
      let l = inv.sane.lives k in
      let never : IsUnmade (disks_of w.members) k = ⊎_elim (λ (l : 0 < k.serial). inl (omega (arith, l, j.far k.home (omega (arith, le, all x (durable_at w x).boot))))) (λ (z : k.serial ≤ 0). inr (omega (arith, z))) (cases_lt 0 k.serial) in
      l.map ∙ ap session_of (is_unborn l.phase _ l.stands (λ x. inv.sane.unmade x k never))

  module _ (touches : AllTouchOnlyHanded m) where
    knows_on : (w : World) (es : List WorldEvent) → Inv m c w → Far w → AlwaysKnows m c w es
    knows_on w [] inv j = tt
    knows_on w (e ∷ es) inv j = (far_knows w inv j, knows_on (happens m c w e) es (happens_keeps m touches c w e inv) (happens_far w e j))

    pub as_many : (es : List WorldEvent) → AlwaysKnows m c nothing_happened es
    as_many es = knows_on nothing_happened es (at_first m c) (record { far = λ h _. refl })
