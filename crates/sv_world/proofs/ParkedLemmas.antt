-- The requests that wait at a node stand in the order of their wants, and each waits for a key that a node of which it was told can
-- answer for.
use Rattle.sv_world.proofs.Prelude.{◌≡◌, ℕ, ◌<◌, ◌≤◌, ◌==◌, true, false, Option, Some, None, List, [], ◌∷◌, arith, refl, sym, ap, ◌∙◌, subst, inl, inr, ⊎_elim}
use Rattle.sv_world.proofs.Prelude.{eq-eqb, nat_le, IfSome, cond_both, leb-false, eqb-true, and_parts, true≢false, Key, Setting, Parked, Past, Record, Meanings}
use Rattle.sv_world.proofs.Prelude.{AllTouchOnlyHanded, Durable, is_unmade, left, In, is_wanted, applied_if, Fits, without, WorldEvent, Call, Cluster, Member}
use Rattle.sv_world.proofs.Prelude.{World, set_member, nothing_happened, durable_at, stopped, decision, happens, run, IsStep, AreSteps, setting_at}
use Rattle.std.proofs.Common.{◌⊎◌, ◌+◌, ◌&&◌}
use Rattle.sv_world.proofs.EpochLemmas.{ground, journal_at, queues_at}
use Rattle.sv_world.proofs.Events.{IsReady, behind}
use Rattle.sv_world.proofs.MovesLemmas.{Ground, next_up}
use Rattle.sv_world.proofs.ProgressLemmas.{stepping, boot_kept}
use Rattle.sv_world.proofs.QueueLemmas.{AreWants, IsAsked}
use Rattle.sv_world.proofs.Runs.{Inv, happens_keeps, at_first}
use Rattle.sv_world.proofs.Waiting.{by_node}

-- what holds of a request that waits at a node: its node was told of the home of its key, and has given the key where that is its own
pub record CanAsk (c : Cluster) (n : ℕ) (p : Member) (q : Parked) : Type 0 where
  pub home : q.key.home < c.nodes n p.node.durable.boot
  pub made : q.key.home ≡ n → q.key.serial < p.node.durable.next

pub record IsQueue (c : Cluster) (n : ℕ) (p : Member) : Type 0 where
  pub rising : AreWants 0 p.node.parked p.node.next_want
  pub asks : (q : Parked) → In q p.node.parked → CanAsk c n p q

-- a record, so that its arguments are found
pub record AreQueued (c : Cluster) (w : World) : Type 0 where
  pub at : (n : ℕ) → IsQueue c n (w.members n)

empty_queue : (c : Cluster) (n : ℕ) (p : Member) → p.node.parked ≡ [] → IsQueue c n p
empty_queue c n p none = record {
  rising = subst (λ ps. AreWants 0 ps p.node.next_want) (sym none) (omega arith);
  asks = λ q i. absurd (subst (In q) none i);
}

made_below : (set : Setting) (d : Durable) (k : Key) → is_unmade set d k ≡ false → k.home ≡ set.node → k.serial < d.next
made_below set d k made own = leb-false d.next k.serial (sym (ap (λ b. b && nat_le d.next k.serial) (eq-eqb k.home set.node own)) ∙ made)

next_by : (set : Setting) (d : Durable) → Ground set.node d → (o : Option Record) → IfSome o (λ r. Fits set Past d r) → d.next ≤ (applied_if o d).next
next_by set d j None f = omega arith
next_by set d j (Some r) f = next_up set d j r f

module _ (m : Meanings) (touches : AllTouchOnlyHanded m) (c : Cluster) where
  next_rises : (w : World) (call : Call) → Inv m c w → (durable_at w call.node).next ≤ (decision m c w call).durable.next
  next_rises w call inv =
      let j = journal_at m touches c w call in
      let up = next_by (setting_at c w call.node) (durable_at w call.node) (ground m touches c w inv call.node) (decision m c w call).entry (j.fits Past) in
      omega (arith, up, ap (λ (d : Durable). d.next) j.gives)

  step_queue : (w : World) (call : Call) → Inv m c w → IsReady c w call → IsQueue c call.node (w.members call.node) → IsQueue c call.node (record { up = true; node = left (decision m c w call) })
  step_queue w call inv r j =
      let n = call.node in
      let d = decision m c w call in
      let q = queues_at m touches c w call r in
      let boot : (durable_at w n).boot ≡ d.durable.boot = sym (boot_kept m c w call) in
      let next = next_rises w call inv in
      record {
        rising = q.rising j.rising;
        asks = λ p i. ⊎_elim
            (λ (old : In p (w.members n).node.parked). let h = j.asks p old in record { home = subst (λ b. p.key.home < c.nodes n b) boot h.home; made = λ own. omega (arith, h.made own, next) })
            (λ (new : (p.want ≡ (w.members n).node.next_want) × IsAsked (setting_at c w n) (durable_at w n) p).
            record { home = subst (λ b. p.key.home < c.nodes n b) boot new.1.home; made = λ own. omega (arith, made_below (setting_at c w n) (durable_at w n) p.key new.1.made own, next) })
            (q.origins p i);
      }

  happens_queued : (w : World) (e : WorldEvent) → Inv m c w → AreQueued c w → AreQueued c (happens m c w e)
  happens_queued w e inv j =
      let steps : (call : Call) → IsReady c w call → (n : ℕ) → IsQueue c n (set_member w.members call.node (record { up = true; node = left (decision m c w call) }) n) = λ call r n.
      by_node (IsQueue c) w.members call.node (record { up = true; node = left (decision m c w call) }) n
      (λ same. subst (λ y. IsQueue c y (record { up = true; node = left (decision m c w call) })) (sym same) (step_queue w call inv r (j.at call.node))) (λ _. j.at n) in
      let empties : (x : ℕ) (p : Member) → p.node.parked ≡ [] → (n : ℕ) → IsQueue c n (set_member w.members x p n) = λ x p none n.
      by_node (IsQueue c) w.members x p n (λ _. empty_queue c n p none) (λ _. j.at n) in
      behind m c w (AreQueued c) e (record {
        still = j;
        whole_by = λ call is r. record { at = steps call r };
        torn_by = λ call is r. record { at = empties call.node (stopped (decision m c w call).durable) refl };
        silent_by = λ call is r. record { at = steps call r };
        halt_by = λ n asked _. record { at = empties n (stopped (durable_at w n)) refl };
        boots_by = λ n p may none same. record { at = empties n p none };
      })

  -- both invariants
  pub record Both (w : World) : Type 0 where
    pub inv : Inv m c w
    pub queued : AreQueued c w

  pub happens_both : (w : World) (e : WorldEvent) → Both w → Both (happens m c w e)
  happens_both w e b = record { inv = happens_keeps m touches c w e b.inv; queued = happens_queued w e b.inv b.queued }

  pub run_both : (w : World) (es : List WorldEvent) → Both w → Both (run m c w es)
  run_both w [] b = b
  run_both w (e ∷ es) b = run_both (happens m c w e) es (happens_both w e b)

  pub first_both : Both nothing_happened
  first_both = record { inv = at_first m c; queued = record { at = λ n. empty_queue c n (stopped (durable_at nothing_happened n)) refl } }

  -- ---- who waits on

  -- the request waits in each of these worlds
  abbrev pub WaitsOn : ℕ → Parked → World → List WorldEvent → Type 0
  WaitsOn n p w [] = In p (w.members n).node.parked
  WaitsOn n p w (e ∷ es) = In p (w.members n).node.parked × WaitsOn n p (happens m c w e) es

  -- who waits after a step waited before it, or has the next want
  waited : (w : World) (e : WorldEvent) → IsStep e → (n : ℕ) (p : Parked) → In p ((happens m c w e).members n).node.parked → In p (w.members n).node.parked ⊎ (p.want ≡ (w.members n).node.next_want)
  waited w e s n p = stepping m c (λ v. In p (v.members n).node.parked → In p (w.members n).node.parked ⊎ (p.want ≡ (w.members n).node.next_want)) w e s (λ i. inl i) (λ call is r.
      let x = call.node in
      let d = decision m c w call in
      let q = queues_at m touches c w call r in
      by_node (λ y z. In p z.node.parked → In p (w.members y).node.parked ⊎ (p.want ≡ (w.members y).node.next_want)) w.members x (record { up = true; node = left d }) n
      (λ same i. subst (λ y. In p (w.members y).node.parked ⊎ (p.want ≡ (w.members y).node.next_want)) (sym same) (⊎_elim
      (λ (old : In p (w.members x).node.parked). inl old)
      (λ (new : (p.want ≡ (w.members x).node.next_want) × IsAsked (setting_at c w x) (durable_at w x) p). inr new.0)
      (q.origins p i)))
      (λ _ i. inl i))

  wants_rise : (w : World) (e : WorldEvent) → IsStep e → (n : ℕ) → (w.members n).node.next_want ≤ ((happens m c w e).members n).node.next_want
  wants_rise w e s n = stepping m c (λ v. (w.members n).node.next_want ≤ (v.members n).node.next_want) w e s (omega arith) (λ call is r.
      let d = decision m c w call in
      let q = queues_at m touches c w call r in
      by_node (λ y z. (w.members y).node.next_want ≤ z.node.next_want) w.members call.node (record { up = true; node = left d }) n
      (λ same. omega (arith, q.up, ap (λ y. (w.members y).node.next_want) same)) (λ _. omega arith))

  pub waits_first : (n : ℕ) (p : Parked) (es : List WorldEvent) (w : World) → WaitsOn n p w es → In p (w.members n).node.parked
  waits_first n p [] w h = h
  waits_first n p (e ∷ es) w h = h.0

  pub wants_along : (n : ℕ) (es : List WorldEvent) (w : World) → AreSteps es → (w.members n).node.next_want ≤ ((run m c w es).members n).node.next_want
  wants_along n [] w s = omega arith
  wants_along n (e ∷ es) w s = omega (arith, wants_rise w e s.0 n, wants_along n es (happens m c w e) s.1)

  -- so who waited once and waits at the end waited all the time
  pub waits_on : (n : ℕ) (p : Parked) (es : List WorldEvent) (w : World) → AreSteps es → p.want < (w.members n).node.next_want → In p ((run m c w es).members n).node.parked → WaitsOn n p w es
  waits_on n p [] w s below i = i
  waits_on n p (e ∷ es) w s below i =
      let v = happens m c w e in
      let on = waits_on n p es v s.1 (omega (arith, below, wants_rise w e s.0 n)) i in
      let first : In p (v.members n).node.parked = waits_first n p es v on in
      (⊎_elim (λ (a : In p (w.members n).node.parked). a) (λ (b : p.want ≡ (w.members n).node.next_want). absurd (omega (arith, b, below))) (waited w e s.0 n p first), on)

  pub waits_last : (n : ℕ) (p : Parked) (es : List WorldEvent) (w : World) → WaitsOn n p w es → In p ((run m c w es).members n).node.parked
  waits_last n p [] w h = h
  waits_last n p (e ∷ es) w h = waits_last n p es (happens m c w e) h.1

-- ---- wants that rise are distinct

want_within : (low : ℕ) (ps : List Parked) (next : ℕ) (p : Parked) → AreWants low ps next → In p ps → (low ≤ p.want) × (p.want < next)
want_within low [] next p h i = absurd i
want_within low (q ∷ ps) next p h i = ⊎_elim
    (λ (same : q ≡ p). let e : q.want ≡ p.want = ap (λ (x : Parked). x.want) same in (omega (arith, e, h.0), omega (arith, e, ends (q.want + 1) ps next h.1)))
    (λ (t : In p ps). let r = want_within (q.want + 1) ps next p h.1 t in (omega (arith, h.0, r.0), r.1))
    i
  where
    ends : (low : ℕ) (ps : List Parked) (next : ℕ) → AreWants low ps next → low ≤ next
    ends low [] next h = h
    ends low (q ∷ ps) next h = omega (arith, h.0, ends (q.want + 1) ps next h.1)

pub want_below : (ps : List Parked) (next : ℕ) (p : Parked) → AreWants 0 ps next → In p ps → p.want < next
want_below ps next p h i = (want_within 0 ps next p h i).1

-- so a No leaves nobody who waits with its want
pub none_wanted : (k : Key) (low : ℕ) (ps : List Parked) (next : ℕ) (p : Parked) → AreWants low ps next → is_wanted k p.want p ≡ true → In p (without (is_wanted k p.want) ps) → ⊥
none_wanted k low [] next p h passes i = i
none_wanted k low (q ∷ ps) next p h passes i = cond_both (is_wanted k p.want q) ps (q ∷ without (is_wanted k p.want) ps) (λ xs. In p xs → ⊥)
    (λ t j. let e : q.want ≡ p.want = eqb-true q.want p.want (and_parts (q.want == p.want) _ t).0 in let r = want_within (q.want + 1) ps next p h.1 j in absurd (omega (arith, e, r.0)))
    (λ f j. ⊎_elim
    (λ (same : q ≡ p). absurd (true≢false (sym (ap (is_wanted k p.want) same ∙ passes) ∙ f)))
    (λ (t : In p (without (is_wanted k p.want) ps)). none_wanted k (q.want + 1) ps next p h.1 passes t) j)
    i

-- so of one want there is one
pub one_of_want : (low : ℕ) (ps : List Parked) (next : ℕ) (p q : Parked) → AreWants low ps next → In p ps → In q ps → p.want ≡ q.want → p ≡ q
one_of_want low [] next p q h i j same = absurd i
one_of_want low (x ∷ ps) next p q h i j same = ⊎_elim
    (λ (a : x ≡ p). ⊎_elim
    (λ (b : x ≡ q). sym a ∙ b)
    (λ (b : In q ps). let r = want_within (x.want + 1) ps next q h.1 b in absurd (omega (arith, same, r.0, ap (λ (y : Parked). y.want) a)))
    j)
    (λ (a : In p ps). ⊎_elim
    (λ (b : x ≡ q). let r = want_within (x.want + 1) ps next p h.1 a in absurd (omega (arith, same, r.0, ap (λ (y : Parked). y.want) b)))
    (λ (b : In q ps). one_of_want (x.want + 1) ps next p q h.1 a b same)
    j)
    i
