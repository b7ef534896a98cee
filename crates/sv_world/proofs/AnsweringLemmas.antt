-- Which node can answer for a session, and what each step makes of that: it can until it hands the session over.
use Rattle.sv_world.proofs.Prelude.{◌≡◌, ◌≢◌, ℕ, ◌<◌, ◌≤◌, ◌==◌, Bool, true, false, Option, Some, None, arith, refl, sym, ap, ◌∙◌, subst, inl, inr, ⊎_elim}
use Rattle.sv_world.proofs.Prelude.{eq-eqb, nat_lt, nat_le, get, cases_eq, cases_lt, and_from, lt-ltb, le-leb, true≢false, Key, Session, KeyState, Active, Sent}
use Rattle.sv_world.proofs.Prelude.{Gone, Ended, Grant, Meanings, AllTouchOnlyHanded, last_number, epoch_in, is_own, was_given, known_by, is_settled, is_unmade}
use Rattle.sv_world.proofs.Prelude.{In, WorldEvent, states, Phase, Unborn, Here, Away, Over, Stands, IsBelow, IsBehind, Cluster, World, durable_at, happens}
use Rattle.sv_world.proofs.Prelude.{IsStep, setting_at, AllRun, IsOff, IsOnItsWay}
use Rattle.std.proofs.Common.{◌⊎◌, ◌+◌, ◌&&◌}
use Rattle.sv_world.proofs.EpochLemmas.{Gave, Took, step_moves}
use Rattle.sv_world.proofs.MovesLemmas.{IsHeld, Onward}
use Rattle.sv_world.proofs.OneKey.{behind_epoch, is_here, is_away}
use Rattle.sv_world.proofs.RoundLemmas.{IsDone, off_step}
use Rattle.sv_world.proofs.Runs.{Inv, happens_keeps}
use Rattle.sv_world.proofs.RunningLemmas.{one_moves}
use Rattle.sv_world.proofs.ServedLemmas.{IsDue, due_step}

-- ---- one key

settled_below : (at : ℕ → Option KeyState) (e : ℕ) (o : Option KeyState) → is_settled o ≡ true → IsBelow at e o → ⊥
settled_below at e None s h = true≢false (sym s)
settled_below at e (Some (Active f u)) s h = h
settled_below at e (Some (Sent f u to)) s h = true≢false (sym s)
settled_below at e (Some (Gone f)) s h = true≢false (sym s)
settled_below at e (Some (Ended f)) s h = h

settled_behind : (at : ℕ → Option KeyState) (e n : ℕ) (o : Option KeyState) → is_settled o ≡ true → IsBehind at e n o → ⊥
settled_behind at e n None s h = true≢false (sym s)
settled_behind at e n (Some (Active f u)) s h = h
settled_behind at e n (Some (Sent f u to)) s h = true≢false (sym s)
settled_behind at e n (Some (Gone f)) s h = true≢false (sym s)
settled_behind at e n (Some (Ended f)) s h = h

-- a session is at hand, or has ended, at one node
settled_at : (p : Phase) (at : ℕ → Option KeyState) (x y : ℕ) → Stands p at → is_settled (at x) ≡ true → is_settled (at y) ≡ true → x ≡ y
settled_at Unborn at x y h a b = absurd (true≢false (sym a ∙ ap is_settled (h x)))
settled_at (Here n e s) at x y h a b =
    let one : (z : ℕ) → is_settled (at z) ≡ true → z ≡ n = λ z i. ⊎_elim (λ (same : z ≡ n). same) (λ (ne : z ≢ n). absurd (settled_behind at e n (at z) i (h.1 z ne))) (cases_eq z n) in
    one x a ∙ sym (one y b)
settled_at (Away n e s to) at x y h a b = ⊎_elim
    (λ (same : x ≡ n). absurd (true≢false (sym a ∙ ap (λ z. is_settled (at z)) same ∙ ap is_settled h.0)))
    (λ (ne : x ≢ n). absurd (settled_below at e (at x) a (h.1 x ne)))
    (cases_eq x n)
settled_at (Over n e) at x y h a b =
    let one : (z : ℕ) → is_settled (at z) ≡ true → z ≡ n = λ z i. ⊎_elim (λ (same : z ≡ n). same) (λ (ne : z ≢ n). absurd (settled_behind at e n (at z) i (h.1 z ne))) (cases_eq z n) in
    one x a ∙ sym (one y b)

none_kept : (given : Bool) (st : Option KeyState) → known_by given st ≡ None → (st ≡ None) × (given ≡ false)
none_kept true None is = absurd (let no : Some (Ended last_number) ≡ None = is in cc)
none_kept false None is = (refl, refl)
none_kept given (Some st) is = absurd (let no : Some st ≡ None = is in cc)

-- its home has not given the key out
pub home_unmade : (m : Meanings) (c : Cluster) (w : World) (k : Key) (x : ℕ) → Inv m c w → 0 < k.serial → k.home ≡ x → states w k x ≡ None → (durable_at w x).next ≤ k.serial
home_unmade m c w k x inv some home none = by_home (durable_at w x).home refl
  where
    by_home : (o : Option ℕ) → (durable_at w x).home ≡ o → (durable_at w x).next ≤ k.serial
    by_home None is = ⊎_elim
        (λ (less : k.serial < (durable_at w x).next). absurd (inv.sane.full x is k home some less (none_kept (was_given (durable_at w x) k) (get (durable_at w x).keys k) none).0))
        (λ (le : (durable_at w x).next ≤ k.serial). le)
        (cases_lt k.serial (durable_at w x).next)
    by_home (Some h) is = ⊎_elim
        (λ (less : k.serial < (durable_at w x).next).
        let own : is_own (durable_at w x).home k ≡ true = ap (λ o. is_own o k) is ∙ eq-eqb k.home h (home ∙ sym (inv.sane.own x h is)) in
        let given : was_given (durable_at w x) k ≡ true = and_from (is_own (durable_at w x).home k) (nat_lt 0 k.serial && nat_lt k.serial (durable_at w x).next) own
        (and_from (nat_lt 0 k.serial) (nat_lt k.serial (durable_at w x).next) (lt-ltb 0 k.serial some) (lt-ltb k.serial (durable_at w x).next less)) in
        absurd (true≢false (sym given ∙ (none_kept (was_given (durable_at w x) k) (get (durable_at w x).keys k) none).1)))
        (λ (le : (durable_at w x).next ≤ k.serial). le)
        (cases_lt k.serial (durable_at w x).next)

-- ---- who can answer

-- the session is active there, and can go on
abbrev pub Has : Option KeyState → Type 0
Has o = (e : ℕ) × (s : Session) × (o ≡ Some (Active e s)) × (e < last_number)

-- it has ended there
abbrev pub HasEnded : Option KeyState → Type 0
HasEnded o = (e : ℕ) × (o ≡ Some (Ended e))

-- the key is the node's own, and was never given out
abbrev pub IsUnborn : Key → ℕ → Option KeyState → Type 0
IsUnborn k x o = (k.home ≡ x) × (o ≡ None)

abbrev pub Answers : Key → ℕ → Option KeyState → Type 0
Answers k x o = Has o ⊎ (HasEnded o ⊎ IsUnborn k x o)

held_answers : (k : Key) (x e : ℕ) (new : Option KeyState) → e < last_number → IsHeld e new → Answers k x new
held_answers k x e None less h = absurd h
held_answers k x e (Some (Active f s)) less h = inl (f, s, refl, omega (arith, less, h))
held_answers k x e (Some (Sent f s to)) less h = absurd h
held_answers k x e (Some (Gone f)) less h = absurd h
held_answers k x e (Some (Ended f)) less h = inr (inl (f, refl))

module _ (m : Meanings) (touches : AllTouchOnlyHanded m) (c : Cluster) (k : Key) where
  -- where it is at hand, or has ended, none is taken over
  no_took : (w : World) (x : ℕ) (new : Option KeyState) → Inv m c w → is_settled (states w k x) ≡ true → Took k x w new → ⊥
  no_took w x new inv settled t =
      let j = inv.sane.lives k in
      ⊎_elim
      (λ (low : t.epoch ≤ epoch_in (states w k x)). absurd (omega (arith, low, t.up)))
      (λ (away : j.phase ≡ Away t.from t.epoch t.session x).
      let stands : Stands (Away t.from t.epoch t.session x) (states w k) = subst (λ p. Stands p (states w k)) away j.stands in
      settled_below (states w k) t.epoch (states w k x) settled (stands.1 x (j.apart t.epoch t.session t.from x t.grant)))
      (j.grant t.epoch t.session t.from x t.grant)

  pub answers_unmade : (w : World) (x : ℕ) → Inv m c w → 0 < k.serial → IsUnborn k x (states w k x) → is_unmade (setting_at c w x) (durable_at w x) k ≡ true
  answers_unmade w x inv some h = and_from (k.home == x) (nat_le (durable_at w x).next k.serial) (eq-eqb k.home x h.0) (le-leb (durable_at w x).next k.serial (home_unmade m c w k x inv some h.0 h.1))

  -- nothing is known of a key that its home has not given out
  none_unborn : (w : World) (x : ℕ) → Inv m c w → 0 < k.serial → IsUnborn k x (states w k x) → (y : ℕ) → states w k y ≡ None
  none_unborn w x inv some h y = inv.sane.unmade y k (inl (subst (λ z. (durable_at w z).next ≤ k.serial) (sym h.0) (home_unmade m c w k x inv some h.0 h.1)))

  -- a node that can answer does so until it hands the session over
  pub answers_step : (w : World) (e : WorldEvent) (x : ℕ) → IsStep e → Inv m c w → 0 < k.serial → Answers k x (states w k x) → Answers k x (states (happens m c w e) k x) ⊎ Gave c k x w (happens m c w e) (states (happens m c w e) k x)
  answers_step w e x step inv some h =
      let v = happens m c w e in
      ⊎_elim
      (λ (on : Onward (states w k x) (states v k x)). inl (⊎_elim
      (λ (a : Has (states w k x)). held_answers k x a.0 (states v k x) a.3 (subst (λ o. Onward o (states v k x)) a.2 on))
      (λ (rest : HasEnded (states w k x) ⊎ IsUnborn k x (states w k x)). ⊎_elim
      (λ (a : HasEnded (states w k x)). inr (inl (a.0, subst (λ o. Onward o (states v k x)) a.1 on)))
      (λ (a : IsUnborn k x (states w k x)). ⊎_elim
      (λ (none : states v k x ≡ None). inr (inr (a.0, none)))
      (λ (held : IsHeld 1 (states v k x)). held_answers k x 1 (states v k x) (omega arith) held)
      (subst (λ o. Onward o (states v k x)) a.1 on))
      rest)
      h))
      (λ (more : Gave c k x w v (states v k x) ⊎ Took k x w (states v k x)). ⊎_elim
      (λ (g : Gave c k x w v (states v k x)). inr g)
      (λ (t : Took k x w (states v k x)). absurd (⊎_elim
      (λ (a : Has (states w k x)). no_took w x (states v k x) inv (ap is_settled a.2) t)
      (λ (rest : HasEnded (states w k x) ⊎ IsUnborn k x (states w k x)). ⊎_elim
      (λ (a : HasEnded (states w k x)). no_took w x (states v k x) inv (ap is_settled a.1) t)
      (λ (a : IsUnborn k x (states w k x)).
      let j = inv.sane.lives k in
      ⊎_elim
      (λ (low : t.epoch ≤ epoch_in (states w k x)). absurd (omega (arith, low, t.up)))
      (λ (away : j.phase ≡ Away t.from t.epoch t.session x).
      let no : None ≡ Some (Sent t.epoch t.session x) = sym (none_unborn w x inv some a t.from) ∙ (subst (λ p. Stands p (states w k)) away j.stands).0 in absurd (cc))
      (j.grant t.epoch t.session t.from x t.grant))
      rest)
      h))
      more)
      (step_moves m touches c w e step inv k x)

  -- where one node can answer, the session is at hand at no other
  pub answers_alone : (w : World) (x y : ℕ) → Inv m c w → 0 < k.serial → Answers k x (states w k x) → x ≢ y → is_settled (states w k y) ≡ true → ⊥
  answers_alone w x y inv some h apart settled =
      let j = inv.sane.lives k in
      ⊎_elim
      (λ (a : Has (states w k x)). apart (settled_at j.phase (states w k) x y j.stands (ap is_settled a.2) settled))
      (λ (rest : HasEnded (states w k x) ⊎ IsUnborn k x (states w k x)). ⊎_elim
      (λ (a : HasEnded (states w k x)). apart (settled_at j.phase (states w k) x y j.stands (ap is_settled a.1) settled))
      (λ (a : IsUnborn k x (states w k x)). true≢false (sym settled ∙ ap is_settled (none_unborn w x inv some a y)))
      rest)
      h

  -- where it has ended no node hands it over
  pub ended_alone : (w v : World) (x y e : ℕ) (new : Option KeyState) → Inv m c w → states w k x ≡ Some (Ended e) → Gave c k y w v new → ⊥
  ended_alone w v x y e new inv ended g =
      let j = inv.sane.lives k in
      let same : x ≡ y = settled_at j.phase (states w k) x y j.stands (ap is_settled ended) (ap is_settled g.was) in
      let no : Some (Ended e) ≡ Some (Active g.epoch g.session) = sym ended ∙ ap (states w k) same ∙ g.was in
      absurd (cc)

  pub ended_stays : (w : World) (ev : WorldEvent) (x e : ℕ) → IsStep ev → Inv m c w → states w k x ≡ Some (Ended e) → states (happens m c w ev) k x ≡ Some (Ended e)
  ended_stays w ev x e step inv ended =
      let v = happens m c w ev in
      ⊎_elim
      (λ (on : Onward (states w k x) (states v k x)). subst (λ o. Onward o (states v k x)) ended on)
      (λ (more : Gave c k x w v (states v k x) ⊎ Took k x w (states v k x)). ⊎_elim
      (λ (g : Gave c k x w v (states v k x)). absurd (ended_alone w v x x e (states v k x) inv ended g))
      (λ (t : Took k x w (states v k x)). absurd (no_took w x (states v k x) inv (ap is_settled ended) t))
      more)
      (step_moves m touches c w ev step inv k x)

  -- ---- on its way

  -- a session that is on its way is so still, or has come where it can be answered for
  pub way_step : (w : World) (ev : WorldEvent) (x e : ℕ) (s : Session) (to : ℕ) → IsStep ev → Inv m c w → e < last_number → IsOnItsWay w k x e s to
      → IsOnItsWay (happens m c w ev) k x e s to ⊎ Answers k to (states (happens m c w ev) k to)
  way_step w ev x e s to step inv less way =
      let v = happens m c w ev in
      let j = inv.sane.lives k in
      let apart : to ≢ x = j.sent_apart x e s to way.0 in
      let away : j.phase ≡ Away x e s to = is_away j.phase (states w k) x e s to j.stands way.0 way.1 in
      let stands : Stands (Away x e s to) (states w k) = subst (λ p. Stands p (states w k)) away j.stands in
      let below : IsBelow (states w k) e (states w k to) = stands.1 to apart in
      let arrives : e ≤ epoch_in (states v k to) → Answers k to (states v k to) = λ up. ⊎_elim
      (λ (on : Onward (states w k to) (states v k to)). comes_on (states w k to) (states v k to) (omega (arith, way.1, up)) below on)
      (λ (more : Gave c k to w v (states v k to) ⊎ Took k to w (states v k to)). ⊎_elim
      (λ (g : Gave c k to w v (states v k to)). absurd (settled_below (states w k) e (states w k to) (ap is_settled g.was) below))
      (λ (t : Took k to w (states v k to)). ⊎_elim
      (λ (low : t.epoch ≤ epoch_in (states w k to)). absurd (omega (arith, low, t.up)))
      (λ (other : j.phase ≡ Away t.from t.epoch t.session to).
      let one : Away x e s to ≡ Away t.from t.epoch t.session to = sym away ∙ other in
      let same : e ≡ t.epoch = cc in
      inl (t.epoch, t.session, t.now, omega (arith, same, less)))
      (j.grant t.epoch t.session t.from to t.grant))
      more)
      (step_moves m touches c w ev step inv k to) in
      ⊎_elim
      (λ (off : IsOff v k x e s to). ⊎_elim
      (λ (low : epoch_in (states v k to) < e). inl (off, low))
      (λ (up : e ≤ epoch_in (states v k to)). inr (arrives up))
      (cases_lt (epoch_in (states v k to)) e))
      (λ (done : IsDone v k x e to). inr (arrives done.arrived))
      (off_step m touches c k x e s to apart w ev step inv way.0)
    where
      -- what was below and goes on has risen where it was born
      comes_on : (old new : Option KeyState) → epoch_in old < epoch_in new → IsBelow (states w k) e old → Onward old new → Answers k to new
      comes_on None new up b on = ⊎_elim (λ (none : new ≡ None). absurd (omega (arith, up, ap epoch_in none))) (λ (held : IsHeld 1 new). held_answers k to 1 new (omega arith) held) on
      comes_on (Some (Active f u)) new up b on = absurd b
      comes_on (Some (Sent f u y)) new up b on = ⊎_elim (λ (a : new ≡ Some (Sent f u y)). absurd (omega (arith, up, ap epoch_in a))) (λ (a : new ≡ Some (Gone f)). absurd (omega (arith, up, ap epoch_in a))) on
      comes_on (Some (Gone f)) new up b on = absurd (omega (arith, up, ap epoch_in on))
      comes_on (Some (Ended f)) new up b on = absurd b

  -- ---- on its way to a node, or there

  -- a Grant for it was sent to the node, and it is still to come, or at hand
  pub record IsComing (nodes n : ℕ) (w : World) : Type 0 where
    pub from : ℕ
    pub epoch : ℕ
    pub session : Session
    pub there : from < nodes
    pub apart : n ≢ from
    pub grant : In (Grant from n k epoch session) w.packets
    pub due : IsDue w k n epoch

  -- a step gave the session to another node than this one
  pub record IsGivenElsewhere (n : ℕ) (w v : World) : Type 0 where
    pub by : ℕ
    pub gave : Gave c k by w v (states v k by)
    pub elsewhere : gave.to ≢ n

  -- it went to this node, or to another
  pub given : (nodes n : ℕ) (w : World) (ev : WorldEvent) (x : ℕ) → IsStep ev → Inv m c w → AllRun c nodes w → Gave c k x w (happens m c w ev) (states (happens m c w ev) k x)
      → IsComing nodes n (happens m c w ev) ⊎ IsGivenElsewhere n w (happens m c w ev)
  given nodes n w ev x step inv all g =
      let v = happens m c w ev in
      ⊎_elim
      (λ (same : g.to ≡ n).
      let j = inv.sane.lives k in
      let i = (happens_keeps m touches c w ev inv).sane.lives k in
      let grant : In (Grant x n k (g.epoch + 1) g.session) v.packets = subst (λ y. In (Grant x y k (g.epoch + 1) g.session) v.packets) same g.grant in
      let apart : n ≢ x = i.apart (g.epoch + 1) g.session x n grant in
      let here : j.phase ≡ Here x g.epoch g.session = is_here j.phase (states w k) x g.epoch g.session j.stands g.was in
      let stands : Stands (Here x g.epoch g.session) (states w k) = subst (λ p. Stands p (states w k)) here j.stands in
      let low : epoch_in (states w k n) ≤ g.epoch = behind_epoch (states w k) g.epoch x (states w k n) (stands.1 n apart) in
      let still : states v k n ≡ states w k n = ⊎_elim
      (λ (mine : states v k x ≡ states w k x). absurd (let no : Some (Sent (g.epoch + 1) g.session g.to) ≡ Some (Active g.epoch g.session) = sym g.now ∙ mine ∙ g.was in cc))
      (λ (other : states v k n ≡ states w k n). other)
      (one_moves m c w ev step k x n (λ a. apart (sym a))) in
      inl (record {
        from = x;
        epoch = g.epoch + 1;
        session = g.session;
        there = all.only x g.runs.up;
        apart = apart;
        grant = grant;
        due = inl (omega (arith, low, ap epoch_in still));
      }))
      (λ (other : g.to ≢ n). inr (record { by = x; gave = g; elsewhere = other }))
      (cases_eq g.to n)

  -- it is due at the node until it is given away from there, to another
  pub due_on : (n e : ℕ) (w : World) (ev : WorldEvent) → IsStep ev → Inv m c w → IsDue w k n e → IsDue (happens m c w ev) k n e ⊎ IsGivenElsewhere n w (happens m c w ev)
  due_on n e w ev step inv h =
      let v = happens m c w ev in
      ⊎_elim
      (λ (d : IsDue v k n e). inl d)
      (λ (g : Gave c k n w v (states v k n)). inr (record { by = n; gave = g; elsewhere = ((happens_keeps m touches c w ev inv).sane.lives k).sent_apart n (g.epoch + 1) g.session g.to g.now }))
      (due_step m touches c w ev k n e step inv h)
