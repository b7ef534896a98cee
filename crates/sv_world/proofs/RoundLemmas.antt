-- A session that was sent off arrives in a round, and its sender is done with it in two.
use Rattle.sv_world.proofs.Prelude.{◌≡◌, ◌≢◌, ℕ, ◌<◌, ◌≤◌, Bool, true, false, Option, Some, None, List, [], ◌∷◌, arith, refl, sym, ap, ◌∙◌, subst, inl, inr}
use Rattle.sv_world.proofs.Prelude.{⊎_elim, slice_get, slice_get_within, cases_eq, cases_lt, Key, Moment, Session, KeyState, Active, Sent, Gone, Ended, Grant}
use Rattle.sv_world.proofs.Prelude.{Ack, Meanings, AllTouchOnlyHanded, epoch_in, is_unmade, In, WorldEvent, Deliver, Tick, states, Phase, Unborn, Here, Away}
use Rattle.sv_world.proofs.Prelude.{Over, Stands, IsBelow, IsBehind, Cluster, World, durable_at, happens, run, IsStep, AreSteps, setting_at, AllRun, HasRoom}
use Rattle.sv_world.proofs.Prelude.{IsOff, HasArrived, Round, ticked, behind, IsRound, ArrivesByTick, ArrivesInARound, IsDoneInTwo}
use Rattle.std.proofs.Common.{◌⊎◌, ◌+◌, length}
use Rattle.sv_world.proofs.ArrivesLemmas.{acked_arrived, tick_places, delivered_acks, none_made, delivered_ends}
use Rattle.sv_world.proofs.EpochLemmas.{Gave, Took, step_moves, epochs_rise}
use Rattle.sv_world.proofs.Keys.{got}
use Rattle.sv_world.proofs.MovesLemmas.{IsHeld, Onward}
use Rattle.sv_world.proofs.OneKey.{behind_epoch, below_epoch, is_here, is_away}
use Rattle.sv_world.proofs.Runs.{Inv, happens_keeps, run_keeps}
use Rattle.sv_world.proofs.RunningLemmas.{HasPlace, place_in, happens_grows, run_grows, still_in, still_at, still_placed, longer, placed_since, runs_on}
use Rattle.sv_world.proofs.RunningLemmas.{runs_along, one_moves, runs_one, told_one}

-- it has arrived, and its sender is done with it
pub record IsDone (w : World) (k : Key) (n e to : ℕ) : Type 0 where
  pub arrived : HasArrived w k e to
  pub gone : (u : Session) (y : ℕ) → states w k n ≢ Some (Sent e u y)

-- no node forgets a copy of which nobody knows
not_gone : (p : Phase) (at : ℕ → Option KeyState) (n e : ℕ) → Stands p at → at n ≡ Some (Gone e) → ((y : ℕ) → y ≢ n → epoch_in (at y) < e) → ⊥
not_gone Unborn at n e h is low = let no : None ≡ Some (Gone e) = sym (h n) ∙ is in absurd (cc)
not_gone (Here y f u) at n e h is low = ⊎_elim
    (λ (same : n ≡ y). absurd (let no : Some (Gone e) ≡ Some (Active f u) = sym is ∙ ap at same ∙ h.0 in cc))
    (λ (apart : n ≢ y). let b : e ≤ f = subst (IsBehind at f y) is (h.1 n apart) in absurd (omega (arith, b, ap epoch_in h.0, low y (λ same. apart (sym same)))))
    (cases_eq n y)
not_gone (Away y f u to) at n e h is low = ⊎_elim
    (λ (same : n ≡ y). absurd (let no : Some (Gone e) ≡ Some (Sent f u to) = sym is ∙ ap at same ∙ h.0 in cc))
    (λ (apart : n ≢ y). let b : e < f = subst (IsBelow at f) is (h.1 n apart) in absurd (omega (arith, b, ap epoch_in h.0, low y (λ same. apart (sym same)))))
    (cases_eq n y)
not_gone (Over y f) at n e h is low = ⊎_elim
    (λ (same : n ≡ y). absurd (let no : Some (Gone e) ≡ Some (Ended f) = sym is ∙ ap at same ∙ h.0 in cc))
    (λ (apart : n ≢ y). let b : e ≤ f = subst (IsBehind at f y) is (h.1 n apart) in absurd (omega (arith, b, ap epoch_in h.0, low y (λ same. apart (sym same)))))
    (cases_eq n y)

not_held : (e f : ℕ) (u : Session) (y : ℕ) (new : Option KeyState) → IsHeld f new → new ≡ Some (Sent e u y) → ⊥
not_held e f u y new h is = subst (IsHeld f) is h

-- what is sent off goes on so only if it was
onward_sent : (old new : Option KeyState) (e : ℕ) (u : Session) (y : ℕ) → Onward old new → new ≡ Some (Sent e u y) → old ≡ Some (Sent e u y)
onward_sent None new e u y h is = ⊎_elim (λ (a : new ≡ None). sym a ∙ is) (λ (a : IsHeld 1 new). absurd (not_held e 1 u y new a is)) h
onward_sent (Some (Active f s)) new e u y h is = absurd (not_held e f u y new h is)
onward_sent (Some (Sent f s to)) new e u y h is = ⊎_elim (λ (a : new ≡ Some (Sent f s to)). sym a ∙ is) (λ (a : new ≡ Some (Gone f)). absurd (let no : Some (Gone f) ≡ Some (Sent e u y) = sym a ∙ is in cc)) h
onward_sent (Some (Gone f)) new e u y h is = sym h ∙ is
onward_sent (Some (Ended f)) new e u y h is = sym h ∙ is

module _ (m : Meanings) (touches : AllTouchOnlyHanded m) (c : Cluster) where
  -- what has arrived has arrived for good
  pub arrived_still : (k : Key) (e to : ℕ) (es : List WorldEvent) (w : World) → AreSteps es → Inv m c w → HasArrived w k e to → HasArrived (run m c w es) k e to
  arrived_still k e to [] w s inv h = h
  arrived_still k e to (x ∷ es) w s inv h = arrived_still k e to es (happens m c w x) s.1 (happens_keeps m touches c w x inv) (omega (arith, h, epochs_rise m touches c w inv x s.0 k to))

  -- ---- it is off, until its sender is done

  module _ (k : Key) (n e : ℕ) (s : Session) (to : ℕ) (apart : to ≢ n) where
    gone_done : (w : World) (x : WorldEvent) → IsStep x → Inv m c w → IsOff w k n e s to → states (happens m c w x) k n ≡ Some (Gone e) → IsDone (happens m c w x) k n e to
    gone_done w x step inv off gone =
        let v = happens m c w x in
        record {
          arrived = ⊎_elim
              (λ (low : epoch_in (states w k to) < e).
              let j = inv.sane.lives k in
              let away : j.phase ≡ Away n e s to = is_away j.phase (states w k) n e s to j.stands off low in
              let stands : Stands (Away n e s to) (states w k) = subst (λ p. Stands p (states w k)) away j.stands in
              let same : (y : ℕ) → y ≢ n → states v k y ≡ states w k y = λ y ne. ⊎_elim
              (λ (mine : states v k n ≡ states w k n). absurd (let no : Some (Gone e) ≡ Some (Sent e s to) = sym gone ∙ mine ∙ off in cc))
              (λ (other : states v k y ≡ states w k y). other)
              (one_moves m c w x step k n y (λ a. ne (sym a))) in
              let lows : (y : ℕ) → y ≢ n → epoch_in (states v k y) < e = λ y ne. omega (arith, ap epoch_in (same y ne), below_epoch (states w k) e (states w k y) (stands.1 y ne)) in
              let i = (happens_keeps m touches c w x inv).sane.lives k in
              absurd (not_gone i.phase (states v k) n e i.stands gone lows))
              (λ (high : e ≤ epoch_in (states w k to)). omega (arith, high, epochs_rise m touches c w inv x step k to))
              (cases_lt (epoch_in (states w k to)) e);
          gone = λ u y is. let no : Some (Gone e) ≡ Some (Sent e u y) = sym gone ∙ is in absurd (cc);
        }

    pub off_step : (w : World) (x : WorldEvent) → IsStep x → Inv m c w → IsOff w k n e s to → IsOff (happens m c w x) k n e s to ⊎ IsDone (happens m c w x) k n e to
    off_step w x step inv off =
        let v = happens m c w x in
        ⊎_elim
        (λ (on : Onward (states w k n) (states v k n)). ⊎_elim
        (λ (a : states v k n ≡ Some (Sent e s to)). inl a)
        (λ (a : states v k n ≡ Some (Gone e)). inr (gone_done w x step inv off a))
        (subst (λ o. Onward o (states v k n)) off on))
        (λ (more : Gave c k n w v (states v k n) ⊎ Took k n w (states v k n)). ⊎_elim
        (λ (g : Gave c k n w v (states v k n)). absurd (let no : Some (Sent e s to) ≡ Some (Active g.epoch g.session) = sym off ∙ g.was in cc))
        (λ (t : Took k n w (states v k n)).
        let j = inv.sane.lives k in
        let here : HasArrived w k e to = ⊎_elim
        (λ (low : t.epoch ≤ epoch_in (states w k n)). absurd (omega (arith, low, t.up)))
        (λ (away : j.phase ≡ Away t.from t.epoch t.session n).
        let stands : Stands (Away t.from t.epoch t.session n) (states w k) = subst (λ p. Stands p (states w k)) away j.stands in
        let b : IsBelow (states w k) t.epoch (Some (Sent e s to)) = subst (IsBelow (states w k) t.epoch) off (stands.1 n (j.apart t.epoch t.session t.from n t.grant)) in
        b.1)
        (j.grant t.epoch t.session t.from n t.grant) in
        inr (record {
          arrived = omega (arith, here, epochs_rise m touches c w inv x step k to);
          gone = λ u y is. let no : Some (Active t.epoch t.session) ≡ Some (Sent e u y) = sym t.now ∙ is in absurd (cc);
        }))
        more)
        (step_moves m touches c w x step inv k n)

    done_step : (w : World) (x : WorldEvent) → IsStep x → Inv m c w → IsDone w k n e to → IsDone (happens m c w x) k n e to
    done_step w x step inv h =
        let v = happens m c w x in
        record {
          arrived = omega (arith, h.arrived, epochs_rise m touches c w inv x step k to);
          gone = λ u y is. ⊎_elim
              (λ (on : Onward (states w k n) (states v k n)). h.gone u y (onward_sent (states w k n) (states v k n) e u y on is))
              (λ (more : Gave c k n w v (states v k n) ⊎ Took k n w (states v k n)). ⊎_elim
              (λ (g : Gave c k n w v (states v k n)).
              let j = inv.sane.lives k in
              let here : j.phase ≡ Here n g.epoch g.session = is_here j.phase (states w k) n g.epoch g.session j.stands g.was in
              let stands : Stands (Here n g.epoch g.session) (states w k) = subst (λ p. Stands p (states w k)) here j.stands in
              let one : g.epoch + 1 ≡ e = ap epoch_in (sym g.now ∙ is) in
              absurd (omega (arith, one, h.arrived, behind_epoch (states w k) g.epoch n (states w k to) (stands.1 to apart))))
              (λ (t : Took k n w (states v k n)). absurd (let no : Some (Active t.epoch t.session) ≡ Some (Sent e u y) = sym t.now ∙ is in cc))
              more)
              (step_moves m touches c w x step inv k n);
        }

    done_along : (es : List WorldEvent) (w : World) → AreSteps es → Inv m c w → IsDone w k n e to → IsDone (run m c w es) k n e to
    done_along [] w steps inv h = h
    done_along (x ∷ es) w steps inv h = done_along es (happens m c w x) steps.1 (happens_keeps m touches c w x inv) (done_step w x steps.0 inv h)

    -- it is off, or its sender is done
    abbrev pub IsLeft : World → Type 0
    IsLeft w = IsOff w k n e s to ⊎ IsDone w k n e to

    left_step : (w : World) (x : WorldEvent) → IsStep x → Inv m c w → IsLeft w → IsLeft (happens m c w x)
    left_step w x step inv h = ⊎_elim (λ (a : IsOff w k n e s to). off_step w x step inv a) (λ (b : IsDone w k n e to). inr (done_step w x step inv b)) h

    left_along : (es : List WorldEvent) (w : World) → AreSteps es → Inv m c w → IsLeft w → IsLeft (run m c w es)
    left_along [] w steps inv h = h
    left_along (x ∷ es) w steps inv h = left_along es (happens m c w x) steps.1 (happens_keeps m touches c w x inv) (left_step w x steps.0 inv h)

    module _ (nodes : ℕ) (inside : n < nodes) (there : to < nodes) where
      -- after the ticks its sender is done, or its Grant is among what was sent in them
      ticks_send : (since : ℕ) (moment : Moment) (es : List WorldEvent) (w : World) → AreSteps es → AllRun c nodes w → Inv m c w → IsLeft w → since ≤ length w.packets
          → In (Tick n moment) es → IsDone (run m c w es) k n e to ⊎ HasPlace (Grant n to k e s) since (run m c w es).packets
      ticks_send since moment [] w steps all inv h le i = absurd i
      ticks_send since moment (x ∷ es) w steps all inv h le i =
          let v = happens m c w x in
          ⊎_elim
          (λ (same : x ≡ Tick n moment). ⊎_elim
          (λ (off : IsOff w k n e s to).
          let p : HasPlace (Grant n to k e s) (length w.packets) v.packets = subst (λ z. HasPlace (Grant n to k e s) (length w.packets) (happens m c w z).packets) (sym same) (tick_places m c w moment n k e s to (runs_one c nodes w all n inside) off) in
          inr (still_placed v (run m c v es) (Grant n to k e s) since (run_grows m c v es) (placed_since (Grant n to k e s) since (length w.packets) v.packets le p)))
          (λ (done : IsDone w k n e to). inl (done_along (x ∷ es) w steps inv done))
          h)
          (λ (later : In (Tick n moment) es). ticks_send since moment es v steps.1 (runs_on m c nodes w x steps.0 all) (happens_keeps m touches c w x inv) (left_step w x steps.0 inv h) (omega (arith, le, longer w v (happens_grows m c w x))) later)
          i

      -- a Grant that comes where there is room is acknowledged
      come_acks : (moment : Moment) (place : ℕ) (es : List WorldEvent) (v : World) (x : WorldEvent) → AreSteps (x ∷ es) → AllRun c nodes v → Inv m c v → slice_get v.packets place ≡ Some (Grant n to k e s)
          → x ≡ Deliver moment place → HasRoom m c to k v (x ∷ es) → (b : Bool) → is_unmade (setting_at c v to) (durable_at v to) k ≡ b
          → IsDone (run m c v (x ∷ es)) k n e to ⊎ HasPlace (Ack to n k e) (length v.packets) (run m c v (x ∷ es)).packets
      come_acks moment place es v x steps all inv at same room true is =
          let none = none_made m c v to k inv is in
          let g : In (Grant n to k e s) v.packets = got v.packets place (Grant n to k e s) at in
          let j = inv.sane.lives k in
          inl (done_along (x ∷ es) v steps inv (record {
            arrived = ⊎_elim (λ (a : e ≤ epoch_in (states v k to)). a)
                (λ (away : j.phase ≡ Away n e s to). absurd (let no : None ≡ Some (Sent e s to) = sym (none n) ∙ (subst (λ p. Stands p (states v k)) away j.stands).0 in cc))
                (j.grant e s n to g);
            gone = λ u y off. let no : None ≡ Some (Sent e u y) = sym (none n) ∙ off in absurd (cc);
          }))
      come_acks moment place es v x steps all inv at same room false is =
          let u = happens m c v x in
          let p : HasPlace (Ack to n k e) (length v.packets) u.packets = subst (λ z. HasPlace (Ack to n k e) (length v.packets) (happens m c v z).packets) (sym same)
          (delivered_acks m c v moment place n k e s to (runs_one c nodes v all to there) (told_one c nodes v all to n there inside) (λ a. apart (sym a)) at is room.0) in
          inr (still_placed u (run m c u es) (Ack to n k e) (length v.packets) (run_grows m c u es) p)

      rest_acks : (since place : ℕ) (moment : Moment) (es : List WorldEvent) (v : World) → AreSteps es → AllRun c nodes v → Inv m c v → slice_get v.packets place ≡ Some (Grant n to k e s)
          → since ≤ length v.packets → In (Deliver moment place) es → HasRoom m c to k v es → IsDone (run m c v es) k n e to ⊎ HasPlace (Ack to n k e) since (run m c v es).packets
      rest_acks since place moment [] v steps all inv at le i room = absurd i
      rest_acks since place moment (x ∷ es) v steps all inv at le i room =
          let u = happens m c v x in
          ⊎_elim
          (λ (same : x ≡ Deliver moment place). ⊎_elim
          (λ (done : IsDone (run m c u es) k n e to). inl done)
          (λ (p : HasPlace (Ack to n k e) (length v.packets) (run m c u es).packets). inr (placed_since (Ack to n k e) since (length v.packets) (run m c u es).packets le p))
          (come_acks moment place es v x steps all inv at same room (is_unmade (setting_at c v to) (durable_at v to) k) refl))
          (λ (later : In (Deliver moment place) es). rest_acks since place moment es u steps.1 (runs_on m c nodes v x steps.0 all) (happens_keeps m touches c v x inv)
          (still_at v u place (Grant n to k e s) (happens_grows m c v x) at) (omega (arith, le, longer v u (happens_grows m c v x))) later room.1)
          i

      -- its acknowledgement is among the packets, and so is its Grant
      pub record IsAcked (since : ℕ) (w : World) : Type 0 where
        pub ack : HasPlace (Ack to n k e) since w.packets
        pub grant : In (Grant n to k e s) w.packets

      -- after a round its sender is done, or it was acknowledged since the ticks
      pub round_acks : (since : ℕ) (w : World) (a : Round) → Inv m c w → AllRun c nodes w → IsLeft w → since ≤ length w.packets → IsRound m c nodes since w a → HasRoom m c to k (ticked m c w a) a.rest
          → IsDone (behind m c w a) k n e to ⊎ IsAcked (length (ticked m c w a).packets) (behind m c w a)
      round_acks since w a inv all h le r room =
          let v = ticked m c w a in
          let jv = run_keeps m touches c w a.ticks inv in
          let t = r.tick n inside in
          ⊎_elim
          (λ (done : IsDone v k n e to). inl (done_along a.rest v r.steps.1 jv done))
          (λ (p : HasPlace (Grant n to k e s) since v.packets).
          let comes = r.come p.place p.since (slice_get_within v.packets p.place (Grant n to k e s) p.at) in
          ⊎_elim
          (λ (done : IsDone (behind m c w a) k n e to). inl done)
          (λ (x : HasPlace (Ack to n k e) (length v.packets) (behind m c w a).packets). inr (record { ack = x; grant = still_in v (behind m c w a) (Grant n to k e s) (run_grows m c v a.rest) (place_in (Grant n to k e s) since v.packets p) }))
          (rest_acks (length v.packets) p.place comes.0 a.rest v r.steps.1 (runs_along m c nodes a.ticks w r.steps.0 all) jv p.at (omega arith) comes.1 room))
          (ticks_send since t.0 a.ticks w r.steps.0 all inv h le t.1)

      acked_is : (since : ℕ) (w : World) → Inv m c w → IsDone w k n e to ⊎ IsAcked since w → HasArrived w k e to
      acked_is since w inv h = ⊎_elim (λ (d : IsDone w k n e to). d.arrived) (λ (a : IsAcked since w). acked_arrived m c w n k e s to inv a.grant (place_in (Ack to n k e) since w.packets a.ack)) h

      pub round_arrives : (since : ℕ) (w : World) (a : Round) → Inv m c w → AllRun c nodes w → IsLeft w → since ≤ length w.packets → IsRound m c nodes since w a → HasRoom m c to k (ticked m c w a) a.rest
          → HasArrived (behind m c w a) k e to
      round_arrives since w a inv all h le r room = acked_is (length (ticked m c w a).packets) (behind m c w a) (run_keeps m touches c (ticked m c w a) a.rest (run_keeps m touches c w a.ticks inv)) (round_acks since w a inv all h le r room)

      tick_arrives : (w : World) (moment : Moment) (es : List WorldEvent) → Inv m c w → AllRun c nodes w → IsOff w k n e s to → AreSteps es
          → ((place : ℕ) → length w.packets ≤ place → place < length (happens m c w (Tick n moment)).packets → (at : Moment) × In (Deliver at place) es)
          → HasRoom m c to k (happens m c w (Tick n moment)) es → HasArrived (run m c (happens m c w (Tick n moment)) es) k e to
      tick_arrives w moment es inv all off steps come room =
          let v = happens m c w (Tick n moment) in
          let p = tick_places m c w moment n k e s to (runs_one c nodes w all n inside) off in
          let comes = come p.place p.since (slice_get_within v.packets p.place (Grant n to k e s) p.at) in
          let jv = happens_keeps m touches c w (Tick n moment) inv in
          let end = run m c v es in
          ⊎_elim
          (λ (done : IsDone end k n e to). done.arrived)
          (λ (x : HasPlace (Ack to n k e) 0 end.packets).
          acked_arrived m c end n k e s to (run_keeps m touches c v es jv) (still_in v end (Grant n to k e s) (run_grows m c v es) (place_in (Grant n to k e s) (length w.packets) v.packets p)) (place_in (Ack to n k e) 0 end.packets x))
          (rest_acks 0 p.place comes.0 es v steps (runs_on m c nodes w (Tick n moment) tt all) jv p.at (omega arith) comes.1 room)

      -- where the acknowledgement comes its sender is done
      rest_ends : (place : ℕ) (moment : Moment) (es : List WorldEvent) (v : World) → AreSteps es → AllRun c nodes v → Inv m c v → IsLeft v → In (Grant n to k e s) v.packets → slice_get v.packets place ≡ Some (Ack to n k e)
          → In (Deliver moment place) es → IsDone (run m c v es) k n e to
      rest_ends place moment [] v steps all inv h g at i = absurd i
      rest_ends place moment (x ∷ es) v steps all inv h g at i =
          let u = happens m c v x in
          let ju = happens_keeps m touches c v x inv in
          ⊎_elim
          (λ (same : x ≡ Deliver moment place). ⊎_elim
          (λ (off : IsOff v k n e s to).
          let ended : states u k n ≡ Some (Gone e) = subst (λ z. states (happens m c v z) k n ≡ Some (Gone e)) (sym same)
          (delivered_ends m c v moment place n k e s to (runs_one c nodes v all n inside) (told_one c nodes v all n to inside there) apart at off) in
          done_along es u steps.1 ju (gone_done v x steps.0 inv off ended))
          (λ (done : IsDone v k n e to). done_along (x ∷ es) v steps inv done)
          h)
          (λ (later : In (Deliver moment place) es). rest_ends place moment es u steps.1 (runs_on m c nodes v x steps.0 all) ju (left_step v x steps.0 inv h)
          (still_in v u (Grant n to k e s) (happens_grows m c v x) g) (still_at v u place (Ack to n k e) (happens_grows m c v x) at) later)
          i

      two_rounds : (w : World) (a b : Round) → Inv m c w → AllRun c nodes w → IsOff w k n e s to → IsRound m c nodes (length w.packets) w a
          → IsRound m c nodes (length (ticked m c w a).packets) (behind m c w a) b → HasRoom m c to k (ticked m c w a) a.rest → IsDone (behind m c (behind m c w a) b) k n e to
      two_rounds w a b inv all off ra rb room =
          let v = ticked m c w a in
          let u = behind m c w a in
          let y = ticked m c u b in
          let jv = run_keeps m touches c w a.ticks inv in
          let ju = run_keeps m touches c v a.rest jv in
          let jy = run_keeps m touches c u b.ticks ju in
          let all_u = runs_along m c nodes a.rest v ra.steps.1 (runs_along m c nodes a.ticks w ra.steps.0 all) in
          let left_u = left_along a.rest v ra.steps.1 jv (left_along a.ticks w ra.steps.0 inv (inl off)) in
          ⊎_elim
          (λ (done : IsDone u k n e to). done_along b.rest y rb.steps.1 jy (done_along b.ticks u rb.steps.0 ju done))
          (λ (x : IsAcked (length v.packets) u).
          let more = run_grows m c u b.ticks in
          let at : slice_get y.packets x.ack.place ≡ Some (Ack to n k e) = still_at u y x.ack.place (Ack to n k e) more x.ack.at in
          let comes = rb.come x.ack.place x.ack.since (slice_get_within y.packets x.ack.place (Ack to n k e) at) in
          rest_ends x.ack.place comes.0 b.rest y rb.steps.1 (runs_along m c nodes b.ticks u rb.steps.0 all_u) jy (left_along b.ticks u rb.steps.0 ju left_u) (still_in u y (Grant n to k e s) more x.grant) at comes.1)
          (round_acks (length w.packets) w a inv all (inl off) (omega arith) ra room)

  sent_apart : (w : World) (k : Key) (n e : ℕ) (s : Session) (to : ℕ) → Inv m c w → IsOff w k n e s to → to ≢ n
  sent_apart w k n e s to inv off = (inv.sane.lives k).sent_apart n e s to off

  pub arrives_by_tick : (w : World) → Inv m c w → ArrivesByTick m c w
  arrives_by_tick w inv nodes n e k s to moment rest inside there all off steps come room =
      tick_arrives k n e s to (sent_apart w k n e s to inv off) nodes inside there w moment rest inv all off steps come room

  pub arrives_in_a_round : (w : World) → Inv m c w → ArrivesInARound m c w
  arrives_in_a_round w inv nodes n e k s to a inside there off fair room =
      round_arrives k n e s to (sent_apart w k n e s to inv off) nodes inside there (length w.packets) w a inv fair.run (inl off) (omega arith) fair.rounds_are.0 room.1

  pub is_done_in_two : (w : World) → Inv m c w → IsDoneInTwo m c w
  is_done_in_two w inv nodes n e k s to a b inside there off fair room =
      let d = two_rounds k n e s to (sent_apart w k n e s to inv off) nodes inside there w a b inv fair.run off fair.rounds_are.0 fair.rounds_are.1.0 room.1 in
      d.gone
