-- A request that waits is served or refused in three rounds, or in as many times three, but for those in which its session went to
-- another node; and in two where the session has ended.
use Rattle.sv_world.proofs.Prelude.{◌≡◌, ◌≢◌, ℕ, ◌<◌, ◌≤◌, Some, None, List, [], ◌∷◌, arith, refl, sym, ap, ◌∙◌, subst, inl, inr, ⊎_elim, cases_eq, cases_lt}
use Rattle.sv_world.proofs.Prelude.{Key, Session, Parked, Active, Sent, Ended, Meanings, AllTouchOnlyHanded, last_number, is_settled, In, WorldEvent, states}
use Rattle.sv_world.proofs.Prelude.{Phase, Unborn, Here, Away, Over, Stands, Cluster, World, durable_at, happens, run, AreSteps, AllRun, HasRoom, HasRoomIn}
use Rattle.sv_world.proofs.Prelude.{IsOnItsWay, Round, ticked, behind, AreRounds, AreFair, CanCome, WentElsewhere, WentElsewhereIn, IsServed, IsServedInTwo}
use Rattle.sv_world.proofs.Prelude.{Window, rounds_of, behind_windows, AreWindows, AlwaysElsewhere, IsServedAtLast, IsDeniedInTwo}
use Rattle.std.proofs.Common.{◌⊎◌, length}
use Rattle.sv_world.specs.Progress.{behind_all}
use Rattle.sv_world.proofs.AnsweringLemmas.{Answers, home_unmade, ended_alone, ended_stays, IsComing, IsGivenElsewhere}
use Rattle.sv_world.proofs.OneKey.{below_epoch}
use Rattle.sv_world.proofs.ParkedLemmas.{Both, happens_both, run_both, WaitsOn, waits_on, waits_first, wants_along, want_below, one_of_want}
use Rattle.sv_world.proofs.Runs.{Inv}
use Rattle.sv_world.proofs.RunningLemmas.{run_grows, longer, boots_along, runs_along}
use Rattle.sv_world.proofs.ThreeRoundsLemmas.{Else, ElseIn, Begins, IsAnswered, hand_round, answered_round, asking_round, way_round}

-- one of those that wait has a want, or none has
find_want : (want : ℕ) (ps : List Parked) → ((q : Parked) × In q ps × (q.want ≡ want)) ⊎ ((q : Parked) → In q ps → q.want ≢ want)
find_want want [] = inr (λ q i. absurd i)
find_want want (x ∷ ps) = ⊎_elim
    (λ (same : x.want ≡ want). inl (x, inl refl, same))
    (λ (ne : x.want ≢ want). ⊎_elim
    (λ (f : (q : Parked) × In q ps × (q.want ≡ want)). inl (f.0, inr f.1, f.2))
    (λ (f : (q : Parked) → In q ps → q.want ≢ want). inr (λ q i. ⊎_elim (λ (a : x ≡ q). λ same. ne (ap (λ (y : Parked). y.want) a ∙ same)) (λ (a : In q ps). f q a) i))
    (find_want want ps))
    (cases_eq x.want want)

-- a key of which anything is known has a serial
serial_of : (m : Meanings) (c : Cluster) (w : World) → Inv m c w → (k : Key) (x e : ℕ) → states w k x ≡ Some (Ended e) → 0 < k.serial
serial_of m c w inv k x e ended = ⊎_elim
    (λ (some : 0 < k.serial). some)
    (λ (zero : k.serial ≤ 0). absurd (let no : Some (Ended e) ≡ None = sym ended ∙ inv.sane.unmade x k (inr (omega (arith, zero))) in cc))
    (cases_lt 0 k.serial)

module _ (m : Meanings) (touches : AllTouchOnlyHanded m) (c : Cluster) (nodes n : ℕ) (inside : n < nodes) where
  -- it waits in each world of these rounds
  abbrev WaitsRounds : Parked → World → List Round → Type 0
  WaitsRounds p w [] = In p (w.members n).node.parked
  WaitsRounds p w (a ∷ rs) = WaitsOn m touches c n p w a.ticks × WaitsOn m touches c n p (ticked m c w a) a.rest × WaitsRounds p (behind m c w a) rs

  rounds_first : (p : Parked) (rs : List Round) (w : World) → WaitsRounds p w rs → In p (w.members n).node.parked
  rounds_first p [] w h = h
  rounds_first p (a ∷ rs) w h = waits_first m touches c n p a.ticks w h.0

  rounds_on : (p : Parked) (rs : List Round) (since : ℕ) (w : World) → AreRounds m c nodes since w rs → p.want < (w.members n).node.next_want → In p ((behind_all m c w rs).members n).node.parked → WaitsRounds p w rs
  rounds_on p [] since w fair below i = i
  rounds_on p (a ∷ rs) since w fair below i =
      let v = ticked m c w a in
      let steps = fair.0.steps in
      let below_v = wants_along m touches c n a.ticks w steps.0 in
      let below_u = wants_along m touches c n a.rest v steps.1 in
      let more = rounds_on p rs (length v.packets) (behind m c w a) fair.1 (omega (arith, below, below_v, below_u)) i in
      let rest = waits_on m touches c n p a.rest v steps.1 (omega (arith, below, below_v)) (rounds_first p rs (behind m c w a) more) in
      (waits_on m touches c n p a.ticks w steps.0 below (waits_first m touches c n p a.rest v rest), rest, more)

  both_rounds : (rs : List Round) (w : World) → Both m touches c w → Both m touches c (behind_all m c w rs)
  both_rounds [] w b = b
  both_rounds (a ∷ rs) w b = both_rounds rs (behind m c w a) (run_both m touches c (ticked m c w a) a.rest (run_both m touches c w a.ticks b))

  -- after these rounds it waits, or it does not
  waits_or_not : (p : Parked) (rs : List Round) (since : ℕ) (w : World) → Both m touches c w → AreRounds m c nodes since w rs → In p (w.members n).node.parked
      → In p ((behind_all m c w rs).members n).node.parked ⊎ (In p ((behind_all m c w rs).members n).node.parked → ⊥)
  waits_or_not p rs since w b fair i =
      let first = (w.members n).node in
      let last = ((behind_all m c w rs).members n).node in
      let below : p.want < first.next_want = want_below first.parked first.next_want p (b.queued.at n).rising i in
      ⊎_elim
      (λ (f : (q : Parked) × In q last.parked × (q.want ≡ p.want)).
      let q = f.0 in
      let on = rounds_first q rs w (rounds_on q rs since w fair (omega (arith, below, f.2)) f.1) in
      inl (subst (λ x. In x last.parked) (sym (one_of_want 0 first.parked first.next_want p q (b.queued.at n).rising i on (sym f.2))) f.1))
      (λ (f : (q : Parked) → In q last.parked → q.want ≢ p.want). inr (λ j. f p j refl))
      (find_want p.want last.parked)

  module _ (p : Parked) (some : 0 < p.key.serial) where
    abbrev ElseRound : World → Round → Type 0
    ElseRound w a = ElseIn m touches c nodes n p inside some w a

    abbrev ElseRounds : World → List Round → Type 0
    ElseRounds w [] = ⊥
    ElseRounds w (a ∷ rs) = ElseRound w a ⊎ ElseRounds (behind m c w a) rs

    else_went : (es : List WorldEvent) (w : World) → Else m touches c nodes n p inside some w es → WentElsewhere m c n p.key w es
    else_went [] w h = h
    else_went (e ∷ es) w h = ⊎_elim
        (λ (g : IsGivenElsewhere m touches c p.key n w (happens m c w e)). inl (g.by, g.gave.handed, λ same. g.elsewhere (sym g.gave.to_is ∙ same)))
        (λ (t : Else m touches c nodes n p inside some (happens m c w e) es). inr (else_went es (happens m c w e) t))
        h

    rounds_went : (rs : List Round) (w : World) → ElseRounds w rs → WentElsewhereIn m c n p.key w rs
    rounds_went [] w h = h
    rounds_went (a ∷ rs) w h = ⊎_elim
        (λ (x : ElseRound w a). ⊎_elim (λ (y : Else m touches c nodes n p inside some w a.ticks). inl (else_went a.ticks w y)) (λ (y : Else m touches c nodes n p inside some (ticked m c w a) a.rest). inr (inl (else_went a.rest (ticked m c w a) y))) x)
        (λ (x : ElseRounds (behind m c w a) rs). inr (inr (rounds_went rs (behind m c w a) x)))
        h

    -- all that is asked of rounds in which it waits on
    record Stays (since boot : ℕ) (w : World) (rs : List Round) : Type 0 where
      both : Both m touches c w
      all : AllRun c nodes w
      fair : AreRounds m c nodes since w rs
      le : since ≤ length w.packets
      boot_is : (durable_at w n).boot ≡ boot
      on : WaitsRounds p w rs
      room : HasRoomIn m c n p.key w rs

    first_round : (since boot : ℕ) (w : World) (a : Round) (rs : List Round) → Stays since boot w (a ∷ rs) → Begins m touches c nodes n p inside some since boot w a
    first_round since boot w a rs h = record {
      both = h.both;
      all = h.all;
      fair = h.fair.0;
      le = h.le;
      boot_is = h.boot_is;
      ticks_on = h.on.0;
      rest_on = h.on.1;
      end = rounds_first p rs (behind m c w a) h.on.2;
      room = (h.room.0, h.room.1);
    }

    next_rounds : (since boot : ℕ) (w : World) (a : Round) (rs : List Round) → Stays since boot w (a ∷ rs) → Stays (length (ticked m c w a).packets) boot (behind m c w a) rs
    next_rounds since boot w a rs h =
        let v = ticked m c w a in
        let steps = h.fair.0.steps in
        record {
          both = run_both m touches c v a.rest (run_both m touches c w a.ticks h.both);
          all = runs_along m c nodes a.rest v steps.1 (runs_along m c nodes a.ticks w steps.0 h.all);
          fair = h.fair.1;
          le = longer v (behind m c w a) (run_grows m c v a.rest);
          boot_is = boots_along m c a.rest v steps.1 n ∙ (boots_along m c a.ticks w steps.0 n ∙ h.boot_is);
          on = h.on.2;
          room = h.room.2;
        }

    -- one round more
    answered_in : (since boot : ℕ) (w : World) (a : Round) (rs : List Round) → Stays since boot w (a ∷ rs) → IsAnswered m touches c nodes n p inside some since boot w → ElseRounds w (a ∷ rs)
    answered_in since boot w a rs h x = inl (answered_round m touches c nodes n p inside some since boot w a (first_round since boot w a rs h) x)

    -- two rounds more
    asking_in : (x since boot : ℕ) (w : World) (a b : Round) (rs : List Round) → x < nodes → x ≢ n → Stays since boot w (a ∷ b ∷ rs) → Answers p.key x (states w p.key x) → ElseRounds w (a ∷ b ∷ rs)
    asking_in x since boot w a b rs there apart h answers = ⊎_elim
        (λ (y : IsAnswered m touches c nodes n p inside some (length (ticked m c w a).packets) boot (behind m c w a)).
        inr (answered_in (length (ticked m c w a).packets) boot (behind m c w a) b rs (next_rounds since boot w a (b ∷ rs) h) y))
        (λ (y : ElseRound w a). inl y)
        (asking_round m touches c nodes n p inside some x since boot w a there apart (first_round since boot w a (b ∷ rs) h) answers)

    -- three rounds
    way_in : (x e : ℕ) (s : Session) (to since boot : ℕ) (w : World) (a b d : Round) → x < nodes → to < nodes → (to ≢ n → e < last_number) → Stays since boot w (a ∷ b ∷ d ∷ []) → IsOnItsWay w p.key x e s to
        → HasRoom m c to p.key (ticked m c w a) a.rest → ElseRounds w (a ∷ b ∷ d ∷ [])
    way_in x e s to since boot w a b d there goes less h way room =
        let u = behind m c w a in
        let next = next_rounds since boot w a (b ∷ d ∷ []) h in
        ⊎_elim
        (λ (y : ((to ≢ n) × Answers p.key to (states u p.key to)) ⊎ IsComing m touches c p.key nodes n u). ⊎_elim
        (λ (z : (to ≢ n) × Answers p.key to (states u p.key to)). inr (asking_in to (length (ticked m c w a).packets) boot u b d [] goes z.0 next z.1))
        (λ (z : IsComing m touches c p.key nodes n u). inr (answered_in (length (ticked m c w a).packets) boot u b (d ∷ []) next (inl z)))
        y)
        (λ (y : ElseRound w a). inl y)
        (way_round m touches c nodes n p inside some x e s to since boot w a there goes less (first_round since boot w a (b ∷ d ∷ []) h) way room)

    -- where it is on its way to this node
    here_in : (x e : ℕ) (s : Session) (since boot : ℕ) (w : World) (a b : Round) (rs : List Round) → x < nodes → Stays since boot w (a ∷ b ∷ rs) → IsOnItsWay w p.key x e s n → ElseRounds w (a ∷ b ∷ rs)
    here_in x e s since boot w a b rs there h way =
        let u = behind m c w a in
        ⊎_elim
        (λ (y : ((n ≢ n) × Answers p.key n (states u p.key n)) ⊎ IsComing m touches c p.key nodes n u). ⊎_elim
        (λ (z : (n ≢ n) × Answers p.key n (states u p.key n)). absurd (z.0 refl))
        (λ (z : IsComing m touches c p.key nodes n u). inr (answered_in (length (ticked m c w a).packets) boot u b rs (next_rounds since boot w a (b ∷ rs) h) (inl z)))
        y)
        (λ (y : ElseRound w a). inl y)
        (way_round m touches c nodes n p inside some x e s n since boot w a there inside (λ ne. absurd (ne refl)) (first_round since boot w a (b ∷ rs) h) way h.room.1)

    -- wherever the session is, if it is served where it is on its way
    by_phase : (boot : ℕ) (w : World) (a b : Round) (rs : List Round) → Stays (length w.packets) boot w (a ∷ b ∷ rs) → CanCome m c nodes w n p.key (a ∷ b ∷ rs)
        → ((x e : ℕ) (s : Session) (to : ℕ) → x < nodes → IsOnItsWay w p.key x e s to → ElseRounds w (a ∷ b ∷ rs)) → (ph : Phase) → Stands ph (states w p.key) → ElseRounds w (a ∷ b ∷ rs)
    by_phase boot w a b rs h can away Unborn stands =
        let home = p.key.home in
        let asks = (h.both.queued.at n).asks p (rounds_first p (a ∷ b ∷ rs) w h.on) in
        let there : home < nodes = subst (λ y. home < y) (h.all.told n inside) asks.home in
        let apart : home ≢ n = λ same. omega (arith, asks.made same, home_unmade m c w p.key n h.both.inv some same (stands n)) in
        asking_in home (length w.packets) boot w a b rs there apart h (inr (inr (refl, stands home)))
    by_phase boot w a b rs h can away (Here x e s) stands =
        let there : x < nodes = can.among x (λ none. let no : Some (Active e s) ≡ None = sym stands.0 ∙ none in absurd (cc)) in
        ⊎_elim
        (λ (same : x ≡ n). inl (hand_round m touches c nodes n p inside some (length w.packets) boot w a (first_round (length w.packets) boot w a (b ∷ rs) h) (ap (λ y. is_settled (states w p.key y)) (sym same) ∙ ap is_settled stands.0)))
        (λ (apart : x ≢ n). asking_in x (length w.packets) boot w a b rs there apart h (inl (e, s, stands.0, can.epochs x e s stands.0 apart)))
        (cases_eq x n)
    by_phase boot w a b rs h can away (Away x e s to) stands =
        let apart : to ≢ x = (h.both.inv.sane.lives p.key).sent_apart x e s to stands.0 in
        let way : IsOnItsWay w p.key x e s to = (stands.0, below_epoch (states w p.key) e (states w p.key to) (stands.1 to apart)) in
        away x e s to (can.among x (λ none. let no : Some (Sent e s to) ≡ None = sym stands.0 ∙ none in absurd (cc))) way
    by_phase boot w a b rs h can away (Over x e) stands =
        let there : x < nodes = can.among x (λ none. let no : Some (Ended e) ≡ None = sym stands.0 ∙ none in absurd (cc)) in
        ⊎_elim
        (λ (same : x ≡ n). inl (hand_round m touches c nodes n p inside some (length w.packets) boot w a (first_round (length w.packets) boot w a (b ∷ rs) h) (ap (λ y. is_settled (states w p.key y)) (sym same) ∙ ap is_settled stands.0)))
        (λ (apart : x ≢ n). asking_in x (length w.packets) boot w a b rs there apart h (inr (inl (e, stands.0))))
        (cases_eq x n)

    stays_by : (w : World) (rs : List Round) → Both m touches c w → AreFair m c nodes w rs → HasRoomIn m c n p.key w rs → In p (w.members n).node.parked → In p ((behind_all m c w rs).members n).node.parked
        → Stays (length w.packets) (durable_at w n).boot w rs
    stays_by w rs b fair room i end =
        let node = (w.members n).node in
        record {
          both = b;
          all = fair.run;
          fair = fair.rounds_are;
          le = omega arith;
          boot_is = refl;
          on = rounds_on p rs (length w.packets) w fair.rounds_are (want_below node.parked node.next_want p (b.queued.at n).rising i) end;
          room = room;
        }

  -- ---- all of it

  -- where it would wait at the end, its session went elsewhere
  served_or : (w : World) → Both m touches c w → (p : Parked) (rs : List Round) → In p (w.members n).node.parked → AreFair m c nodes w rs → CanCome m c nodes w n p.key rs
      → ((some : 0 < p.key.serial) → Stays p some (length w.packets) (durable_at w n).boot w rs → ElseRounds p some w rs)
      → (In p ((behind_all m c w rs).members n).node.parked → ⊥) ⊎ WentElsewhereIn m c n p.key w rs
  served_or w both p rs i fair can goes = ⊎_elim
      (λ (end : In p ((behind_all m c w rs).members n).node.parked). inr (rounds_went p can.counts rs w (goes can.counts (stays_by p can.counts w rs both fair can.room i end))))
      (λ (gone : In p ((behind_all m c w rs).members n).node.parked → ⊥). inl gone)
      (waits_or_not p rs (length w.packets) w both fair.rounds_are i)

  served_by : (w : World) → Both m touches c w → (p : Parked) (a b d : Round) → In p (w.members n).node.parked → AreFair m c nodes w (a ∷ b ∷ d ∷ []) → CanCome m c nodes w n p.key (a ∷ b ∷ d ∷ [])
      → (In p ((behind_all m c w (a ∷ b ∷ d ∷ [])).members n).node.parked → ⊥) ⊎ WentElsewhereIn m c n p.key w (a ∷ b ∷ d ∷ [])
  served_by w both p a b d i fair can =
      let j = both.inv.sane.lives p.key in
      let boot = (durable_at w n).boot in
      served_or w both p (a ∷ b ∷ d ∷ []) i fair can (λ some h. by_phase p some boot w a b (d ∷ []) h can
      (λ x e s to there way. way_in p some x e s to (length w.packets) boot w a b d there (can.goes x e s to way) (can.epochs_off x e s to way) h way (can.room_off x e s to way).1)
      j.phase j.stands)

  served_in_two : (w : World) → Both m touches c w → (p : Parked) (a b : Round) → In p (w.members n).node.parked → ((x e : ℕ) (s : Session) (to : ℕ) → IsOnItsWay w p.key x e s to → to ≡ n)
      → AreFair m c nodes w (a ∷ b ∷ []) → CanCome m c nodes w n p.key (a ∷ b ∷ []) → (In p ((behind_all m c w (a ∷ b ∷ [])).members n).node.parked → ⊥) ⊎ WentElsewhereIn m c n p.key w (a ∷ b ∷ [])
  served_in_two w both p a b i here fair can =
      let j = both.inv.sane.lives p.key in
      let boot = (durable_at w n).boot in
      served_or w both p (a ∷ b ∷ []) i fair can (λ some h. by_phase p some boot w a b [] h can
      (λ x e s to there way. here_in p some x e s (length w.packets) boot w a b [] there h (subst (λ y. IsOnItsWay w p.key x e s y) (here x e s to way) way))
      j.phase j.stands)

  rounds_up : (qs : List Round) (since : ℕ) (w : World) → AreRounds m c nodes since w qs → (w.members n).node.next_want ≤ ((behind_all m c w qs).members n).node.next_want
  rounds_up [] since w f = omega arith
  rounds_up (a ∷ qs) since w f = omega (arith, wants_along m touches c n a.ticks w f.0.steps.0, wants_along m touches c n a.rest (ticked m c w a) f.0.steps.1, rounds_up qs (length (ticked m c w a).packets) (behind m c w a) f.1)

  -- who waits no more doesn't wait again
  gone_windows : (p : Parked) (rs : List Window) (w : World) → Both m touches c w → p.want < (w.members n).node.next_want → AreWindows m c nodes n p.key w rs
      → In p ((behind_windows m c w rs).members n).node.parked → In p (w.members n).node.parked
  gone_windows p [] w b below ws i = i
  gone_windows p (r ∷ rs) w b below ws i =
      let fair = ws.0.0 in
      let v = behind_all m c w (rounds_of r) in
      let up = rounds_up (rounds_of r) (length w.packets) w fair.rounds_are in
      rounds_first p (rounds_of r) w (rounds_on p (rounds_of r) (length w.packets) w fair.rounds_are below
      (gone_windows p rs v (both_rounds (rounds_of r) w b) (omega (arith, below, up)) ws.1 i))

  served_windows : (p : Parked) (rs : List Window) (w : World) → Both m touches c w → In p (w.members n).node.parked → AreWindows m c nodes n p.key w rs
      → (In p ((behind_windows m c w rs).members n).node.parked → ⊥) ⊎ AlwaysElsewhere m c n p.key w rs
  served_windows p [] w b i ws = inr tt
  served_windows p (r ∷ rs) w b i ws =
      let fair = ws.0.0 in
      let v = behind_all m c w (rounds_of r) in
      let bv = both_rounds (rounds_of r) w b in
      let node = (v.members n).node in
      ⊎_elim
      (λ (stays : In p node.parked).
      ⊎_elim
      (λ (gone : In p node.parked → ⊥). absurd (gone stays))
      (λ (went : WentElsewhereIn m c n p.key w (rounds_of r)). ⊎_elim
      (λ (gone : In p ((behind_windows m c v rs).members n).node.parked → ⊥). inl gone)
      (λ (more : AlwaysElsewhere m c n p.key v rs). inr (went, more))
      (served_windows p rs v bv stays ws.1))
      (served_by w b p r.first r.second r.third i fair ws.0.1))
      (λ (gone : In p node.parked → ⊥). inl (λ end. gone (gone_windows p rs v bv (omega (arith, want_below (w.members n).node.parked (w.members n).node.next_want p (b.queued.at n).rising i, rounds_up (rounds_of r) (length w.packets) w fair.rounds_are)) ws.1 end)))
      (waits_or_not p (rounds_of r) (length w.packets) w b fair.rounds_are i)

  -- where the session has ended nobody gives it away
  ended_else : (p : Parked) (some : 0 < p.key.serial) (x e : ℕ) (es : List WorldEvent) (w : World) → AreSteps es → Both m touches c w → states w p.key x ≡ Some (Ended e)
      → (states (run m c w es) p.key x ≡ Some (Ended e)) × (Else m touches c nodes n p inside some w es → ⊥)
  ended_else p some x e [] w steps b ended = (ended, λ h. h)
  ended_else p some x e (y ∷ es) w steps b ended =
      let v = happens m c w y in
      let r = ended_else p some x e es v steps.1 (happens_both m touches c w y b) (ended_stays m touches c p.key w y x e steps.0 b.inv ended) in (
        r.0,
        λ h. ⊎_elim
            (λ (g : IsGivenElsewhere m touches c p.key n w v). ended_alone m touches c p.key w v x g.by e (states v p.key g.by) b.inv ended g.gave)
            (λ (t : Else m touches c nodes n p inside some v es). r.1 t)
            h,
      )

  ended_rounds : (p : Parked) (some : 0 < p.key.serial) (x e : ℕ) (rs : List Round) (since : ℕ) (w : World) → AreRounds m c nodes since w rs → Both m touches c w → states w p.key x ≡ Some (Ended e) → ElseRounds p some w rs → ⊥
  ended_rounds p some x e [] since w fair b ended h = h
  ended_rounds p some x e (a ∷ rs) since w fair b ended h =
      let v = ticked m c w a in
      let bv = run_both m touches c w a.ticks b in
      let one = ended_else p some x e a.ticks w fair.0.steps.0 b ended in
      let two = ended_else p some x e a.rest v fair.0.steps.1 bv one.0 in
      ⊎_elim
      (λ (y : ElseRound p some w a). ⊎_elim (λ (z : Else m touches c nodes n p inside some w a.ticks). one.1 z) (λ (z : Else m touches c nodes n p inside some v a.rest). two.1 z) y)
      (λ (y : ElseRounds p some (behind m c w a) rs). ended_rounds p some x e rs (length v.packets) (behind m c w a) fair.1 (run_both m touches c v a.rest bv) two.0 y)
      h

  denied_by : (w : World) → Both m touches c w → (x e : ℕ) (p : Parked) (a b : Round) → x < nodes → In p (w.members n).node.parked → states w p.key x ≡ Some (Ended e)
      → AreFair m c nodes w (a ∷ b ∷ []) → HasRoomIn m c n p.key w (a ∷ b ∷ []) → In p ((behind_all m c w (a ∷ b ∷ [])).members n).node.parked → ⊥
  denied_by w both x e p a b there i ended fair room end =
      let rs = a ∷ b ∷ [] in
      let some : 0 < p.key.serial = serial_of m c w both.inv p.key x e ended in
      let h = stays_by p some w rs both fair room i end in
      let else_is : ElseRounds p some w rs = ⊎_elim
      (λ (same : x ≡ n). inl (hand_round m touches c nodes n p inside some (length w.packets) (durable_at w n).boot w a (first_round p some (length w.packets) (durable_at w n).boot w a (b ∷ []) h) (ap (λ y. is_settled (states w p.key y)) (sym same) ∙ ap is_settled ended)))
      (λ (apart : x ≢ n). asking_in p some x (length w.packets) (durable_at w n).boot w a b [] there apart h (inr (inl (e, ended))))
      (cases_eq x n) in
      ended_rounds p some x e rs (length w.packets) w fair.rounds_are both ended else_is

pub is_served : (m : Meanings) (touches : AllTouchOnlyHanded m) (c : Cluster) (w : World) → Both m touches c w → IsServed m c w
is_served m touches c w both nodes n p a b d inside i fair can = served_by m touches c nodes n inside w both p a b d i fair can

pub is_served_in_two : (m : Meanings) (touches : AllTouchOnlyHanded m) (c : Cluster) (w : World) → Both m touches c w → IsServedInTwo m c w
is_served_in_two m touches c w both nodes n p a b inside i here fair can = served_in_two m touches c nodes n inside w both p a b i here fair can

pub is_served_at_last : (m : Meanings) (touches : AllTouchOnlyHanded m) (c : Cluster) (w : World) → Both m touches c w → IsServedAtLast m c w
is_served_at_last m touches c w both nodes n p rs inside i ws = served_windows m touches c nodes n inside p rs w both i ws

pub is_denied_in_two : (m : Meanings) (touches : AllTouchOnlyHanded m) (c : Cluster) (w : World) → Both m touches c w → IsDeniedInTwo m c w
is_denied_in_two m touches c w both nodes n x e p a b inside there i ended fair room end = denied_by m touches c nodes n inside w both x e p a b there i ended fair room end
