-- The invariant of what waits.
use Rattle.sv_world.proofs.Prelude.{◌≡◌, ◌≢◌, ℕ, ◌<◌, ◌≤◌, ◌==◌, Bool, true, false, Option, Some, None, List, [], ◌∷◌, ◌++◌, arith, refl, sym, ap, ◌∙◌, subst}
use Rattle.sv_world.proofs.Prelude.{inl, inr, ⊎_elim, eq-eqb, length-append, append_assoc, append-nil, filter, take-append-le, cases_eq, ne_eqb, cond-true}
use Rattle.sv_world.proofs.Prelude.{cond-false, cond_both, true≢false, Key, Token, Request, Session, Parked, KeyState, Active, Sent, Ended, Packet, Want, Grant}
use Rattle.sv_world.proofs.Prelude.{Ack, No, Commit, Record, Served, Expired, Meanings, IsExcused, MayStand, AllMayStand, Durable, Decision, left, first_of}
use Rattle.sv_world.proofs.Prelude.{without, In, with_last, sends_in, Phase, Unborn, Here, Away, Over, Stands, IsBelow, IsBehind, session_of, Member}
use Rattle.sv_world.proofs.Prelude.{set_member, stopped, commit_with, AllServed, store_of, tok, boot_of, IsPast, IsParked, Waits}
use Rattle.std.proofs.Common.{◌⊎◌, ◌+◌, map, length}
use Rattle.std.proofs.Math.Seq.{take-length}
use Rattle.sv_world.proofs.Keys.{in_cases}

-- an ended key lives nowhere
pub over_none : (p : Phase) (at : ℕ → Option KeyState) (n e : ℕ) → Stands p at → at n ≡ Some (Ended e) → session_of p ≡ None
over_none Unborn at n e h is = refl
over_none (Here y f u) at n e h is = ⊎_elim
    (λ (same : n ≡ y). absurd (let k : at n ≡ Some (Active f u) = ap at same ∙ h.0 in cc))
    (λ (apart : n ≢ y). absurd (subst (IsBehind at f y) is (h.1 n apart)))
    (cases_eq n y)
over_none (Away y f u to) at n e h is = ⊎_elim
    (λ (same : n ≡ y). absurd (let k : at n ≡ Some (Sent f u to) = ap at same ∙ h.0 in cc))
    (λ (apart : n ≢ y). absurd (subst (IsBelow at f) is (h.1 n apart)))
    (cases_eq n y)
over_none (Over y f) at n e h is = refl

-- ---- excuses, as the list grows

pub excused_now : (m : Meanings) (cs : List Commit) (a : ℕ) (k : Key) → a ≤ length cs → (store_of m cs).map k ≡ None → IsExcused m cs a k
excused_now m cs a k l is = record { place = length cs; since = l; within = omega arith; lacks = ap (λ xs. (store_of m xs).map k) (take-length cs) ∙ is }

excused_with : (m : Meanings) (cs : List Commit) (c : Option Commit) (a : ℕ) (k : Key) → IsExcused m cs a k → IsExcused m (with_last cs c) a k
excused_with m cs None a k e = e
excused_with m cs (Some c) a k e = record { place = e.place; since = e.since; within = omega (arith, length-append cs (c ∷ []), e.within); lacks = ap (λ xs. (store_of m xs).map k) (take-append-le e.place cs (c ∷ []) e.within) ∙ e.lacks }

longer : (cs : List Commit) (c : Option Commit) → length cs ≤ length (with_last cs c)
longer cs None = omega arith
longer cs (Some c) = omega (arith, length-append cs (c ∷ []))

stand_snoc : (m : Meanings) (arr : Token → ℕ) (before cs : List Commit) (c : Commit) → AllMayStand m arr before cs → MayStand m arr (before ++ cs) c → AllMayStand m arr before (cs ++ c ∷ [])
stand_snoc m arr before [] c h s = (subst (λ xs. MayStand m arr xs c) (append-nil before) s, tt)
stand_snoc m arr before (x ∷ cs) c h s = (h.0, stand_snoc m arr (before ++ x ∷ []) cs c h.1 (subst (λ xs. MayStand m arr xs c) (sym (append_assoc before (x ∷ []) cs)) s))

abbrev pub MayAdd : Meanings → (Token → ℕ) → List Commit → Option Commit → Type 0
MayAdd m arr cs None = Unit {0}
MayAdd m arr cs (Some c) = MayStand m arr cs c

stand_with : (m : Meanings) (arr : Token → ℕ) (cs : List Commit) (c : Option Commit) → AllMayStand m arr [] cs → MayAdd m arr cs c → AllMayStand m arr [] (with_last cs c)
stand_with m arr cs None h s = h
stand_with m arr cs (Some c) h s = stand_snoc m arr [] cs c h s

abbrev pub AreServed : (Token → Request → Type 0) → Option Commit → Type 0
AreServed asked None = Unit {0}
AreServed asked (Some c) = AllServed asked (c ∷ [])

served_snoc : (asked : Token → Request → Type 0) (cs : List Commit) (c : Commit) → AllServed asked cs → AllServed asked (c ∷ []) → AllServed asked (cs ++ c ∷ [])
served_snoc asked [] c h s = s
served_snoc asked (Served token r now handed fresh ∷ cs) c h s = (h.0, served_snoc asked cs c h.1 s)
served_snoc asked (Expired k now ∷ cs) c h s = served_snoc asked cs c h s

served_with : (asked : Token → Request → Type 0) (cs : List Commit) (c : Option Commit) → AllServed asked cs → AreServed asked c → AllServed asked (with_last cs c)
served_with asked cs None h s = h
served_with asked cs (Some c) h s = served_snoc asked cs c h s

-- a commit that is kept with its record alone
may_with : (m : Meanings) (arr : Token → ℕ) (cs : List Commit) (o : Option Record) (c : Option Commit) → MayAdd m arr cs c → MayAdd m arr cs (commit_with o c)
may_with m arr cs None c h = tt
may_with m arr cs (Some r) c h = h

served_if : (asked : Token → Request → Type 0) (o : Option Record) (c : Option Commit) → AreServed asked c → AreServed asked (commit_with o c)
served_if asked None c h = tt
served_if asked (Some r) c h = h

-- ---- the arrivals that are known stay

module _ (m : Meanings) (arr brr : Token → ℕ) (asked basked : Token → Request → Type 0) (still : (t : Token) (r : Request) → asked t r → brr t ≡ arr t) (more : (t : Token) (r : Request) → asked t r → basked t r) where
  may_still : (before : List Commit) (c : Commit) → AllServed asked (c ∷ []) → MayStand m arr before c → MayStand m brr before c
  may_still before (Served token r now handed fresh) a h =
      let e = sym (still token r a.0) in
      (subst (λ x. x ≤ length before) e h.0, λ named f is. subst (λ x. IsExcused m before x named.0) e (h.1 named f is))
  may_still before (Expired k now) a h = h

  all_still : (before cs : List Commit) → AllServed asked cs → AllMayStand m arr before cs → AllMayStand m brr before cs
  all_still before [] a h = tt
  all_still before (Served token r now handed fresh ∷ cs) a h = (may_still before (Served token r now handed fresh) (a.0, tt) h.0, all_still (before ++ Served token r now handed fresh ∷ []) cs a.1 h.1)
  all_still before (Expired k now ∷ cs) a h = (h.0, all_still (before ++ Expired k now ∷ []) cs a h.1)

  served_more : (cs : List Commit) → AllServed asked cs → AllServed basked cs
  served_more [] a = tt
  served_more (Served token r now handed fresh ∷ cs) a = (more token r a.0, served_more cs a.1)
  served_more (Expired k now ∷ cs) a = served_more cs a

  parked_still : (size : ℕ) (t : Token) (want : ℕ) (p : Parked) → IsParked m size arr asked t want p → IsParked m size brr basked t want p
  parked_still size t want p h = record { arrived = subst (λ x. x ≤ size) (sym (still t p.request h.came)) h.arrived; came = more t p.request h.came; named = h.named; names = h.names; key = h.key; below = h.below }

  pub waits_still : (members : ℕ → Member) (packets : List Packet) (cs : List Commit) → Waits m members packets cs arr asked → Waits m members packets cs brr basked
  waits_still members packets cs j = record {
    want_past = j.want_past;
    no_past = j.no_past;
    no_excuse = λ from to k b x p i at boot want key. subst (λ a. IsExcused m cs a k) (sym (still _ _ (j.parked to p at).came)) (j.no_excuse from to k b x p i at boot want key);
    parked = λ n p i. parked_still (length cs) _ _ p (j.parked n p i);
    excused = all_still [] cs j.served j.excused;
    served = served_more cs j.served;
  }

-- ---- what may be said of packets that a node puts out

abbrev pub FitsPacket : (Key → Option Session) → List Packet → ℕ → ℕ → ℕ → Packet → Type 0
FitsPacket map ps n boot want (Want from to k b x) = (from ≡ n) × (b ≡ boot) × (x < want)
FitsPacket map ps n boot want (Grant from to k e s) = Unit {0}
FitsPacket map ps n boot want (Ack from to k e) = Unit {0}
FitsPacket map ps n boot want (No from to k b x) = In (Want to from k b x) ps × (map k ≡ None)

abbrev pub AllFit : (Key → Option Session) → List Packet → ℕ → ℕ → ℕ → List Packet → Type 0
AllFit map ps n boot want [] = Unit {0}
AllFit map ps n boot want (x ∷ xs) = FitsPacket map ps n boot want x × AllFit map ps n boot want xs

fit_in : (map : Key → Option Session) (ps : List Packet) (n boot want : ℕ) (x : Packet) (xs : List Packet) → AllFit map ps n boot want xs → In x xs → FitsPacket map ps n boot want x
fit_in map ps n boot want x [] h i = absurd i
fit_in map ps n boot want x (y ∷ xs) h i = ⊎_elim (λ (e : y ≡ x). subst (FitsPacket map ps n boot want) e h.0) (λ (t : In x xs). fit_in map ps n boot want x xs h.1 t) i

-- the volatile part of a decision
pub record Patient (m : Meanings) (members : ℕ → Member) (ps : List Packet) (cs : List Commit) (arr : Token → ℕ) (asked : Token → Request → Type 0) (n : ℕ) (d : Decision) : Type 0 where
  pub parked : (p : Parked) → In p d.parked → In p (members n).node.parked ⊎ ((p.want ≡ (members n).node.next_want) × IsParked m (length cs) arr asked (tok n (boot_of (members n)) p.token) d.next_want p)
  pub next_want : (members n).node.next_want ≤ d.next_want
  pub boot : d.durable.boot ≡ (members n).node.durable.boot
  pub sends : AllFit (store_of m cs).map ps n (boot_of (members n)) d.next_want (sends_in d.outputs)
  pub commit : MayAdd m arr cs d.commit
  pub served : AreServed asked d.commit

-- a silent step
abbrev silenced : Decision → Decision
silenced d = record d { commit = commit_with d.entry d.commit; events = []; mark = None; outputs = [] }

at_set : (members : ℕ → Member) (n : ℕ) (x : Member) → set_member members n x n ≡ x
at_set members n x = cond-true (n == n) x (members n) (eq-eqb n n refl)

not_set : (members : ℕ → Member) (n : ℕ) (x : Member) (y : ℕ) → y ≢ n → set_member members n x y ≡ members y
not_set members n x y ne = cond-false (y == n) x (members y) (ne_eqb y n ne)

-- a fact of each node, after one node changed
pub by_node : (P : ℕ → Member → Type 0) (members : ℕ → Member) (n : ℕ) (x : Member) (y : ℕ) → (y ≡ n → P y x) → (y ≢ n → P y (members y)) → P y (set_member members n x y)
by_node P members n x y here there = ⊎_elim
    (λ (e : y ≡ n). subst (P y) (sym (ap (set_member members n x) e ∙ at_set members n x)) (here e))
    (λ (e : y ≢ n). subst (P y) (sym (not_set members n x y e)) (there e))
    (cases_eq y n)

past_on : (p x : Member) (b k : ℕ) → p.up ≡ true → x.node.durable.boot ≡ p.node.durable.boot → p.node.next_want ≤ x.node.next_want → IsPast p b k → IsPast x b k
past_on p x b k up boot l h = ⊎_elim
    (λ (o : b < p.node.durable.boot). inl (omega arith))
    (λ (o : (b ≡ p.node.durable.boot) × ((k < p.node.next_want) ⊎ (p.up ≡ false))). inr (o.0 ∙ sym boot, ⊎_elim (λ (c : k < p.node.next_want). inl (omega arith)) (λ (c : p.up ≡ false). absurd (true≢false (sym up ∙ c))) o.1))
    h

past_stop : (p x : Member) (b k : ℕ) → x.up ≡ false → x.node.durable.boot ≡ p.node.durable.boot → IsPast p b k → IsPast x b k
past_stop p x b k down boot h = ⊎_elim (λ (o : b < p.node.durable.boot). inl (omega arith)) (λ (o : (b ≡ p.node.durable.boot) × ((k < p.node.next_want) ⊎ (p.up ≡ false))). inr (o.0 ∙ sym boot, inr down)) h

past_boot : (p x : Member) (b k : ℕ) → x.node.durable.boot ≡ p.node.durable.boot + 1 → IsPast p b k → IsPast x b k
past_boot p x b k boot h = ⊎_elim (λ (o : b < p.node.durable.boot). inl (omega arith)) (λ (o : (b ≡ p.node.durable.boot) × ((k < p.node.next_want) ⊎ (p.up ≡ false))). inl (omega arith)) h

not_new : (p : Member) (b v : ℕ) → p.up ≡ true → IsPast p b v → b ≡ p.node.durable.boot → v ≡ p.node.next_want → ⊥
not_new p b v up h same new = ⊎_elim
    (λ (o : b < p.node.durable.boot). absurd (omega arith))
    (λ (o : (b ≡ p.node.durable.boot) × ((v < p.node.next_want) ⊎ (p.up ≡ false))). ⊎_elim (λ (c : v < p.node.next_want). absurd (omega arith)) (λ (c : p.up ≡ false). absurd (true≢false (sym up ∙ c))) o.1)
    h

parked_longer : (m : Meanings) (size more : ℕ) (arr : Token → ℕ) (asked : Token → Request → Type 0) (t : Token) (want want' : ℕ) (p : Parked) → size ≤ more → want ≤ want' → IsParked m size arr asked t want p → IsParked m more arr asked t want' p
parked_longer m size more arr asked t want want' p l k h = record { arrived = omega (arith, h.arrived); came = h.came; named = h.named; names = h.names; key = h.key; below = omega (arith, h.below) }

module _ (m : Meanings) (members : ℕ → Member) (ps : List Packet) (cs : List Commit) (arr : Token → ℕ) (asked : Token → Request → Type 0) (j : Waits m members ps cs arr asked) (n : ℕ) where
  pub whole_waits : (d : Decision) → (members n).up ≡ true → Patient m members ps cs arr asked n d → Waits m (set_member members n (record { up = true; node = left d })) (ps ++ sends_in d.outputs) (with_last cs d.commit) arr asked
  whole_waits d up s =
      let x : Member = record { up = true; node = left d } in
      let on : (b k y : ℕ) → IsPast (members y) b k → IsPast (set_member members n x y) b k = λ b k y p. by_node (λ _ z. IsPast z b k) members n x y (λ e. past_on (members n) x b k up s.boot s.next_want (subst (λ z. IsPast (members z) b k) e p)) (λ e. p) in
      let fit : (p : Packet) → In p (sends_in d.outputs) → FitsPacket (store_of m cs).map ps n (boot_of (members n)) d.next_want p = λ p i. fit_in _ _ _ _ _ p (sends_in d.outputs) s.sends i in
      let wait : (y : ℕ) (p : Parked) → In p (set_member members n x y).node.parked → IsParked m (length cs) arr asked (tok y (boot_of (set_member members n x y)) p.token) (set_member members n x y).node.next_want p =
      λ y p. by_node (λ z v. In p v.node.parked → IsParked m (length cs) arr asked (tok z (boot_of v) p.token) v.node.next_want p) members n x y
      (λ e i. subst (λ z. IsParked m (length cs) arr asked (tok z d.durable.boot p.token) d.next_want p) (sym e) (subst (λ b. IsParked m (length cs) arr asked (tok n b p.token) d.next_want p) (sym s.boot) (⊎_elim
      (λ (o : In p (members n).node.parked). parked_longer m (length cs) (length cs) arr asked _ (members n).node.next_want d.next_want p (omega arith) s.next_want (j.parked n p o))
      (λ (o : (p.want ≡ (members n).node.next_want) × IsParked m (length cs) arr asked (tok n (boot_of (members n)) p.token) d.next_want p). o.1)
      (s.parked p i))))
      (λ e i. j.parked y p i) in
      record {
        want_past = λ from to k b v i. ⊎_elim
            (λ (o : In (Want from to k b v) ps). on b v from (j.want_past from to k b v o))
            (λ (o : In (Want from to k b v) (sends_in d.outputs)). let f = fit _ o in by_node (λ _ z. IsPast z b v) members n x from (λ e. inr (f.1 ∙ sym s.boot, inl f.2)) (λ e. absurd (e f.0)))
            (in_cases _ ps (sends_in d.outputs) i);
        no_past = λ from to k b v i. ⊎_elim
            (λ (o : In (No from to k b v) ps). on b v to (j.no_past from to k b v o))
            (λ (o : In (No from to k b v) (sends_in d.outputs)). let f = fit _ o in on b v to (j.want_past to from k b v f.0))
            (in_cases _ ps (sends_in d.outputs) i);
        no_excuse = λ from to k b v p i at boot want key. excused_with m cs d.commit _ k (⊎_elim
            (λ (o : In (No from to k b v) ps). by_node (λ y z. In p z.node.parked → b ≡ z.node.durable.boot → y ≡ to → IsExcused m cs (arr (tok y (boot_of z) p.token)) k) members n x to
            (λ e i' b' _. ⊎_elim
            (λ (q : In p (members n).node.parked). subst (λ a. IsExcused m cs (arr a) k) (λ z. tok to ((ap (λ y. boot_of (members y)) e ∙ sym s.boot) z) p.token)
            (j.no_excuse from to k b v p o (subst (λ z. In p (members z).node.parked) (sym e) q) (b' ∙ s.boot ∙ ap (λ z. (members z).node.durable.boot) (sym e)) want key))
            (λ (q : (p.want ≡ (members n).node.next_want) × IsParked m (length cs) arr asked (tok n (boot_of (members n)) p.token) d.next_want p). absurd (not_new (members n) b v up (subst (λ z. IsPast (members z) b v) e (j.no_past from to k b v o)) (b' ∙ s.boot) (sym want ∙ q.0)))
            (s.parked p i'))
            (λ e i' b' _. j.no_excuse from to k b v p o i' b' want key) at boot refl)
            (λ (o : In (No from to k b v) (sends_in d.outputs)). excused_now m cs _ k (wait to p at).arrived (fit _ o).1)
            (in_cases _ ps (sends_in d.outputs) i));
        parked = λ y p i. parked_longer m (length cs) (length (with_last cs d.commit)) arr asked _ _ _ p (longer cs d.commit) (omega arith) (wait y p i);
        excused = stand_with m arr cs d.commit j.excused s.commit;
        served = served_with asked cs d.commit j.served s.served;
      }

  -- nothing leaves the node
  pub silent_waits : (d : Decision) → (members n).up ≡ true → Patient m members ps cs arr asked n d → Waits m (set_member members n (record { up = true; node = left d })) ps (with_last cs (commit_with d.entry d.commit)) arr asked
  silent_waits d up s =
      subst (λ xs. Waits m (set_member members n (record { up = true; node = left d })) xs (with_last cs (commit_with d.entry d.commit)) arr asked) (append-nil ps)
      (whole_waits (silenced d) up (record {
        parked = s.parked;
        next_want = s.next_want;
        boot = s.boot;
        sends = tt;
        commit = may_with m arr cs d.entry d.commit s.commit;
        served = served_if asked d.entry d.commit s.served;
      }))

  -- a node stops or starts, with nothing parked
  pub empty_waits : (x : Member) (o : Option Commit) → x.node.parked ≡ [] → ((b k : ℕ) → IsPast (members n) b k → IsPast x b k) → MayAdd m arr cs o → AreServed asked o → Waits m (set_member members n x) ps (with_last cs o) arr asked
  empty_waits x o none past s a =
      let on : (b k y : ℕ) → IsPast (members y) b k → IsPast (set_member members n x y) b k = λ b k y p. by_node (λ _ z. IsPast z b k) members n x y (λ e. past b k (subst (λ z. IsPast (members z) b k) e p)) (λ e. p) in
      record {
        want_past = λ from to k b v i. on b v from (j.want_past from to k b v i);
        no_past = λ from to k b v i. on b v to (j.no_past from to k b v i);
        no_excuse = λ from to k b v p i. by_node (λ y z. In p z.node.parked → b ≡ z.node.durable.boot → p.want ≡ v → p.key ≡ k → IsExcused m (with_last cs o) (arr (tok to (boot_of z) p.token)) k) members n x to (λ e h. absurd (subst (In p) none h)) (λ e h b' want key. excused_with m cs o _ k (j.no_excuse from to k b v p i h b' want key));
        parked = λ y p. by_node (λ z v. In p v.node.parked → IsParked m (length (with_last cs o)) arr asked (tok y (boot_of v) p.token) v.node.next_want p) members n x y (λ e h. absurd (subst (In p) none h)) (λ e h. parked_longer m (length cs) (length (with_last cs o)) arr asked _ _ _ p (longer cs o) (omega arith) (j.parked y p h));
        excused = stand_with m arr cs o j.excused s;
        served = served_with asked cs o j.served a;
      }

  pub stop_waits : (d : Durable) (o : Option Commit) → d.boot ≡ (members n).node.durable.boot → MayAdd m arr cs o → AreServed asked o → Waits m (set_member members n (stopped d)) ps (with_last cs o) arr asked
  stop_waits d o boot s a = empty_waits (stopped d) o refl (λ b k. past_stop (members n) (stopped d) b k refl boot) s a

  pub boot_waits : (x : Member) → x.node.parked ≡ [] → x.node.durable.boot ≡ (members n).node.durable.boot + 1 → Waits m (set_member members n x) ps cs arr asked
  boot_waits x none boot = empty_waits x None none (λ b k. past_boot (members n) x b k boot) tt tt

pub in_without : (f : Parked → Bool) (ps : List Parked) (p : Parked) → In p (without f ps) → In p ps
in_without f [] p h = h
in_without f (q ∷ ps) p h = cond_both (f q) ps (q ∷ without f ps) (λ xs. In p xs → In p (q ∷ ps)) (λ t i. inr i) (λ t i. ⊎_elim (λ (e : q ≡ p). inl e) (λ (r : In p (without f ps)). inr (in_without f ps p r)) i) h

pub first_in : (f : Parked → Bool) (ps : List Parked) (p : Parked) → first_of f ps ≡ Some p → In p ps × (f p ≡ true)
first_in f [] p e = absurd (cc)
first_in f (q ∷ ps) p e = cond_both (f q) (Some q) (first_of f ps) (λ o. o ≡ Some p → In p (q ∷ ps) × (f p ≡ true))
    (λ t s. let k : q ≡ p = cc in (inl k, ap f (sym k) ∙ t))
    (λ t s. let r = first_in f ps p s in (inr r.0, r.1)) e

pub in_filter : (f : Parked → Bool) (ps : List Parked) (p : Parked) → In p (filter f ps) → In p ps
in_filter f [] p h = h
in_filter f (q ∷ ps) p h = cond_both (f q) (q ∷ filter f ps) (filter f ps) (λ xs. In p xs → In p (q ∷ ps)) (λ t i. ⊎_elim (λ (e : q ≡ p). inl e) (λ (r : In p (filter f ps)). inr (in_filter f ps p r)) i) (λ t i. inr (in_filter f ps p i)) h
