-- Each step of a node keeps the invariant of what waits.
use Rattle.sv_world.proofs.Prelude.{◌≡◌, ◌≢◌, ℕ, ◌<◌, ◌≤◌, ◌==◌, Bool, true, false, cond, Option, Some, None, List, [], ◌∷◌, ◌++◌, arith, refl, sym, ap, ◌∙◌}
use Rattle.sv_world.proofs.Prelude.{subst, inl, inr, ⊎_elim, nat_le, nat_lt, not, ◌||◌, is_some, option_map, filter, filter_map, flat_map, get, entries}
use Rattle.sv_world.proofs.Prelude.{filter_map-append, cond_both, eqb-true, leb-true, and_parts, true≢false, Key, Secret, Moment, Token, Request, Session}
use Rattle.sv_world.proofs.Prelude.{Parked, KeyState, Active, Sent, Gone, Ended, PARK_LIMIT, Packet, Want, Grant, Ack, No, Input, Incoming, Move, Cause}
use Rattle.sv_world.proofs.Prelude.{TableFull, ParkFull, WantsSpent, Deadline, Output, Refuse, Send, Moved, Commit, GoneRecord, Meanings, IsExcused, same_key}
use Rattle.sv_world.proofs.Prelude.{Durable, Node, last_number, session_in, epoch_in, was_given, known, is_settled, is_unmade, is_dead, lacks_room, is_crowded}
use Rattle.sv_world.proofs.Prelude.{Decision, idle, with_record, held_in, answer_of, refused, no_birth, answered_unless, served, others, wants, parks, waits}
use Rattle.sv_world.proofs.Prelude.{on_ask, first_of, without, serve_first, serve_parked, hands_over, says_no, no_if_unmade, on_want, takes_over, on_grant}
use Rattle.sv_world.proofs.Prelude.{on_ack, is_wanted, sender, addressee, is_ours, on_ours, on_packet, move_refused, on_move, is_late, is_quiet, first_over}
use Rattle.sv_world.proofs.Prelude.{expire, deadlines, wants_again, grant_again, decided, keys_tell, Entry, In, packet_in, sends_in, Opening, session_of}
use Rattle.sv_world.proofs.Prelude.{Cluster, setting_of, Member, Sane, IsUnmade, store_of, active_kept, tok, boot_of, IsParked, Waits}
use Rattle.std.proofs.Common.{◌⊎◌, ◌+◌, ◌&&◌, map, length}
use Rattle.sv_model.specs.declared.input.Input.TheVariants.{Ask, Poke, Tick}
use Rattle.sv_world.proofs.Keys.{in_last}
use Rattle.sv_world.proofs.OneKey.{is_unborn}
use Rattle.sv_world.proofs.Runs.{disks_of}
use Rattle.sv_world.proofs.Waiting.{over_none, excused_now, MayAdd, AreServed, AllFit, Patient, in_without, first_in, in_filter}

or_cases : (a b : Bool) → (a || b) ≡ true → (a ≡ true) ⊎ (b ≡ true)
or_cases true b h = inl refl
or_cases false b h = inr h

module _ (m : Meanings) (c : Cluster) (members : ℕ → Member) (ps : List Packet) (os : List Opening) (cs : List Commit) (arr : Token → ℕ) (asked : Token → Request → Type 0) (s : Sane m c (disks_of members) ps os cs) (j : Waits m members ps cs arr asked) (n : ℕ) (knows : (k : Key) → c.nodes n (boot_of (members n)) ≤ k.home → (store_of m cs).map k ≡ None) (moment : Moment) where
  abbrev node : Node
  node = (members n).node

  ended_none : (k : Key) (e : ℕ) → known (members n).node.durable k ≡ Some (Ended e) → (store_of m cs).map k ≡ None
  ended_none k e is = (s.lives k).map ∙ over_none (s.lives k).phase _ n e (s.lives k).stands is

  unborn_none : (k : Key) → IsUnmade (disks_of members) k → (store_of m cs).map k ≡ None
  unborn_none k h = (s.lives k).map ∙ ap session_of (is_unborn (s.lives k).phase _ (s.lives k).stands (λ x. s.unmade x k h))

  unmade_none : (k : Key) → is_unmade (setting_of c n (boot_of (members n))) (members n).node.durable k ≡ true → (store_of m cs).map k ≡ None
  unmade_none k t =
      let h = and_parts (k.home == n) (nat_le (members n).node.durable.next k.serial) t in
      let home : k.home ≡ n = eqb-true k.home n h.0 in
      unborn_none k (inl (subst (λ z. (members z).node.durable.next ≤ k.serial) (sym home) (leb-true _ _ h.1)))

  dead_none : (k : Key) → is_dead (setting_of c n (boot_of (members n))) (members n).node.durable k ≡ true → (store_of m cs).map k ≡ None
  dead_none k t = ⊎_elim (λ (a : nat_le (c.nodes n (boot_of (members n))) k.home ≡ true). knows k (leb-true _ _ a)) (λ (b : is_unmade (setting_of c n (boot_of (members n))) (members n).node.durable k ≡ true). unmade_none k b) (or_cases (nat_le (c.nodes n (boot_of (members n))) k.home) (is_unmade (setting_of c n (boot_of (members n))) (members n).node.durable k) t)

  -- nothing is parked anew, and no commit is made
  quiet_patient : (d : Decision) → d.parked ≡ (members n).node.parked → d.next_want ≡ (members n).node.next_want → d.durable.boot ≡ (members n).node.durable.boot → d.commit ≡ None
      → AllFit (store_of m cs).map ps n (boot_of (members n)) (members n).node.next_want (sends_in d.outputs) → Patient m members ps cs arr asked n d
  quiet_patient d parked want boot none fit = record {
    parked = λ p i. inl (subst (In p) parked i);
    next_want = omega arith;
    boot = boot;
    sends = subst (λ w. AllFit (store_of m cs).map ps n (boot_of (members n)) w (sends_in d.outputs)) (sym want) fit;
    commit = subst (MayAdd m arr cs) (sym none) tt;
    served = subst (AreServed asked) (sym none) tt;
  }

  idle_patient : (outs : List Output) → AllFit (store_of m cs).map ps n (boot_of (members n)) (members n).node.next_want (sends_in outs) → Patient m members ps cs arr asked n (idle (members n).node outs)
  idle_patient outs fit = quiet_patient (idle (members n).node outs) refl refl refl refl fit

  nothing_patient : Patient m members ps cs arr asked n (idle (members n).node [])
  nothing_patient = idle_patient [] tt

  either : (b : Bool) (x y : Decision) → (b ≡ true → Patient m members ps cs arr asked n x) → (b ≡ false → Patient m members ps cs arr asked n y) → Patient m members ps cs arr asked n (cond b x y)
  either b x y f g = cond_both b x y (λ d. Patient m members ps cs arr asked n d) f g

  -- ---- packets

  no_patient : (from : ℕ) (k : Key) (boot want : ℕ) → In (Want from n k boot want) ps → (store_of m cs).map k ≡ None → Patient m members ps cs arr asked n (says_no (setting_of c n (boot_of (members n))) (members n).node from k boot want)
  no_patient from k boot want i none = idle_patient (Send (No n from k boot want) ∷ []) ((i, none), tt)

  unmade_patient : (from : ℕ) (k : Key) (boot want : ℕ) → In (Want from n k boot want) ps → Patient m members ps cs arr asked n (no_if_unmade (setting_of c n (boot_of (members n))) (members n).node from k boot want)
  unmade_patient from k boot want i = either (is_unmade (setting_of c n (boot_of (members n))) (members n).node.durable k) (says_no (setting_of c n (boot_of (members n))) (members n).node from k boot want) (idle (members n).node []) (λ t. no_patient from k boot want i (unmade_none k t)) (λ t. nothing_patient)

  want_patient : (from : ℕ) (k : Key) (boot want : ℕ) → In (Want from n k boot want) ps → (st : Option KeyState) → known (members n).node.durable k ≡ st → Patient m members ps cs arr asked n (on_want (setting_of c n (boot_of (members n))) (members n).node from k boot want st)
  want_patient from k boot want i None is = unmade_patient from k boot want i
  want_patient from k boot want i (Some (Active e u)) is = either (e == last_number) (idle (members n).node []) (hands_over (setting_of c n (boot_of (members n))) (members n).node k e u from []) (λ t. nothing_patient) (λ t. quiet_patient (hands_over (setting_of c n (boot_of (members n))) (members n).node k e u from []) refl refl refl refl (tt, tt))
  want_patient from k boot want i (Some (Sent e u to)) is = either (to == from) (idle (members n).node (Send (Grant n from k e u) ∷ [])) (no_if_unmade (setting_of c n (boot_of (members n))) (members n).node from k boot want) (λ t. idle_patient (Send (Grant n from k e u) ∷ []) (tt, tt)) (λ t. unmade_patient from k boot want i)
  want_patient from k boot want i (Some (Gone e)) is = unmade_patient from k boot want i
  want_patient from k boot want i (Some (Ended e)) is = no_patient from k boot want i (ended_none k e is)

  grant_patient : (from : ℕ) (k : Key) (e : ℕ) (u : Session) (st : Option KeyState) → Patient m members ps cs arr asked n (on_grant (setting_of c n (boot_of (members n))) (members n).node from k e u st)
  grant_patient from k e u st = either (is_unmade (setting_of c n (boot_of (members n))) (members n).node.durable k) (idle (members n).node []) _ (λ t. nothing_patient)
      (λ t. either (nat_le e (epoch_in st)) (idle (members n).node (Send (Ack n from k e) ∷ [])) _ (λ v. idle_patient (Send (Ack n from k e) ∷ []) (tt, tt))
      (λ v. either (lacks_room (setting_of c n (boot_of (members n))) (members n).node.durable k) (idle (members n).node []) (takes_over (setting_of c n (boot_of (members n))) (members n).node from k e u) (λ x. nothing_patient) (λ x. quiet_patient (takes_over (setting_of c n (boot_of (members n))) (members n).node from k e u) refl refl refl refl (tt, tt))))

  ack_patient : (k : Key) (e : ℕ) (st : Option KeyState) → Patient m members ps cs arr asked n (on_ack (members n).node k e st)
  ack_patient k e None = nothing_patient
  ack_patient k e (Some (Active f u)) = nothing_patient
  ack_patient k e (Some (Sent f u to)) = either (f == e) (with_record (members n).node (GoneRecord k e) k (Gone e) None []) (idle (members n).node []) (λ t. quiet_patient (with_record (members n).node (GoneRecord k e) k (Gone e) None []) refl refl refl refl tt) (λ t. nothing_patient)
  ack_patient k e (Some (Gone f)) = nothing_patient
  ack_patient k e (Some (Ended f)) = nothing_patient

  move_patient : (k : Key) (to : ℕ) (st : Option KeyState) → Patient m members ps cs arr asked n (on_move (setting_of c n (boot_of (members n))) (members n).node k to st)
  move_patient k to None = idle_patient (_ ∷ []) tt
  move_patient k to (Some (Active e u)) = either ((to == n) || nat_le (c.nodes n (boot_of (members n))) to) (move_refused (members n).node _) _ (λ t. idle_patient (_ ∷ []) tt)
      (λ t. either (e == last_number) (move_refused (members n).node _) (hands_over (setting_of c n (boot_of (members n))) (members n).node k e u to (Moved ∷ [])) (λ v. idle_patient (_ ∷ []) tt) (λ v. quiet_patient (hands_over (setting_of c n (boot_of (members n))) (members n).node k e u to (Moved ∷ [])) refl refl refl refl (tt, tt)))
  move_patient k to (Some (Sent e u t)) = idle_patient (_ ∷ []) tt
  move_patient k to (Some (Gone e)) = idle_patient (_ ∷ []) tt
  move_patient k to (Some (Ended e)) = idle_patient (_ ∷ []) tt

  -- ---- requests

  -- where the key is active the session is handed in
  handed_there : (r : Request) (named : Key × Secret) (e : ℕ) (u : Session) → (m n (boot_of (members n))).names r ≡ Some named → get (members n).node.durable.keys named.0 ≡ Some (Active e u) → is_some (held_in (members n).node.durable.keys ((m n (boot_of (members n))).names r)) ≡ false → ⊥
  handed_there r named e u is st h =
      let yes : is_some (held_in (members n).node.durable.keys ((m n (boot_of (members n))).names r)) ≡ true = ap (λ o. is_some (held_in (members n).node.durable.keys o)) is ∙ ap (λ o. is_some (option_map {U = Key × Session} (λ x. (named.0, x)) (session_in o))) st in
      true≢false (sym yes ∙ h)

  same_name : (r : Request) (a b : Key × Secret) → (m n (boot_of (members n))).names r ≡ Some a → (m n (boot_of (members n))).names r ≡ Some b → a ≡ b
  same_name r a b x y = let e : Some a ≡ Some b = sym x ∙ y in let f : a ≡ b = cc in f

  -- the request may be served, as the map lacks its key by now
  lacks : (r : Request) (a : ℕ) (named : Key × Secret) → a ≤ length cs → (m n (boot_of (members n))).names r ≡ Some named → (store_of m cs).map named.0 ≡ None → (other : Key × Secret) → is_some (held_in (members n).node.durable.keys ((m n (boot_of (members n))).names r)) ≡ false → (m n (boot_of (members n))).names r ≡ Some other → IsExcused m cs a other.0
  lacks r a named le is none other h is' = subst (λ (z : Key × Secret). IsExcused m cs a z.0) (same_name r named other is is') (excused_now m cs a named.0 le none)

  abbrev May : ℕ → Request → Type 0
  May number r = (other : Key × Secret) → is_some (held_in (members n).node.durable.keys ((m n (boot_of (members n))).names r)) ≡ false → (m n (boot_of (members n))).names r ≡ Some other → IsExcused m cs (arr (tok n (boot_of (members n)) number)) other.0

  unless_patient : (cause : Option Cause) (number : ℕ) (r : Request) (waiting : List Parked) → ((p : Parked) → In p waiting → In p (members n).node.parked) → arr (tok n (boot_of (members n)) number) ≤ length cs → asked (tok n (boot_of (members n)) number) r → May number r
      → Patient m members ps cs arr asked n (answered_unless cause (m n (boot_of (members n))) (setting_of c n (boot_of (members n))) (members n).node moment number r (answer_of (m n (boot_of (members n))) (setting_of c n (boot_of (members n))) (members n).node.durable moment r) waiting)
  unless_patient None number r waiting old le came may = record { parked = λ p i. inl (old p i); next_want = omega arith; boot = refl; sends = tt; commit = (le, may); served = (came, tt) }
  unless_patient (Some cause) number r waiting old le came may = record { parked = λ p i. inl (old p i); next_want = omega arith; boot = refl; sends = tt; commit = tt; served = tt }

  serve_patient : (number : ℕ) (r : Request) (waiting : List Parked) → ((p : Parked) → In p waiting → In p (members n).node.parked) → arr (tok n (boot_of (members n)) number) ≤ length cs → asked (tok n (boot_of (members n)) number) r → May number r
      → Patient m members ps cs arr asked n (served (m n (boot_of (members n))) (setting_of c n (boot_of (members n))) (members n).node moment number r waiting)
  serve_patient number r waiting old le came may = unless_patient (no_birth (setting_of c n (boot_of (members n))) (members n).node.durable (answer_of (m n (boot_of (members n))) (setting_of c n (boot_of (members n))) (members n).node.durable moment r).birth) number r waiting old le came may

  fit_both : (w : ℕ) (xs ys : List Packet) → AllFit (store_of m cs).map ps n (boot_of (members n)) w xs → AllFit (store_of m cs).map ps n (boot_of (members n)) w ys → AllFit (store_of m cs).map ps n (boot_of (members n)) w (xs ++ ys)
  fit_both w [] ys h k = k
  fit_both w (x ∷ xs) ys h k = (h.0, fit_both w xs ys h.1 k)

  wants_by : (k : Key) (want w : ℕ) → want < w → (to : List ℕ) → AllFit (store_of m cs).map ps n (boot_of (members n)) w (sends_in (map (λ p. Send (Want n p k (boot_of (members n)) want)) to))
  wants_by k want w lt [] = tt
  wants_by k want w lt (p ∷ to) = ((refl, refl, lt), wants_by k want w lt to)

  settled_by : (st : Option KeyState) (number : ℕ) (r : Request) (named : Key × Secret) → (m n (boot_of (members n))).names r ≡ Some named → arr (tok n (boot_of (members n)) number) ≤ length cs → known (members n).node.durable named.0 ≡ st → is_settled st ≡ true → May number r
  settled_by None number r named is le at t other h is' = absurd (true≢false (sym t))
  settled_by (Some (Active e u)) number r named is le at t other h is' = absurd (handed_there r named e u is (active_kept (was_given (members n).node.durable named.0) (get (members n).node.durable.keys named.0) e u at) h)
  settled_by (Some (Sent e u to)) number r named is le at t other h is' = absurd (true≢false (sym t))
  settled_by (Some (Gone e)) number r named is le at t other h is' = absurd (true≢false (sym t))
  settled_by (Some (Ended e)) number r named is le at t other h is' = lacks r _ named le is (ended_none named.0 e at) other h is'

  -- a request comes
  module _ (number : ℕ) (r : Request) (le : arr (tok n (boot_of (members n)) number) ≤ length cs) (came : asked (tok n (boot_of (members n)) number) r) where
    parks_patient : (named : Key × Secret) → (m n (boot_of (members n))).names r ≡ Some named → Patient m members ps cs arr asked n (parks (setting_of c n (boot_of (members n))) (members n).node moment number r named.0)
    parks_patient named is = record {
      parked = λ p i. ⊎_elim (λ (o : In p (members n).node.parked). inl o)
          (λ (e : record { token = number; request = r; key = named.0; since = moment.steady; want = (members n).node.next_want } ≡ p). inr (
            sym (ap (λ (q : Parked). q.want) e),
            subst (λ (q : Parked). IsParked m (length cs) arr asked (tok n (boot_of (members n)) q.token) ((members n).node.next_want + 1) q) e
                (record { arrived = le; came = came; named = named; names = is; key = refl; below = omega arith }),
          ))
          (in_last p (members n).node.parked _ i);
      next_want = omega arith;
      boot = refl;
      sends = wants_by named.0 (members n).node.next_want ((members n).node.next_want + 1) (omega arith) (others (setting_of c n (boot_of (members n))));
      commit = tt;
      served = tt;
    }

    waits_patient : (named : Key × Secret) → (m n (boot_of (members n))).names r ≡ Some named → Patient m members ps cs arr asked n (waits (setting_of c n (boot_of (members n))) (members n).node moment number r named.0)
    waits_patient named is =
        either (is_crowded (setting_of c n (boot_of (members n))) (members n).node.durable named.0) (refused (members n).node number TableFull (members n).node.parked) _ (λ t. quiet_patient (refused (members n).node number TableFull (members n).node.parked) refl refl refl refl tt)
        (λ t. either (nat_le PARK_LIMIT (length (members n).node.parked)) (refused (members n).node number ParkFull (members n).node.parked) (cond ((members n).node.next_want == last_number) (refused (members n).node number WantsSpent (members n).node.parked) (parks (setting_of c n (boot_of (members n))) (members n).node moment number r named.0))
        (λ t. quiet_patient (refused (members n).node number ParkFull (members n).node.parked) refl refl refl refl tt)
        (λ t. either ((members n).node.next_want == last_number) (refused (members n).node number WantsSpent (members n).node.parked) (parks (setting_of c n (boot_of (members n))) (members n).node moment number r named.0) (λ u. quiet_patient (refused (members n).node number WantsSpent (members n).node.parked) refl refl refl refl tt) (λ u. parks_patient named is)))

    ask_patient : (named : Option (Key × Secret)) → (m n (boot_of (members n))).names r ≡ named → Patient m members ps cs arr asked n (on_ask (m n (boot_of (members n))) (setting_of c n (boot_of (members n))) (members n).node moment number r named)
    ask_patient None is = serve_patient number r (members n).node.parked (λ p i. i) le came (λ other h is'. absurd (let e : None ≡ Some other = sym is ∙ is' in cc))
    ask_patient (Some named) is = either (is_settled (known (members n).node.durable named.0) || is_dead (setting_of c n (boot_of (members n))) (members n).node.durable named.0) (served (m n (boot_of (members n))) (setting_of c n (boot_of (members n))) (members n).node moment number r (members n).node.parked) (waits (setting_of c n (boot_of (members n))) (members n).node moment number r named.0)
        (λ t. serve_patient number r (members n).node.parked (λ p i. i) le came (⊎_elim
        (λ (a : is_settled (known (members n).node.durable named.0) ≡ true). settled_by (known (members n).node.durable named.0) number r named is le refl a)
        (λ (b : is_dead (setting_of c n (boot_of (members n))) (members n).node.durable named.0 ≡ true). lacks r _ named le is (dead_none named.0 b))
        (or_cases (is_settled (known (members n).node.durable named.0)) (is_dead (setting_of c n (boot_of (members n))) (members n).node.durable named.0) t)))
        (λ t. waits_patient named is)

  -- ---- requests that wait

  parked_patient : (test : Parked → Bool) → ((p : Parked) → In p (members n).node.parked → test p ≡ true → May p.token p.request) → (found : Option Parked) → first_of test (members n).node.parked ≡ found → Patient m members ps cs arr asked n (serve_first (m n (boot_of (members n))) (setting_of c n (boot_of (members n))) (members n).node moment found (without test (members n).node.parked))
  parked_patient test may None is = nothing_patient
  parked_patient test may (Some p) is =
      let f = first_in test (members n).node.parked p is in
      let h = j.parked n p f.0 in
      serve_patient p.token p.request (without test (members n).node.parked) (in_without test (members n).node.parked) h.arrived h.came (may p f.0 f.1)

  settled_may : (p : Parked) → In p (members n).node.parked → is_settled (known (members n).node.durable p.key) ≡ true → May p.token p.request
  settled_may p i t = let h = j.parked n p i in settled_by (known (members n).node.durable h.named.0) p.token p.request h.named h.names h.arrived refl (ap (λ k. is_settled (known (members n).node.durable k)) h.key ∙ t)

  no_may : (from : ℕ) (k : Key) (boot want : ℕ) → In (No from n k boot want) ps → boot ≡ (members n).node.durable.boot → (p : Parked) → In p (members n).node.parked → is_wanted k want p ≡ true → May p.token p.request
  no_may from k boot want i same p at t other f is =
      let a = and_parts (p.want == want) (same_key p.key k) t in
      let key : p.key ≡ k = ⊎_elim (λ (x : (p.key ≡ k) × (same_key p.key k ≡ true)). x.0) (λ (x : (p.key ≢ k) × (same_key p.key k ≡ false)). absurd (true≢false (sym a.1 ∙ x.1))) (keys_tell p.key k) in
      let h = j.parked n p at in
      let ex = j.no_excuse from n k boot want p i at same (eqb-true p.want want a.0) key in
      subst (IsExcused m cs (arr (tok n (boot_of (members n)) p.token))) (sym key ∙ sym h.key ∙ ap (λ (z : Key × Secret). z.0) (same_name p.request h.named other h.names is)) ex

  ours_patient : (p : Packet) → addressee p ≡ n → In p ps → Patient m members ps cs arr asked n (on_ours (m n (boot_of (members n))) (setting_of c n (boot_of (members n))) (members n).node moment p)
  ours_patient (Want from to k boot want) me i = want_patient from k boot want (subst (λ z. In (Want from z k boot want) ps) me i) (known (members n).node.durable k) refl
  ours_patient (Grant from to k e u) me i = grant_patient from k e u (known (members n).node.durable k)
  ours_patient (Ack from to k e) me i = ack_patient k e (known (members n).node.durable k)
  ours_patient (No from to k boot want) me i = either (boot == (members n).node.durable.boot) (serve_parked (m n (boot_of (members n))) (setting_of c n (boot_of (members n))) (members n).node moment (is_wanted k want)) (idle (members n).node [])
      (λ t. parked_patient (is_wanted k want) (no_may from k boot want (subst (λ z. In (No from z k boot want) ps) me i) (eqb-true boot (members n).node.durable.boot t)) (first_of (is_wanted k want) (members n).node.parked) refl)
      (λ t. nothing_patient)

  packet_patient : (p : Packet) → In p ps → Patient m members ps cs arr asked n (on_packet (m n (boot_of (members n))) (setting_of c n (boot_of (members n))) (members n).node moment p)
  packet_patient p i = either (is_ours (setting_of c n (boot_of (members n))) p) (on_ours (m n (boot_of (members n))) (setting_of c n (boot_of (members n))) (members n).node moment p) (idle (members n).node [])
      (λ t. ours_patient p (eqb-true (addressee p) n (and_parts (addressee p == n) (not (sender p == n) && nat_lt (sender p) (c.nodes n (boot_of (members n)))) t).0) i)
      (λ t. nothing_patient)

  -- ---- a tick

  late_fit : (w : ℕ) (parked : List Parked) → AllFit (store_of m cs).map ps n (boot_of (members n)) w (sends_in (map (λ p. Refuse p.token Deadline) parked))
  late_fit w [] = tt
  late_fit w (p ∷ parked) = late_fit w parked

  again_fit : (d : Durable) → d.boot ≡ boot_of (members n) → (parked : List Parked) → ((p : Parked) → In p parked → In p (members n).node.parked) → AllFit (store_of m cs).map ps n (boot_of (members n)) (members n).node.next_want (sends_in (flat_map (λ p. wants (setting_of c n (boot_of (members n))) d p.key p.want) parked))
  again_fit d boot [] old = tt
  again_fit d boot (p ∷ parked) old = subst (AllFit (store_of m cs).map ps n (boot_of (members n)) (members n).node.next_want) (sym (filter_map-append packet_in (wants (setting_of c n (boot_of (members n))) d p.key p.want) (flat_map (λ q. wants (setting_of c n (boot_of (members n))) d q.key q.want) parked)))
      (fit_both (members n).node.next_want _ _ (subst (λ b. AllFit (store_of m cs).map ps n (boot_of (members n)) (members n).node.next_want (sends_in (map (λ q. Send (Want n q p.key b p.want)) (others (setting_of c n (boot_of (members n))))))) (sym boot) (wants_by p.key p.want (members n).node.next_want (j.parked n p (old p (inl refl))).below (others (setting_of c n (boot_of (members n))))))
      (again_fit d boot parked (λ q i. old q (inr i))))

  grants_fit : (w : ℕ) (es : List Entry) → AllFit (store_of m cs).map ps n (boot_of (members n)) w (sends_in (filter_map (grant_again (setting_of c n (boot_of (members n)))) es))
  grants_fit w [] = tt
  grants_fit w ((k, Active e u) ∷ es) = grants_fit w es
  grants_fit w ((k, Sent e u to) ∷ es) = (tt, grants_fit w es)
  grants_fit w ((k, Gone e) ∷ es) = grants_fit w es
  grants_fit w ((k, Ended e) ∷ es) = grants_fit w es

  tick_fit : (d : Durable) → AllFit (store_of m cs).map ps n (boot_of (members n)) (members n).node.next_want (sends_in (deadlines (setting_of c n (boot_of (members n))) moment.steady (members n).node.parked ++ wants_again (setting_of c n (boot_of (members n))) (members n).node.durable (filter (λ p. not (is_late (setting_of c n (boot_of (members n))) moment.steady p)) (members n).node.parked) ++ filter_map (grant_again (setting_of c n (boot_of (members n)))) (entries d.keys)))
  tick_fit d =
      let waiting = filter (λ p. not (is_late (setting_of c n (boot_of (members n))) moment.steady p)) (members n).node.parked in
      let one = deadlines (setting_of c n (boot_of (members n))) moment.steady (members n).node.parked in
      let two = wants_again (setting_of c n (boot_of (members n))) (members n).node.durable waiting in
      let three = filter_map (grant_again (setting_of c n (boot_of (members n)))) (entries d.keys) in
      subst (AllFit (store_of m cs).map ps n (boot_of (members n)) (members n).node.next_want) (sym (filter_map-append packet_in (one ++ two) three ∙ ap (λ l. l ++ sends_in three) (filter_map-append packet_in one two)))
      (fit_both (members n).node.next_want (sends_in one ++ sends_in two) (sends_in three) (fit_both (members n).node.next_want (sends_in one) (sends_in two) (late_fit (members n).node.next_want (filter (is_late (setting_of c n (boot_of (members n))) moment.steady) (members n).node.parked))
      (again_fit (members n).node.durable refl (filter (λ p. not (is_quiet (setting_of c n (boot_of (members n))) (members n).node.durable p)) waiting) (λ p i. in_filter _ (members n).node.parked p (in_filter _ waiting p i))))
      (grants_fit (members n).node.next_want (entries d.keys)))

  -- what expires leaves boot and want as they were
  tick_patient : (found : Option Entry) →
      let d = expire (members n).node moment.now found [] in
      let waiting = filter (λ p. not (is_late (setting_of c n (boot_of (members n))) moment.steady p)) (members n).node.parked in
      Patient m members ps cs arr asked n (record d { outputs = deadlines (setting_of c n (boot_of (members n))) moment.steady (members n).node.parked ++ wants_again (setting_of c n (boot_of (members n))) (members n).node.durable waiting ++ filter_map (grant_again (setting_of c n (boot_of (members n)))) (entries d.durable.keys); parked = waiting })
  tick_patient None = record { parked = λ p i. inl (in_filter _ (members n).node.parked p i); next_want = omega arith; boot = refl; sends = tick_fit (members n).node.durable; commit = tt; served = tt }
  tick_patient (Some (k, Active e u)) = record { parked = λ p i. inl (in_filter _ (members n).node.parked p i); next_want = omega arith; boot = refl; sends = tick_fit (expire (members n).node moment.now (Some (k, Active e u)) []).durable; commit = tt; served = tt }
  tick_patient (Some (k, Sent e u to)) = record { parked = λ p i. inl (in_filter _ (members n).node.parked p i); next_want = omega arith; boot = refl; sends = tick_fit (members n).node.durable; commit = tt; served = tt }
  tick_patient (Some (k, Gone e)) = record { parked = λ p i. inl (in_filter _ (members n).node.parked p i); next_want = omega arith; boot = refl; sends = tick_fit (members n).node.durable; commit = tt; served = tt }
  tick_patient (Some (k, Ended e)) = record { parked = λ p i. inl (in_filter _ (members n).node.parked p i); next_want = omega arith; boot = refl; sends = tick_fit (members n).node.durable; commit = tt; served = tt }

  -- the request of an input came by now, under a token that is known
  abbrev pub HasCome : Input → Type 0
  HasCome (Ask number r) = (arr (tok n (boot_of (members n)) number) ≤ length cs) × asked (tok n (boot_of (members n)) number) r
  HasCome (Incoming p) = In p ps
  HasCome Poke = Unit {0}
  HasCome Tick = Unit {0}
  HasCome (Move k to) = Unit {0}

  pub decide_patient : (i : Input) → HasCome i → Patient m members ps cs arr asked n (decided (m n (boot_of (members n))) (setting_of c n (boot_of (members n))) (members n).node moment i)
  decide_patient (Ask number r) h = ask_patient number r h.0 h.1 ((m n (boot_of (members n))).names r) refl
  decide_patient (Incoming p) h = packet_patient p h
  decide_patient Poke h = parked_patient (λ p. is_settled (known (members n).node.durable p.key)) settled_may (first_of (λ p. is_settled (known (members n).node.durable p.key)) (members n).node.parked) refl
  decide_patient Tick h = tick_patient (first_over moment.now (entries (members n).node.durable.keys))
  decide_patient (Move k to) h = move_patient k to (known (members n).node.durable k)
