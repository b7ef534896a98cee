-- Every list of events keeps the invariant.
use Rattle.sv_world.proofs.Prelude.{◌≡◌, ◌≢◌, ℕ, ◌<◌, ◌≤◌, ◌==◌, true, Option, Some, None, List, [], ◌∷◌, ◌++◌, arith, refl, sym, ap, ◌∙◌, subst, inl, inr}
use Rattle.sv_world.proofs.Prelude.{⊎_elim, eq-eqb, append-nil, option_to_list, get, get-empty, cases_eq, ne_eqb, eqb-true, ltb-true, and_parts, cond_both}
use Rattle.sv_world.proofs.Prelude.{cond-true, cond-false, map-append, flat_map-append, Key, Moment, Token, Session, KeyState, Active, Sent, Packet, Input}
use Rattle.sv_world.proofs.Prelude.{Incoming, Move, Record, key_cmp, Meanings, AllTouchOnlyHanded, Durable, known, Decision, left, Item, commits_of, with_last}
use Rattle.sv_world.proofs.Prelude.{sends_in, opening_of, blank, applied, applied_if, Boot, Forgets, plainly_known, known_begun, ◌⊎◌, ◌+◌, ◌&&◌, nat_lt}
use Rattle.sv_world.proofs.Prelude.{same_Some, Life, Unborn, WorldEvent, Line, Call, Cluster, Member, World, set_member, durable_at, stopped, nothing_happened}
use Rattle.sv_world.proofs.Prelude.{items, commits_in, openings_of, whole, torn, silent, becomes, decision, happens, run, item_at, record_of_start, quiet_line}
use Rattle.sv_world.proofs.Prelude.{commit_with, token_of_call, setting_of, Sane, acked, store_of, states, IsLiveAt, IsOpening, IsLive, granted, opened}
use Rattle.sv_world.proofs.Prelude.{decided}
use Rattle.sv_model.specs.declared.input.Input.TheVariants.{Ask, Poke, Tick}
use Rattle.sv_world.proofs.Events.{IsSentIn, IsReady, behind, behind_all}
use Rattle.sv_world.proofs.Sending.{lives_packets}
use Rattle.sv_world.proofs.OneKey.{lives_once, map_has_live, live_of_map}
use Rattle.sv_world.proofs.Steps.{Redisk, keys_of, Sound, decide_sound}

abbrev pub disks_of : (ℕ → Member) → ℕ → Durable
disks_of members x = (members x).node.durable

-- a record, so that its arguments are found
pub record Inv (m : Meanings) (c : Cluster) (w : World) : Type 0 where
  pub sane : Sane m c (disks_of w.members) w.packets (openings_of w.trace) (commits_in w)

-- ---- a trace with one more line

last_is : {A : Type 0} (xs : List A) (o : Option A) → xs ++ (option_to_list o ++ []) ≡ with_last xs o
last_is xs None = append-nil xs
last_is xs (Some x) = refl

pub openings_snoc : (trace : List Line) (l : Line) → openings_of (trace ++ l ∷ []) ≡ with_last (openings_of trace) (opening_of l.entry)
openings_snoc trace l = flat_map-append (λ (x : Line). option_to_list (opening_of x.entry)) trace (l ∷ []) ∙ last_is (openings_of trace) (opening_of l.entry)

pub commits_snoc : (trace : List Line) (l : Line) → commits_of (items (trace ++ l ∷ [])) ≡ with_last (commits_of (items trace)) l.commit
commits_snoc trace l = ap commits_of (map-append item_at trace (l ∷ [])) ∙ flat_map-append (λ (i : Item). option_to_list i.commit) (items trace) (item_at l ∷ []) ∙ last_is (commits_of (items trace)) l.commit

-- the invariant of a world, from that of its lists
pub inv_by : (m : Meanings) (c : Cluster) (members : ℕ → Member) (packets : List Packet) (trace : List Line) (l : Line) → Sane m c (disks_of members) packets (with_last (openings_of trace) (opening_of l.entry)) (with_last (commits_of (items trace)) l.commit)
    → Inv m c (record { members = members; packets = packets; trace = trace ++ l ∷ [] })
inv_by m c members packets trace l s = record { sane = subst (λ os. Sane m c (disks_of members) packets os (commits_of (items (trace ++ l ∷ [])))) (sym (openings_snoc trace l)) (subst (λ cs. Sane m c (disks_of members) packets (with_last (openings_of trace) (opening_of l.entry)) cs) (sym (commits_snoc trace l)) s) }

-- ---- one node becomes another

redisk : (members : ℕ → Member) (n : ℕ) (p : Member) → Redisk (disks_of members) (disks_of (set_member members n p)) n p.node.durable
redisk members n p = record { mine = ap (λ (z : Member). z.node.durable) (cond-true (n == n) p (members n) (eq-eqb n n refl)); others = λ y ne. ap (λ (z : Member). z.node.durable) (cond-false (y == n) p (members y) (ne_eqb y n ne)) }

abbrev pub SoundAt : Meanings → Cluster → World → ℕ → Decision → Type 0
SoundAt m c w n d = Sound m c (disks_of w.members) w.packets (openings_of w.trace) (commits_in w) n (durable_at w n) d

whole_keeps : (m : Meanings) (c : Cluster) (w : World) (e : WorldEvent) (call : Call) (d : Decision) → SoundAt m c w call.node d → Inv m c (whole c w e call d)
whole_keeps m c w e call d s =
    let n = call.node in
    let p : Member = record { up = true; node = left d } in
    let r = redisk w.members n p in
    let a = s.durable _ r in
    let l = lives_packets (keys_of (disks_of (set_member w.members n p))) w.packets _ _ (sends_in d.outputs) (s.just _ r) (record { each = a.lives }) in
    inv_by m c (set_member w.members n p) (w.packets ++ sends_in d.outputs) w.trace _ (record { lives = l.each; unmade = a.unmade; made = a.made; lawful = a.lawful; counts = a.counts; own = a.own; full = a.full })

torn_keeps : (m : Meanings) (c : Cluster) (w : World) (e : WorldEvent) (call : Call) (d : Decision) → SoundAt m c w call.node d → Inv m c (torn c w e call d)
torn_keeps m c w e call d s = inv_by m c (set_member w.members call.node (stopped d.durable)) w.packets w.trace _ (s.durable _ (redisk w.members call.node (stopped d.durable)))

-- a node knows what it knew, and keeps what it kept; it may begin to forget its own keys
record IsAlike (n : ℕ) (old new : Durable) : Type 0 where
  known_is : (q : Key) → known new q ≡ known old q
  keys : new.keys ≡ old.keys
  next : new.next ≡ old.next
  home : (new.home ≡ old.home) ⊎ (new.home ≡ Some n)

alike_keeps : (m : Meanings) (c : Cluster) (w : World) (e : WorldEvent) (n : ℕ) (p : Member) (entry : Option Record) (asked : Option Token) → opening_of entry ≡ None → IsAlike n (durable_at w n) p.node.durable → Inv m c w → Inv m c (becomes w e n p entry asked)
alike_keeps m c w e n p entry asked none alike inv =
    let j = inv.sane in
    let r = redisk w.members n p in
    let new = disks_of (set_member w.members n p) in
    let f : (y : ℕ) (q : Key) → known (new y) q ≡ known (durable_at w y) q = λ y q. ⊎_elim (λ (e : y ≡ n). ap (λ z. known (new z) q) e ∙ ap (λ (d : Durable). known d q) r.mine ∙ alike.known_is q ∙ ap (λ z. known (durable_at w z) q) (sym e)) (λ (e : y ≢ n). ap (λ (d : Durable). known d q) (r.others y e)) (cases_eq y n) in
    let k : (y : ℕ) → (new y).keys ≡ (durable_at w y).keys = λ y. ⊎_elim (λ (e : y ≡ n). ap (λ z. (new z).keys) e ∙ ap (λ (d : Durable). d.keys) r.mine ∙ alike.keys ∙ ap (λ z. (durable_at w z).keys) (sym e)) (λ (e : y ≢ n). ap (λ (d : Durable). d.keys) (r.others y e)) (cases_eq y n) in
    let s : (y : ℕ) → (new y).next ≡ (durable_at w y).next = λ y. ⊎_elim (λ (e : y ≡ n). ap (λ z. (new z).next) e ∙ ap (λ (d : Durable). d.next) r.mine ∙ alike.next ∙ ap (λ z. (durable_at w z).next) (sym e)) (λ (e : y ≢ n). ap (λ (d : Durable). d.next) (r.others y e)) (cases_eq y n) in
    let h : (y : ℕ) → ((new y).home ≡ (durable_at w y).home) ⊎ ((new y).home ≡ Some y) = λ y. ⊎_elim
    (λ (e : y ≡ n). ⊎_elim
    (λ (same : p.node.durable.home ≡ (durable_at w n).home). inl (ap (λ z. (new z).home) e ∙ ap (λ (d : Durable). d.home) r.mine ∙ same ∙ ap (λ z. (durable_at w z).home) (sym e)))
    (λ (own : p.node.durable.home ≡ Some n). inr (ap (λ z. (new z).home) e ∙ ap (λ (d : Durable). d.home) r.mine ∙ own ∙ ap Some (sym e)))
    alike.home)
    (λ (e : y ≢ n). inl (ap (λ (d : Durable). d.home) (r.others y e)))
    (cases_eq y n) in
    inv_by m c (set_member w.members n p) w.packets w.trace _ (subst (λ o. Sane m c new w.packets (with_last (openings_of w.trace) o) (commits_in w)) (sym none) (record {
      lives = λ q. subst (λ (g : ℕ → Option KeyState). Life g (granted w.packets q) (acked w.packets q) (opened (openings_of w.trace) q) ((store_of m (commits_in w)).map q)) (λ i y. sym (f y q) i) (j.lives q);
      unmade = λ y q u. f y q ∙ j.unmade y q (⊎_elim (λ (l : (new q.home).next ≤ q.serial). inl (omega (arith, s q.home))) (λ (z : q.serial ≡ 0). inr z) u);
      made = λ q u. omega (arith, s q.home, j.made q u);
      lawful = j.lawful;
      counts = λ y. omega (arith, s y, j.counts y);
      own = λ y x is. ⊎_elim (λ (same : (new y).home ≡ (durable_at w y).home). j.own y x (sym same ∙ is)) (λ (own : (new y).home ≡ Some y). sym (same_Some y x (sym own ∙ is))) (h y);
      full = λ y none q home some less is. ⊎_elim
          (λ (same : (new y).home ≡ (durable_at w y).home). j.full y (sym same ∙ none) q home some (omega (arith, less, s y)) (ap (λ ks. get ks q) (sym (k y)) ∙ is))
          (λ (own : (new y).home ≡ Some y). absurd (let no : Some y ≡ None = sym own ∙ none in cc))
          (h y);
    }))

same_alike : (n : ℕ) (old new : Durable) → new ≡ old → IsAlike n old new
same_alike n old new is = record { known_is = λ q. ap (λ (d : Durable). known d q) is; keys = ap (λ (d : Durable). d.keys) is; next = ap (λ (d : Durable). d.next) is; home = inl (ap (λ (d : Durable). d.home) is) }

-- a start, by which a node may begin to forget: it knows what it knew
forgets_known : (d : Durable) (n boot : ℕ) (home : Option ℕ) → d.home ≡ home → ((h : ℕ) → d.home ≡ Some h → h ≡ n) → (d.home ≡ None → (q : Key) → q.home ≡ n → 0 < q.serial → q.serial < d.next → get d.keys q ≢ None)
    → (q : Key) → known (record d { boot = boot; home = Some n }) q ≡ known d q
forgets_known d n boot None is own full q = known_begun d n q is (λ given.
    let a = and_parts (q.home == n) (nat_lt 0 q.serial && nat_lt q.serial d.next) given in
    let b = and_parts (nat_lt 0 q.serial) (nat_lt q.serial d.next) a.1 in
    full is q (eqb-true q.home n a.0) (ltb-true 0 q.serial b.0) (ltb-true q.serial d.next b.1))
forgets_known d n boot (Some h) is own full q = ap (λ x. known (record d { home = x }) q) (ap Some (sym (own h is)) ∙ sym is)

start_alike : (m : Meanings) (c : Cluster) (w : World) (n : ℕ) → Inv m c w → IsAlike n (durable_at w n) (applied (record_of_start c w n) (durable_at w n))
start_alike m c w n inv =
    let j = inv.sane in
    let d = durable_at w n in
    cond_both (setting_of c n ((durable_at w n).boot + 1)).forget (Forgets n (d.boot + 1)) (Boot (d.boot + 1)) (λ r. IsAlike n d (applied r d))
    (λ _. record { known_is = forgets_known d n (d.boot + 1) d.home refl (j.own n) (j.full n); keys = refl; next = refl; home = inr refl })
    (λ _. record { known_is = λ q. refl; keys = refl; next = refl; home = inl refl })

-- a silent step: what it made durable, and nothing where it has no record
silent_by : (m : Meanings) (c : Cluster) (w : World) (e : WorldEvent) (call : Call) (d : Decision) → SoundAt m c w call.node d → Inv m c w → (o : Option Record) → d.entry ≡ o
    → Inv m c (record { members = set_member w.members call.node (record { up = true; node = left d }); packets = w.packets; trace = w.trace ++ quiet_line w e call.node (token_of_call c w call) o (commit_with o d.commit) ∷ [] })
silent_by m c w e call d s inv None is =
    let same : d.durable ≡ durable_at w call.node = s.applies ∙ ap (λ o. applied_if o (durable_at w call.node)) is in
    alike_keeps m c w e call.node (record { up = true; node = left d }) None (token_of_call c w call) refl (same_alike call.node (durable_at w call.node) d.durable same) inv
silent_by m c w e call d s inv (Some r) is =
    let p : Member = record { up = true; node = left d } in
    let new = disks_of (set_member w.members call.node p) in
    inv_by m c (set_member w.members call.node p) w.packets w.trace _ (subst (λ o. Sane m c new w.packets (with_last (openings_of w.trace) (opening_of o)) (with_last (commits_in w) d.commit)) is (s.durable _ (redisk w.members call.node p)))

silent_keeps : (m : Meanings) (c : Cluster) (w : World) (e : WorldEvent) (call : Call) (d : Decision) → SoundAt m c w call.node d → Inv m c w → Inv m c (silent c w e call d)
silent_keeps m c w e call d s inv = silent_by m c w e call d s inv d.entry refl

start_opens : (c : Cluster) (w : World) (n : ℕ) → opening_of (Some (record_of_start c w n)) ≡ None
start_opens c w n = cond_both (setting_of c n ((durable_at w n).boot + 1)).forget (Forgets n ((durable_at w n).boot + 1)) (Boot ((durable_at w n).boot + 1)) (λ r. opening_of (Some r) ≡ None) (λ _. refl) (λ _. refl)

-- ---- an event

module _ (m : Meanings) (touches : AllTouchOnlyHanded m) (c : Cluster) where
  sound_by : (w : World) (n : ℕ) (moment : Moment) (i : Input) → Inv m c w → IsSentIn w.packets i → SoundAt m c w n (decided (m n (durable_at w n).boot) (setting_of c n (durable_at w n).boot) (w.members n).node moment i)
  sound_by w n moment (Ask token r) j sent = decide_sound m touches c (disks_of w.members) w.packets (openings_of w.trace) (commits_in w) j.sane n (w.members n).node refl moment (Ask token r) sent
  sound_by w n moment (Incoming p) j sent = decide_sound m touches c (disks_of w.members) w.packets (openings_of w.trace) (commits_in w) j.sane n (w.members n).node refl moment (Incoming p) sent
  sound_by w n moment Poke j sent = decide_sound m touches c (disks_of w.members) w.packets (openings_of w.trace) (commits_in w) j.sane n (w.members n).node refl moment Poke sent
  sound_by w n moment Tick j sent = decide_sound m touches c (disks_of w.members) w.packets (openings_of w.trace) (commits_in w) j.sane n (w.members n).node refl moment Tick sent
  sound_by w n moment (Move k to) j sent = decide_sound m touches c (disks_of w.members) w.packets (openings_of w.trace) (commits_in w) j.sane n (w.members n).node refl moment (Move k to) sent

  pub sound_at : (w : World) (call : Call) → Inv m c w → IsReady c w call → SoundAt m c w call.node (decision m c w call)
  sound_at w call j r = sound_by w call.node call.moment call.input j r.sent

  pub happens_keeps : (w : World) (e : WorldEvent) → Inv m c w → Inv m c (happens m c w e)
  happens_keeps w e j = behind m c w (Inv m c) e (record {
    still = j;
    whole_by = λ call is r. whole_keeps m c w e call (decision m c w call) (sound_at w call j r);
    torn_by = λ call is r. torn_keeps m c w e call (decision m c w call) (sound_at w call j r);
    silent_by = λ call is r. silent_keeps m c w e call (decision m c w call) (sound_at w call j r) j;
    halt_by = λ n asked _. alike_keeps m c w e n (stopped (durable_at w n)) None asked refl (same_alike n (durable_at w n) (durable_at w n) refl) j;
    boots_by = λ n p may none same. alike_keeps m c w e n p (Some (record_of_start c w n)) None (start_opens c w n) (subst (IsAlike n (durable_at w n)) (sym same) (start_alike m c w n j)) j;
  })

  pub run_keeps : (w : World) (es : List WorldEvent) → Inv m c w → Inv m c (run m c w es)
  run_keeps w es j = behind_all m c (Inv m c) (Inv m c) happens_keeps (λ v e i _. happens_keeps v e i) w es j j

blank_knows : (q : Key) → known blank q ≡ None
blank_knows q = plainly_known blank q refl ∙ get-empty key_cmp q

pub at_first : (m : Meanings) (c : Cluster) → Inv m c nothing_happened
at_first m c = record {
  sane = record {
    lives = λ q. record {
      phase = Unborn;
      stands = λ x. blank_knows q;
      within = omega arith;
      map = refl;
      grant = λ e s f t h. absurd h;
      apart = λ e s f t h. absurd h;
      ack = λ e y h. absurd h.1;
      agree = λ e s u h i. absurd h;
      reached = λ e s h. absurd h;
      grant_opens = λ e s f t h. absurd h;
      sent_opens = λ n e s t h. absurd (let no : None ≡ Some (Sent e s t) = sym (blank_knows q) ∙ h in cc);
      sent_apart = λ n e s t h. absurd (let no : None ≡ Some (Sent e s t) = sym (blank_knows q) ∙ h in cc);
    };
    unmade = λ x q h. blank_knows q;
    made = λ q h. absurd (cc);
    lawful = tt;
    counts = λ x. omega arith;
    own = λ x h is. absurd (let no : None ≡ Some h = is in cc);
    full = λ x none q home some less. absurd (omega (arith, some, less));
  };
}

-- what the invariant says of a world
module _ (m : Meanings) (c : Cluster) (w : World) (j : Inv m c w) where
  pub copies : (k : Key) (x y : ℕ) (s u : Session) → IsLiveAt w k x s → IsLiveAt w k y u → x ≡ y
  copies k x y s u a b = lives_once _ _ _ _ _ (j.sane.lives k) x y s u a b

  pub actives : (k : Key) (x y e f : ℕ) (s u : Session) → states w k x ≡ Some (Active e s) → states w k y ≡ Some (Active f u) → x ≡ y
  actives k x y e f s u a b = copies k x y s u (subst (λ st. IsLive (states w k) st s) (sym a) refl) (subst (λ st. IsLive (states w k) st u) (sym b) refl)

  is_open : (k : Key) (e : ℕ) (s : Session) → IsOpening w k e s → opened (openings_of w.trace) k e s
  is_open k e s h = ⊎_elim (λ (o : opened (openings_of w.trace) k e s). o) (λ (g : (from to : ℕ) × granted w.packets k e s from to). (j.sane.lives k).grant_opens e s g.0 g.1 g.2) h

  pub agree : (k : Key) (e : ℕ) (s u : Session) → IsOpening w k e s → IsOpening w k e u → s ≡ u
  agree k e s u a b = (j.sane.lives k).agree e s u (is_open k e s a) (is_open k e u b)

  pub map_has : (k : Key) (x : ℕ) (s : Session) → IsLiveAt w k x s → (store_of m (commits_in w)).map k ≡ Some s
  map_has k x s a = map_has_live _ _ _ _ _ (j.sane.lives k) x s a

  pub map_only : (k : Key) (s : Session) → (store_of m (commits_in w)).map k ≡ Some s → (x : ℕ) × IsLiveAt w k x s
  map_only k s h = live_of_map _ _ _ _ _ (j.sane.lives k) s h
