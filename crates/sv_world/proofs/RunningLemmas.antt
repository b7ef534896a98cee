-- While nodes run: they go on, under the same numbers; and packets stay where they are in the list of all that were sent.
use Rattle.sv_world.proofs.Prelude.{◌≡◌, ◌≢◌, ℕ, ◌<◌, ◌≤◌, true, Option, Some, None, List, [], ◌∷◌, ◌++◌, arith, refl, sym, ap, ◌∙◌, subst, inl, inr, ⊎_elim}
use Rattle.sv_world.proofs.Prelude.{append-nil, append_assoc, length-append, slice_get, option_map, filter_map, cons_option, same_Some, cases_eq, Key, Moment}
use Rattle.sv_world.proofs.Prelude.{Packet, Meanings, left, In, addressee, sends_in, WorldEvent, Deliver, Call, known, states, Cluster, Member, World}
use Rattle.sv_world.proofs.Prelude.{durable_at, whole, decision, steps, happens, run, call_of, IsStep, AreSteps, nodes_told, Runs, AllRun}
use Rattle.std.proofs.Common.{◌⊎◌, zero, suc, length}
use Rattle.sv_model.specs.declared.input.Input.TheVariants as input
use Rattle.sv_world.proofs.Events.{behind}
use Rattle.sv_world.proofs.Keys.{in_left, got}
use Rattle.sv_world.proofs.ProgressLemmas.{stepping, stepped_by, ready_by, boot_kept}
use Rattle.sv_world.proofs.SentLemmas.{in_sent}
use Rattle.sv_world.proofs.Waiting.{by_node}

-- ---- places in a list that grows

pub kept_at : {A : Type 0} (xs ys : List A) (i : ℕ) (x : A) → slice_get xs i ≡ Some x → slice_get (xs ++ ys) i ≡ Some x
kept_at [] ys i x e = absurd (cc)
kept_at (y ∷ xs) ys zero x e = e
kept_at (y ∷ xs) ys (suc i) x e = kept_at xs ys i x e

-- it stands in the list, at no place below this one
pub record HasPlace {A : Type 0} (x : A) (from : ℕ) (xs : List A) : Type 0 where
  pub place : ℕ
  pub since : from ≤ place
  pub at : slice_get xs place ≡ Some x

place_of : {A : Type 0} (x : A) (ys : List A) → In x ys → HasPlace x 0 ys
place_of x [] i = absurd i
place_of x (y ∷ ys) i = ⊎_elim
    (λ (e : y ≡ x). record { place = 0; since = omega arith; at = ap (λ z. Some z) e })
    (λ (t : In x ys). let r = place_of x ys t in record { place = suc r.place; since = omega arith; at = r.at })
    i

pub place_behind : {A : Type 0} (x : A) (xs ys : List A) → In x ys → HasPlace x (length xs) (xs ++ ys)
place_behind x [] ys i = place_of x ys i
place_behind x (z ∷ xs) ys i = let r = place_behind x xs ys i in record { place = suc r.place; since = omega (arith, r.since); at = r.at }

pub place_in : {A : Type 0} (x : A) (from : ℕ) (xs : List A) → HasPlace x from xs → In x xs
place_in x from xs h = got xs h.place x h.at

in_cons : {B : Type 0} (o : Option B) (y : B) (ys : List B) → o ≡ Some y → In y (cons_option o ys)
in_cons None y ys e = absurd (cc)
in_cons (Some x) y ys e = inl (same_Some x y e)

in_more : {B : Type 0} (o : Option B) (y : B) (ys : List B) → In y ys → In y (cons_option o ys)
in_more None y ys t = t
in_more (Some x) y ys t = inr t

pub in_mapped : {A B : Type 0} (f : A → Option B) (xs : List A) (x : A) (y : B) → In x xs → f x ≡ Some y → In y (filter_map f xs)
in_mapped f [] x y i e = absurd i
in_mapped f (z ∷ xs) x y i e = ⊎_elim (λ (same : z ≡ x). in_cons (f z) y (filter_map f xs) (ap f same ∙ e)) (λ (t : In x xs). in_more (f z) y (filter_map f xs) (in_mapped f xs x y t e)) i

-- ---- worlds whose packets only grow

pub record Grows (w v : World) : Type 0 where
  pub more : List Packet
  pub is : v.packets ≡ w.packets ++ more

none_more : (w v : World) → v.packets ≡ w.packets → Grows w v
none_more w v is = record { more = []; is = is ∙ sym (append-nil w.packets) }

then_more : (w v u : World) → Grows w v → Grows v u → Grows w u
then_more w v u a b = record { more = a.more ++ b.more; is = b.is ∙ ap (λ ps. ps ++ b.more) a.is ∙ append_assoc w.packets a.more b.more }

pub still_in : (w v : World) (p : Packet) → Grows w v → In p w.packets → In p v.packets
still_in w v p g i = subst (In p) (sym g.is) (in_left p w.packets g.more i)

pub still_at : (w v : World) (i : ℕ) (p : Packet) → Grows w v → slice_get w.packets i ≡ Some p → slice_get v.packets i ≡ Some p
still_at w v i p g e = ap (λ ps. slice_get ps i) g.is ∙ kept_at w.packets g.more i p e

pub still_placed : (w v : World) (p : Packet) (from : ℕ) → Grows w v → HasPlace p from w.packets → HasPlace p from v.packets
still_placed w v p from g h = record { place = h.place; since = h.since; at = still_at w v h.place p g h.at }

pub longer : (w v : World) → Grows w v → length w.packets ≤ length v.packets
longer w v g = omega (arith, ap (λ (ps : List Packet). length ps) g.is, length-append w.packets g.more)

pub placed_since : (p : Packet) (a b : ℕ) (ps : List Packet) → a ≤ b → HasPlace p b ps → HasPlace p a ps
placed_since p a b ps le h = record { place = h.place; since = omega (arith, le, h.since); at = h.at }

module _ (m : Meanings) (c : Cluster) where
  pub happens_grows : (w : World) (e : WorldEvent) → Grows w (happens m c w e)
  happens_grows w e = behind m c w (Grows w) e (record {
    still = none_more w w refl;
    whole_by = λ call is r. record { more = sends_in (decision m c w call).outputs; is = refl };
    torn_by = λ call is r. record { more = []; is = sym (append-nil w.packets) };
    silent_by = λ call is r. record { more = []; is = sym (append-nil w.packets) };
    halt_by = λ n asked _. record { more = []; is = sym (append-nil w.packets) };
    boots_by = λ n p may none same. record { more = []; is = sym (append-nil w.packets) };
  })

  pub run_grows : (w : World) (es : List WorldEvent) → Grows w (run m c w es)
  run_grows w [] = none_more w w refl
  run_grows w (e ∷ es) = then_more w (happens m c w e) (run m c (happens m c w e) es) (happens_grows w e) (run_grows (happens m c w e) es)

  -- ---- nodes that run go on, with the numbers of their starts

  pub boots_stay : (w : World) (e : WorldEvent) → IsStep e → (n : ℕ) → (durable_at (happens m c w e) n).boot ≡ (durable_at w n).boot
  boots_stay w e s n = stepping m c (λ v. (durable_at v n).boot ≡ (durable_at w n).boot) w e s refl
      (λ call is r. by_node (λ y z. z.node.durable.boot ≡ (durable_at w y).boot) w.members call.node (record { up = true; node = left (decision m c w call) }) n
      (λ same. boot_kept m c w call ∙ ap (λ y. (durable_at w y).boot) (sym same)) (λ _. refl))

  pub boots_along : (es : List WorldEvent) (w : World) → AreSteps es → (n : ℕ) → (durable_at (run m c w es) n).boot ≡ (durable_at w n).boot
  boots_along [] w s n = refl
  boots_along (e ∷ es) w s n = boots_along es (happens m c w e) s.1 n ∙ boots_stay w e s.0 n

  pub runs_on : (nodes : ℕ) (w : World) (e : WorldEvent) → IsStep e → AllRun c nodes w → AllRun c nodes (happens m c w e)
  runs_on nodes w e s all = stepping m c (AllRun c nodes) w e s all (λ call is r.
      let member : Member = record { up = true; node = left (decision m c w call) } in
      record {
        up = λ n. by_node (λ y z. y < nodes → z.up ≡ true) w.members call.node member n (λ _ _. refl) (λ _. all.up n);
        told = λ n. by_node (λ y z. y < nodes → c.nodes y z.node.durable.boot ≡ nodes) w.members call.node member n
            (λ same inside. ap (λ b. c.nodes n b) (boot_kept m c w call ∙ ap (λ y. (durable_at w y).boot) (sym same)) ∙ all.told n inside) (λ _. all.told n);
        only = λ n. by_node (λ y z. z.up ≡ true → y < nodes) w.members call.node member n (λ same _. subst (λ y. y < nodes) (sym same) (all.only call.node r.up)) (λ _. all.only n);
      })

  pub runs_along : (nodes : ℕ) (es : List WorldEvent) (w : World) → AreSteps es → AllRun c nodes w → AllRun c nodes (run m c w es)
  runs_along nodes [] w s all = all
  runs_along nodes (e ∷ es) w s all = runs_along nodes es (happens m c w e) s.1 (runs_on nodes w e s.0 all)

  pub one_runs : (w : World) (e : WorldEvent) → IsStep e → (n : ℕ) → Runs c w n → Runs c (happens m c w e) n
  one_runs w e s n h = stepping m c (λ v. Runs c v n) w e s h (λ call is r.
      let member : Member = record { up = true; node = left (decision m c w call) } in
      record {
        up = by_node (λ y z. z.up ≡ true) w.members call.node member n (λ _. refl) (λ _. h.up);
        there = by_node (λ y z. n < c.nodes n z.node.durable.boot) w.members call.node member n
            (λ same. subst (λ b. n < c.nodes n b) (sym (boot_kept m c w call ∙ ap (λ y. (durable_at w y).boot) (sym same))) h.there) (λ _. h.there);
      })

  -- of two nodes one knows of a key what it knew
  pub one_moves : (w : World) (e : WorldEvent) → IsStep e → (k : Key) (x y : ℕ) → x ≢ y → (states (happens m c w e) k x ≡ states w k x) ⊎ (states (happens m c w e) k y ≡ states w k y)
  one_moves w e s k x y apart = stepping m c (λ v. (states v k x ≡ states w k x) ⊎ (states v k y ≡ states w k y)) w e s (inl refl) (λ call is r.
      let member : Member = record { up = true; node = left (decision m c w call) } in
      let v = whole c w e call (decision m c w call) in
      let keeps : (z : ℕ) → z ≢ call.node → states v k z ≡ states w k z = λ z ne. by_node (λ a b. a ≢ call.node → known b.node.durable k ≡ states w k a) w.members call.node member z (λ same other. absurd (other same)) (λ _ _. refl) ne in
      ⊎_elim (λ (same : x ≡ call.node). inr (keeps y (λ also. apart (same ∙ sym also)))) (λ (ne : x ≢ call.node). inl (keeps x ne)) (cases_eq x call.node))

  -- ---- a packet comes where its addressee runs

  pub delivery : (P : World → Type 0) (w : World) (moment : Moment) (place : ℕ) (p : Packet) → Runs c w (addressee p) → slice_get w.packets place ≡ Some p
      → P (whole c w (Deliver moment place) (record { node = addressee p; moment = moment; input = input.Packet p }) (decision m c w (record { node = addressee p; moment = moment; input = input.Packet p })))
      → P (happens m c w (Deliver moment place))
  delivery P w moment place p r at h =
      let call : Call = record { node = addressee p; moment = moment; input = input.Packet p } in
      let asks : call_of w.packets (Deliver moment place) ≡ Some call = ap (option_map (λ (q : Packet). record { node = addressee q; moment = moment; input = input.Packet q })) at in
      let ready = ready_by c w call r (in_sent p w.packets (got w.packets place p at)) refl in
      subst (λ o. P (steps m c w (Deliver moment place) o)) (sym asks) (subst P (sym (stepped_by m c w (Deliver moment place) call ready)) h)

-- one of the nodes runs
pub runs_one : (c : Cluster) (nodes : ℕ) (w : World) → AllRun c nodes w → (n : ℕ) → n < nodes → Runs c w n
runs_one c nodes w all n inside = record { up = all.up n inside; there = subst (λ x. n < x) (sym (all.told n inside)) inside }

-- and was told of each other
pub told_one : (c : Cluster) (nodes : ℕ) (w : World) → AllRun c nodes w → (n x : ℕ) → n < nodes → x < nodes → x < nodes_told c w n
told_one c nodes w all n x inside there = subst (λ y. x < y) (sym (all.told n inside)) there
