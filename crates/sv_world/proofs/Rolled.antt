-- Where nodes are started in turn, each that runs was told of all whose sessions live.
use Rattle.sv_world.proofs.Prelude.{◌≡◌, ◌≢◌, ℕ, ◌<◌, ◌≤◌, true, false, Option, Some, None, List, [], ◌∷◌, arith, refl, sym, ap, ◌∙◌, subst, inl, inr, ⊎_elim}
use Rattle.sv_world.proofs.Prelude.{IfSome, cases_lt, same_Some, Meanings, AllTouchOnlyHanded, Durable, left, Call, WorldEvent, session_of, start_in, IsTurn}
use Rattle.sv_world.proofs.Prelude.{AreInTurn, IsUnmade, Cluster, Member, World, durable_at, set_member, stopped, setting_of, decision, happens}
use Rattle.sv_world.proofs.Prelude.{nothing_happened, KnowsAll, AlwaysKnows}
use Rattle.std.proofs.Common.{◌+◌}
use Rattle.sv_world.proofs.Events.{behind, start_boot}
use Rattle.sv_world.proofs.OneKey.{is_unborn}
use Rattle.sv_world.proofs.Runs.{Inv, disks_of, happens_keeps, at_first}
use Rattle.sv_world.proofs.Thrift.{decide_thrifty}
use Rattle.sv_world.proofs.Waiting.{by_node}

module _ (m : Meanings) (c : Cluster) where
  -- what is told of one node beside another: whoever runs was told of each that was ever started
  abbrev Told : ℕ → Member → ℕ → Member → Type 0
  Told x p y q = p.up ≡ true → 0 < q.node.durable.boot → y < c.nodes x p.node.durable.boot

  -- a node that was never started doesn't run, and has made no session
  abbrev Starts : Member → Type 0
  Starts p = (p.up ≡ true → 0 < p.node.durable.boot) × (p.node.durable.boot ≡ 0 → p.node.durable.next ≡ 1)

  record Rolls (members : ℕ → Member) : Type 0 where
    told : (x y : ℕ) → Told x (members x) y (members y)
    starts : (x : ℕ) → Starts (members x)

  move : (x y b x' y' b' : ℕ) → x ≡ x' → y ≡ y' → b ≡ b' → y' < c.nodes x' b' → y < c.nodes x b
  move x y b x' y' b' e f g h = subst (λ z. z < c.nodes x b) (sym f) (subst (λ z. y' < c.nodes z b) (sym e) (subst (λ z. y' < c.nodes x' z) (sym g) h))

  module _ (members : ℕ → Member) (n : ℕ) (p : Member) (r : Rolls members) where
    abbrev old : ℕ
    old = (members n).node.durable.boot

    -- one node has changed
    rolls_by : (p.up ≡ true → 0 < p.node.durable.boot → n < c.nodes n p.node.durable.boot) → ((y : ℕ) → y ≢ n → p.up ≡ true → 0 < (members y).node.durable.boot → y < c.nodes n p.node.durable.boot)
        → ((x : ℕ) → x ≢ n → (members x).up ≡ true → 0 < p.node.durable.boot → n < c.nodes x (members x).node.durable.boot) → Starts p → Rolls (set_member members n p)
    rolls_by own knows known starts = record {
      told = λ x y. by_node (λ z q. Told z q y (set_member members n p y)) members n p x
          (λ e. by_node (λ z q. Told x p z q) members n p y
          (λ f runs more. move x y p.node.durable.boot n n p.node.durable.boot e f refl (own runs more))
          (λ f runs more. move x y p.node.durable.boot n y p.node.durable.boot e refl refl (knows y f runs more)))
          (λ e. by_node (λ z q. Told x (members x) z q) members n p y
          (λ f runs more. move x y (members x).node.durable.boot x n (members x).node.durable.boot refl f refl (known x e runs more))
          (λ f runs more. r.told x y runs more));
      starts = λ x. by_node (λ z q. Starts q) members n p x (λ e. starts) (λ e. r.starts x);
    }

    -- it has the number that it had, and runs only if it ran
    same_rolls : p.node.durable.boot ≡ old → (p.up ≡ true → (members n).up ≡ true) → (p.node.durable.boot ≡ 0 → p.node.durable.next ≡ 1) → Rolls (set_member members n p)
    same_rolls same up next = rolls_by
        (λ runs more. move n n p.node.durable.boot n n old refl refl same (r.told n n (up runs) (omega (arith, same, more))))
        (λ y ne runs more. move n y p.node.durable.boot n y old refl refl same (r.told n y (up runs) more))
        (λ x ne runs more. r.told x n runs (omega (arith, same, more)))
        ((λ runs. omega (arith, same, (r.starts n).0 (up runs))), next)

    -- it was started
    start_rolls : p.node.durable.boot ≡ old + 1 → n < c.nodes n (old + 1) → ((y : ℕ) → 0 < (members y).node.durable.boot → y < c.nodes n (old + 1)) → ((x : ℕ) → (members x).up ≡ true → n < c.nodes x (members x).node.durable.boot)
        → Rolls (set_member members n p)
    start_rolls next inside knows known = rolls_by
        (λ runs more. move n n p.node.durable.boot n n (old + 1) refl refl next inside)
        (λ y ne runs more. move n y p.node.durable.boot n y (old + 1) refl refl next (knows y more))
        (λ x ne runs more. known x runs)
        ((λ runs. omega (arith, next)), (λ none. absurd (omega (arith, next, none))))

  record Rolled (w : World) : Type 0 where
    rolls : Rolls w.members

  step_boot : (w : World) (call : Call) → (decision m c w call).durable.boot ≡ (durable_at w call.node).boot
  step_boot w call = (decide_thrifty m c call.node (w.members call.node).node call.moment call.input).boot

  turn_of : (w : World) (n : ℕ) (o : Option ℕ) → o ≡ Some n → IfSome o (IsTurn c w.members) → IsTurn c w.members n
  turn_of w n None is h = absurd (let no : None ≡ Some n = is in cc)
  turn_of w n (Some x) is h = subst (IsTurn c w.members) (same_Some x n is) h

  happens_rolls : (w : World) (e : WorldEvent) → IfSome (start_in e) (IsTurn c w.members) → Rolled w → Rolled (happens m c w e)
  happens_rolls w e turn j = behind m c w Rolled e (record {
    still = j;
    whole_by = λ call is r. record { rolls = same_rolls w.members call.node (record { up = true; node = left (decision m c w call) }) j.rolls (step_boot w call) (λ _. r.up) (λ none. absurd (omega (arith, none, step_boot w call, (j.rolls.starts call.node).0 r.up))) };
    torn_by = λ call is r. record { rolls = same_rolls w.members call.node (stopped (decision m c w call).durable) j.rolls (step_boot w call) (λ _. r.up) (λ none. absurd (omega (arith, none, step_boot w call, (j.rolls.starts call.node).0 r.up))) };
    silent_by = λ call is r. record { rolls = same_rolls w.members call.node (record { up = true; node = left (decision m c w call) }) j.rolls (step_boot w call) (λ _. r.up) (λ none. absurd (omega (arith, none, step_boot w call, (j.rolls.starts call.node).0 r.up))) };
    halt_by = λ n asked _. record { rolls = same_rolls w.members n (stopped (durable_at w n)) j.rolls refl (λ up. absurd (let no : false ≡ true = up in cc)) (j.rolls.starts n).1 };
    boots_by = λ n p may none same.
        let t = turn_of w n (start_in e) may.of turn in
        record { rolls = start_rolls w.members n p j.rolls (ap (λ (d : Durable). d.boot) same ∙ start_boot (setting_of c n ((durable_at w n).boot + 1)) (durable_at w n)) may.inside t.knows t.known };
  })

  -- a key of a node of which one that runs wasn't told is of one that was never started, and so has made no session
  rolled_knows : (w : World) → Inv m c w → Rolled w → KnowsAll m c w
  rolled_knows w inv j x k up le =
      let home = k.home in
      let next : (durable_at w home).next ≡ 1 = ⊎_elim
      (λ (more : 0 < (durable_at w home).boot). let told = j.rolls.told x home up more in absurd (omega (arith, told, le)))
      (λ (none : (durable_at w home).boot ≤ 0). (j.rolls.starts home).1 (omega (arith, none)))
      (cases_lt 0 (durable_at w home).boot) in
      let never : IsUnmade (disks_of w.members) k = ⊎_elim (λ (l : 0 < k.serial). inl (omega (arith, l, next))) (λ (z : k.serial ≤ 0). inr (omega (arith, z))) (cases_lt 0 k.serial) in
      let l = inv.sane.lives k in
      l.map ∙ ap session_of (is_unborn l.phase _ l.stands (λ y. inv.sane.unmade y k never))

  module _ (touches : AllTouchOnlyHanded m) where
    knows_on : (w : World) (es : List WorldEvent) → AreInTurn m c w es → Inv m c w → Rolled w → AlwaysKnows m c w es
    knows_on w [] turns inv j = tt
    knows_on w (e ∷ es) turns inv j = (rolled_knows w inv j, knows_on (happens m c w e) es turns.1 (happens_keeps m touches c w e inv) (happens_rolls w e turns.0 j))

    pub in_turn : (es : List WorldEvent) → AreInTurn m c nothing_happened es → AlwaysKnows m c nothing_happened es
    in_turn es turns = knows_on nothing_happened es turns (at_first m c) (record { rolls = record { told = λ x y up. absurd (let no : false ≡ true = up in cc); starts = λ x. ((λ up. absurd (let no : false ≡ true = up in cc)), (λ _. refl)) } })
