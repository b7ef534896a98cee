use Rattle.sv_core.proofs.Prelude.{◌≡◌, ℕ, suc, ◌+◌, Bool, true, false, cond, List, [], ◌∷◌, ◌++◌, map, arith, sym, ap, subst, ◌∙◌, not, ◌==◌, filter}
use Rattle.sv_core.proofs.Prelude.{nat_tests, append_assoc, append-nil, map-append, filter-append, Setting, Key, Output, Send, Want, numbers}
use Rattle.sv_core.proofs.WaitingLemmas.{wants_below}
use Rattle.sv_core.proofs.kept.Kept.add_wants.Goals.{then-to-self+in_ok-push, else-to-self}
use Rattle.sv_core.proofs.kept.Kept.add_wants.Goals as goal

same : (m n : ℕ) → m ≡ n → (m == n) ≡ true
same m n is = grind (arith, nat_tests)

other : (m n : ℕ) → (m ≡ n → ⊥) → (m == n) ≡ false
other m n is = grind (arith, nat_tests)

module _ (set : Setting) (boot : ℕ) (k : Key) (want : ℕ) where
  -- the want to this node, where it is another one
  abbrev one : ℕ → Bool → List Output
  one n b = map (λ p. Send (Want set.node p k boot want)) (cond (not b) (n ∷ []) [])

  -- the wants to the nodes below the next number
  below : (n : ℕ) (b : Bool) → (n == set.node) ≡ b → wants_below set boot k want (n + 1) ≡ wants_below set boot k want n ++ one n b
  below n b is =
      subst (λ m. wants_below set boot k want m ≡ wants_below set boot k want n ++ one n b) {x = suc n} {y = n + 1} (omega arith)
      (ap (map (λ p. Send (Want set.node p k boot want))) (filter-append (λ p. not (p == set.node)) (numbers n) (n ∷ []))
      ∙ map-append (λ p. Send (Want set.node p k boot want)) (filter (λ p. not (p == set.node)) (numbers n)) (filter (λ p. not (p == set.node)) (n ∷ []))
      ∙ ap (λ c. wants_below set boot k want n ++ one n c) is)

  asks : (n : ℕ) (before outs pushed new : List Output) (o : Output) → (n == set.node) ≡ false → outs ≡ before ++ wants_below set boot k want n → new ≡ pushed → pushed ≡ outs ++ o ∷ []
      → o ≡ Send (Want set.node n k boot want) → new ≡ before ++ wants_below set boot k want (n + 1)
  asks n before outs pushed new o is so stays more sent =
      stays ∙ more ∙ (λ i. so i ++ sent i ∷ []) ∙ append_assoc before (wants_below set boot k want n) (Send (Want set.node n k boot want) ∷ []) ∙ ap (λ l. before ++ l) (sym (below n false is))

  skips : (n : ℕ) (before outs new : List Output) → (n == set.node) ≡ true → outs ≡ before ++ wants_below set boot k want n → new ≡ outs → new ≡ before ++ wants_below set boot k want (n + 1)
  skips n before outs new is so stays = stays ∙ so ∙ ap (λ l. before ++ l) (sym (append-nil (wants_below set boot k want n)) ∙ sym (below n true is))

pub loop-to-preserved : goal.loop-to-preserved
loop-to-preserved c =
    let k = c.args.self.now in
    let before = c.args.outputs.now.items in
    let outs = c.loop-to.outputs.items in
    elim c.if-to-self.branch [
      | then-to-self+in_ok-push w ↦ asks k.setting k.boot c.args.key c.args.want c.loop-to.to before outs _ _ _ (other c.loop-to.to k.setting.node w.if-to-self.true) c.loop-to.invariant
          (ap (λ v. v.items) w.outputs-is) w.in_ok-push.ensures.items w.want_to.ensures
      | else-to-self w ↦ skips k.setting k.boot c.args.key c.args.want c.loop-to.to before outs _ (same c.loop-to.to k.setting.node w.if-to-self.false) c.loop-to.invariant (ap (λ v. v.items) w.outputs-is)
    ]

pub returns : goal.returns
returns c =
    let k = c.args.self.now in
    let all : c.loop-to.to ≡ k.setting.nodes = omega arith in
    c.loop-to.invariant ∙ ap (λ n. c.args.outputs.now.items ++ wants_below k.setting k.boot c.args.key c.args.want n) all
