-- The search for a part, step by step.
use Rattle.std.proofs.Common.{◌≡◌, refl, sym, ap, ◌∙◌, ℕ, ◌+◌, ◌-◌, ◌<◌, ◌≤◌, List, Option, None, arith}
use Rattle.sv_web.specs.Multipart.{found, found_by}
use Rattle.sv_web.specs.declared.multipart.Search.{Search}

module _ (delimiter name : List ℕ) where
  -- a step of a search that has taken fewer than 64
  pub stepped : (search : Search) (i : ℕ) (rest text : List ℕ) → i < 64 → found (64 - i) rest delimiter name ≡ found 64 text delimiter name
      → ((n : ℕ) → found (n + 1) rest delimiter name ≡ found_by search n delimiter name) → found_by search (63 - i) delimiter name ≡ found 64 text delimiter name
  stepped search i rest text few so step =
      let left : 63 - i + 1 ≡ 64 - i = omega (arith, few) in
      sym (step (63 - i)) ∙ ap (λ (k : ℕ). found k rest delimiter name) left ∙ so

  none_left : (k : ℕ) (rest : List ℕ) → k ≡ 0 → None ≡ found k rest delimiter name
  unfolding found
  none_left k rest is = ap (λ (k : ℕ). found k rest delimiter name) (sym is)

  -- all steps are taken
  pub ended : (i : ℕ) (rest text : List ℕ) → 64 ≤ i → found (64 - i) rest delimiter name ≡ found 64 text delimiter name → None ≡ found 64 text delimiter name
  ended i rest text all so = none_left (64 - i) rest (omega (arith, all)) ∙ so
