-- The context that is chosen, from the last context path to the first.
use Rattle.sv_mapping.proofs.Prelude.{◌≡◌, ◌↔◌, ℕ, zero, suc, ◌+◌, ◌<◌, ◌≤◌, ◌&&◌, true, false, cond, leb, List, [], ◌∷◌, length, drop, Option, Some, None}
use Rattle.sv_mapping.proofs.Prelude.{IsTrue, IsNone, IfSome, MatchOption, refl, sym, ap, ◌∙◌, subst, arith, option_map, get_or-drop, drop_more, false≢true}
use Rattle.sv_mapping.proofs.Prelude.{and_parts, nat_tests, Text, is_at_or_below, chosen_context}
use Rattle.sv_mapping.specs.Context.{context_at, IsChosen, HasNoContext, is_as_long, chosen_of}

module _ (path : Text) where
  module _ (c : Text) (cs : List Text) where
    none_before : is_at_or_below c path ≡ false → HasNoContext cs path → HasNoContext (c ∷ cs) path
    none_before e none zero l = e
    none_before e none (suc k) l = none k (omega arith)

    only_first : is_at_or_below c path ≡ true → HasNoContext cs path → IsChosen (c ∷ cs) path 0
    only_first e none = record { within = omega arith; below = e; longest = longest; first = λ other l below. absurd (omega arith) }
      where
        longest : (other : ℕ) → other < length (c ∷ cs) → IsTrue (is_at_or_below (context_at (c ∷ cs) other) path) → length (context_at (c ∷ cs) other) ≤ length c
        longest zero l below = omega arith
        longest (suc k) l below = absurd (false≢true (sym (none k (omega arith)) ∙ below))

    as_long : (later : ℕ) → is_at_or_below c path ≡ true → length (context_at cs later) ≤ length c → IsChosen cs path later → IsChosen (c ∷ cs) path 0
    as_long later e le chosen = record { within = omega arith; below = e; longest = longest; first = λ other l below. absurd (omega arith) }
      where
        longest : (other : ℕ) → other < length (c ∷ cs) → IsTrue (is_at_or_below (context_at (c ∷ cs) other) path) → length (context_at (c ∷ cs) other) ≤ length c
        longest zero l below = omega arith
        longest (suc k) l below = omega (arith, chosen.longest k (omega arith) below)

    stays : (later : ℕ) → (is_at_or_below c path && leb (length (context_at cs later)) (length c)) ≡ false → IsChosen cs path later → IsChosen (c ∷ cs) path (suc later)
    stays later e chosen = record { within = omega (arith, chosen.within); below = chosen.below; longest = longest; first = first }
      where
        shorter : IsTrue (is_at_or_below c path) → length c < length (context_at cs later)
        shorter below = let test : leb (length (context_at cs later)) (length c) ≡ false = ap (λ b. b && leb (length (context_at cs later)) (length c)) (sym below) ∙ e in grind (arith, nat_tests)

        longest : (other : ℕ) → other < length (c ∷ cs) → IsTrue (is_at_or_below (context_at (c ∷ cs) other) path) → length (context_at (c ∷ cs) other) ≤ length (context_at cs later)
        longest zero l below = omega (arith, shorter below)
        longest (suc k) l below = chosen.longest k (omega arith) below

        first : (other : ℕ) → other < suc later → IsTrue (is_at_or_below (context_at (c ∷ cs) other) path) → length (context_at (c ∷ cs) other) < length (context_at cs later)
        first zero l below = shorter below
        first (suc k) l below = chosen.first k (omega arith) below

    sound_of : (o : Option ℕ) → MatchOption o (HasNoContext cs path) (IsChosen cs path) → MatchOption (chosen_of (is_at_or_below c path) c cs o) (HasNoContext (c ∷ cs) path) (IsChosen (c ∷ cs) path)
    sound_of None none =
        elim (is_at_or_below c path) as (λ b. is_at_or_below c path ≡ b → MatchOption (cond b (Some 0) None) (HasNoContext (c ∷ cs) path) (IsChosen (c ∷ cs) path)) [
          | true ↦ λ e. only_first e none
          | false ↦ λ e. none_before e none
        ] refl
    sound_of (Some later) chosen =
        elim (is_at_or_below c path && leb (length (context_at cs later)) (length c)) as (λ b. (is_at_or_below c path && leb (length (context_at cs later)) (length c)) ≡ b → MatchOption (cond b (Some 0) (Some (suc later))) (HasNoContext (c ∷ cs) path) (IsChosen (c ∷ cs) path)) [
          | true ↦ λ e. let tests = and_parts _ _ e in as_long later tests.0 (grind (arith, nat_tests, tests.1)) chosen
          | false ↦ λ e. stays later e chosen
        ] refl

  chosen_context-sound : (cs : List Text) → MatchOption (chosen_context cs path) (HasNoContext cs path) (IsChosen cs path)
  chosen_context-sound [] = λ place l. absurd (omega arith)
  chosen_context-sound (c ∷ cs) = sound_of c cs (chosen_context cs path) (chosen_context-sound cs)

  facts_of : (cs : List Text) (o : Option ℕ) → MatchOption o (HasNoContext cs path) (IsChosen cs path) → IfSome o (IsChosen cs path) × (IsNone o ↔ HasNoContext cs path)
  facts_of cs None none = (tt, (λ _. none, λ _. refl))
  facts_of cs (Some place) chosen = (chosen, (λ h. absurd (false≢true (sym h)), λ none. absurd (false≢true (sym (none place chosen.within) ∙ chosen.below))))

  -- what the contract says of the context that is chosen
  pub chosen_facts : (cs : List Text) (r : Option ℕ) → r ≡ chosen_context cs path → IfSome r (IsChosen cs path) × (IsNone r ↔ HasNoContext cs path)
  chosen_facts cs r e = facts_of cs r (subst (λ o. MatchOption o (HasNoContext cs path) (IsChosen cs path)) (sym e) (chosen_context-sound cs))

  -- one more context path at the front
  module _ (cs : List Text) (n : ℕ) (chosen : Option ℕ) where
    step_of : (o : Option ℕ) → chosen ≡ option_map (λ k. n + 1 + k) o → cond (is_at_or_below (context_at cs n) path && is_as_long cs n chosen) (Some n) chosen ≡ option_map (λ k. n + k) (chosen_of (is_at_or_below (context_at cs n) path) (context_at cs n) (drop (n + 1) cs) o)
    step_of None e =
        let below = is_at_or_below (context_at cs n) path in
        let zero_more : n ≡ n + 0 = omega arith in
        ap (λ o. cond (below && is_as_long cs n o) (Some n) o) e
        ∙ elim below as (λ b. cond (b && true) (Some n) None ≡ option_map (λ k. n + k) (cond b (Some 0) None)) [ true ↦ ap Some zero_more | false ↦ refl ]
    step_of (Some k) e =
        let below = is_at_or_below (context_at cs n) path in
        let zero_more : n ≡ n + 0 = omega arith in
        let one_more : n + 1 + k ≡ n + suc k = omega arith in
        let same : length (context_at cs (n + 1 + k)) ≡ length (context_at (drop (n + 1) cs) k) = ap length (sym (get_or-drop (n + 1) cs k [])) in
        let test : (below && leb (length (context_at cs (n + 1 + k))) (length (context_at cs n))) ≡ (below && leb (length (context_at (drop (n + 1) cs) k)) (length (context_at cs n))) = ap (λ m. below && leb m (length (context_at cs n))) same in
        ap (λ o. cond (below && is_as_long cs n o) (Some n) o) e
        ∙ ap (λ b. cond b (Some n) (Some (n + 1 + k))) test
        ∙ elim (below && leb (length (context_at (drop (n + 1) cs) k)) (length (context_at cs n))) as (λ b. cond b (Some n) (Some (n + 1 + k)) ≡ option_map (λ k. n + k) (cond b (Some 0) (Some (suc k)))) [ true ↦ ap Some zero_more | false ↦ ap Some one_more ]

    pub choose_step : n < length cs → chosen ≡ option_map (λ k. n + 1 + k) (chosen_context (drop (n + 1) cs) path) → cond (is_at_or_below (context_at cs n) path && is_as_long cs n chosen) (Some n) chosen ≡ option_map (λ k. n + k) (chosen_context (drop n cs) path)
    choose_step l e =
        step_of (chosen_context (drop (n + 1) cs) path) e
        ∙ ap (λ (t : List Text). option_map (λ k. n + k) (chosen_context t path)) (sym (drop_more cs n [] l))
