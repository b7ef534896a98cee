-- Without the premise the theorem is false: a node is added while another runs that wasn't told of it.
use Rattle.sv_world.proofs.Prelude.{◌≡◌, ℕ, ◌≤◌, false, Some, None, [], ◌∷◌, arith, refl, subst, take, len-empty, get-empty, Token, Moment, Request, Response}
use Rattle.sv_world.proofs.Prelude.{Session, KeyState, Commit, Served, key_cmp, nothing_stored, after, AllMayStand, IsExcused, arrival_behind, Ask, Restart}
use Rattle.sv_world.proofs.Prelude.{IsHeadline, World, nothing_happened, run, items, commits_in}
use Rattle.sv_world.specs.Unequal.{first_of_one, names_one, unequal}

module _ (response : Response) (s : Session) (r : Request) (moment : Moment) where
  abbrev w : World
  w = run (names_one response s moment.secret) unequal nothing_happened (Restart 0 ∷ Restart 1 ∷ Ask 1 moment 7 r ∷ Ask 0 moment 8 r ∷ [])

  abbrev first_token : Token
  first_token = record { number = 7; node = 1; boot = 1 }

  abbrev second_token : Token
  second_token = record { number = 8; node = 0; boot = 1 }

  abbrev born : Commit
  born = Served first_token r moment.now false (first_of_one, moment.secret)

  commits : commits_in w ≡ born ∷ Served second_token r moment.now false (record { home = 0; serial = 1 }, moment.secret) ∷ []
  commits = rw (len-empty key_cmp KeyState, get-empty key_cmp first_of_one) refl

  arrived : arrival_behind 0 (items w.trace) second_token ≡ 1
  arrived = rw (len-empty key_cmp KeyState, get-empty key_cmp first_of_one) refl

  -- the session lived from before the second request came
  no_excuse : (place : ℕ) → 1 ≤ place → place ≤ 1 → (after (names_one response s moment.secret) nothing_stored (take place (born ∷ []))).map first_of_one ≡ None → ⊥
  no_excuse place since within lacks =
      let one : place ≡ 1 = omega (arith, since, within) in
      let there : Some s ≡ None = subst (λ p. (after (names_one response s moment.secret) nothing_stored (take p (born ∷ []))).map first_of_one ≡ None) one lacks in
      cc

  pub is_false : IsHeadline (names_one response s moment.secret) w → ⊥
  is_false h =
      let arr = arrival_behind 0 (items w.trace) in
      let stands = subst (AllMayStand (names_one response s moment.secret) arr []) commits h.container.stands in
      let e : IsExcused (names_one response s moment.secret) (born ∷ []) (arr second_token) first_of_one = stands.1.0.1 (first_of_one, moment.secret) refl refl in
      no_excuse e.place (omega (arith, e.since, arrived)) (omega (arith, e.within)) e.lacks
