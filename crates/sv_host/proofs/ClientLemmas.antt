-- Clients that are kept.
use Rattle.sv_host.proofs.Prelude.{◌≡◌, ◌≢◌, ℕ, Bool, cond, Option, Some, None, List, [], ◌∷◌, ◌++◌, get_or, arith, refl, ap, Has, without, ParkedClient}
use Rattle.std.proofs.Common.{position, eqb-true, ne_eqb}
use Rattle.std.proofs.lemmas.List.Quantifiers.{position-Some}
use Rattle.std.proofs.lemmas.List.Sums.{sum_by-swap_remove, sum_by_push}
use Rattle.sv_host.specs.Parked.{is_under, others_than}

abbrev one_at : ℕ → ParkedClient → ℕ
one_at token c = cond (is_under token c) 1 0

-- one more
pub has_more : (token : ℕ) (cs : List ParkedClient) (c : ParkedClient) → Has token cs → Has token (cs ++ c ∷ [])
has_more token cs c has = omega (arith, has, sum_by_push (one_at token) cs c)

-- one less
kept_at : (token other : ℕ) (cs : List ParkedClient) → other ≢ token → Has token cs → (at : Option ℕ) → position (is_under other) cs ≡ at → Has token (others_than at cs)
kept_at token other cs apart has None is = has
kept_at token other cs apart has (Some at) is =
    let d : ParkedClient = record { token = 0; place = 0 } in
    let found = position-Some (is_under other) cs at d is in
    let there : (get_or cs at d).token ≡ other = eqb-true (get_or cs at d).token other found.1 in
    let none : one_at token (get_or cs at d) ≡ 0 = ap (λ (b : Bool). cond {A = ℕ} b 1 0) (ne_eqb (get_or cs at d).token token (λ same. apart (let h = same in cc))) in
    omega (arith, has, none, sum_by-swap_remove (one_at token) cs at d found.0)

-- whoever waits under another number
pub others_kept : (token other : ℕ) (cs : List ParkedClient) → other ≢ token → Has token cs → Has token (without other cs)
others_kept token other cs apart has = kept_at token other cs apart has (position (is_under other) cs) refl
