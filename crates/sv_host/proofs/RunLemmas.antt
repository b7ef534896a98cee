-- Packets of one side of a line in order, the first so many of which are sent: the last one sent, and how many stand after that one.
use Rattle.sv_host.proofs.Prelude.{◌≡◌, ◌≤◌, ◌<◌, ℕ, ◌+◌, ◌-◌, Bool, true, false, cond, ◌&&◌, ◌||◌, List, [], ◌∷◌, Option, Some, inl, inr, refl, ap, sym, ◌∙◌}
use Rattle.sv_host.proofs.Prelude.{arith, or_parts, nat_tests, nat_lt, IsTrue, AllByRecursion, Rank, is_behind, is_next, is_same, stands_in}
use Rattle.sv_host.specs.Turns.{IsRising}
use Rattle.sv_host.proofs.RankLemmas.{behind, behind_next, count, same_is, settled}

-- one is sent of those that pass a test, where n may still be sent
abbrev pub sends : (Rank → Bool) → ℕ → Rank → Bool
sends f n r = f r && nat_lt 0 n

-- the last one sent
abbrev pub last_of : (Rank → Bool) → ℕ → Option Rank → List Rank → Option Rank
last_of f n last [] = last
last_of f n last (r ∷ rs) = cond (sends f n r) (last_of f (n - 1) (Some r) rs) (last_of f n last rs)

-- those that are sent
abbrev pub taken : (Rank → Bool) → ℕ → List Rank → List Rank
taken f n [] = []
taken f n (r ∷ rs) = cond (sends f n r) (r ∷ taken f (n - 1) rs) (taken f n rs)

-- each that passes the test is after one
abbrev pub AreNext : (Rank → Bool) → Option Rank → List Rank → Type 0
AreNext f x rs = AllByRecursion (λ r. f r ≡ true → is_next x r ≡ true) rs

abbrev pub AreAmong : List Rank → List Rank → Type 0
AreAmong ranks rs = AllByRecursion (λ r. IsTrue (stands_in r ranks)) rs

next_all : (f : Rank → Bool) (r : Rank) (rs : List Rank) → AllByRecursion (λ s. IsTrue (is_behind s r)) rs → AreNext f (Some r) rs
next_all f r [] h = tt
next_all f r (s ∷ rs) (at, later) = ((λ p. at), next_all f r rs later)

pub is_sent : (f : Rank → Bool) (n : ℕ) (r : Rank) → sends f n r ≡ true → (f r ≡ true) × (0 < n)
is_sent f n r e = (grind (arith, nat_tests), grind (arith, nat_tests))

sent_fits : (b : Bool) (n rest : ℕ) → (b && nat_lt 0 n) ≡ true → n ≤ cond b 1 0 + rest → (0 < n) × (n - 1 ≤ rest)
sent_fits b n rest e few = (grind (arith, nat_tests), grind (arith, nat_tests))

unsent_fits : (b : Bool) (n rest : ℕ) → (b && nat_lt 0 n) ≡ false → n ≤ cond b 1 0 + rest → n ≤ rest
unsent_fits b n rest e few = grind (arith, nat_tests)

-- where as many are there as are sent, so many fewer stand after the last one of them; from is what they are after
pub last_moves : (ranks : List Rank) (f : Rank → Bool) (rs : List Rank) (n : ℕ) (last from : Option Rank) → IsRising rs → AreAmong ranks rs
    → AreNext f from rs → n ≤ count f rs → (n ≡ 0 → last ≡ from) → behind ranks (last_of f n last rs) + n ≤ behind ranks from
last_moves ranks f [] n last from rising among next few same =
    let none : n ≡ 0 = omega arith in
    omega (arith, ap (λ x. behind ranks x) (same none))
last_moves ranks f (r ∷ rs) n last from (front, rising) (at, among) (it, next) few same = elim (settled (sends f n r)) [
  | inl e ↦
      let fits = sent_fits (f r) n (count f rs) e few in
      let later = last_moves ranks f rs (n - 1) (Some r) (Some r) rising among (next_all f r rs front) fits.1 (λ z. refl) in
      let one = behind_next ranks from r (it (is_sent f n r e).0) at in
      rw e (omega (arith, fits.0))
  | inr e ↦
      let later = last_moves ranks f rs n last from rising among next (unsent_fits (f r) n (count f rs) e few) same in
      rw e later
]

other : (a b : Bool) → a ≡ false → (a || b) ≡ true → b ≡ true
other a b e either = grind (arith, e, either)

none_left : (b : Bool) (n : ℕ) → b ≡ true → (b && nat_lt 0 n) ≡ false → n ≡ 0
none_left b n passes e = grind (arith, nat_tests)

more_counted : (b : Bool) (n rest : ℕ) → b ≡ true → 0 < n → n - 1 < rest → n < cond b 1 0 + rest
more_counted b n rest passes some few = grind arith

-- one that isn't sent has more of them than are sent
pub unsent_many : (f : Rank → Bool) (q : Rank) (rs : List Rank) (n : ℕ) → f q ≡ true → stands_in q rs ≡ true → stands_in q (taken f n rs) ≡ false
    → n < count f rs
unsent_many f q [] n passes at unsent = grind arith
unsent_many f q (r ∷ rs) n passes at unsent = elim (settled (sends f n r)) [
  | inl e ↦
      let apart = or_parts (is_same q r) (stands_in q (taken f (n - 1) rs)) (rw e at unsent) in
      let rest = unsent_many f q rs (n - 1) passes (other (is_same q r) (stands_in q rs) apart.0 at) apart.1 in
      let sent = is_sent f n r e in
      more_counted (f r) n (count f rs) sent.0 sent.1 rest
  | inr e ↦ elim (settled (is_same q r)) [
    | inl same ↦
        let now : f r ≡ true = ap f (sym (same_is q r same)) ∙ passes in
        let none = none_left (f r) n now e in
        grind (arith, now, none)
    | inr apart ↦
        let rest = unsent_many f q rs n passes (other (is_same q r) (stands_in q rs) apart at) (rw e at unsent) in
        omega (arith, rest)
  ]
]

front_of : (r q : Rank) (rs : List Rank) → AllByRecursion (λ s. IsTrue (is_behind s r)) rs → stands_in q rs ≡ true → is_behind q r ≡ true
front_of r q [] h at = grind arith
front_of r q (s ∷ rs) (now, later) at = elim (settled (is_same q s)) [
  | inl same ↦ ap (λ x. is_behind x r) (same_is q s same) ∙ now
  | inr apart ↦ front_of r q rs later (other (is_same q s) (stands_in q rs) apart at)
]

sends_none : (f : Rank → Bool) (n : ℕ) (r : Rank) → n ≡ 0 → sends f n r ≡ false
sends_none f n r none = grind (arith, nat_tests)

pub last_stays : (f : Rank → Bool) (n : ℕ) (last : Option Rank) (rs : List Rank) → n ≡ 0 → last_of f n last rs ≡ last
last_stays f n last [] none = refl
last_stays f n last (r ∷ rs) none = rw (sends_none f n r none) (last_stays f n last rs none)

-- and stands after the last one that is
pub unsent_next : (f : Rank → Bool) (q : Rank) (rs : List Rank) (n : ℕ) (last from : Option Rank) → IsRising rs → f q ≡ true
    → stands_in q rs ≡ true → stands_in q (taken f n rs) ≡ false → is_next from q ≡ true → (n ≡ 0 → last ≡ from)
    → is_next (last_of f n last rs) q ≡ true
unsent_next f q [] n last from rising passes at unsent is same = grind arith
unsent_next f q (r ∷ rs) n last from (front, rising) passes at unsent is same = elim (settled (sends f n r)) [
  | inl e ↦
      let apart = or_parts (is_same q r) (stands_in q (taken f (n - 1) rs)) (rw e at unsent) in
      let later = other (is_same q r) (stands_in q rs) apart.0 at in
      rw e (unsent_next f q rs (n - 1) (Some r) (Some r) rising passes later apart.1 (front_of r q rs front later) (λ z. refl))
  | inr e ↦ elim (settled (is_same q r)) [
    | inl it ↦
        let now : f r ≡ true = ap f (sym (same_is q r it)) ∙ passes in
        let none = none_left (f r) n now e in
        rw e (ap (λ x. is_next x q) (last_stays f n last rs none ∙ same none) ∙ is)
    | inr apart ↦
        rw e (unsent_next f q rs n last from rising passes (other (is_same q r) (stands_in q rs) apart at) (rw e at unsent) is same)
  ]
]
