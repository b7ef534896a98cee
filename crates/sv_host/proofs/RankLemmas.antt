-- The order of a tick's packets, and how many stand after one of them.
use Rattle.sv_host.proofs.Prelude.{◌≡◌, ◌⊎◌, ◌≤◌, ℕ, ◌+◌, Bool, true, false, cond, List, [], ◌∷◌, Option, Some, None, inl, inr, refl, ap, sym, ◌∙◌, arith}
use Rattle.sv_host.proofs.Prelude.{length, nat_tests, Rank, is_behind, is_next, is_same, stands_in}

pub settled : (b : Bool) → (b ≡ true) ⊎ (b ≡ false)
settled true = inl refl
settled false = inr refl

pub behind_both : (a b c : Rank) → is_behind b a ≡ true → is_behind c b ≡ true → is_behind c a ≡ true
behind_both a b c p q = grind (arith, nat_tests)

-- one that isn't after a has all after it that are after a
pub behind_unless : (a b c : Rank) → is_behind b a ≡ false → is_behind c a ≡ true → is_behind c b ≡ true
behind_unless a b c p q = grind (arith, nat_tests)

pub not_behind_itself : (a : Rank) → is_behind a a ≡ false
not_behind_itself a = grind (arith, nat_tests)

-- how many pass a test
abbrev pub count : (Rank → Bool) → List Rank → ℕ
count f [] = 0
count f (r ∷ rs) = cond (f r) 1 0 + count f rs

-- how many stand after one
abbrev pub behind : List Rank → Option Rank → ℕ
behind ranks last = count (λ r. is_next last r) ranks

same_numbers : (a b : Rank) → is_same a b ≡ true → (a.kind ≡ b.kind) × (a.number ≡ b.number) × (a.node ≡ b.node)
same_numbers a b p = (grind (arith, nat_tests), grind (arith, nat_tests), grind (arith, nat_tests))

pub same_is : (a b : Rank) → is_same a b ≡ true → a ≡ b
same_is a b p =
    let e = same_numbers a b p in
    λ i. record { kind = e.0 i; number = e.1 i; node = e.2 i }

ones_le : (x y : Bool) → (x ≡ true → y ≡ true) → cond x 1 0 ≤ cond y 1 0
ones_le true true h = omega arith
ones_le true false h = grind (arith, h refl)
ones_le false y h = omega arith

-- what passes the first test passes the second
pub count_le : (f g : Rank → Bool) → ((r : Rank) → f r ≡ true → g r ≡ true) → (rs : List Rank) → count f rs ≤ count g rs
count_le f g h [] = omega arith
count_le f g h (r ∷ rs) = omega (arith, ones_le (f r) (g r) (h r), count_le f g h rs)

one_more : (x y : Bool) → x ≡ false → y ≡ true → cond x 1 0 + 1 ≡ cond y 1 0
one_more x y p q = grind (arith, p, q)

-- and one of them passes the second alone
pub count_lt : (f g : Rank → Bool) → ((r : Rank) → f r ≡ true → g r ≡ true) → (q : Rank) → f q ≡ false → g q ≡ true → (rs : List Rank)
    → stands_in q rs ≡ true → count f rs + 1 ≤ count g rs
count_lt f g h q fails passes [] at = grind arith
count_lt f g h q fails passes (r ∷ rs) at = elim (settled (is_same q r)) [
  | inl e ↦
      let same = same_is q r e in
      omega (arith, count_le f g h rs, one_more (f r) (g r) (ap f (sym same) ∙ fails) (ap g (sym same) ∙ passes))
  | inr e ↦
      let later : stands_in q rs ≡ true = grind (arith, e, at) in
      omega (arith, ones_le (f r) (g r) (h r), count_lt f g h q fails passes rs later)
]

pub count_all : (rs : List Rank) → count (λ r. true) rs ≡ length rs
count_all [] = refl
count_all (r ∷ rs) = grind (arith, count_all rs)

next_of : (x : Option Rank) (r : Rank) → is_next x r ≡ true → (s : Rank) → is_behind s r ≡ true → is_next x s ≡ true
next_of None r p s q = refl
next_of (Some a) r p s q = behind_both a r s p q

-- fewer stand after one of them than after whatever that one is after
pub behind_next : (ranks : List Rank) (x : Option Rank) (r : Rank) → is_next x r ≡ true → stands_in r ranks ≡ true
    → behind ranks (Some r) + 1 ≤ behind ranks x
behind_next ranks x r p at = count_lt (λ s. is_behind s r) (λ s. is_next x s) (next_of x r p) r (not_behind_itself r) p ranks at

later_of : (x : Option Rank) (r : Rank) → is_next x r ≡ false → (s : Rank) → is_next x s ≡ true → is_behind s r ≡ true
later_of None r p s q = grind arith
later_of (Some a) r p s q = behind_unless a r s p q

-- no more stand after one than after another that it isn't after
pub behind_before : (ranks : List Rank) (x : Option Rank) (r : Rank) → is_next x r ≡ false → behind ranks x ≤ behind ranks (Some r)
behind_before ranks x r p = count_le (λ s. is_next x s) (λ s. is_behind s r) (later_of x r p) ranks

pub behind_all : (ranks : List Rank) (x : Option Rank) → behind ranks x ≤ length ranks
behind_all ranks x = omega (arith, count_le (λ s. is_next x s) (λ s. true) (λ s p. refl) ranks, count_all ranks)
