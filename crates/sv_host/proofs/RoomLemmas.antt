-- Requests of a group that stay, one after the other.
use Rattle.sv_host.proofs.Prelude.{◌≡◌, ◌<◌, ℕ, zero, suc, ◌+◌, Bool, true, false, cond, List, [], ◌∷◌, ◌++◌, Option, length, take, drop, ap, ◌∙◌, arith}
use Rattle.sv_host.proofs.Prelude.{slice_get, remove, Input, Key, Moment, left_of}
use Rattle.sv_host.specs.declared.room.Room.{Room}
use Rattle.sv_host.specs.Room.{awaited_in, may_come, room_behind, stays}

module _ (waits : Input → Option Key) where
  -- what is left of those from a place on, after those before it
  abbrev pub left_from : ℕ → Room → List (Moment × Input) → List (Moment × Input)
  left_from at r is = take at is ++ left_of waits r (drop at is)

  first_stays : (r : Room) (i : Moment × Input) (is : List (Moment × Input)) (b : Bool) → b ≡ may_come r (waits i.1)
      → left_from (cond b 1 0) (room_behind r (waits i.1)) (cond b (i ∷ is) is) ≡ left_from 0 r (i ∷ is)
  first_stays r i is true is_b = ap (λ b. stays b i (left_of waits (room_behind r (waits i.1)) is)) is_b
  first_stays r i is false is_b = ap (λ b. stays b i (left_of waits (room_behind r (waits i.1)) is)) is_b

  -- one is looked at
  pub one_stays : (r : Room) (is : List (Moment × Input)) (at : ℕ) (b : Bool) → at < length is → b ≡ may_come r (awaited_in waits (slice_get is at))
      → left_from (cond b (suc at) at) (room_behind r (awaited_in waits (slice_get is at))) (cond b is (remove is at)) ≡ left_from at r is
  one_stays r [] at b within is_b = absurd (omega (arith, within))
  one_stays r (i ∷ is) zero b within is_b = first_stays r i is b is_b
  one_stays r (i ∷ is) (suc at) true within is_b = ap (λ rest. i ∷ rest) (one_stays r is at true (omega (arith, within)) is_b)
  one_stays r (i ∷ is) (suc at) false within is_b = ap (λ rest. i ∷ rest) (one_stays r is at false (omega (arith, within)) is_b)

  -- one is looked at, by what came of it
  pub kept_on : (r r' : Room) (is is' : List (Moment × Input)) (at at' : ℕ) (b : Bool) → at < length is → b ≡ may_come r (awaited_in waits (slice_get is at)) → r' ≡ room_behind r (awaited_in waits (slice_get is at))
      → is' ≡ cond b is (remove is at) → at' ≡ cond b (suc at) at → left_from at' r' is' ≡ left_from at r is
  kept_on r r' is is' at at' b within may room inputs next = (λ j. left_from (next j) (room j) (inputs j)) ∙ one_stays r is at b within may

-- without one of them
pub one_less : {A : Type 0} (xs : List A) (at : ℕ) → at < length xs → length (remove xs at) + 1 ≡ length xs
one_less [] at within = absurd (omega (arith, within))
one_less (x ∷ xs) zero within = omega arith
one_less (x ∷ xs) (suc at) within = omega (arith, one_less xs at (omega (arith, within)))
