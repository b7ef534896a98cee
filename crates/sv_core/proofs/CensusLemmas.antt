-- A census is a walk over the places of a table.
use Rattle.sv_core.proofs.Prelude.{◌≡◌, ℕ, zero, suc, ◌+◌, ◌<◌, ◌≤◌, List, [], ◌∷◌, ◌++◌, length, get_or, take, arith, refl, sym, ap, ◌∙◌, subst, Key, KeyState}
use Rattle.sv_core.proofs.Prelude.{Active, Sent, Gone, Ended, Entry, Place, state_at, seen, with_all, total}
use Rattle.sv_core.specs.Census.{with_one}
use Rattle.sv_core.specs.declared.census.Census.{Census}
use Rattle.sv_core.proofs.PlaceLemmas.{seen_more}

total_one : (e : Entry) (c : Census) → total (with_one e c) ≡ total c + 1
total_one (k, Active e s) c = omega arith
total_one (k, Sent e s to) c = omega arith
total_one (k, Gone e) c = omega arith
total_one (k, Ended e) c = omega arith

pub total_all : (es : List Entry) (c : Census) → total (with_all es c) ≡ total c + length es
total_all [] c = omega arith
total_all (e ∷ es) c = total_all es (with_one e c) ∙ omega (arith, total_one e c)

pub all_append : (xs ys : List Entry) (c : Census) → with_all (xs ++ ys) c ≡ with_all ys (with_all xs c)
all_append [] ys c = refl
all_append (x ∷ xs) ys c = all_append xs ys (with_one x c)

length_seen : (states : List KeyState) (ps : List Place) → length (seen states ps) ≡ length ps
length_seen states [] = refl
length_seen states (p ∷ ps) = ap suc (length_seen states ps)

taken : (i : ℕ) (ps : List Place) → length (take i ps) ≤ i
taken zero ps = omega arith
taken (suc i) [] = omega arith
taken (suc i) (p ∷ ps) = omega (arith, taken i ps)

-- of all places so many are counted
pub total_seen : (states : List KeyState) (ps : List Place) (c : Census) → total (with_all (seen states ps) c) ≡ total c + length ps
total_seen states ps c = total_all (seen states ps) c ∙ ap (λ n. total c + n) (length_seen states ps)

-- one more of them is counted
pub counted_more : (states : List KeyState) (ps qs : List Place) (i : ℕ) (d : Place) (k : Key) (st : KeyState) (before now new : Census) → qs ≡ ps → i < length qs → k ≡ (get_or qs i d).0 → st ≡ state_at states (get_or qs i d).1
    → now ≡ with_all (seen states (take i ps)) before → new ≡ with_one (k, st) now → new ≡ with_all (seen states (take (i + 1) ps)) before
counted_more states ps qs i d k st before now new same is key there so more =
    more ∙ ap (with_one (k, st)) so ∙ ap (λ (x : Key). with_one (x, st) (with_all (seen states (take i ps)) before)) key
    ∙ sym (ap (λ l. with_all l before) (seen_more states ps qs i d st same is there) ∙ all_append (seen states (take i ps)) (((get_or qs i d).0, st) ∷ []) before)

-- and there is room to count it
pub room_left : (states : List KeyState) (ps : List Place) (i most : ℕ) (before now : Census) → now ≡ with_all (seen states (take i ps)) before → i < length ps → total before + length ps ≤ most → total now < most
room_left states ps i most before now so is room =
    subst (λ c. total c < most) (sym so) (omega (arith, total_seen states (take i ps) before, taken i ps, is, room))
