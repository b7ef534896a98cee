-- What changes at one place spares whoever stands at another.
use Rattle.sv_net.proofs.Prelude.{◌≡◌, ◌⊎◌, ℕ, zero, suc, List, [], ◌∷◌, Option, Some, None, slice_set, inl, inr, refl, ap, sym, ◌∙◌, subst, true, false}
use Rattle.sv_net.proofs.Prelude.{true≢false, IfSome, slice_get, Connections, Open, places_of, elsewhere, with_at, held_in, held_at, waits}
use Rattle.sv_net.specs.Places.{Spares, SparesClients}
use Rattle.sv_net.proofs.PlaceLemmas.{nobody_holds}

-- ---- two places

first_other : (q : ℕ) (xs : List (Option Open)) → held_in (slice_get (slice_set xs zero None) (suc q)) ≡ held_in (slice_get xs (suc q))
first_other q [] = refl
first_other q (x ∷ xs) = refl

later_first : (p : ℕ) (xs : List (Option Open)) → held_in (slice_get (slice_set xs (suc p) None) zero) ≡ held_in (slice_get xs zero)
later_first p [] = refl
later_first p (x ∷ xs) = refl

later_same : (p q : ℕ) → ((xs : List (Option Open)) → held_in (slice_get (slice_set xs p None) q) ≡ held_in (slice_get xs q)) → (xs : List (Option Open))
    → held_in (slice_get (slice_set xs (suc p) None) (suc q)) ≡ held_in (slice_get xs (suc q))
later_same p q same [] = refl
later_same p q same (x ∷ xs) = same xs

later : (p q : ℕ) → (p ≡ q) ⊎ ((xs : List (Option Open)) → held_in (slice_get (slice_set xs p None) q) ≡ held_in (slice_get xs q))
    → (suc p ≡ suc q) ⊎ ((xs : List (Option Open)) → held_in (slice_get (slice_set xs (suc p) None) (suc q)) ≡ held_in (slice_get xs (suc q)))
later p q (inl is) = inl (ap suc is)
later p q (inr same) = inr (later_same p q same)

-- they are one, or what is set at the one isn't seen at the other
pub same_or_apart : (p q : ℕ) → (p ≡ q) ⊎ ((xs : List (Option Open)) → held_in (slice_get (slice_set xs p None) q) ≡ held_in (slice_get xs q))
same_or_apart zero zero = inl refl
same_or_apart zero (suc q) = inr (first_other q)
same_or_apart (suc p) zero = inr (later_first p)
same_or_apart (suc p) (suc q) = later p q (same_or_apart p q)

-- ---- whoever stood there

stays : (o n : Option Open) → n ≡ o → IfSome o (λ was. n ≡ Some was)
stays None n is = tt
stays (Some was) n is = is

moves : (o m n : Option Open) → n ≡ m → IfSome o (λ was. m ≡ Some was) → IfSome o (λ was. n ≡ Some was)
moves None m n is kept = tt
moves (Some was) m n is kept = is ∙ kept

pub spares_same : (old new : Connections) → ((place : ℕ) → held_at new place ≡ held_at old place) → Spares old new
spares_same old new same place = stays (held_at old place) (held_at new place) (same place)

-- what stands at another place
pub apart_same : (p q : ℕ) (old new : Connections) → elsewhere p new ≡ elsewhere p old
    → ((xs : List (Option Open)) → held_in (slice_get (slice_set xs p None) q) ≡ held_in (slice_get xs q)) → held_at new q ≡ held_at old q
apart_same p q old new same apart = sym (apart (places_of new)) ∙ ap (λ xs. held_in (slice_get xs q)) same ∙ apart (places_of old)

spared_at : (p q : ℕ) (old mid new : Connections) → held_at old p ≡ None → IfSome (held_at old q) (λ was. held_at mid q ≡ Some was) → elsewhere p new ≡ elsewhere p mid
    → (p ≡ q) ⊎ ((xs : List (Option Open)) → held_in (slice_get (slice_set xs p None) q) ≡ held_in (slice_get xs q))
    → IfSome (held_at old q) (λ was. held_at new q ≡ Some was)
spared_at p q old mid new none kept same (inl is) = nobody_holds (λ was. held_at new q ≡ Some was) (subst (λ place. held_at old place ≡ None) is none)
spared_at p q old mid new none kept same (inr apart) = moves (held_at old q) (held_at mid q) (held_at new q) (apart_same p q mid new same apart) kept

-- something else has happened at a place where nobody stood
pub spares_but : (place : ℕ) (old mid new : Connections) → held_at old place ≡ None → Spares old mid → elsewhere place new ≡ elsewhere place mid → Spares old new
spares_but place old mid new none spares same q = spared_at place q old mid new none (spares q) same (same_or_apart place q)

-- ---- whoever waits there

unmoved : (o n : Option Open) → n ≡ o → IfSome o (λ was. waits was.state ≡ true → n ≡ Some was)
unmoved None n is = tt
unmoved (Some was) n is = λ w. is

idle : (o n : Option Open) → IfSome o (λ was. waits was.state ≡ false) → IfSome o (λ was. waits was.state ≡ true → n ≡ Some was)
idle None n rests = tt
idle (Some was) n rests = λ w. absurd (true≢false (sym w ∙ rests))

waits_on : (o m n : Option Open) → n ≡ m → IfSome o (λ was. waits was.state ≡ true → m ≡ Some was) → IfSome o (λ was. waits was.state ≡ true → n ≡ Some was)
waits_on None m n is kept = tt
waits_on (Some was) m n is kept = λ w. is ∙ kept w

nobody_waits : (o : Option Open) → o ≡ None → IfSome o (λ was. waits was.state ≡ false)
nobody_waits o none = nobody_holds (λ was. waits was.state ≡ false) none

one_rests : (o : Option Open) (one : Open) → o ≡ Some one → waits one.state ≡ false → IfSome o (λ was. waits was.state ≡ false)
one_rests o one is rests = subst (λ x. IfSome x (λ was. waits was.state ≡ false)) (sym is) rests

-- something happens at a place where nobody waits
then_at : (p q : ℕ) (old mid new : Connections) → IfSome (held_at old p) (λ was. waits was.state ≡ false)
    → IfSome (held_at old q) (λ was. waits was.state ≡ true → held_at mid q ≡ Some was) → elsewhere p new ≡ elsewhere p mid
    → (p ≡ q) ⊎ ((xs : List (Option Open)) → held_in (slice_get (slice_set xs p None) q) ≡ held_in (slice_get xs q))
    → IfSome (held_at old q) (λ was. waits was.state ≡ true → held_at new q ≡ Some was)
then_at p q old mid new rests kept same (inl is) =
    idle (held_at old q) (held_at new q) (subst (λ place. IfSome (held_at old place) (λ was. waits was.state ≡ false)) is rests)
then_at p q old mid new rests kept same (inr apart) = waits_on (held_at old q) (held_at mid q) (held_at new q) (apart_same p q mid new same apart) kept

pub clients_then : (place : ℕ) (old mid new : Connections) → held_at old place ≡ None → SparesClients old mid → elsewhere place new ≡ elsewhere place mid → SparesClients old new
clients_then place old mid new none spares same q = then_at place q old mid new (nobody_waits (held_at old place) none) (spares q) same (same_or_apart place q)

pub clients_but : (place : ℕ) (one : Open) (old new : Connections) → held_at old place ≡ Some one → waits one.state ≡ false → elsewhere place new ≡ elsewhere place old → SparesClients old new
clients_but place one old new is rests same q =
    then_at place q old old new (one_rests (held_at old place) one is rests) (unmoved (held_at old q) (held_at old q) refl) same (same_or_apart place q)

-- and then elsewhere
after_at : (p q : ℕ) (old taken new : Connections) → IfSome (held_at old p) (λ was. waits was.state ≡ false) → elsewhere p taken ≡ elsewhere p old
    → IfSome (held_at taken q) (λ was. waits was.state ≡ true → held_at new q ≡ Some was)
    → (p ≡ q) ⊎ ((xs : List (Option Open)) → held_in (slice_get (slice_set xs p None) q) ≡ held_in (slice_get xs q))
    → IfSome (held_at old q) (λ was. waits was.state ≡ true → held_at new q ≡ Some was)
after_at p q old taken new rests same kept (inl is) =
    idle (held_at old q) (held_at new q) (subst (λ place. IfSome (held_at old place) (λ was. waits was.state ≡ false)) is rests)
after_at p q old taken new rests same kept (inr apart) =
    subst (λ x. IfSome x (λ was. waits was.state ≡ true → held_at new q ≡ Some was)) (apart_same p q old taken same apart) kept

pub clients_after : (place : ℕ) (one : Open) (old taken new : Connections) → held_at old place ≡ Some one → waits one.state ≡ false → elsewhere place taken ≡ elsewhere place old
    → SparesClients taken new → SparesClients old new
clients_after place one old taken new is rests same spares q =
    after_at place q old taken new (one_rests (held_at old place) one is rests) same (spares q) (same_or_apart place q)

pub clients_same : (old new : Connections) → ((place : ℕ) → held_at new place ≡ held_at old place) → SparesClients old new
clients_same old new same q = unmoved (held_at old q) (held_at new q) (same q)

-- whoever was taken is put back
back : (xs : List (Option Open)) (i : ℕ) (x : Open) → held_in (slice_get xs i) ≡ Some x → held_in (slice_get (slice_set (slice_set xs i None) i (Some x)) i) ≡ Some x
back [] i x is = is
back (y ∷ ys) zero x is = refl
back (y ∷ ys) (suc i) x is = back ys i x is

back_at : (p q : ℕ) (one : Open) (old new : Connections) → held_at old p ≡ Some one → places_of new ≡ slice_set (slice_set (places_of old) p None) p (Some one) → elsewhere p new ≡ elsewhere p old
    → (p ≡ q) ⊎ ((xs : List (Option Open)) → held_in (slice_get (slice_set xs p None) q) ≡ held_in (slice_get xs q)) → held_at new q ≡ held_at old q
back_at p q one old new is places same (inl here) =
    subst (λ place. held_at new place ≡ held_at old place) here (ap (λ xs. held_in (slice_get xs p)) places ∙ back (places_of old) p one is ∙ sym is)
back_at p q one old new is places same (inr apart) = apart_same p q old new same apart

pub clients_back : (place : ℕ) (one : Open) (old taken new : Connections) → held_at old place ≡ Some one → places_of taken ≡ elsewhere place old → places_of new ≡ with_at place one taken
    → elsewhere place new ≡ elsewhere place old → SparesClients old new
clients_back place one old taken new is without put same =
    clients_same old new (λ q. back_at place q one old new is (put ∙ ap (λ xs. slice_set xs place (Some one)) without) same (same_or_apart place q))
