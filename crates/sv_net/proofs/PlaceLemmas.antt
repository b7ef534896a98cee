-- What stands at one place of a list.
use Rattle.sv_net.proofs.Prelude.{◌≡◌, ℕ, zero, suc, List, [], ◌∷◌, Option, Some, None, slice_set, inl, inr, refl, ap, sym, ◌∙◌, subst, IfSome, slice_get}
use Rattle.sv_net.proofs.Prelude.{Connections, Open, places_of, elsewhere, with_at, held_in, held_at, HasStood, IsKept, Keeps}

module _ {A : Type 0} where
  -- of two things that are set at one place the last one stands there
  pub set_twice : (xs : List A) (i : ℕ) (x y : A) → slice_set (slice_set xs i x) i y ≡ slice_set xs i y
  set_twice [] i x y = refl
  set_twice (z ∷ zs) zero x y = refl
  set_twice (z ∷ zs) (suc i) x y = ap (λ rest. z ∷ rest) (set_twice zs i x y)

-- ---- who stands there

pub set_holds : (P : Open → Type 0) (xs : List (Option Open)) (i : ℕ) (x : Open) → P x → IfSome (held_in (slice_get (slice_set xs i (Some x)) i)) P
set_holds P [] i x p = tt
set_holds P (y ∷ ys) zero x p = p
set_holds P (y ∷ ys) (suc i) x p = set_holds P ys i x p

pub none_held : (xs : List (Option Open)) (i : ℕ) → held_in (slice_get (slice_set xs i None) i) ≡ None
none_held [] i = refl
none_held (y ∷ ys) zero = refl
none_held (y ∷ ys) (suc i) = none_held ys i

pub nobody_holds : (P : Open → Type 0) {o : Option Open} → o ≡ None → IfSome o P
nobody_holds P is = subst (λ o. IfSome o P) (sym is) tt

-- the same places
pub same_held : (place : ℕ) (old new : Connections) → places_of new ≡ places_of old → held_at new place ≡ held_at old place
same_held place old new is = ap (λ xs. held_in (slice_get xs place)) is

-- who was taken
pub taken_held : (place : ℕ) (old new : Connections) → places_of new ≡ elsewhere place old → held_at new place ≡ None
taken_held place old new is = ap (λ xs. held_in (slice_get xs place)) is ∙ none_held (places_of old) place

-- who was put there
pub put_holds : (P : Open → Type 0) (place : ℕ) (held : Open) (old new : Connections) → places_of new ≡ with_at place held old → P held → IfSome (held_at new place) P
put_holds P place held old new is p = subst (λ xs. IfSome (held_in (slice_get xs place)) P) (sym is) (set_holds P (places_of old) place held p)

-- who was kept
pub keep_holds : (P : Open → Type 0) (place : ℕ) (was : Open) (old new : Connections) → Keeps place was old new → held_at old place ≡ None → ((held : Open) → IsKept was held → P held) → IfSome (held_at new place) P
keep_holds P place was old new (inl k) none p = put_holds P place k.held old new k.places (p k.held k.kept)
keep_holds P place was old new (inr k) none p = nobody_holds P (same_held place old new k.places ∙ none)

-- who has stood there before
stood_in : (P : Open → Type 0) (o m : Option Open) → ((was held : Open) → IsKept was held → P was → P held) → IfSome o (λ held. (was : Open) × (m ≡ Some was) × IsKept was held)
    → IfSome m P → IfSome o P
stood_in P None m keeps stood p = tt
stood_in P (Some held) m keeps (was, is, kept) p = keeps was held kept (subst (λ (o : Option Open). IfSome o P) is p)

pub stood_holds : (P : Open → Type 0) (place : ℕ) (old new : Connections) → ((was held : Open) → IsKept was held → P was → P held) → HasStood place old new → IfSome (held_at old place) P
    → IfSome (held_at new place) P
stood_holds P place old new keeps stood p = stood_in P (held_at new place) (held_at old place) keeps stood p

-- what is so of each is so of whoever is there
pub holds_more : {A : Type 0} (P Q : A → Type 0) → ((a : A) → P a → Q a) → (o : Option A) → IfSome o P → IfSome o Q
holds_more P Q more None p = tt
holds_more P Q more (Some a) p = more a p
