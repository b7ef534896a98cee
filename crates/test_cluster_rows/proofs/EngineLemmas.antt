-- Engines that may be called, one after the other.
use Rattle.std.proofs.Common.{◌≡◌, List, [], ◌∷◌, ◌++◌, sym, subst}
use Rattle.std.specs.List.{All}
use Rattle.std.proofs.lemmas.List.Elements.{All-nil, All-push}

pub all_pushed : {X : Type 0} (P : X → Type 0) → (xs : List X) (x : X) → All P xs → P x → All P (xs ++ x ∷ [])
all_pushed P xs x all is = All-push P xs x all is

pub all_of_none : {X : Type 0} (P : X → Type 0) → (xs : List X) → xs ≡ [] → All P xs
all_of_none P xs none = subst (λ l. All P l) (sym none) (All-nil P)
