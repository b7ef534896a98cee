-- An engine whose listeners note nothing.
use Rattle.std.proofs.Common.{◌≡◌, ℕ, List, [], ◌∷◌, refl, sym, subst}
use Rattle.sv_solo.proofs.Prelude.{EngineMeaning, heard_all, Told}

pub notes_nothing : (m : EngineMeaning) → ((heard : List (List ℕ)) (t : Told) → m.hear heard t ≡ heard) → (heard : List (List ℕ)) (ts : List Told)
    → heard_all m heard ts ≡ heard
notes_nothing m quiet heard [] = refl
notes_nothing m quiet heard (t ∷ ts) = subst (λ (xs : List (List ℕ)). heard_all m xs ts ≡ heard) (sym (quiet heard t)) (notes_nothing m quiet heard ts)
