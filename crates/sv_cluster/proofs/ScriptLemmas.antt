-- Lines of a script, one after the other.
use Rattle.std.proofs.Common.{◌≡◌, ℕ, ◌<◌, zero, suc, List, [], ◌∷◌, ◌++◌, length, get_or, map, true, arith, refl, ap, ◌∙◌}
use Rattle.std.specs.Prelude.{◌||◌}
use Rattle.std.specs.List.{list_any}
use Rattle.std.proofs.Math.Bool.{or-true}
use Rattle.std.proofs.lemmas.List.Folds.{list_any-append}
use Rattle.sv_cluster.specs.Script.{is_fault, readings}

readings_cons : (line : List ℕ) (lines : List (List ℕ)) → readings (line ∷ lines) ≡ readings (line ∷ []) ++ readings lines
readings_cons [] lines = refl
readings_cons (c ∷ cs) lines = refl

any_cons : (line : List ℕ) (lines : List (List ℕ)) → list_any is_fault (readings (line ∷ lines)) ≡ list_any is_fault (readings (line ∷ [])) || list_any is_fault (readings lines)
any_cons line lines = ap (list_any is_fault) (readings_cons line lines) ∙ list_any-append is_fault (readings (line ∷ [])) (readings lines)

-- a line that is at fault makes its script one that is
pub faulty : {N : Type 0} (view : N → List ℕ) (texts : List N) (i : ℕ) (d : N) → i < length texts → list_any is_fault (readings (view (get_or texts i d) ∷ [])) ≡ true
    → list_any is_fault (readings (map view texts)) ≡ true
faulty view [] i d h p = elim h [ ]
faulty view (t ∷ ts) zero d h p = any_cons (view t) (map view ts) ∙ ap (λ b. b || list_any is_fault (readings (map view ts))) p
faulty view (t ∷ ts) (suc i) d h p =
    let below : i < length ts = omega (arith, h) in
    let more = faulty view ts i d below p in
    any_cons (view t) (map view ts)
    ∙ (ap (λ b. list_any is_fault (readings (view t ∷ [])) || b) more ∙ or-true (list_any is_fault (readings (view t ∷ []))))
