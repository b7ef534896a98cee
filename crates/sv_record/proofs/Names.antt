-- Names that rise.
use Rattle.std.proofs.Common.{◌≡◌, ◌⊎◌, inl, inr, ℕ, true, List, [], ◌∷◌, ◌++◌, refl, ap, ◌∙◌}
use Rattle.std.specs.Ordering.{is_lt}
use Rattle.std.specs.declared.cmp.Ordering.{Ordering}
use Rattle.std.specs.declared.cmp.Ordering.TheVariants.{Less, Equal, Greater}
use Rattle.std.specs.List.{AllByRecursion}
use Rattle.std.proofs.lemmas.Cmp.{nat_list_cmp_total}
use Rattle.sv_model.specs.Attributes.{Attribute, name_cmp, IsAboveAll}
use Rattle.sv_record.specs.Session.{is_below}

is_less : (o : Ordering) → is_lt o ≡ true → o ≡ Less
is_less Less e = refl
is_less Equal e = absurd cc
is_less Greater e = absurd cc

-- each name is the last one or below it
abbrev pub UpTo : List ℕ → List Attribute → Type 0
UpTo last = AllByRecursion (λ p. (name_cmp p.0 last ≡ Less) ⊎ (p.0 ≡ last))

pub above_all : (last name : List ℕ) (ps : List Attribute) → is_below last name ≡ true → UpTo last ps → IsAboveAll name ps
unfolding IsAboveAll
above_all last name [] lt all = tt
above_all last name (p ∷ ps) lt all =
    let here : name_cmp p.0 name ≡ Less = elim all.0 [
      | inl less ↦ nat_list_cmp_total.trans p.0 last name less (is_less (name_cmp last name) lt)
      | inr same ↦ ap (λ (l : List ℕ). name_cmp l name) same ∙ is_less (name_cmp last name) lt
    ] in
    (here, above_all last name ps lt all.1)

pub up_to_next : (name value : List ℕ) (ps : List Attribute) → IsAboveAll name ps → UpTo name (ps ++ (name, value) ∷ [])
unfolding IsAboveAll
up_to_next name value [] all = (inr refl, tt)
up_to_next name value (p ∷ ps) all = (inl all.0, up_to_next name value ps all.1)
