-- The items of a viewed array as a list, and tests of lists that are mapped.
use Rattle.sv_config.proofs.Prelude.{◌≡◌, List, [], ◌∷◌, map, length, refl, ap, ◌||◌, list_any, view, members_view, Value}
use Rattle.std.specs.Prelude.{suc, Bool, String}
use Rattle.std.specs.declared.alloc.Global.{Global}
use Rattle.toml.specs.View.{items_view}
use Rattle.sv_config.specs.Document.{items_list, size}

pub items_list_view : (vs : List Value) → items_list (items_view vs) ≡ map view vs
items_list_view [] = refl
items_list_view (v ∷ vs) = ap (λ ds. view v ∷ ds) (items_list_view vs)

pub items_length : (vs : List Value) → length (items_list (items_view vs)) ≡ length vs
items_length [] = refl
items_length (v ∷ vs) = rw (items_length vs)

pub list_any_map : {A B : Type 0} (p : B → Bool) (f : A → B) (xs : List A) → list_any (λ x. p (f x)) xs ≡ list_any p (map f xs)
list_any_map p f [] = refl
list_any_map p f (x ∷ xs) = ap (λ b. p (f x) || b) (list_any_map p f xs)

pub size_view : (es : List (String Global × Value)) → size (members_view es) ≡ length es
size_view [] = refl
size_view (e ∷ es) = ap suc (size_view es)
