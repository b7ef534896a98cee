-- Filters that are added one after another.
use Rattle.std.specs.Prelude.{ℕ, Bool, ◌==◌, List, [], ◌∷◌, ◌++◌, fold, if◌then◌else◌}
use Rattle.std.specs.List.{list_any}
use Rattle.sv_mapping.specs.declared.filter.FilterMapping.{FilterMapping}

-- a number after a list that does not have it yet
abbrev pub added : List ℕ → ℕ → List ℕ
added numbers number = if list_any (λ its. its == number) numbers then numbers else numbers ++ number ∷ []

-- the filters of the mappings that pass, added one after another
abbrev pub added_where : (FilterMapping → Bool) → List ℕ → List FilterMapping → List ℕ
added_where passes = fold (λ numbers mapping. if passes mapping then added numbers mapping.filter else numbers)
