-- Filters that are added one after another are the chain.
use Rattle.sv_mapping.proofs.Prelude.{◌≡◌, ℕ, ◌&&◌, ◌||◌, Bool, true, false, not, cond, eqb, List, [], ◌∷◌, ◌++◌, map, Option, refl, sym, ap, ◌∙◌, arith}
use Rattle.sv_mapping.proofs.Prelude.{append_assoc, append-nil, list_any, Decides-eqb, nat_tests, Text, carries, matches_path, names_servlet, added_where}
use Rattle.std.proofs.Common.{filter, fold}
use Rattle.std.proofs.lemmas.List.Folds.{list_any-append}
use Rattle.std.proofs.lemmas.List.Sums.{fold-append}
use Rattle.sv_mapping.specs.Filter.{filters_where, without_repeats, chain}
use Rattle.sv_mapping.specs.Chain.{added}
use Rattle.sv_mapping.specs.declared.dispatcher.Dispatcher.{Dispatcher}
use Rattle.sv_mapping.specs.declared.filter.FilterMapping.{FilterMapping}

-- whether a number stands in a list
abbrev has : ℕ → List ℕ → Bool
has number = list_any (λ its. eqb its number)

abbrev is_new : List ℕ → ℕ → Bool
is_new numbers number = not (has number numbers)

abbrev differs : ℕ → ℕ → Bool
differs x y = not (eqb y x)

added_where-filter : (passes : FilterMapping → Bool) (numbers : List ℕ) (mappings : List FilterMapping) → added_where passes numbers mappings ≡ fold added numbers (filters_where passes mappings)
added_where-filter passes numbers [] = refl
added_where-filter passes numbers (m ∷ ms) =
    elim (passes m) as (λ b. added_where passes (cond b (added numbers m.filter) numbers) ms ≡ fold added numbers (map (λ mapping. mapping.filter) (cond b (m ∷ filter passes ms) (filter passes ms)))) [
      | true ↦ added_where-filter passes (added numbers m.filter) ms
      | false ↦ added_where-filter passes numbers ms
    ]

filter-both : (p q : FilterMapping → Bool) (mappings : List FilterMapping) → filter (λ m. p m && q m) mappings ≡ filter q (filter p mappings)
filter-both p q [] = refl
filter-both p q (m ∷ ms) =
    elim (p m) as (λ b. cond (b && q m) (m ∷ filter (λ m. p m && q m) ms) (filter (λ m. p m && q m) ms) ≡ filter q (cond b (m ∷ filter p ms) (filter p ms))) [
      | true ↦ ap (λ t. cond (q m) (m ∷ t) t) (filter-both p q ms)
      | false ↦ filter-both p q ms
    ]

-- a number that is there already is dropped anyway
filter-there : (numbers : List ℕ) (x : ℕ) → has x numbers ≡ true → (ys : List ℕ) → filter (is_new numbers) (filter (differs x) ys) ≡ filter (is_new numbers) ys
filter-there numbers x there [] = refl
filter-there numbers x there (y ∷ ys) =
    let rest = filter-there numbers x there ys in
    elim (eqb y x) as (λ b. eqb y x ≡ b → filter (is_new numbers) (cond (not b) (y ∷ filter (differs x) ys) (filter (differs x) ys)) ≡ cond (is_new numbers y) (y ∷ filter (is_new numbers) ys) (filter (is_new numbers) ys)) [
      | true ↦ λ same.
          let gone : is_new numbers y ≡ false = ap (λ n. is_new numbers n) ((Decides-eqb y x).0 same) ∙ ap not there in
          rest ∙ ap (λ b. cond b (y ∷ filter (is_new numbers) ys) (filter (is_new numbers) ys)) (sym gone)
      | false ↦ λ _. ap (λ t. cond (is_new numbers y) (y ∷ t) t) rest
    ] refl

or_true : (b : Bool) → (b || (true || false)) ≡ true
or_true true = refl
or_true false = refl

or_false : (b : Bool) → (b || (false || false)) ≡ b
or_false true = refl
or_false false = refl

-- what is new after one more number
filter-one_more : (numbers : List ℕ) (x : ℕ) (ys : List ℕ) → filter (is_new (numbers ++ x ∷ [])) ys ≡ filter (is_new numbers) (filter (differs x) ys)
filter-one_more numbers x [] = refl
filter-one_more numbers x (y ∷ ys) =
    let more = numbers ++ x ∷ [] in
    let rest = filter-one_more numbers x ys in
    let parts : has y more ≡ (has y numbers || (eqb x y || false)) = list_any-append (λ its. eqb its y) numbers (x ∷ []) in
    elim (eqb y x) as (λ b. eqb y x ≡ b → cond (is_new more y) (y ∷ filter (is_new more) ys) (filter (is_new more) ys) ≡ filter (is_new numbers) (cond (not b) (y ∷ filter (differs x) ys) (filter (differs x) ys))) [
      | true ↦ λ same.
          let turned : eqb x y ≡ true = grind (arith, nat_tests) in
          let gone : is_new more y ≡ false = ap not (parts ∙ ap (λ b. has y numbers || (b || false)) turned ∙ or_true (has y numbers)) in
          ap (λ b. cond b (y ∷ filter (is_new more) ys) (filter (is_new more) ys)) gone ∙ rest
      | false ↦ λ other.
          let turned : eqb x y ≡ false = grind (arith, nat_tests) in
          let same : is_new more y ≡ is_new numbers y = ap not (parts ∙ ap (λ b. has y numbers || (b || false)) turned ∙ or_false (has y numbers)) in
          ap (λ b. cond b (y ∷ filter (is_new more) ys) (filter (is_new more) ys)) same ∙ ap (λ t. cond (is_new numbers y) (y ∷ t) t) rest
    ] refl

-- what adding leaves: what is there, and then what is new, each at its first place
fold-added : (xs numbers : List ℕ) → fold added numbers xs ≡ numbers ++ filter (is_new numbers) (without_repeats xs)
fold-added [] numbers = sym (append-nil numbers)
fold-added (x ∷ xs) numbers =
    let others = filter (differs x) (without_repeats xs) in
    elim (has x numbers) as (λ b. has x numbers ≡ b → fold added (cond b numbers (numbers ++ x ∷ [])) xs ≡ numbers ++ cond (not b) (x ∷ filter (is_new numbers) others) (filter (is_new numbers) others)) [
      | true ↦ λ there. fold-added xs numbers ∙ ap (λ t. numbers ++ t) (sym (filter-there numbers x there (without_repeats xs)))
      | false ↦ λ _.
          fold-added xs (numbers ++ x ∷ [])
          ∙ append_assoc numbers (x ∷ []) _
          ∙ ap (λ t. numbers ++ (x ∷ t)) (filter-one_more numbers x (without_repeats xs))
    ] refl

filter-new : (ys : List ℕ) → filter (is_new []) ys ≡ ys
filter-new [] = refl
filter-new (y ∷ ys) = ap (λ t. y ∷ t) (filter-new ys)

module _ (path : Text) (servlet : Option ℕ) (dispatcher : Dispatcher) (mappings : List FilterMapping) where
  pub chain_is : added_where (λ m. carries m.dispatchers dispatcher && names_servlet servlet m.target) (added_where (λ m. carries m.dispatchers dispatcher && matches_path path m.target) [] mappings) mappings ≡ chain mappings path servlet dispatcher
  chain_is =
      let its = λ (m : FilterMapping). carries m.dispatchers dispatcher in
      let by_path = λ (m : FilterMapping). matches_path path m.target in
      let by_name = λ (m : FilterMapping). names_servlet servlet m.target in
      let xs = filters_where by_path (filter its mappings) in
      let ys = filters_where by_name (filter its mappings) in
      let first : added_where (λ m. its m && by_path m) [] mappings ≡ fold added [] xs =
      added_where-filter (λ m. its m && by_path m) [] mappings ∙ ap (λ t. fold added [] (map (λ (m : FilterMapping). m.filter) t)) (filter-both its by_path mappings) in
      let second : added_where (λ m. its m && by_name m) (fold added [] xs) mappings ≡ fold added (fold added [] xs) ys =
      added_where-filter (λ m. its m && by_name m) (fold added [] xs) mappings ∙ ap (λ t. fold added (fold added [] xs) (map (λ (m : FilterMapping). m.filter) t)) (filter-both its by_name mappings) in
      ap (λ t. added_where (λ m. its m && by_name m) t mappings) first ∙ second ∙ sym (fold-append added [] xs ys) ∙ fold-added (xs ++ ys) [] ∙ filter-new (without_repeats (xs ++ ys))
