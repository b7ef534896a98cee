-- The attributes of a request: what a map's entries are as a list, and what a change does to them.
use Rattle.std.proofs.Common.{◌≡◌, ℕ, ◌+◌, ◌≤◌, Bool, true, false, cond, List, [], ◌∷◌, ◌++◌, length, All, Option, Some, None, refl, sym, ap, ◌∙◌, subst, arith, add-one, String, Global, string_bytes}
use Rattle.std.specs.BTreeMap.{insert_entry, is_at}
use Rattle.std.specs.Cmp.Lexicographic.{slice_cmp}
use Rattle.std.specs.List.{AllByRecursion}
use Rattle.std.specs.List.Sorted.{IsStrictlySortedBy}
use Rattle.std.specs.Map.{keys_of, lookup, remove_entry}
use Rattle.std.specs.Option.{option_map}
use Rattle.std.specs.Ordering.{nat_cmp, is_eq, match_ordering, ordering_reverse}
use Rattle.std.specs.Str.{bytes_eq}
use Rattle.std.specs.String.{string_cmp}
use Rattle.std.specs.declared.cmp.Ordering.{Ordering}
use Rattle.std.specs.declared.cmp.Ordering.TheVariants.{Less, Equal, Greater}
use Rattle.std.proofs.lemmas.Map.Text.{is_eq-slice_cmp}
use Rattle.sv_model.specs.Attributes.{Attribute, names_of, name_cmp, NamesRise, IsAboveAll, value_of, with_attribute, without_attribute}
use Rattle.sv_servlet.specs.Attributes.{entry_of, entries_of}

abbrev pub Entries : Type 0
Entries = List (String Global × String Global)

-- ---- a map's entries, seen as attributes

-- a map of texts finds a name by this test
abbrev text_test : List ℕ → String Global → Bool
text_test name = is_at (λ k. slice_cmp nat_cmp name (string_bytes k))

module _ (name : List ℕ) where
  found_here : (b : Bool) (x : String Global) (rest : Option (String Global)) (seen : Option (List ℕ)) → option_map (λ v. string_bytes v) rest ≡ seen
      → option_map (λ v. string_bytes v) (cond b (Some x) rest) ≡ cond b (Some (string_bytes x)) seen
  found_here true x rest seen same = refl
  found_here false x rest seen same = same

  pub value_of-entries : (es : Entries) → option_map (λ v. string_bytes v) (lookup (text_test name) es) ≡ value_of (entries_of es) name
  unfolding value_of
  value_of-entries [] = refl
  value_of-entries (e ∷ es) = rw (is_eq-slice_cmp name (string_bytes e.0)) (found_here (bytes_eq name (string_bytes e.0)) e.1 (lookup (text_test name) es) (value_of (entries_of es) name) (value_of-entries es))

  left_here : (b : Bool) (e : String Global × String Global) (es rest : Entries) (seen : List Attribute) → entries_of rest ≡ seen
      → entries_of (cond b es (e ∷ rest)) ≡ cond b (entries_of es) (entry_of e ∷ seen)
  left_here true e es rest seen same = refl
  left_here false e es rest seen same = ap (λ (l : List Attribute). entry_of e ∷ l) same

  pub without_attribute-entries : (es : Entries) → entries_of (remove_entry (text_test name) es) ≡ without_attribute (entries_of es) name
  unfolding without_attribute
  without_attribute-entries [] = refl
  without_attribute-entries (e ∷ es) =
      rw (is_eq-slice_cmp name (string_bytes e.0)) (left_here (bytes_eq name (string_bytes e.0)) e es (remove_entry (text_test name) es) (without_attribute (entries_of es) name) (without_attribute-entries es))

put_here : (o : Ordering) (k : String Global) (v : String Global) (e : String Global × String Global) (es rest : Entries) (seen : List Attribute) → entries_of rest ≡ seen
    → entries_of (match_ordering o ((k, v) ∷ e ∷ es) ((e.0, v) ∷ es) (e ∷ rest)) ≡ match_ordering o (entry_of (k, v) ∷ entries_of (e ∷ es)) (entry_of (e.0, v) ∷ entries_of es) (entry_of e ∷ seen)
put_here Less k v e es rest seen same = refl
put_here Equal k v e es rest seen same = refl
put_here Greater k v e es rest seen same = ap (λ (l : List Attribute). entry_of e ∷ l) same

pub with_attribute-entries : (es : Entries) (k : String Global) (v : String Global) → entries_of (insert_entry string_cmp es k v) ≡ with_attribute (entries_of es) (string_bytes k) (string_bytes v)
unfolding with_attribute
with_attribute-entries [] k v = refl
with_attribute-entries (e ∷ es) k v = put_here (string_cmp k e.0) k v e es (insert_entry string_cmp es k v) (with_attribute (entries_of es) (string_bytes k) (string_bytes v)) (with_attribute-entries es k v)

-- what a map's calls leave, seen as attributes
module _ (es more : Entries) (seen : List Attribute) (name : List ℕ) where
  pub looked_up : (found : Option (String Global)) → entries_of es ≡ seen → found ≡ lookup (text_test name) es → option_map (λ v. string_bytes v) found ≡ value_of seen name
  looked_up found view is = ap (λ (o : Option (String Global)). option_map (λ v. string_bytes v) o) is ∙ value_of-entries name es ∙ ap (λ (l : List Attribute). value_of l name) view

  pub inserted : (k : String Global) (v : String Global) (value : List ℕ) → entries_of es ≡ seen → string_bytes k ≡ name → string_bytes v ≡ value → more ≡ insert_entry string_cmp es k v
      → entries_of more ≡ with_attribute seen name value
  inserted k v value view text bytes is = ap (λ (l : Entries). entries_of l) is ∙ with_attribute-entries es k v ∙ (λ i. with_attribute (view i) (text i) (bytes i))

  pub removed : entries_of es ≡ seen → more ≡ remove_entry (text_test name) es → entries_of more ≡ without_attribute seen name
  removed view is = ap (λ (l : Entries). entries_of l) is ∙ without_attribute-entries name es ∙ ap (λ (l : List Attribute). without_attribute l name) view

-- ---- the order of names

below_texts : (k : String Global) (es : Entries) → AllByRecursion (λ y. string_cmp k y ≡ Less) (keys_of es) → AllByRecursion (λ y. name_cmp (string_bytes k) y ≡ Less) (names_of (entries_of es))
below_texts k [] below = tt
below_texts k (e ∷ es) below = (below.0, below_texts k es below.1)

-- a map's names rise
pub NamesRise-entries : (es : Entries) → IsStrictlySortedBy string_cmp (keys_of es) → NamesRise (entries_of es)
unfolding NamesRise IsStrictlySortedBy
NamesRise-entries [] sorted = tt
NamesRise-entries (e ∷ es) sorted = (below_texts e.0 es sorted.0, NamesRise-entries es sorted.1)

pub rises : (es : Entries) (seen : List Attribute) → entries_of es ≡ seen → IsStrictlySortedBy string_cmp (keys_of es) → NamesRise seen
rises es seen view sorted = subst NamesRise view (NamesRise-entries es sorted)
