-- Attributes: what a map's entries are as a list, and what a change does to the order, to the counts and to the limits.
use Rattle.std.proofs.Common.{◌≡◌, ℕ, ◌+◌, ◌≤◌, Bool, true, false, cond, List, [], ◌∷◌, ◌++◌, length, All, Option, Some, None, refl, sym, ap, ◌∙◌, subst, arith, add-one, String, Vec, Global, string_bytes}
use Rattle.std.specs.BTreeMap.{insert_entry, is_at}
use Rattle.std.specs.Cmp.Lexicographic.{slice_cmp}
use Rattle.std.specs.List.{AllByRecursion}
use Rattle.std.specs.List.Sorted.{IsStrictlySortedBy}
use Rattle.std.specs.Map.{keys_of, lookup, remove_entry}
use Rattle.std.specs.Option.{option_map}
use Rattle.std.specs.Ordering.{nat_cmp, is_eq, match_ordering, ordering_reverse}
use Rattle.std.specs.Str.{bytes_eq}
use Rattle.std.specs.String.{string_cmp}
use Rattle.std.specs.declared.cmp.Ordering.{Ordering}
use Rattle.std.specs.declared.cmp.Ordering.TheVariants.{Less, Equal, Greater}
use Rattle.std.proofs.lemmas.Cmp.{nat_list_cmp_total}
use Rattle.std.proofs.lemmas.Map.Text.{is_eq-slice_cmp}
use Rattle.std.proofs.lemmas.Map.{lookup-none}
use Rattle.std.proofs.lemmas.Map.Entries.{none_below_head}
use Rattle.std.proofs.lemmas.Map.Keys.{sorted_head, sorted_tail}
use Rattle.std.proofs.lemmas.Slice.Eq.{bytes_eq-Decides}
use Rattle.std.proofs.lemmas.List.Elements.{All-cons, All-head, All-tail}
use Rattle.std.proofs.lemmas.List.Sums.{sum_by-cons, sum_by-append, sum_by_push}
use Rattle.sv_model.specs.Attributes.{Attribute, entry_of, entries_of, names_of, attribute_size, attributes_size, name_cmp, NamesRise, IsAboveAll, value_of, with_attribute, without_attribute}

abbrev pub Entries : Type 0
Entries = List (String Global × Vec ℕ Global)

-- ---- a map's entries, seen as attributes

-- a map of texts finds a name by this test
abbrev text_test : List ℕ → String Global → Bool
text_test name = is_at (λ k. slice_cmp nat_cmp name (string_bytes k))

module _ (name : List ℕ) where
  found_here : (b : Bool) (x : Vec ℕ Global) (rest : Option (Vec ℕ Global)) (seen : Option (List ℕ)) → option_map (λ v. v.items) rest ≡ seen
      → option_map (λ v. v.items) (cond b (Some x) rest) ≡ cond b (Some x.items) seen
  found_here true x rest seen same = refl
  found_here false x rest seen same = same

  pub value_of-entries : (es : Entries) → option_map (λ v. v.items) (lookup (text_test name) es) ≡ value_of (entries_of es) name
  unfolding value_of
  value_of-entries [] = refl
  value_of-entries (e ∷ es) = rw (is_eq-slice_cmp name (string_bytes e.0)) (found_here (bytes_eq name (string_bytes e.0)) e.1 (lookup (text_test name) es) (value_of (entries_of es) name) (value_of-entries es))

  left_here : (b : Bool) (e : String Global × Vec ℕ Global) (es rest : Entries) (seen : List Attribute) → entries_of rest ≡ seen
      → entries_of (cond b es (e ∷ rest)) ≡ cond b (entries_of es) (entry_of e ∷ seen)
  left_here true e es rest seen same = refl
  left_here false e es rest seen same = ap (λ (l : List Attribute). entry_of e ∷ l) same

  pub without_attribute-entries : (es : Entries) → entries_of (remove_entry (text_test name) es) ≡ without_attribute (entries_of es) name
  unfolding without_attribute
  without_attribute-entries [] = refl
  without_attribute-entries (e ∷ es) =
      rw (is_eq-slice_cmp name (string_bytes e.0)) (left_here (bytes_eq name (string_bytes e.0)) e es (remove_entry (text_test name) es) (without_attribute (entries_of es) name) (without_attribute-entries es))

put_here : (o : Ordering) (k : String Global) (v : Vec ℕ Global) (e : String Global × Vec ℕ Global) (es rest : Entries) (seen : List Attribute) → entries_of rest ≡ seen
    → entries_of (match_ordering o ((k, v) ∷ e ∷ es) ((e.0, v) ∷ es) (e ∷ rest)) ≡ match_ordering o (entry_of (k, v) ∷ entries_of (e ∷ es)) (entry_of (e.0, v) ∷ entries_of es) (entry_of e ∷ seen)
put_here Less k v e es rest seen same = refl
put_here Equal k v e es rest seen same = refl
put_here Greater k v e es rest seen same = ap (λ (l : List Attribute). entry_of e ∷ l) same

pub with_attribute-entries : (es : Entries) (k : String Global) (v : Vec ℕ Global) → entries_of (insert_entry string_cmp es k v) ≡ with_attribute (entries_of es) (string_bytes k) v.items
unfolding with_attribute
with_attribute-entries [] k v = refl
with_attribute-entries (e ∷ es) k v = put_here (string_cmp k e.0) k v e es (insert_entry string_cmp es k v) (with_attribute (entries_of es) (string_bytes k) v.items) (with_attribute-entries es k v)

-- what a map's calls leave, seen as attributes
module _ (es more : Entries) (seen : List Attribute) (name : List ℕ) where
  pub looked_up : (found : Option (Vec ℕ Global)) → entries_of es ≡ seen → found ≡ lookup (text_test name) es → option_map (λ v. v.items) found ≡ value_of seen name
  looked_up found view is = ap (λ (o : Option (Vec ℕ Global)). option_map (λ v. v.items) o) is ∙ value_of-entries name es ∙ ap (λ (l : List Attribute). value_of l name) view

  pub inserted : (k : String Global) (v : Vec ℕ Global) (value : List ℕ) → entries_of es ≡ seen → string_bytes k ≡ name → v.items ≡ value → more ≡ insert_entry string_cmp es k v
      → entries_of more ≡ with_attribute seen name value
  inserted k v value view text bytes is = ap (λ (l : Entries). entries_of l) is ∙ with_attribute-entries es k v ∙ (λ i. with_attribute (view i) (text i) (bytes i))

  pub removed : entries_of es ≡ seen → more ≡ remove_entry (text_test name) es → entries_of more ≡ without_attribute seen name
  removed view is = ap (λ (l : Entries). entries_of l) is ∙ without_attribute-entries name es ∙ ap (λ (l : List Attribute). without_attribute l name) view

-- ---- the order of names

below_texts : (k : String Global) (es : Entries) → AllByRecursion (λ y. string_cmp k y ≡ Less) (keys_of es) → AllByRecursion (λ y. name_cmp (string_bytes k) y ≡ Less) (names_of (entries_of es))
below_texts k [] below = tt
below_texts k (e ∷ es) below = (below.0, below_texts k es below.1)

-- a map's names rise
pub NamesRise-entries : (es : Entries) → IsStrictlySortedBy string_cmp (keys_of es) → NamesRise (entries_of es)
unfolding NamesRise IsStrictlySortedBy
NamesRise-entries [] sorted = tt
NamesRise-entries (e ∷ es) sorted = (below_texts e.0 es sorted.0, NamesRise-entries es sorted.1)

pub rises : (es : Entries) (seen : List Attribute) → entries_of es ≡ seen → IsStrictlySortedBy string_cmp (keys_of es) → NamesRise seen
rises es seen view sorted = subst NamesRise view (NamesRise-entries es sorted)

-- a key above each one there goes to the end
module _ {K X : Type 0} (cmp : K → K → Ordering) where
  insert_last : (es : List (K × X)) (k : K) (v : X) → AllByRecursion (λ e. cmp k e.0 ≡ Greater) es → insert_entry cmp es k v ≡ es ++ (k, v) ∷ []
  insert_last [] k v above = refl
  insert_last (e ∷ es) k v above = rw above.0 (ap (λ (l : List (K × X)). e ∷ l) (insert_last es k v above.1))

below_is_above : (a b : List ℕ) → name_cmp a b ≡ Less → name_cmp b a ≡ Greater
below_is_above a b less = nat_list_cmp_total.antisymm b a ∙ ap ordering_reverse less

above_is_below : (a b : List ℕ) → name_cmp a b ≡ Greater → name_cmp b a ≡ Less
above_is_below a b greater = nat_list_cmp_total.antisymm b a ∙ ap ordering_reverse greater

-- a name above each one there goes to the end
module _ (name value : List ℕ) where
  greater_than_all : (es : List Attribute) → IsAboveAll name es → AllByRecursion (λ e. name_cmp name e.0 ≡ Greater) es
  unfolding IsAboveAll
  greater_than_all [] above = tt
  greater_than_all (e ∷ es) above = (below_is_above e.0 name above.0, greater_than_all es above.1)

  pub with_attribute-last : (es : List Attribute) → IsAboveAll name es → with_attribute es name value ≡ es ++ (name, value) ∷ []
  unfolding with_attribute
  with_attribute-last es above = insert_last name_cmp es name value (greater_than_all es above)

pub IsAboveAll-nil : (name : List ℕ) → IsAboveAll name []
unfolding IsAboveAll
IsAboveAll-nil name = tt

-- a name above the last one is above all
pub IsAboveAll-push : (name : List ℕ) (es : List Attribute) (e : Attribute) → IsAboveAll e.0 es → name_cmp e.0 name ≡ Less → IsAboveAll name (es ++ e ∷ [])
unfolding IsAboveAll
IsAboveAll-push name [] e above less = (less, tt)
IsAboveAll-push name (d ∷ es) e above less = (nat_list_cmp_total.trans d.0 e.0 name above.0 less, IsAboveAll-push name es e above.1 less)

-- a name is below each of these
abbrev IsBelowAll : List ℕ → List Attribute → Type 0
IsBelowAll name attributes = AllByRecursion (λ y. name_cmp name y ≡ Less) (names_of attributes)

pub NamesRise-head : (d : Attribute) (es : List Attribute) → NamesRise (d ∷ es) → IsBelowAll d.0 es
unfolding NamesRise
NamesRise-head d es rise = sorted_head name_cmp d.0 (names_of es) rise

pub NamesRise-tail : (d : Attribute) (es : List Attribute) → NamesRise (d ∷ es) → NamesRise es
unfolding NamesRise
NamesRise-tail d es rise = sorted_tail name_cmp d.0 (names_of es) rise

pub NamesRise-cons : (d : Attribute) (es : List Attribute) → IsBelowAll d.0 es → NamesRise es → NamesRise (d ∷ es)
unfolding NamesRise IsStrictlySortedBy
NamesRise-cons d es below rise = (below, rise)

pub NamesRise-nil : NamesRise []
unfolding NamesRise IsStrictlySortedBy
NamesRise-nil = tt

below_among : (name : List ℕ) (es : List Attribute) (e : Attribute) (more : List Attribute) → IsBelowAll name (es ++ e ∷ more) → name_cmp name e.0 ≡ Less
below_among name [] e more below = below.0
below_among name (d ∷ es) e more below = below_among name es e more below.1

below_push : (name : List ℕ) (es : List Attribute) (e : Attribute) → IsBelowAll name es → name_cmp name e.0 ≡ Less → IsBelowAll name (es ++ e ∷ [])
below_push name [] e below less = (less, tt)
below_push name (d ∷ es) e below less = (below.0, below_push name es e below.1 less)

below_through : (low high : List ℕ) (es : List Attribute) → name_cmp low high ≡ Less → IsBelowAll high es → IsBelowAll low es
below_through low high [] less below = tt
below_through low high (d ∷ es) less below = (nat_list_cmp_total.trans low high d.0 less below.0, below_through low high es less below.1)

-- names that rise up to a name are below it
pub IsAboveAll-from_rise : (es : List Attribute) (e : Attribute) (more : List Attribute) → NamesRise (es ++ e ∷ more) → IsAboveAll e.0 es
unfolding IsAboveAll
IsAboveAll-from_rise [] e more rise = tt
IsAboveAll-from_rise (d ∷ es) e more rise =
    (below_among d.0 es e more (NamesRise-head d (es ++ e ∷ more) rise), IsAboveAll-from_rise es e more (NamesRise-tail d (es ++ e ∷ more) rise))

pub NamesRise-push : (es : List Attribute) (e : Attribute) → NamesRise es → IsAboveAll e.0 es → NamesRise (es ++ e ∷ [])
unfolding IsAboveAll
NamesRise-push [] e rise above = NamesRise-cons e [] tt rise
NamesRise-push (d ∷ es) e rise above =
    NamesRise-cons d (es ++ e ∷ []) (below_push d.0 es e (NamesRise-head d es rise) above.0) (NamesRise-push es e (NamesRise-tail d es rise) above.1)

module _ (name value : List ℕ) where
  put_below : (low : List ℕ) (o : Ordering) (e : Attribute) (es rest : List Attribute) → name_cmp low name ≡ Less → IsBelowAll low (e ∷ es) → IsBelowAll low rest
      → IsBelowAll low (match_ordering o ((name, value) ∷ e ∷ es) ((e.0, value) ∷ es) (e ∷ rest))
  put_below low Less e es rest less below left = (less, below)
  put_below low Equal e es rest less below left = below
  put_below low Greater e es rest less below left = (below.0, left)

  with_below : (low : List ℕ) (es : List Attribute) → name_cmp low name ≡ Less → IsBelowAll low es → IsBelowAll low (with_attribute es name value)
  unfolding with_attribute
  with_below low [] less below = (less, tt)
  with_below low (e ∷ es) less below = put_below low (name_cmp name e.0) e es (with_attribute es name value) less below (with_below low es less below.1)

  put_rise : (o : Ordering) (e : Attribute) (es : List Attribute) → o ≡ name_cmp name e.0 → NamesRise (e ∷ es) → NamesRise (with_attribute es name value)
      → NamesRise (match_ordering o ((name, value) ∷ e ∷ es) ((e.0, value) ∷ es) (e ∷ with_attribute es name value))
  put_rise Less e es is rise left = NamesRise-cons (name, value) (e ∷ es) (sym is, below_through name e.0 es (sym is) (NamesRise-head e es rise)) rise
  put_rise Equal e es is rise left = NamesRise-cons (e.0, value) es (NamesRise-head e es rise) (NamesRise-tail e es rise)
  put_rise Greater e es is rise left =
      NamesRise-cons e (with_attribute es name value) (with_below e.0 es (above_is_below name e.0 (sym is)) (NamesRise-head e es rise)) left

  -- names still rise with one that is set
  pub NamesRise-with_attribute : (es : List Attribute) → NamesRise es → NamesRise (with_attribute es name value)
  unfolding with_attribute
  NamesRise-with_attribute [] rise = NamesRise-cons (name, value) [] tt rise
  NamesRise-with_attribute (e ∷ es) rise = put_rise (name_cmp name e.0) e es refl rise (NamesRise-with_attribute es (NamesRise-tail e es rise))

left_below : (low : List ℕ) (b : Bool) (e : Attribute) (es rest : List Attribute) → IsBelowAll low (e ∷ es) → IsBelowAll low rest → IsBelowAll low (cond b es (e ∷ rest))
left_below low true e es rest below left = below.1
left_below low false e es rest below left = (below.0, left)

without_below : (low name : List ℕ) (es : List Attribute) → IsBelowAll low es → IsBelowAll low (without_attribute es name)
unfolding without_attribute
without_below low name [] below = below
without_below low name (e ∷ es) below = left_below low (bytes_eq name e.0) e es (without_attribute es name) below (without_below low name es below.1)

left_rise : (b : Bool) (e : Attribute) (es rest : List Attribute) → NamesRise (e ∷ es) → IsBelowAll e.0 rest → NamesRise rest → NamesRise (cond b es (e ∷ rest))
left_rise true e es rest rise below left = NamesRise-tail e es rise
left_rise false e es rest rise below left = NamesRise-cons e rest below left

-- and without one that is removed
pub NamesRise-without_attribute : (name : List ℕ) (es : List Attribute) → NamesRise es → NamesRise (without_attribute es name)
unfolding without_attribute
NamesRise-without_attribute name [] rise = rise
NamesRise-without_attribute name (e ∷ es) rise =
    let rest : NamesRise es = NamesRise-tail e es rise in
    left_rise (bytes_eq name e.0) e es (without_attribute es name) rise (without_below e.0 name es (NamesRise-head e es rise)) (NamesRise-without_attribute name es rest)

-- ---- the bytes and the number of all

pub attributes_size-nil : attributes_size [] ≡ 0
unfolding attributes_size
attributes_size-nil = refl

pub attributes_size-cons : (e : Attribute) (es : List Attribute) → attributes_size (e ∷ es) ≡ attribute_size e + attributes_size es
unfolding attributes_size
attributes_size-cons e es = sum_by-cons attribute_size e es

pub attributes_size-push : (es : List Attribute) (e : Attribute) → attributes_size (es ++ e ∷ []) ≡ attributes_size es + attribute_size e
unfolding attributes_size
attributes_size-push es e = sum_by_push attribute_size es e

pub attributes_size-append : (xs ys : List Attribute) → attributes_size (xs ++ ys) ≡ attributes_size xs + attributes_size ys
unfolding attributes_size
attributes_size-append xs ys = sum_by-append attribute_size xs ys

same_name : (a b : List ℕ) → true ≡ bytes_eq a b → a ≡ b
same_name a b is = (bytes_eq-Decides a b).0 (sym is)

module _ (name : List ℕ) where
  -- what the removal of a name takes away, by the value that was there
  abbrev pub Takes : List Attribute → List Attribute → Option (List ℕ) → Type 0
  Takes old new None = new ≡ old
  Takes old new (Some value) = (attributes_size new + (length name + length value) ≡ attributes_size old) × (length new + 1 ≡ length old)

  takes_here : (b : Bool) (e : Attribute) (es rest : List Attribute) (found : Option (List ℕ)) → b ≡ bytes_eq name e.0 → Takes es rest found
      → Takes (e ∷ es) (cond b es (e ∷ rest)) (cond b (Some e.1) found)
  takes_here true e es rest found is takes =
      let same : length name ≡ length e.0 = ap (λ (n : List ℕ). length n) (same_name name e.0 is) in
      (omega (arith, attributes_size-cons e es), add-one (length es))
  takes_here false e es rest None is takes = ap (λ (l : List Attribute). e ∷ l) takes
  takes_here false e es rest (Some value) is takes = (omega (arith, attributes_size-cons e es, attributes_size-cons e rest), omega arith)

  pub without_attribute-takes : (es : List Attribute) → Takes es (without_attribute es name) (value_of es name)
  unfolding without_attribute value_of
  without_attribute-takes [] = refl
  without_attribute-takes (e ∷ es) = takes_here (bytes_eq name e.0) e es (without_attribute es name) (value_of es name) refl (without_attribute-takes es)

-- the test by which names are equal, and the order of names
by_order : (name : List ℕ) (es : List Attribute) → value_of es name ≡ lookup (is_at (name_cmp name)) es
unfolding value_of
by_order name es = ap (λ (test : List ℕ → Bool). lookup test es) (λ i k. sym (is_eq-slice_cmp name k) i)

tested : (name : List ℕ) (e : Attribute) (o : Ordering) → o ≡ name_cmp name e.0 → is_eq o ≡ bytes_eq name e.0
tested name e o is = ap is_eq is ∙ is_eq-slice_cmp name e.0

value_first : (e : Attribute) (es : List Attribute) (name : List ℕ) → true ≡ bytes_eq name e.0 → Some e.1 ≡ value_of (e ∷ es) name
unfolding value_of
value_first e es name is = ap (λ (b : Bool). cond b (Some e.1) (lookup (bytes_eq name) es)) is

value_further : (e : Attribute) (es : List Attribute) (name : List ℕ) → false ≡ bytes_eq name e.0 → value_of es name ≡ value_of (e ∷ es) name
unfolding value_of
value_further e es name is = ap (λ (b : Bool). cond b (Some e.1) (lookup (bytes_eq name) es)) is

absent_below : (e : Attribute) (es : List Attribute) (name : List ℕ) → NamesRise (e ∷ es) → name_cmp name e.0 ≡ Less → value_of (e ∷ es) name ≡ None
unfolding NamesRise
absent_below e es name rise less =
    by_order name (e ∷ es) ∙ lookup-none (is_at (name_cmp name)) (e ∷ es) (none_below_head nat_list_cmp_total name e es rise less)

module _ (name value : List ℕ) where
  -- what a value at a name adds, by the value that was there
  abbrev pub Puts : List Attribute → List Attribute → Option (List ℕ) → Type 0
  Puts old new None = (attributes_size new ≡ attributes_size old + (length name + length value)) × (length new ≡ length old + 1)
  Puts old new (Some was) = (attributes_size new + length was ≡ attributes_size old + length value) × (length new ≡ length old)

  puts_last : Puts [] ((name, value) ∷ []) None
  unfolding attributes_size
  puts_last = (refl, refl)

  puts_further : (e : Attribute) (es rest : List Attribute) (found : Option (List ℕ)) → Puts es rest found → Puts (e ∷ es) (e ∷ rest) found
  puts_further e es rest None puts = (omega (arith, attributes_size-cons e es, attributes_size-cons e rest), omega arith)
  puts_further e es rest (Some was) puts = (omega (arith, attributes_size-cons e es, attributes_size-cons e rest), omega arith)

  puts_here : (o : Ordering) (e : Attribute) (es rest : List Attribute) → o ≡ name_cmp name e.0 → NamesRise (e ∷ es) → Puts es rest (value_of es name)
      → Puts (e ∷ es) (match_ordering o ((name, value) ∷ e ∷ es) ((e.0, value) ∷ es) (e ∷ rest)) (value_of (e ∷ es) name)
  puts_here Less e es rest is rise puts =
      let new : List Attribute = (name, value) ∷ e ∷ es in
      subst (Puts (e ∷ es) new) (sym (absent_below e es name rise (sym is))) (omega (arith, attributes_size-cons (name, value) (e ∷ es)), omega arith)
  puts_here Equal e es rest is rise puts =
      let new : List Attribute = (e.0, value) ∷ es in
      subst (Puts (e ∷ es) new) (value_first e es name (tested name e Equal is)) (omega (arith, attributes_size-cons (e.0, value) es, attributes_size-cons e es), refl)
  puts_here Greater e es rest is rise puts =
      subst (Puts (e ∷ es) (e ∷ rest)) (value_further e es name (tested name e Greater is)) (puts_further e es rest (value_of es name) puts)

  pub with_attribute-puts : (es : List Attribute) → NamesRise es → Puts es (with_attribute es name value) (value_of es name)
  unfolding with_attribute value_of attributes_size
  with_attribute-puts [] rise = puts_last
  with_attribute-puts (e ∷ es) rise = puts_here (name_cmp name e.0) e es (with_attribute es name value) refl rise (with_attribute-puts es (NamesRise-tail e es rise))

module _ (es : List Attribute) (name value : List ℕ) where
  -- a value is put in the place of another
  pub size_replaced : (was : List ℕ) → NamesRise es → Some was ≡ value_of es name
      → (attributes_size (with_attribute es name value) + length was ≡ attributes_size es + length value) × (length (with_attribute es name value) ≡ length es)
  size_replaced was rise is = subst (Puts name value es (with_attribute es name value)) (sym is) (with_attribute-puts name value es rise)

  -- a value is put at a name that has none
  pub size_added : NamesRise es → None ≡ value_of es name
      → (attributes_size (with_attribute es name value) ≡ attributes_size es + (length name + length value)) × (length (with_attribute es name value) ≡ length es + 1)
  size_added rise is = subst (Puts name value es (with_attribute es name value)) (sym is) (with_attribute-puts name value es rise)

-- a name is removed
pub size_removed : (es : List Attribute) (name was : List ℕ) → Some was ≡ value_of es name
    → (attributes_size (without_attribute es name) + (length name + length was) ≡ attributes_size es) × (length (without_attribute es name) + 1 ≡ length es)
size_removed es name was is = subst (Takes name es (without_attribute es name)) (sym is) (without_attribute-takes name es)

-- a name that is not there
pub none_removed : (es : List Attribute) (name : List ℕ) → None ≡ value_of es name → without_attribute es name ≡ es
none_removed es name is = subst (Takes name es (without_attribute es name)) (sym is) (without_attribute-takes name es)

-- a value at a name adds no more than its bytes and the name's
module _ (name value : List ℕ) where
  size_put : (o : Ordering) (e : Attribute) (es rest : List Attribute) → attributes_size rest ≤ attributes_size es + (length name + length value)
      → attributes_size (match_ordering o ((name, value) ∷ e ∷ es) ((e.0, value) ∷ es) (e ∷ rest)) ≤ attributes_size (e ∷ es) + (length name + length value)
  size_put Less e es rest small = omega (arith, attributes_size-cons (name, value) (e ∷ es))
  size_put Equal e es rest small = omega (arith, attributes_size-cons (e.0, value) es, attributes_size-cons e es)
  size_put Greater e es rest small = omega (arith, attributes_size-cons e rest, attributes_size-cons e es)

  pub size_with_attribute : (es : List Attribute) → attributes_size (with_attribute es name value) ≤ attributes_size es + (length name + length value)
  unfolding with_attribute
  size_with_attribute [] = omega (arith, attributes_size-cons (name, value) [])
  size_with_attribute (e ∷ es) = size_put (name_cmp name e.0) e es (with_attribute es name value) (size_with_attribute es)

-- ---- what holds of each

module _ (P : Attribute → Type 0) where
  all_put : (o : Ordering) (name value : List ℕ) (e : Attribute) (es rest : List Attribute) → P (name, value) → P (e.0, value) → All P (e ∷ es) → All P rest
      → All P (match_ordering o ((name, value) ∷ e ∷ es) ((e.0, value) ∷ es) (e ∷ rest))
  all_put Less name value e es rest one same all left = All-cons P (name, value) (e ∷ es) one all
  all_put Equal name value e es rest one same all left = All-cons P (e.0, value) es same (All-tail P e es all)
  all_put Greater name value e es rest one same all left = All-cons P e rest (All-head P e es all) left

  all_left : (b : Bool) (e : Attribute) (es rest : List Attribute) → All P (e ∷ es) → All P rest → All P (cond b es (e ∷ rest))
  all_left true e es rest all left = All-tail P e es all
  all_left false e es rest all left = All-cons P e rest (All-head P e es all) left

  -- what holds of each still holds without one of them
  pub All-without_attribute : (name : List ℕ) (es : List Attribute) → All P es → All P (without_attribute es name)
  unfolding without_attribute
  All-without_attribute name [] all = all
  All-without_attribute name (e ∷ es) all = all_left (bytes_eq name e.0) e es (without_attribute es name) all (All-without_attribute name es (All-tail P e es all))

-- what holds of each name still holds after a change, where it holds of the new one
pub All-names-with_attribute : (P : List ℕ → Type 0) (name value : List ℕ) (es : List Attribute) → P name → All (λ e. P e.0) es → All (λ e. P e.0) (with_attribute es name value)
unfolding with_attribute
All-names-with_attribute P name value [] one all = All-cons (λ (e : Attribute). P e.0) (name, value) [] one all
All-names-with_attribute P name value (e ∷ es) one all =
    let each : Attribute → Type 0 = λ d. P d.0 in
    all_put each (name_cmp name e.0) name value e es (with_attribute es name value) one (All-head each e es all) all (All-names-with_attribute P name value es one (All-tail each e es all))

-- what holds of each value still holds after a change, where it holds of the new one
pub All-values-with_attribute : (P : List ℕ → Type 0) (name value : List ℕ) (es : List Attribute) → P value → All (λ e. P e.1) es → All (λ e. P e.1) (with_attribute es name value)
unfolding with_attribute
All-values-with_attribute P name value [] one all = All-cons (λ (e : Attribute). P e.1) (name, value) [] one all
All-values-with_attribute P name value (e ∷ es) one all =
    let each : Attribute → Type 0 = λ d. P d.1 in
    all_put each (name_cmp name e.0) name value e es (with_attribute es name value) one one all (All-values-with_attribute P name value es one (All-tail each e es all))
