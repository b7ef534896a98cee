-- The attributes of a session (Jakarta Servlet 6.0, chapter "Sessions"): names and values, in order of the names' bytes.
use Rattle.std.specs.Prelude.{◌≡◌, ℕ, ◌+◌, Option, List, length, map, sum_by, string_bytes}
use Rattle.std.specs.declared.alloc.Global.{Global}
use Rattle.std.specs.declared.string.String.{String}
use Rattle.std.specs.declared.vec.Vec.{Vec}
use Rattle.std.specs.declared.cmp.Ordering.{Ordering}
use Rattle.std.specs.declared.cmp.Ordering.TheVariants.{Less}
use Rattle.std.specs.BTreeMap.{insert_entry}
use Rattle.std.specs.Cmp.Lexicographic.{slice_cmp}
use Rattle.std.specs.List.{AllByRecursion}
use Rattle.std.specs.List.Sorted.{IsStrictlySortedBy}
use Rattle.std.specs.Map.{lookup, remove_entry}
use Rattle.std.specs.Ordering.{nat_cmp}
use Rattle.std.specs.Str.{bytes_eq}

-- a name and its value
abbrev pub Attribute : Type 0
Attribute = List ℕ × List ℕ

-- the bytes of the name, and those of the value
abbrev pub entry_of : String Global × Vec ℕ Global → Attribute
entry_of e = (string_bytes e.0, e.1.items)

-- a map's entries as attributes
abbrev pub entries_of : List (String Global × Vec ℕ Global) → List Attribute
entries_of es = map entry_of es

-- the names, in order
abbrev pub names_of : List Attribute → List (List ℕ)
names_of attributes = map (λ e. e.0) attributes

-- the bytes of an attribute
abbrev pub attribute_size : Attribute → ℕ
attribute_size e = length e.0 + length e.1

-- the bytes of all names and values
unfoldable pub attributes_size : List Attribute → ℕ
attributes_size attributes = sum_by attribute_size attributes

-- names are compared by their bytes
abbrev pub name_cmp : List ℕ → List ℕ → Ordering
name_cmp = slice_cmp nat_cmp

-- each name is above those before it
unfoldable pub NamesRise : List Attribute → Type 0
NamesRise attributes = IsStrictlySortedBy name_cmp (names_of attributes)

-- the name is above each one there
unfoldable pub IsAboveAll : List ℕ → List Attribute → Type 0
IsAboveAll name attributes = AllByRecursion (λ e. name_cmp e.0 name ≡ Less) attributes

-- the value at a name
unfoldable pub value_of : List Attribute → List ℕ → Option (List ℕ)
value_of attributes name = lookup (bytes_eq name) attributes

-- the attributes with this value at the name: in the place of the old value, or at the name's place in the order
unfoldable pub with_attribute : List Attribute → List ℕ → List ℕ → List Attribute
with_attribute attributes name value = insert_entry name_cmp attributes name value

-- the attributes without the one of this name
unfoldable pub without_attribute : List Attribute → List ℕ → List Attribute
without_attribute attributes name = remove_entry (bytes_eq name) attributes
