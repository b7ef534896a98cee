use Rattle.std.proofs.Common.{◌≡◌, ◌∙◌, sym, ap, subst, arith, List, ℕ, Option, Some, None, Vec, Global, String, string_bytes, length, ◌+◌, ◌≤◌}
use Rattle.std.specs.Map.{lookup, keys_of}
use Rattle.std.specs.BTreeMap.{is_at, insert_entry}
use Rattle.std.specs.List.Sorted.{IsStrictlySortedBy}
use Rattle.std.specs.String.{string_cmp}
use Rattle.std.specs.Option.{option_map}
use Rattle.sv_model.specs.Attributes.{Attribute, attributes_size, entries_of, value_of, with_attribute}
use Rattle.sv_model.proofs.AttributesLemmas.{Entries, looked_up, inserted, rises, size_replaced, size_added, size_removed}
use Rattle.sv_model.proofs.attributes.Attributes.insert.Goals as goal

-- the map before and after the insertion, the attributes that it stands for, and what was handed in
module _ (es more : Entries) (seen : List Attribute) (k : String Global) (v : Vec ℕ Global) (name value : List ℕ) (size : ℕ)
    (view : entries_of es ≡ seen) (text : string_bytes k ≡ name) (bytes : v.items ≡ value) (total : size ≡ attributes_size (entries_of es)) where
  old_value : (old : Option (Vec ℕ Global)) → old ≡ lookup (is_at (string_cmp k)) es → option_map (λ w. w.items) old ≡ value_of seen name
  old_value old is = subst (λ (n : List ℕ). option_map (λ w. w.items) old ≡ value_of seen n) text (looked_up es es seen (string_bytes k) old view is)

  module _ (sorted : IsStrictlySortedBy string_cmp (keys_of es)) (is : more ≡ insert_entry string_cmp es k v) where
    new_total : attributes_size (entries_of more) ≡ attributes_size (with_attribute seen name value)
    new_total = ap (λ (l : List Attribute). attributes_size l) (inserted es more seen name k v value view text bytes is)

    replaced : (old : Vec ℕ Global) → Some old ≡ lookup (is_at (string_cmp k)) es → (attributes_size (entries_of more) + length old.items ≡ size + length v.items) × (length old.items ≤ size)
    replaced old found =
        let was : Some old.items ≡ value_of seen name = old_value (Some old) found in
        let sizes = (size_replaced seen name value old.items (rises es seen view sorted) was).0 in
        let same = ap (λ (l : List Attribute). attributes_size l) view in
        (omega (arith, sizes, new_total, total, same, ap (λ (l : List ℕ). length l) bytes), omega (arith, (size_removed seen name old.items was).0, total, same))

    added : None ≡ lookup (is_at (string_cmp k)) es → attributes_size (entries_of more) ≡ size + length (string_bytes k) + length v.items
    added found =
        let sizes = (size_added seen name value (rises es seen view sorted) (old_value None found)).0 in
        omega (arith, sizes, new_total, total, ap (λ (l : List Attribute). attributes_size l) view, ap (λ (l : List ℕ). length l) bytes, ap (λ (l : List ℕ). length l) text)

pub overflow_sub-self : goal.overflow_sub-self
overflow_sub-self c = omega (arith, (replaced c.self.inside.by_name.entries c.insert.new.self.entries c.args.self.now c.into_string-name.result c.into_vec-value.result c.args.name c.args.value c.self.inside.size c.self.view_is c.into_string-name.ensures c.into_vec-value.ensures c.self.invariant c.in_ok-old.ensures.was_ordered c.in_ok-old.ensures.entries c.in-Some.old (sym c.in-Some.is ∙ c.in_ok-old.ensures.old)).1, c.len.ensures)

pub overflow_add-self : goal.overflow_add-self
overflow_add-self c = omega (arith, (replaced c.self.inside.by_name.entries c.insert.new.self.entries c.args.self.now c.into_string-name.result c.into_vec-value.result c.args.name c.args.value c.self.inside.size c.self.view_is c.into_string-name.ensures c.into_vec-value.ensures c.self.invariant c.in_ok-old.ensures.was_ordered c.in_ok-old.ensures.entries c.in-Some.old (sym c.in-Some.is ∙ c.in_ok-old.ensures.old)).0, new_total c.self.inside.by_name.entries c.insert.new.self.entries c.args.self.now c.into_string-name.result c.into_vec-value.result c.args.name c.args.value c.self.inside.size c.self.view_is c.into_string-name.ensures c.into_vec-value.ensures c.self.invariant c.in_ok-old.ensures.was_ordered c.in_ok-old.ensures.entries, c.len.ensures, c.len-value_len.ensures, c.requires)

pub invariant_of-self-in-Some : goal.invariant_of-self-in-Some
invariant_of-self-in-Some c = omega (arith, replaced c.self.inside.by_name.entries c.insert.new.self.entries c.args.self.now c.into_string-name.result c.into_vec-value.result c.args.name c.args.value c.self.inside.size c.self.view_is c.into_string-name.ensures c.into_vec-value.ensures c.self.invariant c.in_ok-old.ensures.was_ordered c.in_ok-old.ensures.entries c.in-Some.old (sym c.in-Some.is ∙ c.in_ok-old.ensures.old), c.len.ensures, c.len-value_len.ensures)

pub overflow_add-self-in-None : goal.overflow_add-self-in-None
overflow_add-self-in-None c = omega (arith, added c.self.inside.by_name.entries c.insert.new.self.entries c.args.self.now c.into_string-name.result c.into_vec-value.result c.args.name c.args.value c.self.inside.size c.self.view_is c.into_string-name.ensures c.into_vec-value.ensures c.self.invariant c.in_ok-old.ensures.was_ordered c.in_ok-old.ensures.entries (sym c.in-None.is ∙ c.in_ok-old.ensures.old), new_total c.self.inside.by_name.entries c.insert.new.self.entries c.args.self.now c.into_string-name.result c.into_vec-value.result c.args.name c.args.value c.self.inside.size c.self.view_is c.into_string-name.ensures c.into_vec-value.ensures c.self.invariant c.in_ok-old.ensures.was_ordered c.in_ok-old.ensures.entries, c.len-name_len.ensures, c.requires)

pub overflow_add-self-in-None-2 : goal.overflow_add-self-in-None-2
overflow_add-self-in-None-2 c = omega (arith, added c.self.inside.by_name.entries c.insert.new.self.entries c.args.self.now c.into_string-name.result c.into_vec-value.result c.args.name c.args.value c.self.inside.size c.self.view_is c.into_string-name.ensures c.into_vec-value.ensures c.self.invariant c.in_ok-old.ensures.was_ordered c.in_ok-old.ensures.entries (sym c.in-None.is ∙ c.in_ok-old.ensures.old), new_total c.self.inside.by_name.entries c.insert.new.self.entries c.args.self.now c.into_string-name.result c.into_vec-value.result c.args.name c.args.value c.self.inside.size c.self.view_is c.into_string-name.ensures c.into_vec-value.ensures c.self.invariant c.in_ok-old.ensures.was_ordered c.in_ok-old.ensures.entries, c.len-name_len.ensures, c.len-value_len.ensures, c.requires)

pub invariant_of-self-in-None : goal.invariant_of-self-in-None
invariant_of-self-in-None c = omega (arith, added c.self.inside.by_name.entries c.insert.new.self.entries c.args.self.now c.into_string-name.result c.into_vec-value.result c.args.name c.args.value c.self.inside.size c.self.view_is c.into_string-name.ensures c.into_vec-value.ensures c.self.invariant c.in_ok-old.ensures.was_ordered c.in_ok-old.ensures.entries (sym c.in-None.is ∙ c.in_ok-old.ensures.old), c.len-name_len.ensures, c.len-value_len.ensures)

pub returns-in-Some-clause-old : goal.returns-in-Some-clause-old
returns-in-Some-clause-old c = ap Some c.from_vec.ensures ∙ old_value c.self.inside.by_name.entries c.insert.new.self.entries c.args.self.now c.into_string-name.result c.into_vec-value.result c.args.name c.args.value c.self.inside.size c.self.view_is c.into_string-name.ensures c.into_vec-value.ensures c.self.invariant (Some c.in-Some.old) (sym c.in-Some.is ∙ c.in_ok-old.ensures.old)

pub returns-in-Some-clause-ok : goal.returns-in-Some-clause-ok
returns-in-Some-clause-ok c = inserted c.self.inside.by_name.entries c.insert.new.self.entries c.args.self.now c.args.name c.into_string-name.result c.into_vec-value.result c.args.value c.self.view_is c.into_string-name.ensures c.into_vec-value.ensures c.in_ok-old.ensures.entries

pub returns-in-None-clause-old : goal.returns-in-None-clause-old
returns-in-None-clause-old c = old_value c.self.inside.by_name.entries c.insert.new.self.entries c.args.self.now c.into_string-name.result c.into_vec-value.result c.args.name c.args.value c.self.inside.size c.self.view_is c.into_string-name.ensures c.into_vec-value.ensures c.self.invariant None (sym c.in-None.is ∙ c.in_ok-old.ensures.old)

pub returns-in-None-clause-ok : goal.returns-in-None-clause-ok
returns-in-None-clause-ok c = inserted c.self.inside.by_name.entries c.insert.new.self.entries c.args.self.now c.args.name c.into_string-name.result c.into_vec-value.result c.args.value c.self.view_is c.into_string-name.ensures c.into_vec-value.ensures c.in_ok-old.ensures.entries
