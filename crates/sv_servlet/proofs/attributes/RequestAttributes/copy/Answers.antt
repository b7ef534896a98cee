use Rattle.std.proofs.Common.{◌≡◌, ◌++◌, ◌∷◌, [], ◌∙◌, sym, ap, subst, refl, append_assoc, List, ℕ, Global, String, string_bytes}
use Rattle.std.specs.BTreeMap.{insert_entry}
use Rattle.std.specs.String.{string_cmp}
use Rattle.sv_model.specs.Attributes.{Attribute, NamesRise, IsAboveAll}
use Rattle.sv_model.proofs.AttributesLemmas.{with_attribute-last, IsAboveAll-from_rise}
use Rattle.sv_servlet.specs.Attributes.{entries_of}
use Rattle.sv_servlet.proofs.AttributesLemmas.{Entries, inserted}
use Rattle.sv_servlet.proofs.attributes.RequestAttributes.copy.Goals as goal

-- one more attribute is copied
copied : (es more : Entries) (all left rest : List Attribute) (name value : List ℕ) → entries_of es ++ left ≡ all → NamesRise all → left ≡ (name, value) ∷ rest
    → (k v : String Global) → string_bytes k ≡ name → string_bytes v ≡ value → more ≡ insert_entry string_cmp es k v → entries_of more ++ rest ≡ all
copied es more all left rest name value so_far rise step k v text bytes is =
    let first : entries_of es ++ (name, value) ∷ rest ≡ all = ap (λ (l : List Attribute). entries_of es ++ l) (sym step) ∙ so_far in
    let above : IsAboveAll name (entries_of es) = IsAboveAll-from_rise (entries_of es) (name, value) rest (subst NamesRise (sym first) rise) in
    let put : entries_of more ≡ entries_of es ++ (name, value) ∷ [] = inserted es more (entries_of es) name k v value refl text bytes is ∙ with_attribute-last name value (entries_of es) above in
    ap (λ (l : List Attribute). l ++ rest) put ∙ append_assoc (entries_of es) ((name, value) ∷ []) rest ∙ first

pub loop-name-preserved : goal.loop-name-preserved
loop-name-preserved c = copied c.loop-name.by_name.entries c.insert.new.self.entries c.args.self.now c.loop-name.name-iterator c.next.new.self c.in-Some.name.now c.in-Some.value.now c.loop-name.invariant c.iter-name-items.ensures.rising c.in-Some.ensures.steps c.in_ok-from_str.field-0 c.in_ok-from_str-2.field-0 c.in_ok-from_str.ensures.ok c.in_ok-from_str-2.ensures.ok c.in_ok-insert.ensures.entries

pub loop-name-preserved-in_ok-insert : goal.loop-name-preserved-in_ok-insert
loop-name-preserved-in_ok-insert c = copied c.loop-name.by_name.entries c.insert.new.self.entries c.args.self.now c.loop-name.name-iterator c.next.new.self c.in-Some.name.now c.in-Some.value.now c.loop-name.invariant c.iter-name-items.ensures.rising c.in-Some.ensures.steps c.in_ok-from_str.field-0 c.in_ok-from_str-2.field-0 c.in_ok-from_str.ensures.ok c.in_ok-from_str-2.ensures.ok c.in_ok-insert.ensures.entries
