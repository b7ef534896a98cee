use Rattle.std.proofs.Common.{◌≡◌, ◌++◌, [], List, ℕ, length, rules, sym, subst, ap, ◌∙◌, append_assoc}
use Rattle.std.specs.Int.{w16, to_be_bytes}
use Rattle.std.specs.List.{flat_map}
use Rattle.std.proofs.lemmas.List.{append-nil}
use Rattle.sv_record.specs.Session.{Attribute}
use Rattle.sv_record.proofs.WrittenLemmas.{attribute_text, attributes_text}
use Rattle.sv_record.proofs.attributes.write_attributes.Goals as goal

pub returns-clause-ok : goal.returns-clause-ok
returns-clause-ok c =
    let all_left : List Attribute = c.loop-name.name-iterator in
    let empty : all_left ≡ [] = search rules in
    let count = to_be_bytes w16 (length c.args.all.now) in
    let spelled = flat_map attribute_text c.args.all.now in
    let written = subst (λ (left : List Attribute). c.loop-name.out.items ++ flat_map attribute_text left ≡ c.args.out.now.items ++ count ++ spelled) empty c.loop-name.invariant.written in
    sym (append-nil c.loop-name.out.items) ∙ written ∙ append_assoc c.args.out.now.items count spelled ∙ ap (λ (l : List ℕ). c.args.out.now.items ++ l) (sym (attributes_text c.args.all.now))
