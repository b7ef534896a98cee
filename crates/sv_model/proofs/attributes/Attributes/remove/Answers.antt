use Rattle.std.proofs.Common.{◌≡◌, ◌∙◌, ap, arith, List, Some, None}
use Rattle.sv_model.specs.Attributes.{Attribute, attributes_size, value_of}
use Rattle.sv_model.proofs.AttributesLemmas.{looked_up, removed, size_removed}
use Rattle.sv_model.proofs.attributes.Attributes.remove.Goals as goal

pub overflow_sub-self : goal.overflow_sub-self
overflow_sub-self c =
    let es = c.self.inside.by_name.entries in
    let found : Some c.in-Some.old.items ≡ value_of c.args.self.now c.args.name.now = looked_up es es c.args.self.now c.args.name.now (Some c.in-Some.old) c.self.view_is c.in-Some.ensures.value in
    let size : c.self.inside.size ≡ attributes_size c.args.self.now = c.self.invariant ∙ ap (λ (l : List Attribute). attributes_size l) c.self.view_is in
    omega (arith, (size_removed c.args.self.now c.args.name.now c.in-Some.old.items found).0, c.len.ensures, size)

pub invariant_of-self : goal.invariant_of-self
invariant_of-self c =
    let es = c.self.inside.by_name.entries in
    let found : Some c.in-Some.old.items ≡ value_of c.args.self.now c.args.name.now = looked_up es es c.args.self.now c.args.name.now (Some c.in-Some.old) c.self.view_is c.in-Some.ensures.value in
    let size : c.self.inside.size ≡ attributes_size c.args.self.now = c.self.invariant ∙ ap (λ (l : List Attribute). attributes_size l) c.self.view_is in
    let rest = removed es c.remove.new.self.entries c.args.self.now c.args.name.now c.self.view_is c.in-Some.ensures.entries in
    omega (arith, (size_removed c.args.self.now c.args.name.now c.in-Some.old.items found).0, c.len.ensures, size, ap (λ (l : List Attribute). attributes_size l) rest)

pub returns-in-Some-clause-value : goal.returns-in-Some-clause-value
returns-in-Some-clause-value c =
    let es = c.self.inside.by_name.entries in
    ap Some c.from_vec.ensures ∙ looked_up es es c.args.self.now c.args.name.now (Some c.in-Some.old) c.self.view_is c.in-Some.ensures.value

pub returns-in-Some-clause-rest : goal.returns-in-Some-clause-rest
returns-in-Some-clause-rest c = removed c.self.inside.by_name.entries c.remove.new.self.entries c.args.self.now c.args.name.now c.self.view_is c.in-Some.ensures.entries

pub returns-in-None-clause-value : goal.returns-in-None-clause-value
returns-in-None-clause-value c =
    let es = c.self.inside.by_name.entries in
    looked_up es es c.args.self.now c.args.name.now None c.self.view_is c.in-None.ensures.value

pub returns-in-None-clause-rest : goal.returns-in-None-clause-rest
returns-in-None-clause-rest c = removed c.self.inside.by_name.entries c.remove.new.self.entries c.args.self.now c.args.name.now c.self.view_is c.in-None.ensures.entries
