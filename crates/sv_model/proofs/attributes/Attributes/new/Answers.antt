use Rattle.std.proofs.Common.{ap, sym, ◌∙◌}
use Rattle.sv_model.specs.Attributes.{attributes_size, entries_of}
use Rattle.sv_model.proofs.AttributesLemmas.{Entries, attributes_size-nil}
use Rattle.sv_model.proofs.attributes.Attributes.new.Goals as goal

pub invariant_of-result : goal.invariant_of-result
invariant_of-result c = sym attributes_size-nil ∙ sym (ap (λ (es : Entries). attributes_size (entries_of es)) c.new.ensures.empty)
