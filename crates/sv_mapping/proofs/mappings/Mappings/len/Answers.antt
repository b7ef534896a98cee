use Rattle.sv_mapping.proofs.Prelude.{◌≡◌, ◌∙◌, length, sym, ap, arith, len}
use Rattle.std.proofs.Common.{vec_len}
use Rattle.sv_mapping.proofs.TableLemmas.{len-sorted}
use Rattle.sv_mapping.proofs.mappings.Mappings.len.Goals as goal

pub returns-clause-len : goal.returns-clause-len
returns-clause-len c =
    let entries = c.self.inside.entries in
    let items : vec_len entries ≡ length entries.items = omega arith in
    c.len.ensures ∙ items ∙ sym (len-sorted entries.items c.self.invariant.0) ∙ ap len c.self.view_is
