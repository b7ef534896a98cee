use Rattle.std.proofs.Common.{sym}
use Rattle.sv_model.specs.Attributes.{entry_of}
use Rattle.sv_model.proofs.SameLemmas.{decides_map}
use Rattle.sv_model.proofs.attributes.Attributes.is_same.Goals as goal

pub returns : goal.returns
returns c = rw (sym c.self.view_is, sym c.other.view_is) (decides_map entry_of c.self.inside.by_name.entries c.other.inside.by_name.entries c.eq.result c.eq.ensures)
