use Rattle.sv_mapping.proofs.TableLemmas.{from_sorted-nil}
use Rattle.sv_mapping.proofs.mappings.Mappings.new.Goals as goal

pub returns : goal.returns
returns c = from_sorted-nil _ c.new.ensures.items
