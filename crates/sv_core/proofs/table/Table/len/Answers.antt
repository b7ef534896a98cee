use Rattle.sv_core.proofs.Prelude.{◌∙◌, places_in}
use Rattle.sv_core.proofs.TableLemmas.{len_is}
use Rattle.sv_core.proofs.table.Table.len.Goals as goal

pub returns : goal.returns
returns c = let t = c.args.self.now in c.len.ensures ∙ len_is t.states.items (places_in t.places) t.places.rises
