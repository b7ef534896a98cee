use Rattle.sv_dispatch.proofs.Prelude.{◌∙◌, sym, ltb-false}
use Rattle.sv_dispatch.proofs.ViewLemmas.{name_there, name_past}
use Rattle.sv_dispatch.proofs.hosted.name_at.Goals as goal

pub returns-in-Some-get : goal.returns-in-Some-get
returns-in-Some-get g c = c.as_str.ensures ∙ name_there _ _ _ _ _ c.in-Some.is c.in-Some-get.ensures.lookup.3.0 c.in-Some-get.ensures.lookup.1 c.deref.ensures.value

pub returns-in-None : goal.returns-in-None
returns-in-None g c = name_past _ _ _ _ c.in-Some.is (ltb-false _ _ (sym c.in-None.ensures.lookup.0)) c.deref.ensures.value
