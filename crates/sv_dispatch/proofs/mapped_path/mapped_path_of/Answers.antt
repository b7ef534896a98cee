use Rattle.sv_dispatch.proofs.Prelude.{◌∙◌}
use Rattle.sv_dispatch.proofs.MappedPathLemmas.{mapped_path_found}
use Rattle.sv_dispatch.proofs.mapped_path.mapped_path_of.Goals as goal

pub returns-in_ok-text_of-in-Some : goal.returns-in_ok-text_of-in-Some
returns-in_ok-text_of-in-Some c = mapped_path_found _ _ c.in-Some.found _ _ c.in-Some.ensures.mapped (c.in_ok-from_str-in-Some.ensures ∙ c.servlet_path.ensures) (c.in_ok-text_of-in-Some.ensures ∙ c.path_info.ensures)
