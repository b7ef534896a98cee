use Rattle.sv_container.proofs.Prelude.{◌∙◌}
use Rattle.sv_dispatch.specs.Pages.{joined_path}
use Rattle.sv_container.proofs.ShownLemmas.{info_found, info_missing, path_found, path_missing, servlet_found, servlet_missing, whole_found}
use Rattle.sv_container.proofs.answer.shown.Goals as goal

pub returns-in-Some-clause-servlet : goal.returns-in-Some-clause-servlet
returns-in-Some-clause-servlet c = servlet_found _ _ c.in-Some.found c.in-Some.ensures.mapped

pub returns-in-Some-clause-servlet_path : goal.returns-in-Some-clause-servlet_path
returns-in-Some-clause-servlet_path c = c.servlet_path.ensures ∙ path_found _ _ c.in-Some.found c.in-Some.ensures.mapped

pub returns-in-Some-clause-path_info : goal.returns-in-Some-clause-path_info
returns-in-Some-clause-path_info c = c.path_info.ensures ∙ info_found _ _ c.in-Some.found c.in-Some.ensures.mapped

pub returns-in-Some-clause-whole : goal.returns-in-Some-clause-whole
returns-in-Some-clause-whole c = (λ i. joined_path (c.servlet_path.ensures i) (c.path_info.ensures i)) ∙ whole_found _ _ c.in-Some.found c.in-Some.ensures.best

pub returns-in-None-clause-servlet : goal.returns-in-None-clause-servlet
returns-in-None-clause-servlet c = servlet_missing _ _ c.in-None.ensures.mapped

pub returns-in-None-clause-servlet_path : goal.returns-in-None-clause-servlet_path
returns-in-None-clause-servlet_path c = path_missing _ _ c.in-None.ensures.mapped

pub returns-in-None-clause-path_info : goal.returns-in-None-clause-path_info
returns-in-None-clause-path_info c = info_missing _ _ c.in-None.ensures.mapped
