use Rattle.sv_dispatch.proofs.Prelude.{ap, refl, MappedPath}
use Rattle.sv_dispatch.proofs.MappedPathLemmas.{mapped_path_found}
use Rattle.sv_dispatch.proofs.mapped_path.servlet_of.Goals as goal

pub returns-in-Some : goal.returns-in-Some
returns-in-Some c = ap (λ (p : MappedPath). p.servlet) (mapped_path_found c.args.patterns.now c.args.path.now c.in-Some.found _ _ c.in-Some.ensures.mapped refl refl)
