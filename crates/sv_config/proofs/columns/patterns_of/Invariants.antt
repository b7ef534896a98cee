use Rattle.sv_config.proofs.Prelude.{◌≡◌, map, take, table_view}
use Rattle.sv_config.specs.Document as spec
use Rattle.sv_config.proofs.columns.patterns_of.Given as goal

abbrev pub invariant-loop-servlet : goal.invariant-loop-servlet
invariant-loop-servlet l =
    map (λ s. s.now) l.patterns.items ≡ spec.patterns_of (map (λ t. table_view t.now) (take l.servlet-index l.servlets))
