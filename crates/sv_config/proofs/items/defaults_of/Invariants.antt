use Rattle.sv_config.proofs.Prelude.{◌≡◌, map, take, flat_map, spot, child}
use Rattle.sv_config.specs.Repeats.{default_page}
use Rattle.sv_config.proofs.items.defaults_of.Given as goal

abbrev pub invariant-loop-index : goal.invariant-loop-index
invariant-loop-index l = map spot l.pages.items ≡ flat_map (default_page l.place) (map child (take l.index-index l.tables))
