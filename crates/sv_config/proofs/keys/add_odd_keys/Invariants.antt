use Rattle.sv_config.proofs.Prelude.{◌≡◌, ◌++◌, map, members_view, spot, placed}
use Rattle.sv_config.specs.Keys.{is_odd}
use Rattle.sv_config.specs.Place.{keys_where}
use Rattle.sv_config.proofs.keys.add_odd_keys.Given as goal

abbrev pub invariant-loop-key : goal.invariant-loop-key
invariant-loop-key l =
    map spot l.places.items ++ keys_where (is_odd l.odd) l.at.place (members_view l.key-iterator)
    ≡ map spot l.fn.places.items ++ keys_where (is_odd l.odd) l.at.place (placed l.at).1
