use Rattle.sv_config.proofs.Prelude.{◌≡◌, ◌++◌, map, drop, view, spot, placed}
use Rattle.sv_config.specs.Place.{members_from, members_where}
use Rattle.sv_config.specs.Keys.{is_unfit}
use Rattle.sv_config.proofs.members.add_members.Given as goal

abbrev pub invariant-loop-index : goal.invariant-loop-index
invariant-loop-index l =
    map spot l.places.items ++ members_from (is_unfit l.unfit) l.at.place l.key l.index (map view (drop l.index l.value-items))
    ≡ map spot l.fn.places.items ++ members_where (is_unfit l.unfit) (placed l.at) l.key
