use Rattle.sv_mapping.proofs.Prelude.{◌≡◌, ◌&&◌, take, added_where, carries, matches_path}
use Rattle.sv_mapping.proofs.chain.add_by_pattern.Given as goal

abbrev pub invariant-loop-mapping : goal.invariant-loop-mapping
invariant-loop-mapping l =
    l.filters.items ≡ added_where (λ m. carries m.dispatchers l.dispatcher && matches_path l.path m.target) l.fn.filters.items (take l.mapping-index l.mappings)
