use Rattle.sv_mapping.proofs.Prelude.{◌≡◌, ◌&&◌, take, added_where, carries, names_servlet}
use Rattle.sv_mapping.proofs.chain.add_by_servlet.Given as goal

abbrev pub invariant-loop-mapping : goal.invariant-loop-mapping
invariant-loop-mapping l =
    l.filters.items ≡ added_where (λ m. carries m.dispatchers l.dispatcher && names_servlet l.servlet m.target) l.fn.filters.items (take l.mapping-index l.mappings)
