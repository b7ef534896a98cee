use Rattle.sv_config.proofs.Prelude.{◌≡◌, ◌++◌, map, take, drop, contains, list_any, eq_by_cmp, spot, repeated, repeated_behind}
use Rattle.sv_config.proofs.repeats.add_again.Given as goal

abbrev pub invariant-loop-key : goal.invariant-loop-key
invariant-loop-key g l =
    let same = eq_by_cmp g.K.Ord.cmp in
    record {
      passed : (key : g.row.K.Denot) → contains g.K.Ord.cmp l.passed key ≡ list_any (λ x. same x key) (map (λ i. i.0) (take l.key-index l.items));
      added : map spot l.places.items ++ repeated_behind same (map (λ i. i.0) (take l.key-index l.items)) (map (λ i. (i.0, spot i.1)) (drop l.key-index l.items))
          ≡ map spot l.fn.places.items ++ repeated same (map (λ i. (i.0, spot i.1)) l.items);
    }
