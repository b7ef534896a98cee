use Rattle.sv_mapping.proofs.PathLemmas.{IsFront-from_test, IsFront-boundary}
use Rattle.sv_mapping.proofs.context.path_in_context.Goals as goal

pub range_from-rest-requires : goal.range_from-rest-requires
range_from-rest-requires c =
    let context = c.args.context.now in
    let path = c.args.path.now in
    λ _. IsFront-boundary context path (IsFront-from_test context path c.requires)
