use Rattle.sv_target.proofs.Prelude.{◌≡◌, ◌++◌, map}
use Rattle.form_urlencoded.specs.Parse.{raw_pairs_left}
use Rattle.sv_target.specs.Params.{param_of, params_in}
use Rattle.sv_target.proofs.parameters.add_params.Given as goal

abbrev pub invariant-loop-name : goal.invariant-loop-name
invariant-loop-name l = l.params ++ map param_of (raw_pairs_left l.name-iterator) ≡ l.fn.params ++ params_in l.input
