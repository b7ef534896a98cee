use Rattle.std.proofs.Common.{List, sym, subst}
use Rattle.std.specs.List.{AllByRecursion}
use Rattle.std.specs.Result.{is_ok}
use Rattle.sv_model.specs.Ranges.{IsInput}
use Rattle.sv_model.specs.declared.input.Input.{Input}
use Rattle.sv_model.specs.declared.key.Moment.{Moment}
use Rattle.test_cluster_rows.proofs.InputLemmas.{all_within_or_left}
use Rattle.test_cluster_rows.proofs.group.push_input.Goals as goal

pub returns : goal.returns
returns c = subst (λ (xs : List (Moment × Input)). AllByRecursion (λ x. IsInput x.1) xs) (sym c.push.ensures.items) (all_within_or_left (is_ok c.push.result) c.args.inputs.now.items (c.args.moment, c.args.input) c.requires.before c.requires.this)
