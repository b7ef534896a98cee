-- One input more after those of a line.
use Rattle.std.proofs.Common.{Bool, true, false, List, [], ◌∷◌, ◌++◌}
use Rattle.std.specs.Bool.{if◌then◌else◌}
use Rattle.std.specs.List.{AllByRecursion}
use Rattle.sv_model.specs.Ranges.{IsInput}
use Rattle.sv_model.specs.declared.input.Input.{Input}
use Rattle.sv_model.specs.declared.key.Moment.{Moment}

pub all_within : (is : List (Moment × Input)) (i : Moment × Input) → AllByRecursion (λ x. IsInput x.1) is → IsInput i.1 → AllByRecursion (λ x. IsInput x.1) (is ++ i ∷ [])
all_within [] i all one = (one, tt)
all_within (x ∷ is) i all one = (all.0, all_within is i all.1 one)

pub all_within_or_left : (pushed : Bool) (is : List (Moment × Input)) (i : Moment × Input) → AllByRecursion (λ x. IsInput x.1) is → IsInput i.1 → AllByRecursion (λ x. IsInput x.1) (if pushed then is ++ i ∷ [] else is)
all_within_or_left true is i all one = all_within is i all one
all_within_or_left false is i all one = all
