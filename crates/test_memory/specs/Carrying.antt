-- What the filter does that has requests have an attribute.
use Rattle.std.specs.Prelude.{codes}
use Rattle.sv_servlet.specs.declared.filter.Before.TheVariants.{PassWith}
use Rattle.sv_web.specs.Work.{Ends, FilterWork}

abbrev pub carrying : FilterWork
carrying = record { before = λ call. Ends (PassWith (codes "member") (codes "Ada")); after = λ call. Ends tt }
