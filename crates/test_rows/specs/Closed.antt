-- What the filter does that answers in a servlet's place.
use Rattle.std.specs.Prelude.{codes}
use Rattle.sv_servlet.specs.declared.filter.Before.TheVariants.{Stop}
use Rattle.sv_web.specs.Steps.{written_before}
use Rattle.sv_web.specs.Work.{Ends, FilterWork}

abbrev pub closed : FilterWork
closed = record { before = λ call. written_before (codes "closed") Stop; after = λ call. Ends tt }
