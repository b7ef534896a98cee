-- What the filter does that writes what was sent.
use Rattle.sv_servlet.specs.declared.filter.Before.TheVariants.{Pass}
use Rattle.sv_web.specs.Steps.{written_after, written_before}
use Rattle.sv_web.specs.Work.{FilterWork}

abbrev pub echo : FilterWork
echo = record { before = λ call. written_before call.body Pass; after = λ call. written_after call.body }
