-- What the filter does that lets a request through where it has the key (Jakarta Servlet 6.0, section 6.2.1).
use Rattle.std.specs.Prelude.{Bool, false, codes, bytes_eq, if◌then◌else◌}
use Rattle.std.specs.Option.{option_map_or}
use Rattle.sv_servlet.specs.Call.{Asked}
use Rattle.sv_servlet.specs.declared.filter.Before.{Before}
use Rattle.sv_servlet.specs.declared.filter.Before.TheVariants.{Pass, SendError}
use Rattle.sv_web.specs.Request.{parameter}
use Rattle.sv_web.specs.Work.{Ends, FilterWork}

-- the first parameter `key` is `open`
abbrev pub has_key : Asked → Bool
has_key c = option_map_or (λ key. bytes_eq key (codes "open")) (parameter c.params (codes "key")) false

abbrev pub admitted : Asked → Before
admitted c = if has_key c then Pass else SendError 403 (codes "closed")

abbrev pub gate : FilterWork
gate = record { before = λ call. Ends (admitted call); after = λ call. Ends tt }
