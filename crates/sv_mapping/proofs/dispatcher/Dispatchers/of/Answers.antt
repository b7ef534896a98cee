use Rattle.sv_mapping.proofs.Prelude.{◌↔◌, IsTrue, carries}
use Rattle.sv_mapping.specs.Dispatcher.{IsListed}
use Rattle.sv_mapping.specs.declared.dispatcher.Dispatcher.TheVariants.{Request, Forward, Include, Error}
use Rattle.sv_mapping.proofs.dispatcher.Dispatchers.of.Goals as goal

pub returns : goal.returns
returns c = λ dispatcher. elim dispatcher as (λ d. IsTrue (carries (record { request = c.is_listed.result; forward = c.is_listed-2.result; include = c.is_listed-3.result; error = c.is_listed-4.result }) d) ↔ IsListed c.args.listed.now d) [
  | Request ↦ c.is_listed.ensures
  | Forward ↦ c.is_listed-2.ensures
  | Include ↦ c.is_listed-3.ensures
  | Error ↦ c.is_listed-4.ensures
]
