use Rattle.std.proofs.Common.{subst, arith}
use Rattle.std.proofs.lemmas.Result.{IfOk-weaker}
use Rattle.sv_record.proofs.Prelude.{Gives, record_format}
use Rattle.sv_record.proofs.KindLaws.{record_lawful}
use Rattle.sv_record.proofs.RangeLemmas.{record_range}
use Rattle.sv_record.proofs.WholeLaws.{whole_gives, whole_found}
use Rattle.sv_record.proofs.record.read_record.Goals as goal

pub returns-clause-found : goal.returns-clause-found
returns-clause-found c = whole_found record_format record_lawful c.args.bytes.now c.read_whole.result (λ i. omega (arith, c.type_inv.bytes i)) c.read_whole.ensures

pub returns-clause-only : goal.returns-clause-only
returns-clause-only c = λ r spells. subst (λ f. Gives (λ x. x) c.read_whole.result f) (whole_gives record_format record_lawful c.args.bytes.now r spells) c.read_whole.ensures

pub returns-clause-within : goal.returns-clause-within
returns-clause-within c =
    IfOk-weaker c.read_whole.result _ _ (λ r is. record_range is.version r is.has)
    (whole_found record_format record_lawful c.args.bytes.now c.read_whole.result (λ i. omega (arith, c.type_inv.bytes i)) c.read_whole.ensures)
