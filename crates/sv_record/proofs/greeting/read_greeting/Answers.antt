use Rattle.std.proofs.Common.{◌∙◌, arith, ap, subst}
use Rattle.sv_record.proofs.Prelude.{Gives, greeting_of}
use Rattle.sv_record.proofs.GreetingLaws.{read_again, read_within}
use Rattle.sv_record.proofs.greeting.read_greeting.Goals as goal

pub returns-clause-only : goal.returns-clause-only
returns-clause-only c = λ g fits is. subst (λ f. Gives (λ x. x) c.read_whole.result f) (ap greeting_of is ∙ read_again g fits) c.read_whole.ensures

pub returns-clause-within : goal.returns-clause-within
returns-clause-within c = read_within c.args.bytes.now c.read_whole.result (λ i. omega (arith, c.type_inv.bytes i)) c.read_whole.ensures
