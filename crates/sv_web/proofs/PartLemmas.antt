-- One part of the work, and then another.
use Rattle.std.proofs.Common.{◌≡◌, Option, Some, None, Result, Ok, Err, sym, ◌∙◌}
use Rattle.std.specs.Prelude.{IfSome}
use Rattle.sv_servlet.specs.Servlet.{Lent, answer}
use Rattle.sv_servlet.specs.declared.servlet.Next.{Next}
use Rattle.sv_web.specs.Exchange.{Completes, CompletesPart, GoesOn, lent_in}
use Rattle.sv_web.specs.Refusal.{Does, DoesPart, next_after, next_by, refusal_label}
use Rattle.sv_web.specs.Work.{Work, answered}
use Rattle.sv_web.specs.declared.exchange.Exchange.{Exchange}
use Rattle.sv_web.specs.declared.refusal.Refusal.{Refusal}

goes_on : {old mid new : Exchange} → GoesOn old mid → GoesOn mid new → GoesOn old new
goes_on first second = record { call = second.call ∙ first.call; edit = second.edit ∙ first.edit; reply = second.reply ∙ first.reply }

ends_early : (o : Option Next) (p q : Work Next → Work Next) (old mid new : Lent) → ((more : Work Next) → answered (p more) old ≡ answered more mid)
    → IfSome o (λ next. (more : Work Next) → answer new next ≡ answered (q more) mid) → IfSome o (λ next. (more : Work Next) → answer new next ≡ answered (p (q more)) old)
ends_early None p q old mid new first second = tt
ends_early (Some next) p q old mid new first second = λ more. second more ∙ sym (first (q more))

parts : (p q : Work Next → Work Next) (old mid new : Lent) (ended : Result (Unit {0}) Refusal) → ((more : Work Next) → answered (p more) old ≡ answered more mid) → DoesPart q mid new ended
    → DoesPart (λ more. p (q more)) old new ended
parts p q old mid new (Ok u) first second = λ more. first (q more) ∙ second more
parts p q old mid new (Err refusal) first second = ends_early (next_by (refusal_label refusal)) p q old mid new first second

pub part_then : (p q : Work Next → Work Next) (old mid new : Exchange) (u : Unit {0}) (ended : Result (Unit {0}) Refusal) → CompletesPart p old mid (Ok u) → CompletesPart q mid new ended
    → CompletesPart (λ more. p (q more)) old new ended
part_then p q old mid new u ended first second =
    (goes_on first.0 second.0, parts p q (lent_in old) (lent_in mid) (lent_in new) ended first.1 second.1)

ends : (o : Option Next) (p q : Work Next → Work Next) (old new : Lent) → IfSome o (λ next. (more : Work Next) → answer new next ≡ answered (p more) old)
    → IfSome o (λ next. (more : Work Next) → answer new next ≡ answered (p (q more)) old)
ends None p q old new first = tt
ends (Some next) p q old new first = λ more. first (q more)

pub part_ends : (p q : Work Next → Work Next) (old new : Exchange) (refusal : Refusal) → CompletesPart p old new (Err refusal) → CompletesPart (λ more. p (q more)) old new (Err refusal)
part_ends p q old new refusal first = (first.0, ends (next_by (refusal_label refusal)) p q (lent_in old) (lent_in new) first.1)
