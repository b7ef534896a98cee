-- A part of the work, and nothing after it but an answer.
use Rattle.std.proofs.Common.{◌≡◌, Option, Some, None, Ok, Err, sym}
use Rattle.std.specs.Prelude.{IfSome}
use Rattle.sv_servlet.specs.Servlet.{Lent, answer}
use Rattle.sv_servlet.specs.declared.servlet.Next.{Next}
use Rattle.sv_web.specs.Exchange.{Completes, CompletesPart, lent_in}
use Rattle.sv_web.specs.Refusal.{next_by, refusal_label}
use Rattle.sv_web.specs.Work.{Ends, Work, answered}
use Rattle.sv_web.specs.declared.exchange.Exchange.{Exchange}
use Rattle.sv_web.specs.declared.refusal.Refusal.{Refusal}

pub part_done : (p : Work Next → Work Next) (next : Next) (old new : Exchange) (u : Unit {0}) → CompletesPart p old new (Ok u) → Completes (p (Ends next)) old new (Ok next)
part_done p next old new u done = (done.0, sym (done.1 (Ends next)))

stops : (o : Option Next) (p : Work Next → Work Next) (more : Work Next) (old new : Lent) → IfSome o (λ next. (more : Work Next) → answer new next ≡ answered (p more) old)
    → IfSome o (λ next. answer new next ≡ answered (p more) old)
stops None p more old new all = tt
stops (Some next) p more old new all = all more

pub part_stops : (p : Work Next → Work Next) (more : Work Next) (old new : Exchange) (refusal : Refusal) → CompletesPart p old new (Err refusal) → Completes (p more) old new (Err refusal)
part_stops p more old new refusal ended = (ended.0, stops (next_by (refusal_label refusal)) p more (lent_in old) (lent_in new) ended.1)
