-- A request with all that is lent for its answer, in one value.
use Rattle.std.specs.Prelude.{◌≡◌, Option, Some, None, Result, Ok, Err}
use Rattle.sv_servlet.specs.Call.{Asked}
use Rattle.sv_servlet.specs.Servlet.{Lent, lent}
use Rattle.sv_servlet.specs.declared.servlet.Next.{Next}
use Rattle.sv_web.specs.Refusal.{Does, DoesGiving, DoesPart}
use Rattle.sv_web.specs.Work.{Work}
use Rattle.sv_web.specs.declared.exchange.Exchange.{Exchange}
use Rattle.sv_web.specs.declared.refusal.Refusal.{Refusal}

-- what is lent
abbrev pub lent_in : Exchange → Lent
lent_in e = lent e.edit.now e.reply.now

-- it is the same request, and what was lent for it
pub record GoesOn (old new : Exchange) : Type 0 where
  pub call : new.call.now ≡ old.call.now
  pub edit : new.edit.ghost_name ≡ old.edit.ghost_name
  pub reply : new.reply.ghost_name ≡ old.reply.ghost_name

-- the work is done to its end
abbrev pub Completes : Work Next → Exchange → Exchange → Result Next Refusal → Type 0
Completes w old new ended = GoesOn old new × Does w (lent_in old) (lent_in new) ended

-- a part of it is done
abbrev pub CompletesPart : (Work Next → Work Next) → Exchange → Exchange → Result (Unit {0}) Refusal → Type 0
CompletesPart part old new ended = GoesOn old new × DoesPart part (lent_in old) (lent_in new) ended

-- a part of it is done that gives what the rest goes on with
abbrev pub CompletesGiving : {A : Type 0} → ((A → Work Next) → Work Next) → Exchange → Exchange → Result A Refusal → Type 0
CompletesGiving part old new ended = GoesOn old new × DoesGiving part (lent_in old) (lent_in new) ended

-- the work that there is for a request is done to its end
abbrev pub CompletesSome : Option (Asked → Work Next) → Exchange → Exchange → Result Next Refusal → Type 0
CompletesSome None old new ended = GoesOn old new
CompletesSome (Some work) old new ended = Completes (work old.call.now) old new ended
