-- What an answer of a reply tells of what was expected.
use Rattle.std.proofs.Common.{◌≡◌, ◌≢◌, refl, Result, Err}
use Rattle.sv_servlet.specs.ReplyState.{ReplyState}
use Rattle.sv_servlet.specs.Reply.{Answers}
use Rattle.sv_servlet.specs.declared.reply.ReplyFault.{ReplyFault}
use Rattle.sv_servlet.specs.declared.reply.ReplyFault.TheVariants.{BadStatus, BadHeader, Reserved, TooMany, TooLong, Memory}

-- a fault other than Memory was expected, and the reply is as it was
pub refused : (old new : ReplyState) (expected : Result ReplyState ReplyFault) (fault : ReplyFault) → fault ≢ Memory → Answers old expected (Err fault) new
    → (expected ≡ Err fault) × (new ≡ old)
refused old new expected BadStatus other h = h
refused old new expected BadHeader other h = h
refused old new expected Reserved other h = h
refused old new expected TooMany other h = h
refused old new expected TooLong other h = h
refused old new expected Memory other h = absurd (other refl)
