-- The servlet and the filter of the tests go on with what they are lent.
use Rattle.std.proofs.Common.{◌≡◌, ℕ, Bool, true, false, List, Result, Ok, Err, IfOk, cond, refl}
use Rattle.std.specs.Prelude.{◌==◌}
use Rattle.sv_session.proofs.EditLemmas.{KeepsEdit-refl}
use Rattle.sv_servlet.proofs.KeepsLemmas.{KeepsLent-refl, KeepsLent-trans, status_keeps, write_keeps}
use Rattle.sv_servlet.specs.Call.{Asked}
use Rattle.sv_servlet.specs.Reply.{status_result, write_result}
use Rattle.sv_servlet.specs.ReplyState.{ReplyState}
use Rattle.sv_servlet.specs.Filter.{FilterKeeps}
use Rattle.sv_servlet.specs.Servlet.{Answer, KeepsLent, KeepsReply, Lent, answer, lent}
use Rattle.sv_servlet.specs.declared.reply.ReplyFault.{ReplyFault}
use Rattle.sv_servlet.specs.declared.servlet.Next.TheVariants.{Done}
use Rattle.test_rows.specs.Scripted.{marking, next_of, on_reply, resumed, said, scripted, set, written}
use Rattle.test_rows.specs.declared.scripted.Says.{Says}
use Rattle.test_rows.specs.declared.scripted.Then.{Then}

reply_keeps : (l : Lent) (x : Result ReplyState ReplyFault) → IfOk x (KeepsReply l.reply) → KeepsLent l (on_reply l x)
reply_keeps l (Ok reply) keeps = record { edit = KeepsEdit-refl l.edit; reply = keeps }
reply_keeps l (Err fault) keeps = KeepsLent-refl l

written_keeps : (text : List ℕ) (l : Lent) → KeepsLent l (written text l)
written_keeps text l = reply_keeps l (write_result l.reply text) (write_keeps l.reply text)

set_keeps : (status : ℕ) (l : Lent) → KeepsLent l (set status l)
set_keeps status l = reply_keeps l (status_result l.reply status) (status_keeps l.reply status)

either : (b : Bool) (l : Lent) (x y : Answer) → KeepsLent l x.lent → KeepsLent l y.lent → KeepsLent l (cond b x y).lent
either true l x y hx hy = hx
either false l x y hx hy = hy

pub scripted_keeps : (status : ℕ) (says : Says) (what : Then) (call : Asked) (l : Lent) → KeepsLent l (scripted status says what call l).lent
scripted_keeps status says what call l =
    either (call.resume == 0) l (answer (written (said says call) (set status l)) (next_of what)) (answer (written (resumed call.resume) l) Done)
    (KeepsLent-trans l (set status l) (written (said says call) (set status l)) (set_keeps status l) (written_keeps (said says call) (set status l)))
    (written_keeps (resumed call.resume) l)

pub marking_keeps : (before after : List ℕ) (what : Then) → FilterKeeps (marking before after what)
marking_keeps before after what = record { before = λ call l. written_keeps before l; after = λ call l. written_keeps after l }
