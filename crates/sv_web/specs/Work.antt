-- What a servlet or a filter does with what it is lent, call by call. Whatever is put together of these calls goes on with the
-- edit and the reply that are lent: it puts no other in their place, and neither holds the reply nor lets it go.
use Rattle.std.specs.Prelude.{ℕ, ℤ, List, Option, Result, Ok, Err}
use Rattle.sv_model.specs.declared.field.Field.{Field}
use Rattle.sv_session.specs.Calls.{Expected, change_id_result, create_result, interval_result, invalidate_result, set_result}
use Rattle.sv_session.specs.Edit.{Edit}
use Rattle.sv_session.specs.declared.fault.SessionFault.{SessionFault}
use Rattle.sv_servlet.specs.Call.{Asked}
use Rattle.sv_servlet.specs.Filter.{Filters, Verdict, verdict}
use Rattle.sv_servlet.specs.Reply.{addition_result, field_result, status_result, write_result}
use Rattle.sv_servlet.specs.ReplyState.{ReplyState}
use Rattle.sv_servlet.specs.Servlet.{Answer, Lent, Serves, answer, lent}
use Rattle.sv_servlet.specs.declared.filter.Before.{Before}
use Rattle.sv_servlet.specs.declared.reply.ReplyFault.{ReplyFault}
use Rattle.sv_servlet.specs.declared.servlet.Next.{Next}
use Rattle.sv_web.specs.Cookies.{cookie_result}
use Rattle.sv_web.specs.Redirect.{redirect_result}
use Rattle.sv_web.specs.SentCookie.{SentCookie}

-- a call of the reply
pub data ReplyCall : Type 0 where
  SetStatus : ℕ → ReplyCall
  SetField : Field → ReplyCall
  AddField : Field → ReplyCall
  SetCookie : SentCookie → ReplyCall
  Write : List ℕ → ReplyCall
  Redirect : List ℕ → ReplyCall

-- a call of the edit that changes it
pub data EditCall : Type 0 where
  Create : EditCall
  ChangeId : EditCall
  SetValue : List ℕ → Option (List ℕ) → EditCall
  SetInterval : ℤ → EditCall
  Invalidate : EditCall

-- calls, one after the other, each with what follows where it is taken and where it is refused; looks at the edit; and what is
-- answered in the end
pub data Work (R : Type 0) : Type 0 where
  Ends : R → Work R
  Replying : ReplyCall → Work R → (ReplyFault → Work R) → Work R
  Editing : EditCall → Work R → (SessionFault → Work R) → Work R
  Looking : (Edit → Work R) → Work R

-- what is expected of a call of the reply
abbrev pub reply_result : ReplyCall → ReplyState → Result ReplyState ReplyFault
reply_result (SetStatus code) r = status_result r code
reply_result (SetField f) r = field_result r f
reply_result (AddField f) r = addition_result r f
reply_result (SetCookie c) r = cookie_result r c
reply_result (Write text) r = write_result r text
reply_result (Redirect to) r = redirect_result r to

-- the reply takes a call, and the work goes on, or refuses it
abbrev pub on_reply : {X : Type 0} → Lent → Result ReplyState ReplyFault → (Lent → X) → (ReplyFault → X) → X
on_reply l (Ok reply) more refused = more (lent l.edit reply)
on_reply l (Err fault) more refused = refused fault

-- the edit takes a call, and the work goes on, or refuses it
abbrev pub on_edit : {A X : Type 0} → Lent → Expected A → (Lent → X) → (SessionFault → X) → X
on_edit l (Ok r) more refused = more (lent r.1 l.reply)
on_edit l (Err fault) more refused = refused fault

abbrev pub on_edit_call : {X : Type 0} → EditCall → Lent → (Lent → X) → (SessionFault → X) → X
on_edit_call Create l more refused = on_edit l (create_result l.edit) more refused
on_edit_call ChangeId l more refused = on_edit l (change_id_result l.edit) more refused
on_edit_call (SetValue name value) l more refused = on_edit l (set_result l.edit name value) more refused
on_edit_call (SetInterval seconds) l more refused = on_edit l (interval_result l.edit seconds) more refused
on_edit_call Invalidate l more refused = on_edit l (invalidate_result l.edit) more refused

-- the work is done on what is lent, and ends as `end` says of what is then lent and what is answered
abbrev pub done : {R X : Type 0} → (Lent → R → X) → Work R → Lent → X
done end (Ends r) l = end l r
done end (Replying call more refused) l = on_reply l (reply_result call l.reply) (λ m. done end more m) (λ fault. done end (refused fault) l)
done end (Editing call more refused) l = on_edit_call call l (λ m. done end more m) (λ fault. done end (refused fault) l)
done end (Looking look) l = done end (look l.edit) l

-- what a servlet answers that does the work
abbrev pub answered : Work Next → Lent → Answer
answered w l = done answer w l

-- the meaning of a servlet, by its work
abbrev pub serving : (Asked → Work Next) → Serves
serving work call l = answered (work call) l

-- what a filter answers that does the work before a servlet
abbrev pub judged : Work Before → Lent → Verdict
judged w l = done verdict w l

abbrev pub only_lent : Lent → Unit {0} → Lent
only_lent l u = l

-- what the work leaves of what was lent
abbrev pub left : Work (Unit {0}) → Lent → Lent
left w l = done only_lent w l

-- the work of a filter, before a servlet and after it
pub record FilterWork : Type 0 where
  pub before : Asked → Work Before
  pub after : Asked → Work (Unit {0})

-- the meaning of a filter, by its work
abbrev pub surrounding : FilterWork → Filters
surrounding work = record { before = λ call l. judged (work.before call) l; after = λ call l. left (work.after call) l }
