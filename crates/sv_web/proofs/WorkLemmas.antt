-- Work goes on with what was lent, whatever it is put together of.
use Rattle.std.proofs.Common.{ℕ, Bool, true, false, cond, List, Option, Some, None, Result, Ok, Err}
use Rattle.std.proofs.lemmas.Result.{IfOk-weaker}
use Rattle.std.specs.Prelude.{IfOk}
use Rattle.sv_session.specs.Edit.{KeepsEdit}
use Rattle.sv_session.specs.Calls.{Expected, after, change_id_result, create_result, interval_result, invalidate_result, set_result}
use Rattle.sv_session.specs.declared.fault.SessionFault.{SessionFault}
use Rattle.sv_session.proofs.EditLemmas.{KeepsEdit-refl, change_id_keeps, create_keeps, interval_keeps, invalidate_keeps, set_keeps}
use Rattle.sv_servlet.specs.Filter.{FilterKeeps, Verdict, verdict}
use Rattle.sv_servlet.specs.ReplyState.{ReplyState}
use Rattle.sv_servlet.specs.Servlet.{Answer, KeepsLent, KeepsReply, Lent, answer, lent}
use Rattle.sv_servlet.specs.declared.filter.Before.{Before}
use Rattle.http_header.specs.FieldValue.{FieldValue}
use Rattle.sv_servlet.specs.Reply.{field_result, status_result}
use Rattle.sv_servlet.specs.declared.reply.ReplyFault.{ReplyFault}
use Rattle.sv_servlet.specs.declared.reply.ReplyFault.TheVariants.{BadHeader, Reserved}
use Rattle.sv_servlet.specs.declared.servlet.Next.{Next}
use Rattle.sv_servlet.proofs.KeepsLemmas.{KeepsLent-refl, KeepsLent-trans, KeepsReply-refl, KeepsReply-trans, addition_keeps, field_keeps, status_keeps, write_keeps}
use Rattle.sv_web.specs.Cookies.{added_by, cookie_field, cookie_result, cookie_text, is_cookie, is_session_name}
use Rattle.sv_web.specs.Header.{visible_value}
use Rattle.sv_web.specs.Redirect.{location, redirect_result, see_other}
use Rattle.sv_web.specs.SentCookie.{SentCookie}
use Rattle.sv_web.specs.Work.{AddField, SetCookie, EditCall, Create, ChangeId, SetValue, SetInterval, Invalidate, FilterWork, ReplyCall, SetField, SetStatus, Write, Redirect, Work, Ends, Editing, Looking, Replying, answered, done, judged, left, on_edit, on_edit_call, on_reply, only_lent, reply_result, surrounding}

-- what is lent is gone on with where the edit and the reply are
lent_keeps : (l m : Lent) → KeepsEdit l.edit m.edit → KeepsReply l.reply m.reply → KeepsLent l m
lent_keeps l m edit reply = record { edit = edit; reply = reply }

-- a redirect, taken or refused
see_other_keeps : (r : ReplyState) (set : Result ReplyState ReplyFault) → IfOk set (KeepsReply r) → IfOk (see_other set) (KeepsReply r)
see_other_keeps r (Ok m) keeps = IfOk-weaker (status_result m 303) _ _ (λ n then. KeepsReply-trans r m n keeps then) (status_keeps m 303)
see_other_keeps r (Err fault) keeps = tt

redirect_keeps : (r : ReplyState) (to : List ℕ) → IfOk (redirect_result r to) (KeepsReply r)
redirect_keeps r to = see_other_keeps r (field_result r (location to)) (field_keeps r (location to))

-- a cookie, taken or refused
either_keeps : (r : ReplyState) (b : Bool) (x y : Result ReplyState ReplyFault) → IfOk x (KeepsReply r) → IfOk y (KeepsReply r) → IfOk (cond b x y) (KeepsReply r)
either_keeps r true x y hx hy = hx
either_keeps r false x y hx hy = hy

added_keeps : (r : ReplyState) (value : Option FieldValue) → IfOk (added_by value r) (KeepsReply r)
added_keeps r None = tt
added_keeps r (Some value) = addition_keeps r (cookie_field value)

cookie_keeps : (r : ReplyState) (c : SentCookie) → IfOk (cookie_result r c) (KeepsReply r)
cookie_keeps r c =
    let added = added_by (visible_value (cookie_text c)) r in
    either_keeps r (is_cookie c) (cond (is_session_name c.name) (Err Reserved) added) (Err BadHeader)
    (either_keeps r (is_session_name c.name) (Err Reserved) added tt (added_keeps r (visible_value (cookie_text c)))) tt

-- a call of the reply, taken or refused
call_keeps : (call : ReplyCall) (r : ReplyState) → IfOk (reply_result call r) (KeepsReply r)
call_keeps (SetStatus code) r = status_keeps r code
call_keeps (SetField f) r = field_keeps r f
call_keeps (AddField f) r = addition_keeps r f
call_keeps (SetCookie c) r = cookie_keeps r c
call_keeps (Write text) r = write_keeps r text
call_keeps (Redirect to) r = redirect_keeps r to

module _ {X : Type 0} (of : X → Lent) (l : Lent) where
  -- before what goes on with what was lent
  reply_keeps : (x : Result ReplyState ReplyFault) (more : Lent → X) (refused : ReplyFault → X) → IfOk x (KeepsReply l.reply)
      → ((m : Lent) → KeepsLent m (of (more m)))
      → ((fault : ReplyFault) → KeepsLent l (of (refused fault)))
      → KeepsLent l (of (on_reply l x more refused))
  reply_keeps (Ok reply) more refused first keeps otherwise =
      KeepsLent-trans l (lent l.edit reply) (of (more (lent l.edit reply))) (lent_keeps l (lent l.edit reply) (KeepsEdit-refl l.edit) first) (keeps (lent l.edit reply))
  reply_keeps (Err fault) more refused first keeps otherwise = otherwise fault

  edit_keeps : {A : Type 0} (x : Expected A) (more : Lent → X) (refused : SessionFault → X) → KeepsEdit l.edit (after l.edit x)
      → ((m : Lent) → KeepsLent m (of (more m)))
      → ((fault : SessionFault) → KeepsLent l (of (refused fault)))
      → KeepsLent l (of (on_edit l x more refused))
  edit_keeps (Ok r) more refused first keeps otherwise =
      KeepsLent-trans l (lent r.1 l.reply) (of (more (lent r.1 l.reply))) (lent_keeps l (lent r.1 l.reply) first (KeepsReply-refl l.reply)) (keeps (lent r.1 l.reply))
  edit_keeps (Err fault) more refused first keeps otherwise = otherwise fault

  edit_call_keeps : (call : EditCall) (more : Lent → X) (refused : SessionFault → X)
      → ((m : Lent) → KeepsLent m (of (more m)))
      → ((fault : SessionFault) → KeepsLent l (of (refused fault)))
      → KeepsLent l (of (on_edit_call call l more refused))
  edit_call_keeps Create more refused keeps otherwise = edit_keeps (create_result l.edit) more refused (create_keeps l.edit) keeps otherwise
  edit_call_keeps ChangeId more refused keeps otherwise = edit_keeps (change_id_result l.edit) more refused (change_id_keeps l.edit) keeps otherwise
  edit_call_keeps (SetValue name value) more refused keeps otherwise = edit_keeps (set_result l.edit name value) more refused (set_keeps l.edit name value) keeps otherwise
  edit_call_keeps (SetInterval seconds) more refused keeps otherwise = edit_keeps (interval_result l.edit seconds) more refused (interval_keeps l.edit seconds) keeps otherwise
  edit_call_keeps Invalidate more refused keeps otherwise = edit_keeps (invalidate_result l.edit) more refused (invalidate_keeps l.edit) keeps otherwise

-- whatever the work is
module _ {R X : Type 0} (end : Lent → R → X) (of : X → Lent) (ends : (l : Lent) (r : R) → KeepsLent l (of (end l r))) where
  pub done_keeps : (w : Work R) (l : Lent) → KeepsLent l (of (done end w l))
  done_keeps (Ends r) l = ends l r
  done_keeps (Replying call more refused) l =
      reply_keeps of l (reply_result call l.reply) (λ m. done end more m) (λ fault. done end (refused fault) l) (call_keeps call l.reply) (λ m. done_keeps more m)
      (λ fault. done_keeps (refused fault) l)
  done_keeps (Editing call more refused) l =
      edit_call_keeps of l call (λ m. done end more m) (λ fault. done end (refused fault) l) (λ m. done_keeps more m) (λ fault. done_keeps (refused fault) l)
  done_keeps (Looking look) l = done_keeps (look l.edit) l

pub answered_keeps : (w : Work Next) (l : Lent) → KeepsLent l (answered w l).lent
answered_keeps w l = done_keeps answer (λ (a : Answer). a.lent) (λ m next. KeepsLent-refl m) w l

judged_keeps : (w : Work Before) (l : Lent) → KeepsLent l (judged w l).lent
judged_keeps w l = done_keeps verdict (λ (v : Verdict). v.lent) (λ m before. KeepsLent-refl m) w l

left_keeps : (w : Work (Unit {0})) (l : Lent) → KeepsLent l (left w l)
left_keeps w l = done_keeps only_lent (λ (m : Lent). m) (λ m u. KeepsLent-refl m) w l

pub surrounding_keeps : (work : FilterWork) → FilterKeeps (surrounding work)
surrounding_keeps work = record { before = λ call l. judged_keeps (work.before call) l; after = λ call l. left_keeps (work.after call) l }

-- ---- what is said of a refusal is said of the page that follows it
