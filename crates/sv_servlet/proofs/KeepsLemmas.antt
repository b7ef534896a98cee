-- What the calls of a reply leave of one that is held, for servlets and filters to say that they go on with what they were lent.
use Rattle.std.proofs.Common.{◌≡◌, ℕ, Bool, true, false, List, Result, Ok, Err, IfOk, cond, refl, sym, ◌∙◌}
use Rattle.std.specs.Prelude.{[], ◌∷◌, ◌||◌, ◌+◌, ◌++◌, length, nat_le, nat_lt}
use Rattle.sv_model.specs.declared.field.Field.{Field}
use Rattle.sv_session.proofs.EditLemmas.{KeepsEdit-refl, KeepsEdit-trans}
use Rattle.sv_servlet.specs.Fields.{with_only}
use Rattle.sv_servlet.specs.Reply.{addition_result, cleared, field_result, is_full, is_reserved, new_reply, reset_reply, status_result, write_result}
use Rattle.sv_servlet.specs.ReplyState.{ReplyState}
use Rattle.sv_servlet.specs.Servlet.{KeepsLent, KeepsReply, Lent}
use Rattle.sv_servlet.specs.declared.reply.TheConstants.{BODY_LIMIT, FIELD_LIMIT}
use Rattle.sv_servlet.specs.declared.reply.ReplyFault.{ReplyFault}
use Rattle.sv_servlet.specs.declared.reply.ReplyFault.TheVariants.{BadStatus, Reserved, TooMany, TooLong}

-- ---- going on

pub KeepsReply-refl : (r : ReplyState) → KeepsReply r r
KeepsReply-refl r = record { hold = refl; status = λ h. refl; fields = λ h. refl }

pub KeepsReply-trans : (a b c : ReplyState) → KeepsReply a b → KeepsReply b c → KeepsReply a c
KeepsReply-trans a b c first then =
    record {
      hold = then.hold ∙ first.hold;
      status = λ h. then.status (first.hold ∙ h) ∙ first.status h;
      fields = λ h. then.fields (first.hold ∙ h) ∙ first.fields h;
    }

pub KeepsLent-refl : (l : Lent) → KeepsLent l l
KeepsLent-refl l = record { edit = KeepsEdit-refl l.edit; reply = KeepsReply-refl l.reply }

pub KeepsLent-trans : (a b c : Lent) → KeepsLent a b → KeepsLent b c → KeepsLent a c
KeepsLent-trans a b c first then =
    record { edit = KeepsEdit-trans a.edit b.edit c.edit first.edit then.edit; reply = KeepsReply-trans a.reply b.reply c.reply first.reply then.reply }

-- ---- the calls of a reply

no_hold : (b : Bool) → b ≡ false → b ≡ true → ⊥
no_hold true is h = absurd cc
no_hold false is h = absurd cc

module _ (r : ReplyState) where
  -- a reply that isn't held may change
  free : (s : ReplyState) → r.is_held ≡ false → s.is_held ≡ r.is_held → KeepsReply r s
  free s is same = record { hold = same; status = λ h. absurd (no_hold r.is_held is h); fields = λ h. absurd (no_hold r.is_held is h) }

  either : (b : Bool) (x y : Result ReplyState ReplyFault) → IfOk x (KeepsReply r) → IfOk y (KeepsReply r) → IfOk (cond b x y) (KeepsReply r)
  either true x y hx hy = hx
  either false x y hx hy = hy

  unless_keeps : (b : Bool) (x : Result ReplyState ReplyFault) → r.is_held ≡ b → (r.is_held ≡ false → IfOk x (KeepsReply r)) → IfOk (cond b (Ok r) x) (KeepsReply r)
  unless_keeps true x is keeps = KeepsReply-refl r
  unless_keeps false x is keeps = keeps is

  pub status_keeps : (status : ℕ) → IfOk (status_result r status) (KeepsReply r)
  status_keeps status =
      unless_keeps r.is_held (cond (nat_lt status 200 || nat_lt 599 status) (Err BadStatus) (Ok (record r { status = status }))) refl
      (λ is. either (nat_lt status 200 || nat_lt 599 status) (Err BadStatus) (Ok (record r { status = status })) tt (free (record r { status = status }) is refl))

  pub field_keeps : (f : Field) → IfOk (field_result r f) (KeepsReply r)
  field_keeps f =
      let set : Result ReplyState ReplyFault = Ok (record r { fields = with_only r.fields f }) in
      unless_keeps r.is_held (cond (is_reserved f.name) (Err Reserved) (cond (is_full r.fields f.name) (Err TooMany) set)) refl
      (λ is. either (is_reserved f.name) (Err Reserved) (cond (is_full r.fields f.name) (Err TooMany) set) tt
      (either (is_full r.fields f.name) (Err TooMany) set tt (free (record r { fields = with_only r.fields f }) is refl)))

  pub addition_keeps : (f : Field) → IfOk (addition_result r f) (KeepsReply r)
  addition_keeps f =
      let added : Result ReplyState ReplyFault = Ok (record r { fields = r.fields ++ f ∷ [] }) in
      unless_keeps r.is_held (cond (is_reserved f.name) (Err Reserved) (cond (nat_le FIELD_LIMIT (length r.fields)) (Err TooMany) added)) refl
      (λ is. either (is_reserved f.name) (Err Reserved) (cond (nat_le FIELD_LIMIT (length r.fields)) (Err TooMany) added) tt
      (either (nat_le FIELD_LIMIT (length r.fields)) (Err TooMany) added tt (free (record r { fields = r.fields ++ f ∷ [] }) is refl)))

  pub write_keeps : (text : List ℕ) → IfOk (write_result r text) (KeepsReply r)
  write_keeps text =
      either (nat_lt BODY_LIMIT (length r.body + length text)) (Err TooLong) (Ok (record r { body = r.body ++ text })) tt
      (record { hold = refl; status = λ h. refl; fields = λ h. refl })

  pub cleared_keeps : KeepsReply r (cleared r)
  cleared_keeps = record { hold = refl; status = λ h. refl; fields = λ h. refl }

  reset_by : (b : Bool) → r.is_held ≡ b → KeepsReply r (cond b r new_reply)
  reset_by true is = KeepsReply-refl r
  reset_by false is = free new_reply is (sym is)

  pub reset_keeps : KeepsReply r (reset_reply r)
  reset_keeps = reset_by r.is_held refl
