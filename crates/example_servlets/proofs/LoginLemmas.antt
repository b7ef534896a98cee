-- A session of which somebody logs in.
use Rattle.std.proofs.Common.{◌≡◌, refl, sym, ap, ◌∙◌, subst, Bool, true, false, cond, Option, Some, None, Result, Ok, Err}
use Rattle.std.specs.Prelude.{◌||◌, IsSomeAnd, is_ok}
use Rattle.std.proofs.lemmas.Option.{same_Some}
use Rattle.sv_model.specs.declared.key.Key.{Key}
use Rattle.sv_model.specs.declared.key.Secret.{Secret}
use Rattle.sv_model.specs.declared.outcome.Birth.{Birth}
use Rattle.sv_model.specs.declared.outcome.Birth.TheVariants.{Absent, Alive, Ended as BirthEnded}
use Rattle.sv_model.specs.declared.outcome.Fate.{Fate}
use Rattle.sv_model.specs.declared.outcome.Fate.TheVariants.{Untouched, Kept, Ended as FateEnded}
use Rattle.sv_model.specs.declared.session.Session.{Session}
use Rattle.sv_session.specs.Calls.{Expected, after, change_id_result, done, id_changed, key_result, on_session}
use Rattle.sv_session.specs.Edit.{Edit, birth_with, fate_with, has_made, has_used_secret, held_by, held_of}
use Rattle.sv_session.specs.Fault.{fault_name}
use Rattle.sv_session.specs.declared.fault.SessionFault.{SessionFault}
use Rattle.sv_session.specs.declared.fault.SessionFault.TheVariants.{SecretUsed}
use Rattle.sv_servlet.specs.ReplyState.{ReplyState}
use Rattle.sv_servlet.specs.Servlet.{Answer, Lent, answer, lent}
use Rattle.sv_servlet.specs.declared.servlet.Next.{Next}
use Rattle.sv_web.specs.Attributes.{has_session}
use Rattle.sv_web.specs.Refusal.{fault_page}
use Rattle.sv_web.specs.Steps.{change_id, create}
use Rattle.sv_web.specs.Work.{Work, answered, on_edit}
use Rattle.example_servlets.specs.Login.{GoesOnAs, entered, renewed}

-- the session that is held is there again, with other contents
pub held_again : (fate : Fate) (handed : Option Key) (fresh : Key × Secret) (held : Key × Session) (s : Session) → held_by Absent fate handed fresh ≡ Some held
    → held_by (birth_with Absent s) (fate_with Absent fate s) handed fresh ≡ Some (held.0, s)
unfolding held_by
held_again Untouched handed fresh held s is = absurd (cc)
held_again FateEnded handed fresh held s is = absurd (cc)
held_again (Kept old) None fresh held s is = absurd (cc)
held_again (Kept old) (Some k) fresh held s is = ap (λ (h : Key × Session). let o : Option (Key × Session) = Some (h.0, s) in o) (same_Some _ _ is)

none_made : (b : Birth) (e : Edit) → b ≡ Absent → has_made (record e { birth = b }) ≡ false
none_made Absent e is = refl
none_made (Alive s) e is = absurd (cc)
none_made BirthEnded e is = absurd (cc)

not_used : (e : Edit) → e.birth ≡ Absent → e.id_changed ≡ false → has_used_secret e ≡ false
not_used e unborn same = ap (λ (b : Bool). b || e.id_changed) (none_made e.birth e unborn) ∙ same

has_key : (e : Edit) (held : Key × Session) → held_of e ≡ Some held → has_session e ≡ true
unfolding key_result
has_key e held is = ap (λ (o : Option (Key × Session)). is_ok (on_session o (λ h. let r : Result Key SessionFault = Ok h.0 in r))) is

by_test : (used : Bool) (e : Edit) (held : Key × Session) → used ≡ false → cond used (Err SecretUsed) (done (id_changed e held)) ≡ done (id_changed e held)
by_test true e held is = absurd (cc)
by_test false e held is = refl

taken : (e : Edit) (held : Key × Session) → held_of e ≡ Some held → has_used_secret e ≡ false → change_id_result e ≡ done (id_changed e held)
unfolding change_id_result
taken e held is fresh =
    ap (λ (o : Option (Key × Session)). on_session o (λ h. cond (has_used_secret e) (Err SecretUsed) (done (id_changed e h)))) is ∙ by_test (has_used_secret e) e held fresh

held_changed : (e : Edit) (held : Key × Session) → held_of e ≡ Some held → e.birth ≡ Absent → held_of (id_changed e held) ≡ Some (held.0, record held.1 { secret = e.fresh.1 })
held_changed e held is unborn =
    let s : Session = record held.1 { secret = e.fresh.1 } in
    let now : held_by Absent e.fate e.handed e.fresh ≡ Some held = subst (λ b. held_by b e.fate e.handed e.fresh ≡ Some held) unborn is in
    subst (λ b. held_by (birth_with b s) (fate_with b e.fate s) e.handed e.fresh ≡ Some (held.0, s)) (sym unborn) (held_again e.fate e.handed e.fresh held s now)

module _ (e : Edit) (held : Key × Session) (is : held_of e ≡ Some held) (unborn : e.birth ≡ Absent) (same : e.id_changed ≡ false) where
  changed : change_id_result e ≡ done (id_changed e held)
  changed = taken e held is (not_used e unborn same)

  -- it goes on under another id
  pub goes_on : IsSomeAnd (held_of (renewed e)) (λ now. GoesOnAs now held e)
  goes_on =
      subst (λ (o : Option (Key × Session)). IsSomeAnd o (λ now. GoesOnAs now held e)) (sym (ap (λ (x : Expected (Unit {0})). held_of (after e x)) changed ∙ held_changed e held is unborn))
      (record { key = refl; secret = refl; attributes = refl })

  -- and what follows goes on with it
  on_changed : (more : Work Next) (r : ReplyState) → answered (change_id more) (lent e r) ≡ answered more (lent (renewed e) r)
  on_changed more r =
      let end : Lent → Answer = λ m. answered more m in
      let refused : SessionFault → Answer = λ fault. answer (lent e r) (fault_page (fault_name fault)) in
      ap (λ (x : Expected (Unit {0})). on_edit (lent e r) x end refused) changed ∙ sym (ap (λ (x : Expected (Unit {0})). answered more (lent (after e x) r)) changed)

pub follows : (more : Work Next) (l : Lent) (held : Key × Session) → held_of l.edit ≡ Some held → l.edit.birth ≡ Absent → l.edit.id_changed ≡ false
    → answered (entered more) l ≡ answered more (lent (renewed l.edit) l.reply)
follows more l held is unborn same =
    ap (λ (b : Bool). answered (cond b (change_id more) (create more)) l) (has_key l.edit held is) ∙ on_changed l.edit held is unborn same more l.reply
