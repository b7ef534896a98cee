-- What a login leaves of a session as it was: each attribute but the name.
use Rattle.std.proofs.Common.{◌≡◌, refl, sym, ap, ◌∙◌, subst, ℕ, Bool, true, false, cond, List, [], ◌∷◌, length, Option, Some, None, Result, Ok, Err}
use Rattle.std.specs.Prelude.{◌||◌, bytes_eq, codes, is_some, nat_lt}
use Rattle.std.specs.Map.{lookup}
use Rattle.std.specs.Ordering.{is_eq, match_ordering}
use Rattle.std.specs.declared.cmp.Ordering.{Ordering}
use Rattle.std.specs.declared.cmp.Ordering.TheVariants.{Less, Equal, Greater}
use Rattle.std.proofs.lemmas.Bool.{cond-false}
use Rattle.std.proofs.lemmas.Map.Text.{is_eq-slice_cmp}
use Rattle.std.proofs.lemmas.Option.{same_Some}
use Rattle.std.proofs.lemmas.Slice.Eq.{bytes_eq-Decides}
use Rattle.sv_model.specs.Attributes.{Attribute, name_cmp, value_of, with_attribute}
use Rattle.sv_model.specs.declared.event.Event.TheVariants.{Created}
use Rattle.sv_model.specs.declared.key.Key.{Key}
use Rattle.sv_model.specs.declared.key.Secret.{Secret}
use Rattle.sv_model.specs.declared.outcome.Birth.{Birth}
use Rattle.sv_model.specs.declared.outcome.Birth.TheVariants.{Absent, Alive, Ended as BirthEnded}
use Rattle.sv_model.specs.declared.outcome.Fate.{Fate}
use Rattle.sv_model.specs.declared.session.Session.{Session}
use Rattle.sv_model.specs.declared.session.TheConstants.{VALUE_LIMIT}
use Rattle.sv_session.specs.Calls.{Expected, after, change_id_result, create_result, done, get_result, id_changed, is_name, is_too_large, made_session, on_session, tell, value_result, value_set}
use Rattle.sv_session.specs.Edit.{Edit, birth_with, fate_with, has_made, has_used_secret, held_by, held_of, with_held}
use Rattle.sv_session.specs.declared.fault.SessionFault.TheVariants.{BadName, SecondCreation, SecretUsed, SessionTooLarge, ValueTooLong}
use Rattle.sv_session.specs.Fault.{fault_name as session_fault_name}
use Rattle.sv_servlet.specs.Call.{Asked}
use Rattle.sv_servlet.specs.Reply.{fault_name as reply_fault_name, field_result, status_result}
use Rattle.sv_servlet.specs.ReplyState.{ReplyState}
use Rattle.sv_servlet.specs.Servlet.{Lent, answer, lent}
use Rattle.sv_servlet.specs.declared.reply.ReplyFault.{ReplyFault}
use Rattle.sv_servlet.specs.declared.servlet.Next.{Next}
use Rattle.sv_servlet.specs.declared.servlet.Next.TheVariants.{Done, SendError}
use Rattle.sv_web.specs.Attributes.{has_session}
use Rattle.sv_web.specs.Redirect.{redirect_result}
use Rattle.sv_web.specs.Refusal.{fault_page}
use Rattle.sv_web.specs.Header.{header}
use Rattle.sv_web.specs.Methods.{MethodWork, allow_text, by_verb, method_work, not_allowed, options}
use Rattle.sv_web.specs.Steps.{change_id, create, set_header}
use Rattle.sv_web.specs.Work.{Ends, Work, answered, on_edit, on_reply}
use Rattle.example_servlets.specs.Kept.{or_none, seen}
use Rattle.example_servlets.specs.Login.{login, named, posted, taken_as}
use Rattle.example_servlets.specs.Sent.{sent_on}
use Rattle.example_servlets.specs.Told.{name_of}
use Rattle.example_servlets.proofs.LoginLemmas.{held_again}

-- ---- a value that is put at a name, seen at another

module _ (name value other : List ℕ) (apart : bytes_eq other name ≡ false) where
  put_here : (o : Ordering) (e : Attribute) (es rest : List Attribute) → o ≡ name_cmp name e.0 → value_of rest other ≡ value_of es other
      → value_of (match_ordering o ((name, value) ∷ e ∷ es) ((e.0, value) ∷ es) (e ∷ rest)) other ≡ value_of (e ∷ es) other
  unfolding value_of
  put_here Less e es rest is same = cond-false (bytes_eq other name) (Some value) (lookup (bytes_eq other) (e ∷ es)) apart
  put_here Equal e es rest is same =
      let here : name ≡ e.0 = (bytes_eq-Decides name e.0).0 (sym (ap is_eq is ∙ is_eq-slice_cmp name e.0)) in
      let further : bytes_eq other e.0 ≡ false = subst (λ (k : List ℕ). bytes_eq other k ≡ false) here apart in
      cond-false (bytes_eq other e.0) (Some value) (lookup (bytes_eq other) es) further
      ∙ sym (cond-false (bytes_eq other e.0) (Some e.1) (lookup (bytes_eq other) es) further)
  put_here Greater e es rest is same = ap (λ (found : Option (List ℕ)). cond (bytes_eq other e.0) (Some e.1) found) same

  put_elsewhere : (es : List Attribute) → value_of (with_attribute es name value) other ≡ value_of es other
  unfolding with_attribute value_of
  put_elsewhere [] = cond-false (bytes_eq other name) (Some value) None apart
  put_elsewhere (e ∷ es) = put_here (name_cmp name e.0) e es (with_attribute es name value) refl (put_elsewhere es)

-- ---- the session that is held, with other contents

held_with_by : (birth : Birth) (fate : Fate) (handed : Option Key) (fresh : Key × Secret) (held : Key × Session) (s : Session) → held_by birth fate handed fresh ≡ Some held
    → held_by (birth_with birth s) (fate_with birth fate s) handed fresh ≡ Some (held.0, s)
unfolding held_by
held_with_by Absent fate handed fresh held s is = held_again fate handed fresh held s is
held_with_by (Alive old) fate handed fresh held s is = ap (λ (h : Key × Session). let o : Option (Key × Session) = Some (h.0, s) in o) (same_Some _ _ is)
held_with_by BirthEnded fate handed fresh held s is = held_again fate handed fresh held s is

held_with : (e : Edit) (held : Key × Session) (s : Session) → held_of e ≡ Some held → held_of (with_held e s) ≡ Some (held.0, s)
held_with e held s is = held_with_by e.birth e.fate e.handed e.fresh held s is

-- ---- what is seen at a name

module _ (q : List ℕ) where
  abbrev seen_in : Option (Key × Session) → Option (List ℕ)
  seen_in o = or_none (on_session o (λ held. Ok (value_of held.1.attributes q)))

  seen_is : (e : Edit) → seen e q ≡ seen_in (held_of e)
  unfolding get_result
  seen_is e = refl

  module _ (e : Edit) where
    stays : (new : Edit) (held now : Key × Session) → held_of e ≡ Some held → held_of new ≡ Some now
        → value_of now.1.attributes q ≡ value_of held.1.attributes q → seen new q ≡ seen e q
    stays new held now was is same = seen_is new ∙ ap seen_in is ∙ same ∙ sym (seen_is e ∙ ap seen_in was)

    either : {A : Type 0} (b : Bool) (x y : Expected A) → seen (after e x) q ≡ seen e q → seen (after e y) q ≡ seen e q → seen (after e (cond b x y)) q ≡ seen e q
    either true x y hx hy = hx
    either false x y hx hy = hy

    -- another id
    changed_held : (held : Option (Key × Session)) → held_of e ≡ held
        → seen (after e (on_session held (λ h. cond (has_used_secret e) (Err SecretUsed) (done (id_changed e h))))) q ≡ seen e q
    changed_held None is = refl
    changed_held (Some held) is =
        let s : Session = record held.1 { secret = e.fresh.1 } in
        either (has_used_secret e) (Err SecretUsed) (done (id_changed e held)) refl (stays (id_changed e held) held (held.0, s) is (held_with e held s is) refl)

    changed_seen : seen (after e (change_id_result e)) q ≡ seen e q
    unfolding change_id_result
    changed_seen = changed_held (held_of e) refl

    -- a session that is made, which has no attributes
    abbrev born : Edit
    born = tell (record e { birth = Alive (made_session e) }) (Created e.fresh.0)

    none_born : seen_in (held_of born) ≡ None
    unfolding held_by value_of
    none_born = refl

    created_held : (held : Option (Key × Session)) → held_of e ≡ held
        → seen (after e (cond (is_some held) (Ok (false, e)) (cond (has_made e) (Err SecondCreation) (Ok (true, born))))) q ≡ seen e q
    created_held (Some held) is = refl
    created_held None is =
        either (has_made e) (Err SecondCreation) (Ok (true, born)) refl (seen_is born ∙ none_born ∙ sym (seen_is e ∙ ap seen_in is))

    created_seen : seen (after e (create_result e)) q ≡ seen e q
    unfolding create_result
    created_seen = created_held (held_of e) refl

    -- a value that is kept under another name
    module _ (name value : List ℕ) (apart : bytes_eq q name ≡ false) where
      set_seen : (held : Key × Session) → held_of e ≡ Some held → seen (value_set e held name value) q ≡ seen e q
      set_seen held is =
          let s : Session = record held.1 { attributes = with_attribute held.1.attributes name value } in
          stays (value_set e held name value) held (held.0, s) is (held_with e held s is) (put_elsewhere name value q apart held.1.attributes)

      kept_held : (held : Option (Key × Session)) → held_of e ≡ held
          → seen (after e (on_session held (λ h. cond (is_name name) (cond (nat_lt VALUE_LIMIT (length value)) (Err ValueTooLong)
          (cond (is_too_large (with_attribute h.1.attributes name value)) (Err SessionTooLarge) (done (value_set e h name value)))) (Err BadName)))) q ≡ seen e q
      kept_held None is = refl
      kept_held (Some held) is =
          let set : Expected (Unit {0}) = done (value_set e held name value) in
          let small : Expected (Unit {0}) = cond (is_too_large (with_attribute held.1.attributes name value)) (Err SessionTooLarge) set in
          let short : Expected (Unit {0}) = cond (nat_lt VALUE_LIMIT (length value)) (Err ValueTooLong) small in
          either (is_name name) short (Err BadName)
          (either (nat_lt VALUE_LIMIT (length value)) (Err ValueTooLong) small refl
          (either (is_too_large (with_attribute held.1.attributes name value)) (Err SessionTooLarge) set refl (set_seen held is)))
          refl

      kept_seen : seen (after e (value_result e name value)) q ≡ seen e q
      unfolding value_result
      kept_seen = kept_held (held_of e) refl

-- ---- logging in

module _ (q : List ℕ) (apart : bytes_eq q (codes "name") ≡ false) where
  -- work leaves what is seen at the name as it is
  abbrev Leaves : Work Next → Lent → Type 0
  Leaves w l = seen (answered w l).lent.edit q ≡ seen l.edit q

  either_work : (b : Bool) (l : Lent) (v w : Work Next) → Leaves v l → Leaves w l → Leaves (cond b v w) l
  either_work true l v w hv hw = hv
  either_work false l v w hv hw = hw

  edited : {A : Type 0} (l : Lent) (x : Expected A) (more : Work Next) → seen (after l.edit x) q ≡ seen l.edit q → ((m : Lent) → Leaves more m)
      → seen (on_edit l x (λ m. answered more m) (λ fault. answer l (fault_page (session_fault_name fault)))).lent.edit q ≡ seen l.edit q
  edited l (Ok r) more first leaves = leaves (lent r.1 l.reply) ∙ first
  edited l (Err fault) more first leaves = refl

  replied : (l : Lent) (x : Result ReplyState ReplyFault) (more : Work Next) → ((m : Lent) → Leaves more m)
      → seen (on_reply l x (λ m. answered more m) (λ fault. answer l (fault_page (reply_fault_name fault)))).lent.edit q ≡ seen l.edit q
  replied l (Ok reply) more leaves = leaves (lent l.edit reply)
  replied l (Err fault) more leaves = refl

  named_seen : (name : List ℕ) (l : Lent) → Leaves (named name) l
  unfolding named
  named_seen name l =
      edited l (value_result l.edit (codes "name") name) (sent_on (codes "cart")) (kept_seen q l.edit (codes "name") name apart) (λ m. replied m (redirect_result m.reply (codes "cart")) (Ends Done) (λ n. refl))

  taken_seen : (name : Option (List ℕ)) (l : Lent) → Leaves (taken_as name) l
  taken_seen None l = refl
  taken_seen (Some name) l =
      either_work (has_session l.edit) l (change_id (named name)) (create (named name)) (edited l (change_id_result l.edit) (named name) (changed_seen q l.edit) (named_seen name))
      (edited l (create_result l.edit) (named name) (created_seen q l.edit) (named_seen name))

  allow_seen : (allow : List ℕ) (next : Next) (l : Lent) → Leaves (set_header (codes "allow") allow (Ends next)) l
  allow_seen allow next l = replied l (field_result l.reply (header (codes "allow") allow)) (Ends next) (λ m. refl)

  options_seen : (allow : List ℕ) (l : Lent) → Leaves (options allow) l
  options_seen allow l = replied l (status_result l.reply 204) (set_header (codes "allow") allow (Ends Done)) (λ m. allow_seen allow Done m)

  either_asked : {V : Type 0} (work : V → Work Next) (b : Bool) (x y : V) (l : Lent) → Leaves (work x) l → Leaves (work y) l → Leaves (work (cond b x y)) l
  either_asked work true x y l hx hy = hx
  either_asked work false x y l hx hy = hy

  -- whatever is asked, the form alone does anything
  pub login_seen : (call : Asked) (l : Lent) → Leaves (login call) l
  login_seen call l =
      let m : MethodWork = method_work None (Some posted) None None in
      let refused : Leaves (not_allowed (allow_text m)) l = allow_seen (allow_text m) (SendError 405 []) l in
      either_asked (λ v. by_verb m v call) (bytes_eq call.method (codes "GET") || bytes_eq call.method (codes "HEAD")) _ _ l refused
      (either_asked (λ v. by_verb m v call) (bytes_eq call.method (codes "POST")) _ _ l (taken_seen (name_of call.params) l)
      (either_asked (λ v. by_verb m v call) (bytes_eq call.method (codes "PUT")) _ _ l refused
      (either_asked (λ v. by_verb m v call) (bytes_eq call.method (codes "DELETE")) _ _ l refused
      (either_asked (λ v. by_verb m v call) (bytes_eq call.method (codes "OPTIONS")) _ _ l (options_seen (allow_text m) l) refused))))

pub cart_seen : (call : Asked) (l : Lent) → seen (answered (login call) l).lent.edit (codes "cart") ≡ seen l.edit (codes "cart")
cart_seen = login_seen (codes "cart") refl
