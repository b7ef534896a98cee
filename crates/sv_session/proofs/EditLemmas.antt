-- Edits that go on, whatever their calls answer, and the limits that they keep.
use Rattle.std.proofs.Common.{◌≡◌, ℕ, ℤ, ◌<◌, ◌≤◌, ◌&&◌, ◌||◌, Bool, true, false, Option, Some, None, Result, Ok, Err, IfSome, List, [], ◌∷◌, ◌++◌, length, cond, refl, sym, ap, ◌∙◌, subst, append-nil, append_assoc, arith}
use Rattle.std.specs.Prelude.{nat_lt, nat_le, is_some}
use Rattle.std.proofs.lemmas.Bool.Decides.{nat_tests}
use Rattle.std.proofs.lemmas.List.Elements.{All-nil}
use Rattle.std.proofs.lemmas.Option.{same_Some}
use Rattle.sv_model.specs.Attributes.{Attribute, attributes_size, value_of, with_attribute, without_attribute}
use Rattle.sv_model.specs.Limits.{IsWithinLimits}
use Rattle.sv_model.specs.declared.event.Event.{Event}
use Rattle.sv_model.specs.declared.event.Event.TheVariants.{Created, Destroyed, Removed, IdChanged}
use Rattle.sv_model.specs.declared.event.Told.{Told}
use Rattle.sv_model.specs.declared.key.Key.{Key}
use Rattle.sv_model.specs.declared.key.Secret.{Secret}
use Rattle.sv_model.specs.declared.outcome.Birth.{Birth}
use Rattle.sv_model.specs.declared.outcome.Birth.TheVariants.{Absent, Alive, Ended as BirthEnded}
use Rattle.sv_model.specs.declared.outcome.Fate.{Fate}
use Rattle.sv_model.specs.declared.outcome.Fate.TheVariants.{Untouched, Kept, Ended as FateEnded}
use Rattle.sv_model.specs.declared.session.Session.{Session}
use Rattle.sv_model.specs.declared.session.TheConstants.{CONTEXT_LIMIT, ATTRIBUTE_LIMIT, NAME_LIMIT, VALUE_LIMIT, SESSION_LIMIT}
use Rattle.sv_model.proofs.AttributesLemmas.{All-names-with_attribute, All-values-with_attribute, All-without_attribute, attributes_size-nil, size_removed}
use Rattle.sv_session.specs.Edit.{Edit, IsWithin, KeepsEdit, begun, held_of, with_held, without_held, has_made, has_used_secret, held_by}
use Rattle.sv_session.specs.Calls.{Expected, Answers, after, done, on_session, is_name, is_too_large, tell, with_attributes, set_event, value_set, removed, made_session, value_result, remove_result, set_result, interval_result, invalidate_result, create_result, change_id_result, id_changed as changed_id}
use Rattle.sv_session.specs.declared.fault.SessionFault.{SessionFault}
use Rattle.sv_session.specs.declared.fault.SessionFault.TheVariants.{BadName, ValueTooLong, SessionTooLarge, SecondCreation, SecretUsed}

-- ---- going on

pub KeepsEdit-refl : (e : Edit) → KeepsEdit e e
KeepsEdit-refl e = record { context = refl; interval = refl; now = refl; fresh = refl; handed = refl; fate = λ h. h; events = ([], sym (append-nil e.events)); within = λ h. h }

pub KeepsEdit-trans : (a b c : Edit) → KeepsEdit a b → KeepsEdit b c → KeepsEdit a c
KeepsEdit-trans a b c first then =
    record {
      context = then.context ∙ first.context;
      interval = then.interval ∙ first.interval;
      now = then.now ∙ first.now;
      fresh = then.fresh ∙ first.fresh;
      handed = then.handed ∙ first.handed;
      fate = λ h. then.fate (first.fate h);
      events = (first.events.0 ++ then.events.0, then.events.1 ∙ ap (λ (l : List Told). l ++ then.events.0) first.events.1 ∙ append_assoc a.events first.events.0 then.events.0);
      within = λ h. then.within (first.within h);
    }

-- an edit that nobody changed goes on
pub same_edit : (old new : Edit) → new ≡ old → KeepsEdit old new
same_edit old new is = subst (λ (e : Edit). KeepsEdit old e) (sym is) (KeepsEdit-refl old)

-- a call that keeps the edit where it does what is expected keeps it whatever it answers
pub answers_keep : {A : Type 0} (old new : Edit) (expected : Expected A) (result : Result A SessionFault) → Answers old expected result new → KeepsEdit old (after old expected)
    → KeepsEdit old new
answers_keep old new expected (Ok a) is keeps = subst (λ (r : Expected _). KeepsEdit old (after old r)) is keeps
answers_keep old new expected (Err fault) is keeps = same_edit old new is.1

-- one more event
tell_keeps : (e : Edit) (event : Event) → KeepsEdit e (tell e event)
tell_keeps e event =
    record {
      context = refl;
      interval = refl;
      now = refl;
      fresh = refl;
      handed = refl;
      fate = λ h. h;
      events = (record { context = e.context; event = event } ∷ [], refl);
      within = λ h. record { context = h.context; fate = h.fate; birth = h.birth };
    }

-- the mark of an id that was changed
marked_keeps : (e : Edit) → KeepsEdit e (record e { id_changed = true })
marked_keeps e =
    record {
      context = refl;
      interval = refl;
      now = refl;
      fresh = refl;
      handed = refl;
      fate = λ h. h;
      events = ([], sym (append-nil e.events));
      within = λ h. record { context = h.context; fate = h.fate; birth = h.birth };
    }

session_is : (held : Key × Session) (key : Key) (old : Session) → Some held ≡ Some (key, old) → old ≡ held.1
session_is held key old is = sym (ap (λ (h : Key × Session). h.1) (same_Some held (key, old) is))

module _ (context : ℕ) (interval : ℤ) (now : ℕ) (fresh : Key × Secret) (id_changed : Bool) (events : List Told) where
  abbrev edit_of : Option Key → Fate → Birth → Edit
  edit_of handed fate birth = record { context = context; interval = interval; now = now; fresh = fresh; handed = handed; fate = fate; birth = birth; id_changed = id_changed; events = events }

  -- another session in the place of the one that is held
  replaced_by : (handed : Option Key) (fate : Fate) (birth : Birth) (held : Key × Session) (s : Session) → Some held ≡ held_of (edit_of handed fate birth)
      → (IsWithinLimits held.1 → IsWithinLimits s) → KeepsEdit (edit_of handed fate birth) (with_held (edit_of handed fate birth) s)
  unfolding held_by
  replaced_by handed fate (Alive old) held s is small =
      record {
        context = refl;
        interval = refl;
        now = refl;
        fresh = refl;
        handed = refl;
        fate = λ h. h;
        events = ([], sym (append-nil events));
        within = λ h. record { context = h.context; fate = h.fate; birth = small (subst IsWithinLimits (session_is held fresh.0 old is) h.birth) };
      }
  replaced_by (Some key) (Kept old) Absent held s is small =
      record {
        context = refl;
        interval = refl;
        now = refl;
        fresh = refl;
        handed = refl;
        fate = λ h. h;
        events = ([], sym (append-nil events));
        within = λ h. record { context = h.context; fate = small (subst IsWithinLimits (session_is held key old is) h.fate); birth = h.birth };
      }
  replaced_by (Some key) (Kept old) BirthEnded held s is small =
      record {
        context = refl;
        interval = refl;
        now = refl;
        fresh = refl;
        handed = refl;
        fate = λ h. h;
        events = ([], sym (append-nil events));
        within = λ h. record { context = h.context; fate = small (subst IsWithinLimits (session_is held key old is) h.fate); birth = h.birth };
      }
  replaced_by None (Kept old) Absent held s is small = absurd cc
  replaced_by None (Kept old) BirthEnded held s is small = absurd cc
  replaced_by handed Untouched Absent held s is small = absurd cc
  replaced_by handed Untouched BirthEnded held s is small = absurd cc
  replaced_by handed FateEnded Absent held s is small = absurd cc
  replaced_by handed FateEnded BirthEnded held s is small = absurd cc

  -- the end of the one that is held
  ended_by : (handed : Option Key) (fate : Fate) (birth : Birth) (held : Key × Session) → Some held ≡ held_of (edit_of handed fate birth)
      → KeepsEdit (edit_of handed fate birth) (without_held (edit_of handed fate birth))
  unfolding held_by
  ended_by handed fate (Alive old) held is =
      record {
        context = refl;
        interval = refl;
        now = refl;
        fresh = refl;
        handed = refl;
        fate = λ h. h;
        events = ([], sym (append-nil events));
        within = λ h. record { context = h.context; fate = h.fate; birth = tt };
      }
  ended_by (Some key) (Kept old) Absent held is =
      record {
        context = refl;
        interval = refl;
        now = refl;
        fresh = refl;
        handed = refl;
        fate = λ h. tt;
        events = ([], sym (append-nil events));
        within = λ h. record { context = h.context; fate = tt; birth = h.birth };
      }
  ended_by (Some key) (Kept old) BirthEnded held is =
      record {
        context = refl;
        interval = refl;
        now = refl;
        fresh = refl;
        handed = refl;
        fate = λ h. tt;
        events = ([], sym (append-nil events));
        within = λ h. record { context = h.context; fate = tt; birth = h.birth };
      }
  ended_by None (Kept old) Absent held is = absurd cc
  ended_by None (Kept old) BirthEnded held is = absurd cc
  ended_by handed Untouched Absent held is = absurd cc
  ended_by handed Untouched BirthEnded held is = absurd cc
  ended_by handed FateEnded Absent held is = absurd cc
  ended_by handed FateEnded BirthEnded held is = absurd cc

replaced_keeps : (e : Edit) (held : Key × Session) (s : Session) → Some held ≡ held_of e → (IsWithinLimits held.1 → IsWithinLimits s) → KeepsEdit e (with_held e s)
replaced_keeps e held s is small = replaced_by e.context e.interval e.now e.fresh e.id_changed e.events e.handed e.fate e.birth held s is small

ended_keeps : (e : Edit) (held : Key × Session) → Some held ≡ held_of e → KeepsEdit e (without_held e)
ended_keeps e held is = ended_by e.context e.interval e.now e.fresh e.id_changed e.events e.handed e.fate e.birth held is

-- ---- limits of sessions

true_and : (a b : Bool) → a && b ≡ true → (a ≡ true) × (b ≡ true)
true_and true b is = (refl, is)
true_and false b is = absurd cc

false_or : (a b : Bool) → a || b ≡ false → (a ≡ false) × (b ≡ false)
false_or true b is = absurd cc
false_or false b is = (refl, is)

below_from_test : (a b : ℕ) → nat_lt a b ≡ true → a < b
below_from_test a b is = grind (arith, nat_tests)

at_most_from_test : (a b : ℕ) → nat_le a b ≡ true → a ≤ b
at_most_from_test a b is = grind (arith, nat_tests)

at_most_from_false : (a b : ℕ) → nat_lt a b ≡ false → b ≤ a
at_most_from_false a b is = grind (arith, nat_tests)

-- a session keeps the limits with a value that is let through
value_within : (s : Session) (name value : List ℕ) → is_name name ≡ true → nat_lt VALUE_LIMIT (length value) ≡ false → is_too_large (with_attribute s.attributes name value) ≡ false
    → IsWithinLimits s → IsWithinLimits (record s { attributes = with_attribute s.attributes name value })
value_within s name value named short small old =
    let new : List Attribute = with_attribute s.attributes name value in
    let name_test = true_and (nat_lt 0 (length name)) (nat_le (length name) NAME_LIMIT) named in
    let size_test = false_or (nat_lt ATTRIBUTE_LIMIT (length new)) (nat_lt SESSION_LIMIT (attributes_size new)) small in
    record {
      context = old.context;
      count = at_most_from_false ATTRIBUTE_LIMIT (length new) size_test.0;
      named = All-names-with_attribute (λ n. 0 < length n) name value s.attributes (below_from_test 0 (length name) name_test.0) old.named;
      names = All-names-with_attribute (λ n. length n ≤ NAME_LIMIT) name value s.attributes (at_most_from_test (length name) NAME_LIMIT name_test.1) old.names;
      values = All-values-with_attribute (λ v. length v ≤ VALUE_LIMIT) name value s.attributes (at_most_from_false VALUE_LIMIT (length value) short) old.values;
      size = at_most_from_false SESSION_LIMIT (attributes_size new) size_test.1;
    }

-- and without one of its attributes
removed_within : (s : Session) (name was : List ℕ) → Some was ≡ value_of s.attributes name → IsWithinLimits s → IsWithinLimits (record s { attributes = without_attribute s.attributes name })
removed_within s name was is old =
    let sizes = size_removed s.attributes name was is in
    record {
      context = old.context;
      count = omega (arith, sizes.1, old.count);
      named = All-without_attribute (λ e. 0 < length e.0) name s.attributes old.named;
      names = All-without_attribute (λ e. length e.0 ≤ NAME_LIMIT) name s.attributes old.names;
      values = All-without_attribute (λ e. length e.1 ≤ VALUE_LIMIT) name s.attributes old.values;
      size = omega (arith, sizes.0, old.size);
    }

-- and so is one that is made
made_within : (e : Edit) → e.context < CONTEXT_LIMIT → IsWithinLimits (made_session e)
made_within e small =
    record {
      context = small;
      count = omega arith;
      named = All-nil (λ (a : Attribute). 0 < length a.0);
      names = All-nil (λ (a : Attribute). length a.0 ≤ NAME_LIMIT);
      values = All-nil (λ (a : Attribute). length a.1 ≤ VALUE_LIMIT);
      size = omega (arith, attributes_size-nil);
    }

-- ---- an edit at its beginning

begun_by : (held : Option (Key × Session)) (context : ℕ) (interval : ℤ) (now : ℕ) (fresh : Key × Secret) → context < CONTEXT_LIMIT → IfSome held (λ h. IsWithinLimits h.1)
    → IsWithin (begun held context interval now fresh)
begun_by None context interval now fresh small within = record { context = small; fate = tt; birth = tt }
begun_by (Some h) context interval now fresh small within = record { context = small; fate = within; birth = tt }

-- an edit begun with a session within the limits, or none, is within them
pub begun_within : (held : Option (Key × Session)) (context : ℕ) (interval : ℤ) (now : ℕ) (fresh : Key × Secret) → context < CONTEXT_LIMIT → IfSome held (λ h. IsWithinLimits h.1)
    → IsWithin (begun held context interval now fresh)
begun_within = begun_by

-- ---- the calls

module _ (e : Edit) where
  module _ (name : List ℕ) where
    module _ (value : List ℕ) where
      value_keeps_held : (held : Key × Session) → Some held ≡ held_of e → is_name name ≡ true → nat_lt VALUE_LIMIT (length value) ≡ false
          → is_too_large (with_attribute held.1.attributes name value) ≡ false → KeepsEdit e (value_set e held name value)
      value_keeps_held held is named short small =
          let new : Edit = with_attributes e held.1 (with_attribute held.1.attributes name value) in
          let event : Event = set_event held.0 name value (value_of held.1.attributes name) in
          KeepsEdit-trans e new (tell new event)
          (replaced_keeps e held (record held.1 { attributes = with_attribute held.1.attributes name value }) is (value_within held.1 name value named short small))
          (tell_keeps new event)

      value_if_small : (held : Key × Session) (large : Bool) → Some held ≡ held_of e → is_name name ≡ true → nat_lt VALUE_LIMIT (length value) ≡ false
          → is_too_large (with_attribute held.1.attributes name value) ≡ large
          → KeepsEdit e (after e (cond large (Err SessionTooLarge) (done (value_set e held name value))))
      value_if_small held true is named short test = KeepsEdit-refl e
      value_if_small held false is named short test = value_keeps_held held is named short test

      value_if_short : (held : Key × Session) (long : Bool) → Some held ≡ held_of e → is_name name ≡ true → nat_lt VALUE_LIMIT (length value) ≡ long
          → KeepsEdit e (after e (cond long (Err ValueTooLong)
          (cond (is_too_large (with_attribute held.1.attributes name value)) (Err SessionTooLarge) (done (value_set e held name value)))))
      value_if_short held true is named test = KeepsEdit-refl e
      value_if_short held false is named test = value_if_small held (is_too_large (with_attribute held.1.attributes name value)) is named test refl

      value_if_named : (held : Key × Session) (named : Bool) → Some held ≡ held_of e → is_name name ≡ named
          → KeepsEdit e (after e (cond named (cond (nat_lt VALUE_LIMIT (length value)) (Err ValueTooLong)
          (cond (is_too_large (with_attribute held.1.attributes name value)) (Err SessionTooLarge) (done (value_set e held name value)))) (Err BadName)))
      value_if_named held true is test = value_if_short held (nat_lt VALUE_LIMIT (length value)) is test refl
      value_if_named held false is test = KeepsEdit-refl e

      value_if_held : (held : Option (Key × Session)) → held ≡ held_of e
          → KeepsEdit e (after e (on_session held (λ h. cond (is_name name) (cond (nat_lt VALUE_LIMIT (length value)) (Err ValueTooLong)
          (cond (is_too_large (with_attribute h.1.attributes name value)) (Err SessionTooLarge) (done (value_set e h name value)))) (Err BadName))))
      value_if_held None is = KeepsEdit-refl e
      value_if_held (Some held) is = value_if_named held (is_name name) is refl

      pub value_keeps : KeepsEdit e (after e (value_result e name value))
      unfolding value_result
      value_keeps = value_if_held (held_of e) refl

    removed_keeps : (held : Key × Session) (was : Option (List ℕ)) → Some held ≡ held_of e → was ≡ value_of held.1.attributes name → KeepsEdit e (removed e held name was)
    removed_keeps held None is found = KeepsEdit-refl e
    removed_keeps held (Some was) is found =
        let new : Edit = with_attributes e held.1 (without_attribute held.1.attributes name) in
        let event : Event = Removed held.0 name was in
        KeepsEdit-trans e new (tell new event)
        (replaced_keeps e held (record held.1 { attributes = without_attribute held.1.attributes name }) is (removed_within held.1 name was found))
        (tell_keeps new event)

    remove_if_held : (held : Option (Key × Session)) → held ≡ held_of e
        → KeepsEdit e (after e (on_session held (λ h. done (removed e h name (value_of h.1.attributes name)))))
    remove_if_held None is = KeepsEdit-refl e
    remove_if_held (Some held) is = removed_keeps held (value_of held.1.attributes name) is refl

    pub remove_keeps : KeepsEdit e (after e (remove_result e name))
    unfolding remove_result
    remove_keeps = remove_if_held (held_of e) refl

    pub set_keeps : (value : Option (List ℕ)) → KeepsEdit e (after e (set_result e name value))
    set_keeps None = remove_keeps
    set_keeps (Some value) = value_keeps value

  interval_if_held : (seconds : ℤ) (held : Option (Key × Session)) → held ≡ held_of e
      → KeepsEdit e (after e (on_session held (λ h. done (with_held e (record h.1 { interval = seconds })))))
  interval_if_held seconds None is = KeepsEdit-refl e
  interval_if_held seconds (Some held) is =
      replaced_keeps e held (record held.1 { interval = seconds }) is
      (λ h. record { context = h.context; count = h.count; named = h.named; names = h.names; values = h.values; size = h.size })

  pub interval_keeps : (seconds : ℤ) → KeepsEdit e (after e (interval_result e seconds))
  unfolding interval_result
  interval_keeps seconds = interval_if_held seconds (held_of e) refl

  invalidate_if_held : (held : Option (Key × Session)) → held ≡ held_of e
      → KeepsEdit e (after e (on_session held (λ h. done (tell (without_held e) (Destroyed h.0)))))
  invalidate_if_held None is = KeepsEdit-refl e
  invalidate_if_held (Some held) is =
      KeepsEdit-trans e (without_held e) (tell (without_held e) (Destroyed held.0)) (ended_keeps e held is) (tell_keeps (without_held e) (Destroyed held.0))

  pub invalidate_keeps : KeepsEdit e (after e (invalidate_result e))
  unfolding invalidate_result
  invalidate_keeps = invalidate_if_held (held_of e) refl

  made_keeps : KeepsEdit e (record e { birth = Alive (made_session e) })
  made_keeps =
      record {
        context = refl;
        interval = refl;
        now = refl;
        fresh = refl;
        handed = refl;
        fate = λ h. h;
        events = ([], sym (append-nil e.events));
        within = λ h. record { context = h.context; fate = h.fate; birth = made_within e h.context };
      }

  create_if_first : (made : Bool) → KeepsEdit e (after e (cond made (Err SecondCreation) (Ok (true, tell (record e { birth = Alive (made_session e) }) (Created e.fresh.0)))))
  create_if_first true = KeepsEdit-refl e
  create_if_first false =
      let new : Edit = record e { birth = Alive (made_session e) } in
      KeepsEdit-trans e new (tell new (Created e.fresh.0)) made_keeps (tell_keeps new (Created e.fresh.0))

  create_if_none : (held : Bool)
      → KeepsEdit e (after e (cond held (Ok (false, e)) (cond (has_made e) (Err SecondCreation) (Ok (true, tell (record e { birth = Alive (made_session e) }) (Created e.fresh.0))))))
  create_if_none true = KeepsEdit-refl e
  create_if_none false = create_if_first (has_made e)

  pub create_keeps : KeepsEdit e (after e (create_result e))
  unfolding create_result
  create_keeps = create_if_none (is_some (held_of e))

  changed_keeps : (held : Key × Session) → Some held ≡ held_of e → KeepsEdit e (changed_id e held)
  changed_keeps held is =
      let new : Edit = with_held e (record held.1 { secret = e.fresh.1 }) in
      let marked : Edit = record new { id_changed = true } in
      let event : Event = IdChanged held.0 held.1.secret in
      let small : IsWithinLimits held.1 → IsWithinLimits (record held.1 { secret = e.fresh.1 }) =
      λ h. record { context = h.context; count = h.count; named = h.named; names = h.names; values = h.values; size = h.size } in
      KeepsEdit-trans e new (tell marked event) (replaced_keeps e held (record held.1 { secret = e.fresh.1 }) is small)
      (KeepsEdit-trans new marked (tell marked event) (marked_keeps new) (tell_keeps marked event))

  change_if_unused : (held : Key × Session) (used : Bool) → Some held ≡ held_of e → KeepsEdit e (after e (cond used (Err SecretUsed) (done (changed_id e held))))
  change_if_unused held true is = KeepsEdit-refl e
  change_if_unused held false is = changed_keeps held is

  change_if_held : (held : Option (Key × Session)) → held ≡ held_of e
      → KeepsEdit e (after e (on_session held (λ h. cond (has_used_secret e) (Err SecretUsed) (done (changed_id e h)))))
  change_if_held None is = KeepsEdit-refl e
  change_if_held (Some held) is = change_if_unused held (has_used_secret e) is

  pub change_id_keeps : KeepsEdit e (after e (change_id_result e))
  unfolding change_id_result
  change_id_keeps = change_if_held (held_of e) refl
