-- The calls of an edit (Jakarta Servlet 6.0, chapter "Sessions"): what is expected of each, from the edit that it is made on.
use Rattle.std.specs.Prelude.{◌≡◌, ℕ, ◌+◌, ℤ, ◌&&◌, ◌||◌, Bool, true, false, Option, Some, None, Result, Ok}
use Rattle.std.specs.Prelude.{Err, IsOk, IsOkAnd, List, [], ◌∷◌, ◌++◌, length, is_some, nat_lt, nat_le, if◌then◌else◌, MatchResult, option_copied}
use Rattle.std.specs.Borrow.{Bor}
use Rattle.sv_model.specs.Attributes.{attributes_size, names_of, value_of, with_attribute, without_attribute}
use Rattle.sv_model.specs.declared.event.Event.{Event}
use Rattle.sv_model.specs.declared.event.Event.TheVariants.{Created, Destroyed, Added, Removed, Replaced, IdChanged}
use Rattle.sv_model.specs.declared.key.Key.{Key}
use Rattle.sv_model.specs.declared.outcome.Birth.TheVariants.{Alive}
use Rattle.sv_model.specs.declared.session.Session.{Session}
use Rattle.sv_model.specs.declared.session.TheConstants.{ATTRIBUTE_LIMIT, NAME_LIMIT, VALUE_LIMIT, SESSION_LIMIT}
use Rattle.sv_session.specs.Edit.{Edit, held_of, with_held, without_held, has_made, has_used_secret}
use Rattle.sv_session.specs.declared.fault.SessionFault.{SessionFault}
use Rattle.sv_session.specs.declared.fault.SessionFault.TheVariants.{NoSession, BadName, ValueTooLong, SessionTooLarge, SecondCreation, Memory, SecretUsed}

-- what a call that changes an edit gives, and the edit after it; or why it is refused
abbrev pub Expected : Type 0 → Type 0
Expected A = Result (A × Edit) SessionFault

-- a fault is the one that is expected, or it is Memory, where that may be told
abbrev pub IsFaultOf : {A : Type 0} → Result A SessionFault → Type 0 → SessionFault → Type 0
IsFaultOf expected memory NoSession = expected ≡ Err NoSession
IsFaultOf expected memory BadName = expected ≡ Err BadName
IsFaultOf expected memory ValueTooLong = expected ≡ Err ValueTooLong
IsFaultOf expected memory SessionTooLarge = expected ≡ Err SessionTooLarge
IsFaultOf expected memory SecondCreation = expected ≡ Err SecondCreation
IsFaultOf expected memory Memory = memory
IsFaultOf expected memory SecretUsed = expected ≡ Err SecretUsed

-- what a call that reads an edit answers; Memory stands in place of success
abbrev pub Gives : {A : Type 0} → Result A SessionFault → Result A SessionFault → Type 0
Gives expected result = MatchResult result (λ a. expected ≡ Ok a) (IsFaultOf expected (IsOk expected))

-- a call that succeeds with one more event
abbrev pub Tells : {A : Type 0} → Edit → Expected A → Type 0
Tells old expected = IsOkAnd expected (λ r. length r.1.events ≡ length old.events + 1)

-- what a call that changes an edit answers and leaves: after a fault the edit is as it was; Memory stands in place of
-- what would be told
abbrev pub Answers : {A : Type 0} → Edit → Expected A → Result A SessionFault → Edit → Type 0
Answers old expected (Ok a) new = expected ≡ Ok (a, new)
Answers old expected (Err fault) new = IsFaultOf expected (Tells old expected) fault × (new ≡ old)

-- the edit after a call
abbrev pub after : {A : Type 0} → Edit → Expected A → Edit
after e (Ok r) = r.1
after e (Err fault) = e

-- a test that a call passes before it takes memory: the fault is the one that is expected
abbrev pub Admits : {A : Type 0} → Result A SessionFault → Result (Unit {0}) SessionFault → Type 0
Admits expected (Ok _) = IsOk expected
Admits expected (Err fault) = expected ≡ Err fault

-- a call that gives nothing but the edit
abbrev pub done : Edit → Expected (Unit {0})
done e = Ok (tt, e)

-- a call on the session that is held is refused where there is none
abbrev pub on_session : {A : Type 0} → Option (Key × Session) → (Key × Session → Result A SessionFault) → Result A SessionFault
on_session None call = Err NoSession
on_session (Some held) call = call held

-- a name of 1 to 128 bytes
abbrev pub is_name : List ℕ → Bool
is_name name = nat_lt 0 (length name) && nat_le (length name) NAME_LIMIT

-- the edit with one more event, for the listeners of its context
abbrev pub tell : Edit → Event → Edit
tell e event = record e { events = e.events ++ record { context = e.context; event = event } ∷ [] }

-- the edit with these attributes in the session that is held
abbrev pub with_attributes : Edit → Session → List (List ℕ × List ℕ) → Edit
with_attributes e s attributes = with_held e (record s { attributes = attributes })

-- more attributes than 64, or more than 131,072 bytes in their names and values
abbrev pub is_too_large : List (List ℕ × List ℕ) → Bool
is_too_large attributes = nat_lt ATTRIBUTE_LIMIT (length attributes) || nat_lt SESSION_LIMIT (attributes_size attributes)

-- what is told of a value that is set, by the value that was there
abbrev pub set_event : Key → List ℕ → List ℕ → Option (List ℕ) → Event
set_event key name value None = Added key name value
set_event key name value (Some old) = Replaced key name old

-- the session that is held gets these attributes, with this value at this name
abbrev pub value_set : Edit → Key × Session → List ℕ → List ℕ → Edit
value_set e held name value =
    tell (with_attributes e held.1 (with_attribute held.1.attributes name value)) (set_event held.0 name value (value_of held.1.attributes name))

-- a value is set at a name, unless it or the session would be too large
unfoldable pub value_result : Edit → List ℕ → List ℕ → Expected (Unit {0})
value_result e name value =
    on_session (held_of e) (λ held.
    if is_name name then (
    if nat_lt VALUE_LIMIT (length value) then Err ValueTooLong
    else if is_too_large (with_attribute held.1.attributes name value) then Err SessionTooLarge
    else done (value_set e held name value))
    else Err BadName)

-- the session that is held loses its attribute of a name, if it has one
abbrev pub removed : Edit → Key × Session → List ℕ → Option (List ℕ) → Edit
removed e held name None = e
removed e held name (Some old) = tell (with_attributes e held.1 (without_attribute held.1.attributes name)) (Removed held.0 name old)

-- the attribute of a name is removed; a name that no attribute can have is that of none
unfoldable pub remove_result : Edit → List ℕ → Expected (Unit {0})
remove_result e name = on_session (held_of e) (λ held. done (removed e held name (value_of held.1.attributes name)))

-- a value is set at a name; none removes what is there
abbrev pub set_result : Edit → List ℕ → Option (List ℕ) → Expected (Unit {0})
set_result e name None = remove_result e name
set_result e name (Some value) = value_result e name value

-- the value that is shown, as its bytes
abbrev pub seen_value : Result (Option (Bor (List ℕ))) SessionFault → Result (Option (List ℕ)) SessionFault
seen_value (Ok value) = Ok (option_copied value)
seen_value (Err fault) = Err fault

-- the value at a name
unfoldable pub get_result : Edit → List ℕ → Result (Option (List ℕ)) SessionFault
get_result e name = on_session (held_of e) (λ held. Ok (value_of held.1.attributes name))

-- the names of the attributes, in order
unfoldable pub names_result : Edit → Result (List (List ℕ)) SessionFault
names_result e = on_session (held_of e) (λ held. Ok (names_of held.1.attributes))

-- whether no request has named the session yet
unfoldable pub new_result : Edit → Result Bool SessionFault
new_result e = on_session (held_of e) (λ held. Ok held.1.fresh)

-- the key of the session that is held
unfoldable pub key_result : Edit → Result Key SessionFault
key_result e = on_session (held_of e) (λ held. Ok held.0)

-- the session that is held gets another interval
unfoldable pub interval_result : Edit → ℤ → Expected (Unit {0})
interval_result e seconds = on_session (held_of e) (λ held. done (with_held e (record held.1 { interval = seconds })))

-- the session that is held ends
unfoldable pub invalidate_result : Edit → Expected (Unit {0})
invalidate_result e = on_session (held_of e) (λ held. done (tell (without_held e) (Destroyed held.0)))

-- a session as it is made
abbrev pub made_session : Edit → Session
made_session e = record { context = e.context; secret = e.fresh.1; created = e.now; last = e.now; interval = e.interval; fresh = true; attributes = [] }

-- a session is made where none is held, once in a request
unfoldable pub create_result : Edit → Expected Bool
create_result e =
    if is_some (held_of e) then Ok (false, e)
    else if has_made e then Err SecondCreation
    else Ok (true, tell (record e { birth = Alive (made_session e) }) (Created e.fresh.0))

-- the session that is held has the fresh secret in place of its own, under the same key
abbrev pub id_changed : Edit → Key × Session → Edit
id_changed e held = tell (record (with_held e (record held.1 { secret = e.fresh.1 })) { id_changed = true }) (IdChanged held.0 held.1.secret)

-- the session that is held gets the fresh secret, once in a request, and not where a session was made with it
-- (`HttpServletRequest.changeSessionId`)
unfoldable pub change_id_result : Edit → Expected (Unit {0})
change_id_result e =
    on_session (held_of e) (λ held.
    if has_used_secret e then Err SecretUsed
    else done (id_changed e held))
