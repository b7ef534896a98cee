-- What is shown of a journal: a line for each session.
use Rattle.std.specs.Prelude.{ℕ, ◌+◌, ◌^◌, ℤ, pos, negsuc, Bool, false, ◌&&◌, ◌||◌, leb, ltb, List}
use Rattle.std.specs.Prelude.{[], ◌∷◌, ◌++◌, map, length, codes, decimal, string_bytes, Option, Some, None, if◌then◌else◌}
use Rattle.std.specs.List.{concat, flat_map}
use Rattle.std.specs.Option.{option_map}
use Rattle.std.specs.Fmt.{radix_digits}
use Rattle.sv_model.specs.Attributes.{Attribute}
use Rattle.sv_model.specs.declared.key.Key.{Key}
use Rattle.sv_model.specs.declared.session.Session.{Session}
use Rattle.sv_model.specs.declared.state.KeyState.{KeyState}
use Rattle.sv_model.specs.declared.state.KeyState.TheVariants.{Active, Sent, Gone, Ended}
use Rattle.sv_control.specs.declared.lines.AttributeLine.{AttributeLine}
use Rattle.sv_control.specs.declared.lines.SessionLine.{SessionLine}
use Rattle.sv_control.specs.declared.lines.SessionPlace.{SessionPlace}
use Rattle.sv_control.specs.declared.lines.SessionTimes.{SessionTimes}
use Rattle.sv_control.specs.declared.lines.Disclosure.{Disclosure}
use Rattle.sv_control.specs.declared.lines.Disclosure.TheVariants.{Sizes, Values}
use Rattle.sv_control.specs.Naming.{key_text}

-- printable ASCII, and neither a blank nor a backslash
abbrev pub is_plain : ℕ → Bool
is_plain c = (leb 33 c && leb c 91) || (leb 93 c && leb c 126)

-- `\x` and two hexadecimal digits
abbrev pub escaped_byte : ℕ → List ℕ
escaped_byte c = (if ltb c 16 then codes "\\x0" else codes "\\x") ++ radix_digits 16 false c

-- a byte of a value: as it is where it is plain
abbrev pub byte_text : ℕ → List ℕ
byte_text c = if is_plain c then c ∷ [] else escaped_byte c

-- a value as it is shown
abbrev pub value_text : List ℕ → List ℕ
value_text value = flat_map byte_text value

-- an attribute's name, how many bytes its value has, and the value as it is shown, where values are
pub record SeenAttribute : Type 0 where
  pub name : List ℕ
  pub bytes : ℕ
  pub value : Option (List ℕ)

-- the value, where values are shown
abbrev pub value_to_see : Disclosure → List ℕ → Option (List ℕ)
value_to_see Sizes value = None
value_to_see Values value = Some (value_text value)

-- what is to be seen of an attribute
abbrev pub attribute_to_see : Disclosure → Attribute → SeenAttribute
attribute_to_see disclosure a = record { name = a.0; bytes = length a.1; value = value_to_see disclosure a.1 }

-- what is seen of one
abbrev pub seen_attribute : AttributeLine → SeenAttribute
seen_attribute line = record { name = string_bytes line.name; bytes = line.bytes; value = option_map string_bytes line.value }

-- a session's state by name, its epoch, the node that it was sent to, and the number of its context
pub record SeenPlace : Type 0 where
  pub state : List ℕ
  pub epoch : ℕ
  pub to : Option ℕ
  pub context : ℕ

-- the text of a key, where the session is and its times, and its attributes
pub record SeenSession : Type 0 where
  pub key : List ℕ
  pub place : SeenPlace
  pub times : SessionTimes
  pub attributes : List SeenAttribute

-- the second that is so many after another, where 64 bits can say it
abbrev pub second_behind : ℕ → ℕ → Option ℕ
second_behind last seconds = if ltb (last + seconds) (2 ^ 64) then Some (last + seconds) else None

-- when a session expires if no request names it; an interval of 0 and less never passes
abbrev pub expiry : ℕ → ℤ → Option ℕ
expiry last (pos seconds) = if ltb 0 seconds then second_behind last seconds else None
expiry last (negsuc n) = None

-- when a session was made and named, and when it expires
abbrev pub times_of : Session → SessionTimes
times_of s = record { created = s.created; last = s.last; expires = expiry s.last s.interval }

-- what is seen of a place
abbrev pub seen_place : SessionPlace → SeenPlace
seen_place p = record { state = p.state.now; epoch = p.epoch; to = p.to; context = p.context }

-- what is to be seen of a session at a place
abbrev pub session_to_see : Disclosure → Key → SeenPlace → Session → SeenSession
session_to_see disclosure key place s =
    record { key = key_text key; place = place; times = times_of s; attributes = map (attribute_to_see disclosure) s.attributes }

-- what is to be seen of a key: of one whose session has gone or ended, nothing
abbrev pub to_see : Disclosure → Key → KeyState → Option SeenSession
to_see disclosure key (Active epoch s) =
    Some (session_to_see disclosure key (record { state = codes "active"; epoch = epoch; to = None; context = s.context }) s)
to_see disclosure key (Sent epoch s to) =
    Some (session_to_see disclosure key (record { state = codes "sent"; epoch = epoch; to = Some to; context = s.context }) s)
to_see disclosure key (Gone epoch) = None
to_see disclosure key (Ended epoch) = None

-- what is seen of a session
abbrev pub seen_session : SessionLine → SeenSession
seen_session l =
    record { key = string_bytes l.key; place = seen_place l.place; times = l.times; attributes = map seen_attribute l.attributes.items }

-- the text of an attribute
abbrev pub value_part : Option (List ℕ) → List ℕ
value_part None = []
value_part (Some value) = codes "=" ++ value

abbrev pub attribute_text : AttributeLine → List ℕ
attribute_text line = concat (string_bytes line.name ∷ codes ":" ∷ decimal line.bytes ∷ value_part (option_map string_bytes line.value) ∷ [])

-- the text of a session's place
abbrev pub target_part : Option ℕ → List ℕ
target_part None = []
target_part (Some to) = codes " to " ++ decimal to

abbrev pub place_text : SessionPlace → List ℕ
place_text p = concat (p.state.now ∷ target_part p.to ∷ codes ", epoch " ∷ decimal p.epoch ∷ codes ", context " ∷ decimal p.context ∷ [])

-- the text of its times
abbrev pub expiry_part : Option ℕ → List ℕ
expiry_part None = codes "never expires"
expiry_part (Some second) = codes "expires " ++ decimal second

abbrev pub times_text : SessionTimes → List ℕ
times_text t = concat (codes "made " ∷ decimal t.created ∷ codes ", last " ∷ decimal t.last ∷ codes ", " ∷ expiry_part t.expires ∷ [])

-- an attribute's text after a blank
abbrev pub attribute_part : AttributeLine → List ℕ
attribute_part line = 32 ∷ attribute_text line

-- the text of a session
abbrev pub session_text : SessionLine → List ℕ
session_text l =
    concat (string_bytes l.key ∷ codes " " ∷ place_text l.place ∷ codes ", " ∷ times_text l.times ∷ codes "," ∷ flat_map attribute_part l.attributes.items ∷ [])
