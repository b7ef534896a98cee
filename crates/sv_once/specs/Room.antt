-- Where a session keeps what it remembers: one attribute, out of the application's reach.
use Rattle.std.specs.Prelude.{ℕ, Bool, ◌&&◌, List, [], ◌∷◌, length, codes, nat_le, Option, Some, None, unwrap_or, if◌then◌else◌}
use Rattle.sv_model.specs.Attributes.{attributes_size, value_of, with_attribute, without_attribute}
use Rattle.sv_model.specs.declared.session.Session.{Session}
use Rattle.sv_model.specs.declared.session.TheConstants.{ATTRIBUTE_LIMIT, SESSION_LIMIT, VALUE_LIMIT}

-- the attribute's name
unfoldable pub memory_name : List ℕ
memory_name = codes "kegbramble.once"

-- the bytes of what a session remembers; none where it remembers nothing
abbrev pub memory_of : Session → List ℕ
memory_of s = unwrap_or (value_of s.attributes memory_name) []

-- the session as its application sees it
abbrev pub bare : Session → Session
bare s = record s { attributes = without_attribute s.attributes memory_name }

-- the attribute with these bytes, where there are any
abbrev pub remembering : List ℕ → Session → Session
remembering [] s = s
remembering (b ∷ bytes) s = record s { attributes = with_attribute s.attributes memory_name (b ∷ bytes) }

-- the session with these bytes in place of what it remembered
abbrev pub with_memory : List ℕ → Session → Session
with_memory memory s = remembering memory (bare s)

-- no more attributes, and no larger ones, than a session may have
abbrev pub is_small : Session → Bool
is_small s = nat_le (length s.attributes) ATTRIBUTE_LIMIT && nat_le (attributes_size s.attributes) SESSION_LIMIT

-- the bytes, and what the application keeps, are no longer than those of an attribute and of a session
abbrev pub is_bounded : List ℕ → Session → Bool
is_bounded memory s = nat_le (length memory) VALUE_LIMIT && nat_le (attributes_size s.attributes) SESSION_LIMIT

-- there is room for these bytes beside what the application keeps
abbrev pub has_room : List ℕ → Session → Bool
has_room memory s = is_bounded memory (bare s) && is_small (with_memory memory s)

-- the session with these bytes, where there is room for them
unfoldable pub session_with : List ℕ → Session → Option Session
session_with memory s = if has_room memory s then Some (with_memory memory s) else None
