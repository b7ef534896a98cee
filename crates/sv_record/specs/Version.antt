-- What the version of a record or packet says: the length of a value, and the limits of a session.
use Rattle.std.specs.Prelude.{◌≡◌, ℕ, List, ◌∷◌, Result, Ok, Err, ◌==◌, if◌then◌else◌}
use Rattle.std.specs.Int.{Width, w8, w16, w32}
use Rattle.sv_model.specs.declared.session.TheConstants.{VALUE_LIMIT, SESSION_LIMIT}
use Rattle.sv_record.specs.declared.fault.RecordFault.{RecordFault}
use Rattle.sv_record.specs.declared.fault.RecordFault.TheVariants.{BadVersion}
use Rattle.sv_record.specs.declared.version.TheConstants.{VALUE_LIMIT_OF_ONE, SESSION_LIMIT_OF_ONE}
use Rattle.sv_record.specs.declared.version.Version.{Version}
use Rattle.sv_record.specs.declared.version.Version.TheVariants.{One, Two}
use Rattle.sv_record.specs.Reading.{◌>>=◌, Reading, number_at, ended}
use Rattle.sv_record.specs.Format.{Format}

-- the width of the length of an attribute's value
abbrev pub value_width : Version → Width
value_width One = w16
value_width Two = w32

-- the bytes of an attribute's value, at most
abbrev pub value_limit : Version → ℕ
value_limit One = VALUE_LIMIT_OF_ONE
value_limit Two = VALUE_LIMIT

-- the bytes of a session's names and values, at most
abbrev pub session_limit : Version → ℕ
session_limit One = SESSION_LIMIT_OF_ONE
session_limit Two = SESSION_LIMIT

-- the byte that names a version
abbrev pub byte_of : Version → ℕ
byte_of One = 1
byte_of Two = 2

-- the version that the first byte names
unfoldable pub version_at : List ℕ → Reading Version
version_at bytes = number_at w8 bytes >>= λ n. if n.0 == 1 then Ok (One, n.1) else if n.0 == 2 then Ok (Two, n.1) else Err BadVersion

-- a value as a version spells it, after the byte that names the version
abbrev pub spelled : {A : Type 0} → (Version → Format A) → Version → A → List ℕ
spelled format v a = byte_of v ∷ (format v).text a

-- the values that a version spells
abbrev pub fits : {A : Type 0} → (Version → Format A) → Version → A → Type 0
fits format v = (format v).Fits

-- bytes are a spelling of a value: that by one of the versions
pub record IsSpelled {A : Type 0} (Has : Version → A → Type 0) (text : Version → A → List ℕ) (bytes : List ℕ) (a : A) : Type 0 where
  pub version : Version
  pub has : Has version a
  pub is : bytes ≡ text version a

-- what all of the bytes are: the version, and the value by it
abbrev pub whole : {A : Type 0} → (Version → Format A) → List ℕ → Result A RecordFault
whole format bytes = version_at bytes >>= λ version. (format version.0).read version.1 >>= ended
