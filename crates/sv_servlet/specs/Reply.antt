-- The operations of a reply (Jakarta Servlet 6.0, chapter "The Response").
use Rattle.std.specs.Prelude.{◌≡◌, ℕ, ◌+◌, ◌⊎◌, ◌&&◌, ◌||◌, Bool, true, false, List, [], ◌∷◌}
use Rattle.std.specs.Prelude.{◌++◌, length, codes, Result, Ok, Err, IsOk, is_none, nat_lt, nat_le, if◌then◌else◌}
use Rattle.std.specs.List.{list_any}
use Rattle.std.specs.Str.{bytes_eq}
use Rattle.http_header.specs.FieldName.{IsFieldName}
use Rattle.http_header.specs.FieldValue.{IsFieldValue, plain_value}
use Rattle.http_header.specs.Token.{lowercase}
use Rattle.sv_model.specs.declared.field.Field.{Field}
use Rattle.sv_model.specs.Field.{place_of_field}
use Rattle.sv_servlet.specs.Fields.{with_only}
use Rattle.sv_servlet.specs.ReplyState.{ReplyState}
use Rattle.sv_servlet.specs.declared.reply.TheConstants.{FIELD_LIMIT, BODY_LIMIT}
use Rattle.sv_servlet.specs.declared.reply.ReplyFault.{ReplyFault}
use Rattle.sv_servlet.specs.declared.reply.ReplyFault.TheVariants.{BadStatus, BadHeader, Reserved, TooMany, TooLong, Memory}

-- status 200, no fields and no body
abbrev pub new_reply : ReplyState
new_reply = record { status = 200; fields = []; body = []; is_held = false }

-- the names that the container sets itself
unfoldable pub reserved_names : List (List ℕ)
reserved_names =
    codes "date" ∷ codes "content-length" ∷ codes "connection" ∷ codes "transfer-encoding" ∷ codes "trailer"
    ∷ codes "upgrade" ∷ codes "keep-alive" ∷ []

-- the name, in lower case, is one of them
unfoldable pub is_reserved : List ℕ → Bool
is_reserved name = list_any (λ r. bytes_eq name r) reserved_names

-- what a call of a reply answers: as is expected, or Memory in place of a change, and the reply is then as it was
abbrev pub Answers : ReplyState → Result ReplyState ReplyFault → Result (Unit {0}) ReplyFault → ReplyState → Type 0
Answers old expected (Ok _) new = expected ≡ Ok new
Answers old expected (Err Memory) new = IsOk expected × (new ≡ old)
Answers old expected (Err BadStatus) new = (expected ≡ Err BadStatus) × (new ≡ old)
Answers old expected (Err BadHeader) new = (expected ≡ Err BadHeader) × (new ≡ old)
Answers old expected (Err Reserved) new = (expected ≡ Err Reserved) × (new ≡ old)
Answers old expected (Err TooMany) new = (expected ≡ Err TooMany) × (new ≡ old)
Answers old expected (Err TooLong) new = (expected ≡ Err TooLong) × (new ≡ old)

-- an operation that stands still inside an include
abbrev pub unless_held : ReplyState → Result ReplyState ReplyFault → Result ReplyState ReplyFault
unless_held r changed = if r.is_held then Ok r else changed

-- a status from 200 to 599
abbrev pub status_result : ReplyState → ℕ → Result ReplyState ReplyFault
status_result r status = unless_held r (if nat_lt status 200 || nat_lt 599 status then Err BadStatus else Ok (record r { status = status }))

-- another field finds no place
abbrev pub is_full : List Field → List ℕ → Bool
is_full fields name = is_none (place_of_field fields name) && nat_le FIELD_LIMIT (length fields)

-- a field is set: in the place of the first of its name, of which no other stays, or last
abbrev pub field_result : ReplyState → Field → Result ReplyState ReplyFault
field_result r f =
    unless_held r (if is_reserved f.name then Err Reserved else
    (if is_full r.fields f.name then Err TooMany else Ok (record r { fields = with_only r.fields f })))

-- a field is added: last, and so after those of its name (RFC 9110, section 5.3)
abbrev pub addition_result : ReplyState → Field → Result ReplyState ReplyFault
addition_result r f =
    unless_held r (if is_reserved f.name then Err Reserved else
    (if nat_le FIELD_LIMIT (length r.fields) then Err TooMany else Ok (record r { fields = r.fields ++ f ∷ [] })))

-- the field of a name in any case and a value
abbrev pub header_field : List ℕ → List ℕ → Field
header_field name value = record { name = lowercase name; value = plain_value value }

-- a name and a value that can be those of a field, or that nobody looks at
abbrev pub IsHeader : ReplyState → List ℕ → List ℕ → Type 0
IsHeader r name value = (r.is_held ≡ true) ⊎ (IsFieldName name × IsFieldValue value)

-- they are set as a field is
abbrev pub IsHeaderSet : ReplyState → List ℕ → List ℕ → Result (Unit {0}) ReplyFault → ReplyState → Type 0
IsHeaderSet old name value result new = IsHeader old name value × Answers old (field_result old (header_field name value)) result new

-- they are none of a field, or memory was refused for them; a name that is none is told before that
abbrev pub IsNoHeader : ReplyState → List ℕ → List ℕ → Result (Unit {0}) ReplyFault → Type 0
IsNoHeader r name value result =
    (r.is_held ≡ false) × (((result ≡ Err Memory) × ¬ (¬ (IsFieldName name)))
    ⊎ ((result ≡ Err BadHeader) × ((¬ (IsFieldName name)) ⊎ (¬ (IsFieldValue value)))))

-- a name and a value are set as a field is, or they are none and the reply is as it was
abbrev pub HeaderAnswers : ReplyState → List ℕ → List ℕ → Result (Unit {0}) ReplyFault → ReplyState → Type 0
HeaderAnswers old name value result new = IsHeaderSet old name value result new ⊎ (IsNoHeader old name value result × (new ≡ old))

-- a text is added to the body
abbrev pub write_result : ReplyState → List ℕ → Result ReplyState ReplyFault
write_result r text = if nat_lt BODY_LIMIT (length r.body + length text) then Err TooLong else Ok (record r { body = r.body ++ text })

-- status 200, no fields and no body
abbrev pub reset_reply : ReplyState → ReplyState
reset_reply r = if r.is_held then r else new_reply

abbrev pub cleared : ReplyState → ReplyState
cleared r = record r { body = [] }

abbrev pub held : ReplyState → Bool → ReplyState
held r is_held = record r { is_held = is_held }

-- the name of a fault
abbrev pub fault_name : ReplyFault → List ℕ
fault_name BadStatus = codes "BadStatus"
fault_name BadHeader = codes "BadHeader"
fault_name Reserved = codes "Reserved"
fault_name TooMany = codes "TooMany"
fault_name TooLong = codes "TooLong"
fault_name Memory = codes "Memory"
