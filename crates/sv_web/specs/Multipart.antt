-- The parts of a form's body (RFC 7578; RFC 2046, section 5.1.1).
use Rattle.std.specs.Prelude.{ℕ, zero, suc, ◌-◌, Bool, false, List, ◌++◌, bytes_eq, codes, drop, length, Option, Some, None, option_and_then, option_map, if◌then◌else◌}
use Rattle.sv_servlet.specs.Call.{Asked}
use Rattle.sv_web.specs.Cutting.{before, begins_with, behind, cut, is_type}
use Rattle.sv_web.specs.Request.{field}
use Rattle.sv_web.specs.declared.multipart.Search.{Search}
use Rattle.sv_web.specs.declared.multipart.Search.TheVariants.{Over, Here, Further}

-- ---- the head of a part

abbrev pub without_blank : List ℕ → List ℕ
without_blank text = if begins_with text (codes " ") then drop 1 text else text

-- the value of a field: the rest of its line
unfoldable pub line_of : List ℕ → List ℕ → Option (List ℕ)
line_of head key = option_map (λ value. before (without_blank value) (codes "\r\n")) (behind head key)

-- the quoted value of a parameter
unfoldable pub quoted_of : List ℕ → List ℕ → Option (List ℕ)
quoted_of text key = option_map (λ value. before value (codes "\"")) (behind text key)

-- a parameter of the field `content-disposition` (RFC 7578, section 4.2)
unfoldable pub disposed : List ℕ → List ℕ → Option (List ℕ)
disposed head key = option_and_then (λ line. quoted_of line key) (line_of head (codes "\r\ncontent-disposition:"))

abbrev pub is_just : List ℕ → Option (List ℕ) → Bool
is_just name None = false
is_just name (Some text) = bytes_eq text name

-- the part has the name
abbrev pub is_named : List ℕ → List ℕ → Bool
is_named head name = is_just name (disposed head (codes " name=\""))

-- ---- the parts

-- a head, and after an empty line the content
abbrev pub here_or : Bool → List ℕ × List ℕ → Option (List ℕ × List ℕ) → Option (List ℕ × List ℕ)
here_or is p further = if is then Some p else further

abbrev pub named_or : Option (List ℕ × List ℕ) → List ℕ → Option (List ℕ × List ℕ) → Option (List ℕ × List ℕ)
named_or None name further = further
named_or (Some p) name further = here_or (is_named p.0 name) p further

-- the first part of a name among the first n; the text stands after a delimiter, and the last delimiter goes on with two dashes
unfoldable pub found : ℕ → List ℕ → List ℕ → List ℕ → Option (List ℕ × List ℕ)
found zero text delimiter name = None
found (suc n) text delimiter name =
    if begins_with text (codes "--") then None
    else option_and_then (λ p. named_or (cut p.0 (codes "\r\n\r\n")) name (found n p.1 delimiter name)) (cut text delimiter)

-- what a step of the search leads to
abbrev pub found_by : Search → ℕ → List ℕ → List ℕ → Option (List ℕ × List ℕ)
found_by Over n delimiter name = None
found_by (Here head content) n delimiter name = Some (head.now, content.now)
found_by (Further text) n delimiter name = found n text.now delimiter name

-- after the first delimiter, which may stand at the beginning without its line end
unfoldable pub first_behind : List ℕ → List ℕ → Option (List ℕ)
first_behind body delimiter =
    if begins_with body (drop 2 delimiter) then Some (drop (length delimiter - 2) body) else option_map (λ p. p.1) (cut body delimiter)

-- a line end, two dashes and the boundary
abbrev pub delimiter_of : List ℕ → List ℕ
delimiter_of boundary = codes "\r\n--" ++ boundary

-- the head and the content of the first part of a name, among the first 64
unfoldable pub part_in : List ℕ → List ℕ → List ℕ → Option (List ℕ × List ℕ)
part_in body boundary name = option_and_then (λ text. found 64 text (delimiter_of boundary) name) (first_behind body (delimiter_of boundary))

-- ---- the content type

unfoldable pub unquoted : List ℕ → List ℕ
unquoted text = if begins_with text (codes "\"") then before (drop 1 text) (codes "\"") else before text (codes ";")

-- the boundary that a content type names, where it is that of such a form (RFC 7578, section 4.1)
abbrev pub boundary_of : List ℕ → Option (List ℕ)
boundary_of value = if is_type value (codes "multipart/form-data") then option_map unquoted (behind value (codes "boundary=")) else None

-- ---- a part

-- what a part is, as contracts see it
pub record PartOf : Type 0 where
  pub file_name : Option (List ℕ)
  pub media_type : Option (List ℕ)
  pub content : List ℕ

unfoldable pub part_of : List ℕ → List ℕ → PartOf
part_of head content =
    record { file_name = disposed head (codes " filename=\""); media_type = line_of head (codes "\r\ncontent-type:"); content = content }

abbrev pub part_by : List ℕ → List ℕ → Option (List ℕ) → Option PartOf
part_by body name None = None
part_by body name (Some boundary) = option_map (λ p. part_of p.0 p.1) (part_in body boundary name)

-- the first part of a name
abbrev pub part : Asked → List ℕ → Option PartOf
part call name = part_by call.body name (option_and_then boundary_of (field call.fields (codes "content-type")))
