-- Files that are answered as they are (RFC 9110).
use Rattle.std.specs.Prelude.{ℕ, ◌&&◌, ◌||◌, ◌==◌, Bool, List, [], ◌∷◌, bytes_eq, codes, drop, length, nat_eq, slice_get, string_bytes, Option, Some, None, option_map, if◌then◌else◌}
use Rattle.std.specs.List.{ends_with, find, list_all, list_any, slice_split, starts_with}
use Rattle.http_header.specs.FieldValue.{FieldValue}
use Rattle.sv_model.specs.declared.field.Field.{Field}
use Rattle.sv_servlet.specs.Call.{Asked}
use Rattle.sv_servlet.specs.declared.servlet.Next.{Next}
use Rattle.sv_servlet.specs.declared.servlet.Next.TheVariants.{Done, SendError}
use Rattle.sv_web.specs.Cutting.{begins_with}
use Rattle.sv_web.specs.Methods.{by_method, method_work}
use Rattle.sv_web.specs.Request.{is_of}
use Rattle.sv_web.specs.Steps.{set_field, set_header, set_status, write}
use Rattle.sv_web.specs.Work.{Ends, Work}
use Rattle.sv_web.specs.declared.files.FileChoice.{FileChoice}
use Rattle.sv_web.specs.declared.files.FileChoice.TheVariants.{First, ByPathInfo}
use Rattle.sv_web.specs.declared.static_file.StaticFile.{StaticFile}
use Rattle.sv_web.specs.declared.files.StaticFiles.{StaticFiles}

-- section 8.3: the media type that the name of a file tells
unfoldable pub media_type : List ℕ → List ℕ
media_type name =
    if ends_with nat_eq name (codes ".html") then codes "text/html; charset=utf-8"
    else if ends_with nat_eq name (codes ".css") then codes "text/css; charset=utf-8"
    else if ends_with nat_eq name (codes ".js") then codes "text/javascript; charset=utf-8"
    else if ends_with nat_eq name (codes ".txt") then codes "text/plain; charset=utf-8"
    else if ends_with nat_eq name (codes ".json") then codes "application/json"
    else if ends_with nat_eq name (codes ".svg") then codes "image/svg+xml"
    else if ends_with nat_eq name (codes ".png") then codes "image/png"
    else if ends_with nat_eq name (codes ".jpg") then codes "image/jpeg"
    else if ends_with nat_eq name (codes ".webp") then codes "image/webp"
    else if ends_with nat_eq name (codes ".ico") then codes "image/vnd.microsoft.icon"
    else if ends_with nat_eq name (codes ".woff2") then codes "font/woff2"
    else if ends_with nat_eq name (codes ".pdf") then codes "application/pdf"
    else codes "application/octet-stream"

-- ---- which file is asked for

-- the path info is `/` and the name
abbrev pub is_named : List ℕ → StaticFile → Bool
is_named path f = starts_with nat_eq path (codes "/") && bytes_eq (drop 1 path) (string_bytes f.name)

abbrev pub file_in : List StaticFile → Option (List ℕ) → Option StaticFile
file_in files None = None
file_in files (Some path) = find (is_named path) files

abbrev pub found : FileChoice → List StaticFile → Option (List ℕ) → Option StaticFile
found First files path = slice_get files 0
found ByPathInfo files path = file_in files path

-- ---- section 13.1.2: whether the client has it

-- a blank that may stand round the members of a list (section 5.6.3)
abbrev pub is_blank : ℕ → Bool
is_blank c = c == 32 || c == 9

abbrev pub behind_blanks : List ℕ → List ℕ
behind_blanks [] = []
behind_blanks (c ∷ cs) = if is_blank c then behind_blanks cs else c ∷ cs

-- a tag without the mark of a weak one: section 8.8.3.2 compares it so
abbrev pub unmarked : List ℕ → List ℕ
unmarked text = if begins_with text (codes "W/") then drop 2 text else text

-- it is the tag, and nothing but blanks after it
abbrev pub is_only : List ℕ → List ℕ → Bool
is_only tag text = begins_with text tag && list_all is_blank (drop (length tag) text)

abbrev pub is_tag : List ℕ → List ℕ → Bool
is_tag tag member = is_only tag (unmarked (behind_blanks member))

-- a value lists the tag, or is `*`
abbrev pub lists : List ℕ → List ℕ → Bool
lists tag value = bytes_eq value (codes "*") || list_any (is_tag tag) (slice_split (λ c. c == 44) value)

abbrev pub has_tag : List ℕ → Field → Bool
has_tag tag f = is_of (codes "if-none-match") f && lists tag f.value.bytes

-- some field If-None-Match of a request lists the tag
abbrev pub is_current : List Field → List ℕ → Bool
is_current fields tag = list_any (has_tag tag) fields

-- ---- the answer

abbrev pub field_of : List ℕ → FieldValue → Field
field_of name value = record { name = name; value = value }

-- Cache-Control, where the answers have it
abbrev pub set_cache : Option FieldValue → Work Next → Work Next
set_cache None more = more
set_cache (Some value) more = set_field (field_of (codes "cache-control") value) more

-- section 15.4.5: nothing but the fields
abbrev pub not_modified : Work Next
not_modified = set_status 304 (Ends Done)

-- no client is to guess another type
abbrev pub nosniff : Work Next → Work Next
nosniff more = set_header (codes "x-content-type-options") (codes "nosniff") more

-- bytes of a media type
abbrev pub typed : List ℕ → List ℕ → Work Next → Work Next
typed media bytes more = set_header (codes "content-type") media (write bytes more)

abbrev pub sent_as : List ℕ → List ℕ → Work Next
sent_as media bytes = nosniff (typed media bytes (Ends Done))

abbrev pub sent_bytes : StaticFile → Work Next
sent_bytes f = sent_as (media_type (string_bytes f.name)) f.bytes.items

abbrev pub unless_current : Bool → StaticFile → Work Next
unless_current current f = if current then not_modified else sent_bytes f

abbrev pub sent : Option FieldValue → StaticFile → List Field → Work Next
sent cache f fields = set_field (field_of (codes "etag") f.etag) (set_cache cache (unless_current (is_current fields f.etag.bytes) f))

-- what is found, or the error 404 (section 15.5.5)
abbrev pub missing : Work Next
missing = Ends (SendError 404 [])

abbrev pub sent_or_missing : Option FieldValue → List Field → Option StaticFile → Work Next
sent_or_missing cache fields None = missing
sent_or_missing cache fields (Some f) = sent cache f fields

abbrev pub static_work : FileChoice → List StaticFile → Option FieldValue → Asked → Work Next
static_work choice files cache call = sent_or_missing cache call.fields (found choice files call.path_info)

abbrev pub static_files : StaticFiles → Asked → Work Next
static_files s = static_work s.choice s.files.now (option_map (λ value. value.now) s.cache)

-- the work of a servlet that answers GET and HEAD so
abbrev pub file_work : FileChoice → List StaticFile → Option FieldValue → Asked → Work Next
file_work choice files cache = by_method (method_work (Some (static_work choice files cache)) None None None)
