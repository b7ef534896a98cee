-- Targets of requests (RFC 9112, section 3.2; RFC 3986, section 3), in the words of the crate `http_uri`.
use Rattle.std.specs.Prelude.{◌≡◌, ℕ, ◌≤◌, ◌⊎◌, Bool, true, false, ◌||◌, ◌&&◌, not, ◌==◌, nat_le, nat_lt, List, [], ◌∷◌}
use Rattle.std.specs.Prelude.{IsUtf8, length, take, codes, bytes_eq, if◌then◌else◌, Option, Some, None, is_none, option_map}
use Rattle.std.specs.Option.{option_map_or}
use Rattle.std.specs.Char.{is_ascii_alphanumeric}
use Rattle.std.specs.List.{list_any, list_all, slice_split}
use Rattle.http_uri.specs.Uri.{Spells, SpellsNone, uri_scheme, uri_authority, uri_path, uri_query}
use Rattle.http_uri.specs.Grammar.{path_of, query_of}
use Rattle.http_uri.specs.ByteClasses.{is_path_byte, is_query_byte, split_once_front, question_mark}
use Rattle.http_uri.specs.declared.uri.Uri.{Uri}
use Rattle.sv_target.specs.declared.target.Target.{Target}
use Rattle.sv_target.specs.Path.{canonical_path, is_plain_segment, is_slash}

-- `#` or a backslash, which no target has
abbrev pub is_refused_byte : ℕ → Bool
is_refused_byte b = b == 35 || b == 92

-- absolute-form with the scheme `http` or `https`, or origin-form: no scheme and no authority
abbrev pub is_served_form : Option (List ℕ) → Option (List ℕ) → Bool
is_served_form (Some scheme) authority = bytes_eq scheme (codes "http") || bytes_eq scheme (codes "https")
is_served_form None authority = is_none authority

-- the target of this path, as it was sent, and this query, if the path has a canonical one
unfoldable pub target_at : List ℕ → Option (List ℕ) → Option Target
target_at path query =
    option_map (λ canonical. record { raw_path = path; path = canonical; query = query }) (canonical_path path)

-- the target that a URI names, if its form is served
unfoldable pub target_of : Uri → Option Target
target_of uri =
    if is_served_form (uri_scheme uri) (uri_authority uri) then target_at (uri_path uri) (uri_query uri) else None

-- the text is this target: it has no refused byte, and spells a URI that names it
abbrev pub IsTarget : List ℕ → Target → Type 0
IsTarget raw target =
    (list_any is_refused_byte raw ≡ false) × ((uri : Uri) × Spells raw uri × (target_of uri ≡ Some target))

-- the text is none: a refused byte, no URI, or a URI that names none
abbrev pub IsBadTarget : List ℕ → Type 0
IsBadTarget raw =
    (list_any is_refused_byte raw ≡ true)
    ⊎ (SpellsNone raw ⊎ ((uri : Uri) × Spells raw uri × (target_of uri ≡ None)))

-- ---- a path within a context, and its query: origin-form alone, as a function of the text

-- the bytes of a query, if there is one
abbrev pub has_query_bytes : Option (List ℕ) → Bool
has_query_bytes query = option_map_or (λ q. list_all is_query_byte q) query true

-- the text begins with `/`, its bytes are those of a path up to the first `?` and those of a query after it, and it has
-- at most the 65,534 bytes that `http_uri` reads
unfoldable pub is_origin_form : List ℕ → Bool
is_origin_form text =
    bytes_eq (take 1 text) (codes "/") && list_all is_path_byte (split_once_front question_mark text)
    && has_query_bytes (query_of text) && nat_le (length text) 65534

-- the path and the query that a text within a context names
unfoldable pub target_within : List ℕ → Option Target
target_within text =
    if list_any is_refused_byte text then None
    else (if is_origin_form text then target_at (path_of text) (query_of text) else None)

-- ---- the targets of most requests

-- letters, digits, `-`, `.`, `_`, `~` and `/`
abbrev pub is_common_byte : ℕ → Bool
is_common_byte b = nat_lt b 128 && (is_ascii_alphanumeric b || (b == 45 || (b == 46 || (b == 95 || (b == 126 || b == 47)))))

-- such bytes, of which no dot begins a segment; whether one begins at the front
abbrev pub common_from : Bool → List ℕ → Bool
common_from begins [] = true
common_from begins (b ∷ text) = (is_common_byte b && not (begins && b == 46)) && common_from (b == 47) text

-- a path without a query, of such bytes, which is its own canonical one
pub record IsCommon (text : List ℕ) : Type 0 where
  pub rest : List ℕ
  pub rooted : text ≡ 47 ∷ rest
  pub short : length text ≤ 65534
  pub segments : list_all is_plain_segment (slice_split is_slash rest) ≡ true
  pub bytes : list_all is_common_byte rest ≡ true

-- ---- the laws

-- a text is one target, or none
abbrev pub IsOneTarget : Type 0
IsOneTarget = (raw : List ℕ) (target : Target) → IsTarget raw target
    → ((other : Target) → IsTarget raw other → other ≡ target) × (IsBadTarget raw → ⊥)

-- a text in UTF-8 that begins with `/` is read within a context as a request's target is
abbrev pub IsReadWithin : Type 0
IsReadWithin = (rest : List ℕ) → IsUtf8 (47 ∷ rest)
    → ((target : Target) → IsTarget (47 ∷ rest) target → target_within (47 ∷ rest) ≡ Some target)
    × (IsBadTarget (47 ∷ rest) → target_within (47 ∷ rest) ≡ None)
    × ((target : Target) → target_within (47 ∷ rest) ≡ Some target → IsTarget (47 ∷ rest) target)
