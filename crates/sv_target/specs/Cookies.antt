-- The pairs of Cookie fields (RFC 6265, sections 4.2.1 and 5.4).
use Rattle.std.specs.Prelude.{ℕ, Bool, ◌==◌, List, codes, bytes_eq, map, filter}
use Rattle.std.specs.List.{after_first, before_first, flat_map, list_any, slice_split}
use Rattle.sv_model.specs.declared.field.Field.{Field}
use Rattle.sv_model.specs.declared.request.Cookie.{Cookie}
use Rattle.sv_model.specs.Blanks.{trim}

abbrev pub is_semicolon : ℕ → Bool
is_semicolon b = b == 59

abbrev pub is_equals : ℕ → Bool
is_equals b = b == 61

-- a part with an `=` is a pair
unfoldable pub is_pair : List ℕ → Bool
is_pair part = list_any is_equals part

-- its name stands before the first `=`, and all after that is its value
unfoldable pub pair_of : List ℕ → Cookie
pair_of part = record { name = before_first is_equals part; value = after_first is_equals part }

-- the pairs among the parts of a field's value
abbrev pub pairs_among : List (List ℕ) → List Cookie
pairs_among parts = map pair_of (filter is_pair parts)

-- the pairs of a field's value: its parts between `;`, without the blanks round each, that are pairs
unfoldable pub pairs_of : List ℕ → List Cookie
pairs_of value = pairs_among (map trim (slice_split is_semicolon value))

unfoldable pub is_cookie_field : Field → Bool
is_cookie_field f = bytes_eq f.name (codes "cookie")

-- the pairs of all Cookie fields, in order
abbrev pub cookies_of : List Field → List Cookie
cookies_of fields = flat_map (λ f. pairs_of f.value.bytes) (filter is_cookie_field fields)
