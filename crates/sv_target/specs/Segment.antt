-- One segment of a path (RFC 3986, sections 2.1 and 3.3).
use Rattle.std.specs.Prelude.{ℕ, ◌+◌, ◌*◌, Bool, ◌||◌, ◌&&◌, not, ◌==◌, nat_lt, List, length, codes, bytes_eq, slice_index}
use Rattle.std.specs.List.{slice_split, before_first, after_first, list_any, list_all}
use Rattle.std.specs.Char.{digit_value, is_digit}
use Rattle.std.specs.Str.{is_utf8}
use Rattle.percent_encoding.specs.Percent.{percent_decode}

abbrev pub is_semicolon : ℕ → Bool
is_semicolon b = b == 59

-- the part of a segment that counts: what stands before its first `;`, where its parameters begin
abbrev pub cut : List ℕ → List ℕ
cut s = before_first is_semicolon s

abbrev pub is_percent : ℕ → Bool
is_percent b = b == 37

-- a byte that no escape may name: NUL, `/` and a backslash
abbrev pub is_forbidden : ℕ → Bool
is_forbidden b = b == 0 || b == 47 || b == 92

-- two hexadecimal digits that name another byte
unfoldable pub is_allowed_escape : ℕ → ℕ → Bool
is_allowed_escape high low =
    is_digit high 16 && is_digit low 16 && not (is_forbidden (16 * digit_value high + digit_value low))

-- what stands after a `%` begins with two such digits (pct-encoded = "%" HEXDIG HEXDIG)
abbrev pub begins_escape : List ℕ → Bool
begins_escape text =
    nat_lt 1 (length text) && is_allowed_escape (slice_index text 0) (slice_index text 1)

-- each piece after a `%` does
unfoldable pub are_escapes : List ℕ → Bool
are_escapes behind = list_all begins_escape (slice_split is_percent behind)

-- there is no `%`, or each one begins an allowed escape
unfoldable pub has_good_escapes : List ℕ → Bool
has_good_escapes s = not (list_any is_percent s) || are_escapes (after_first is_percent s)

-- `.` or `..`
unfoldable pub is_dots : List ℕ → Bool
is_dots s = bytes_eq s (codes ".") || bytes_eq s (codes "..")

-- a text is `.` or `..` and was written otherwise
abbrev pub hides_dots : List ℕ → List ℕ → Bool
hides_dots text written = is_dots text && not (is_dots written)

-- the escapes are allowed, what they stand for is UTF-8, and it is `.` or `..` only where it is so written
unfoldable pub is_good_segment : List ℕ → Bool
is_good_segment s = has_good_escapes s && is_utf8 (percent_decode s) && not (hides_dots (percent_decode s) s)
