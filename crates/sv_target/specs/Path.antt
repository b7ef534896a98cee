-- The canonical path: without dot segments (RFC 3986, section 5.2.4) and decoded once (section 2.4).
use Rattle.std.specs.Prelude.{ℕ, ◌-◌, Bool, ◌&&◌, not, nat_lt, ◌==◌, List, [], ◌∷◌, ◌++◌, length, slice_index, take, drop}
use Rattle.std.specs.Prelude.{map, fold, codes, bytes_eq, if◌then◌else◌, slice_index_or, Option, Some, None, option_map}
use Rattle.std.specs.List.{flat_map, list_all, slice_split}
use Rattle.percent_encoding.specs.Percent.{percent_decode}
use Rattle.sv_target.specs.Segment.{cut, is_dots, is_good_segment}

abbrev pub is_slash : ℕ → Bool
is_slash b = b == 47

-- the segments of a path after its first `/`, each cut at its first `;`
unfoldable pub segments : List ℕ → List (List ℕ)
segments rest = map cut (slice_split is_slash rest)

-- the segments without the last one, if there is one
abbrev pub step_up : List (List ℕ) → Option (List (List ℕ))
step_up [] = None
step_up (s ∷ kept) = Some (take (length kept) (s ∷ kept))

-- after these segments one more: `.` is dropped, `..` takes away the one before, any other stays, decoded
abbrev pub kept_with : List (List ℕ) → List ℕ → Option (List (List ℕ))
kept_with kept s =
    if bytes_eq s (codes ".") then Some kept
    else (if bytes_eq s (codes "..") then step_up kept else Some (kept ++ percent_decode s ∷ []))

-- the same, where all before were taken and it is good
abbrev pub step : Option (List (List ℕ)) → List ℕ → Option (List (List ℕ))
step None s = None
step (Some kept) s = if is_good_segment s then kept_with kept s else None

-- the last segment is `.` or `..`
abbrev pub ends_in_dots : List (List ℕ) → Bool
ends_in_dots ss = is_dots (slice_index_or ss (length ss - 1) [])

-- a last `.` or `..` leaves a final `/`: it is as if an empty segment stood after it
abbrev pub closing : List (List ℕ) → List (List ℕ)
closing ss = if ends_in_dots ss then ([] ∷ []) else []

-- the segments that stay, unless one isn't good or a `..` goes above the root
abbrev pub resolved : List (List ℕ) → Option (List (List ℕ))
resolved ss = fold step (Some []) (ss ++ closing ss)

-- `/` and a segment, for each
abbrev pub path_text : List (List ℕ) → List ℕ
path_text kept = flat_map (λ s. 47 ∷ s) kept

-- a byte of ASCII that neither begins an escape nor ends what counts of a segment
abbrev pub is_plain_byte : ℕ → Bool
is_plain_byte b = nat_lt b 128 && (not (b == 37) && not (b == 59))

abbrev pub begins_with_dot : List ℕ → Bool
begins_with_dot s = nat_lt 0 (length s) && slice_index s 0 == 46

-- a segment that stands for itself: by its bytes, and since it is neither `.` nor `..`
abbrev pub is_plain_segment : List ℕ → Bool
is_plain_segment s = not (begins_with_dot s) && list_all is_plain_byte s

-- the canonical path of a path, if that begins with `/` and its segments can be resolved
unfoldable pub canonical_path : List ℕ → Option (List ℕ)
canonical_path path =
    if bytes_eq (take 1 path) (codes "/") then option_map path_text (resolved (segments (drop 1 path))) else None
