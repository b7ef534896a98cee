-- Where the records of a journal stand in its file.
use Rattle.std.specs.Prelude.{ℕ, ◌+◌, ◌-◌, ◌^◌, min, List, [], ◌∷◌, ◌++◌, length, slice_index, codes, decimal}
use Rattle.sv_control.specs.declared.places.RecordPlace.{RecordPlace}

-- the first entry stands after the header of sixteen bytes
abbrev pub FIRST : ℕ
FIRST = 16

-- the largest number of 64 bits
abbrev pub LARGEST : ℕ
LARGEST = 2 ^ 64 - 1

-- after an entry: its gate, four bytes of length and the payload
abbrev pub behind : ℕ → List ℕ → ℕ
behind offset payload = min (min (offset + 5) LARGEST + length payload) LARGEST

-- the version is the payload's first byte
abbrev pub place_at : ℕ → List ℕ → RecordPlace
place_at offset payload = record { offset = offset; version = slice_index payload 0 }

-- the places of entries that follow one another from this byte on
abbrev pub places_from : ℕ → List (List ℕ) → List RecordPlace
places_from offset [] = []
places_from offset (payload ∷ entries) = place_at offset payload ∷ places_from (behind offset payload) entries

abbrev pub place_text : RecordPlace → List ℕ
place_text place = decimal place.offset ++ codes " v" ++ decimal place.version
