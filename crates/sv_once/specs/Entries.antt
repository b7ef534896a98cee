-- What a session remembers: the last requests that had a key and were served, the newest first, and these as bytes.
use Rattle.std.specs.Prelude.{ℕ, zero, suc, ◌<◌, ◌==◌, List, [], ◌∷◌, ◌++◌, take, length, min, Option, if◌then◌else◌}
use Rattle.std.specs.List.{find, flat_map}
use Rattle.std.specs.Str.{bytes_eq}
use Rattle.sv_once.specs.Parts.{long_first, long_part, long_rest, short_first, short_part, short_rest}
use Rattle.sv_once.specs.declared.entry.Entry.{Entry}

-- what is remembered of a key
abbrev pub known : List ℕ → List Entry → Option Entry
known key es = find (λ e. bytes_eq key e.key) es

-- so many answers are remembered, and at most 16: the oldest gives way to one more
abbrev pub remembered : ℕ → Entry → List Entry → List Entry
remembered answers e es = take (min answers 16) (e ∷ es)

-- ---- as bytes

-- the key, the mark, the old secret and the answer
unfoldable pub entry_bytes : Entry → List ℕ
entry_bytes e = ((short_part e.key ++ short_part e.mark) ++ short_part e.old) ++ long_part e.answer

-- the version, and each entry in turn; no bytes where nothing is remembered
abbrev pub memory_bytes : List Entry → List ℕ
memory_bytes [] = []
memory_bytes (e ∷ es) = 1 ∷ flat_map entry_bytes (e ∷ es)

abbrev pub entry_of : List ℕ → List ℕ → List ℕ → List ℕ → Entry
entry_of key mark old answer = record { key = key; mark = mark; old = old; answer = answer }

-- the entry that these bytes begin with
unfoldable pub entry_at : List ℕ → Entry
entry_at bytes =
    entry_of (short_first bytes) (short_first (short_rest bytes)) (short_first (short_rest (short_rest bytes)))
    (long_first (short_rest (short_rest (short_rest bytes))))

-- what follows it
unfoldable pub beyond : List ℕ → List ℕ
beyond bytes = long_rest (short_rest (short_rest (short_rest bytes)))

-- so many entries at most, until the bytes end
unfoldable pub entries_in : ℕ → List ℕ → List Entry
entries_in zero bytes = []
entries_in (suc more) [] = []
entries_in (suc more) (b ∷ bytes) = entry_at (b ∷ bytes) ∷ entries_in more (beyond (b ∷ bytes))

-- what bytes keep: nothing where they are of another version
unfoldable pub memory_in : List ℕ → List Entry
memory_in [] = []
memory_in (version ∷ bytes) = if version == 1 then entries_in 16 bytes else []

-- an entry whose lengths have room
pub record IsSmall (e : Entry) : Type 0 where
  pub key : length e.key < 256
  pub mark : length e.mark < 256
  pub old : length e.old < 256
  pub answer : length e.answer < 65536
