-- What a piece of a disk adds to the payloads that were read before it.
use Rattle.std.specs.Prelude.{ℕ, ◌<◌, ◌≤◌, List, ◌++◌, length, drop, Option, Some, None}
use Rattle.sv_journal.specs.Format.{Begins, HasEntries}

-- Of whatever bytes have the entries before and go on with the piece: these are all entries, or the first of them, which
-- take up so many bytes of the piece.
abbrev pub Gathers : List ℕ → List (List ℕ) → List (List ℕ) → Option ℕ → Type 0
Gathers piece before after None = (bytes more : List ℕ) → Begins bytes before (piece ++ more) → HasEntries bytes after
Gathers piece before after (Some n) =
    (0 < n) × (n ≤ length piece) × ((bytes more : List ℕ) → Begins bytes before (piece ++ more) → Begins bytes after (drop n piece ++ more))
