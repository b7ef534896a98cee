-- A disk that is made longer ahead of what is written there.
use Rattle.std.specs.Prelude.{◌≡◌, ℕ, ◌+◌, List, ◌++◌, length}
use Rattle.sv_journal.specs.Commit.{IsSettled}

-- the image, and anything after it
abbrev pub IsLengthened : List ℕ → List ℕ → Type 0
IsLengthened old image = (rest : List ℕ) × (image ≡ old ++ rest)

-- A read gives the image and something after it, of which a stop leaves all; so long is that together.
abbrev pub IsReady : List ℕ → ℕ → List ℕ → (List ℕ → Type 0) → Type 0
IsReady old len seen may_leave = (rest : List ℕ) × IsSettled (old ++ rest) seen may_leave × (len ≡ length old + length rest)
