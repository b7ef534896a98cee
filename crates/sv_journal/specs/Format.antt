-- What the bytes of a journal stand for. Numbers are big-endian. An open gate is the byte 165, and any other byte
-- is a closed one.
use Rattle.std.specs.Prelude.{◌≡◌, ◌≢◌, ◌⊎◌, ℕ, ◌+◌, ◌<◌, ◌≤◌, ◌^◌, List, [], ◌∷◌, ◌++◌, length, take, drop, map, slice_index, Vec}
use Rattle.std.specs.declared.alloc.Global.{Global}
use Rattle.std.specs.Int.{w32, w64, to_be_bytes}
use Rattle.std.specs.List.{flat_map, AllByRecursion}
use Rattle.sv_journal.specs.declared.limits.TheConstants.{PAYLOAD_LIMIT}

-- an open gate, the length and the payload
abbrev pub entry : List ℕ → List ℕ
entry payload = 165 ∷ to_be_bytes w32 (length payload) ++ payload

-- the open gate of the disk, the letters SVJRNL, the format's number and the generation
abbrev pub header : ℕ → List ℕ
header generation = 165 ∷ 83 ∷ 86 ∷ 74 ∷ 82 ∷ 78 ∷ 76 ∷ 1 ∷ to_be_bytes w64 generation

-- the header and the entries
abbrev pub front : ℕ → List (List ℕ) → List ℕ
front generation entries = header generation ++ flat_map entry entries

abbrev pub IsPayload : List ℕ → Type 0
IsPayload payload = length payload ≤ PAYLOAD_LIMIT

-- The image is that of an open disk of this generation with these entries: after them stands a gate that isn't
-- open, and after that anything.
pub record IsJournal (image : List ℕ) (generation : ℕ) (entries : List (List ℕ)) : Type 0 where
  pub small : generation < 2 ^ 64
  pub payloads : AllByRecursion IsPayload entries
  pub gate : ℕ
  pub rest : List ℕ
  pub shut : gate ≢ 165
  pub whole : image ≡ front generation entries ++ gate ∷ rest

-- long enough for a header and a gate, and its own gate is open
pub record IsOpen (image : List ℕ) : Type 0 where
  pub long : 17 ≤ length image
  pub gate : slice_index image 0 ≡ 165

-- the image of a disk that has these entries and nothing after the gate that ends them
abbrev pub snapshot : ℕ → List (List ℕ) → List ℕ
snapshot generation entries = front generation entries ++ 0 ∷ []

-- Beside a journal of this generation the image counts for nothing: its disk isn't open, or its generation is lower.
abbrev pub IsOlder : List ℕ → ℕ → Type 0
IsOlder image generation = (IsOpen image → ⊥) ⊎ ((lower : ℕ) × (lower < generation) × (take 16 image ≡ header lower))

-- One disk is a journal of these entries, and the other is older.
pub record OpensOn (current other : List ℕ) (entries : List (List ℕ)) : Type 0 where
  pub generation : ℕ
  pub journal : IsJournal current generation entries
  pub older : IsOlder other generation

-- No disk was open yet, and no more is there than a stop leaves while the first journal is made.
pub record OpensAsNew (a b : List ℕ) (entries : List (List ℕ)) : Type 0 where
  pub a_closed : IsOpen a → ⊥
  pub a_short : length a ≤ 17
  pub b_short : length b ≤ 1
  pub none : entries ≡ []

-- the images of the two disks open with these entries
abbrev pub Opens : List ℕ → List ℕ → List (List ℕ) → Type 0
Opens a b entries = OpensOn a b entries ⊎ (OpensOn b a entries ⊎ OpensAsNew a b entries)

-- the image of the current disk opens, beside that of the other one, with the entries before or with those after
abbrev pub OpensEither : List ℕ → List (List ℕ) → List (List ℕ) → List ℕ → Type 0
OpensEither other before after image = OpensOn image other before ⊎ OpensOn image other after

-- the image of the other disk opens, beside that of the current one, with the entries there or with those that
-- are put in their place
abbrev pub OpensReplaced : List ℕ → List (List ℕ) → List (List ℕ) → List ℕ → Type 0
OpensReplaced current before after image = OpensOn current image before ⊎ OpensOn image current after

-- the image of disk A opens, beside that of disk B, with the entries with which another one opens
abbrev pub OpensAlike : List ℕ → List ℕ → List ℕ → Type 0
OpensAlike a b image = (entries : List (List ℕ)) × Opens a b entries × Opens image b entries

-- the bytes are these entries, then a gate that isn't open, and anything
abbrev pub HasEntries : List ℕ → List (List ℕ) → Type 0
HasEntries bytes [] = (gate : ℕ) × (rest : List ℕ) × (gate ≢ 165) × (bytes ≡ gate ∷ rest)
HasEntries bytes (payload ∷ entries) = (rest : List ℕ) × IsPayload payload × (bytes ≡ entry payload ++ rest) × HasEntries rest entries

-- the bytes begin with whole entries, and the rest stands after them
pub record Begins (bytes : List ℕ) (entries : List (List ℕ)) (rest : List ℕ) : Type 0 where
  pub payloads : AllByRecursion IsPayload entries
  pub whole : bytes ≡ flat_map entry entries ++ rest

-- whole entries take up the first n bytes
abbrev pub BeginsFor : List ℕ → ℕ → Type 0
BeginsFor bytes n = (entries : List (List ℕ)) × Begins bytes entries (drop n bytes) × (n ≡ length (flat_map entry entries))

-- the gate that ends the entries stands at n
abbrev pub EndsAt : List ℕ → ℕ → Type 0
EndsAt bytes n = (entries : List (List ℕ)) × HasEntries bytes entries × (n ≡ length (flat_map entry entries))

-- the bytes are no entries
abbrev pub HasNoEntries : List ℕ → Type 0
HasNoEntries bytes = (entries : List (List ℕ)) → HasEntries bytes entries → ⊥

-- the first bytes at a gate that isn't open
abbrev pub IsShut : List ℕ → Type 0
IsShut head = (gate : ℕ) × (rest : List ℕ) × (gate ≢ 165) × (head ≡ gate ∷ rest)

-- the first bytes at an entry whose payload has n bytes
abbrev pub IsHead : List ℕ → ℕ → Type 0
IsHead head n = (rest : List ℕ) × (head ≡ 165 ∷ to_be_bytes w32 n ++ rest)

-- No entry and no closed gate begins so, where so many bytes are left.
abbrev pub IsStuck : List ℕ → ℕ → Type 0
IsStuck head left =
    (head ≡ []) ⊎ (((rest : List ℕ) × (head ≡ 165 ∷ rest) × (left < 5)) ⊎ ((n : ℕ) × IsHead head n × (n < 2 ^ 32) × ((PAYLOAD_LIMIT < n) ⊎ (left < 5 + n))))

abbrev pub payloads : List (Vec ℕ Global) → List (List ℕ)
payloads vs = map (λ v. v.items) vs
