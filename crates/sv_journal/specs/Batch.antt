-- Entries that are added to a journal together.
use Rattle.std.specs.Prelude.{◌≡◌, ℕ, List, [], ◌∷◌, ◌++◌, length}
use Rattle.std.specs.List.{flat_map, AllByRecursion}
use Rattle.sv_journal.specs.Format.{entry, IsPayload}
use Rattle.sv_journal.specs.declared.batch.Batch.{Batch}

abbrev pub bytes_in : Batch → List ℕ
bytes_in batch = batch.bytes.items

-- the length of its entries, with the gate that ends them
abbrev pub size_of : Batch → ℕ
size_of batch = length batch.bytes.items

-- its bytes are these entries and a closed gate after them
pub record Stages (batch : Batch) (entries : List (List ℕ)) : Type 0 where
  pub payloads : AllByRecursion IsPayload entries
  pub bytes : bytes_in batch ≡ flat_map entry entries ++ 0 ∷ []

abbrev pub IsBatch : Batch → Type 0
IsBatch batch = (entries : List (List ℕ)) × Stages batch entries
