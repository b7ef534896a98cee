-- The entity tag of a file (RFC 9110, section 8.8.3).
use Rattle.std.specs.Prelude.{ℕ, List, ◌++◌, codes}
use Rattle.hex.specs.Hex.{encode_lower}
use Rattle.sha2.specs.Sha256.{sha256}

-- the strong tag of bytes: their SHA-256 between quotes
unfoldable pub tag_of : List ℕ → List ℕ
tag_of bytes = codes "\"" ++ encode_lower (sha256 bytes) ++ codes "\""
