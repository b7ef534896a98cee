-- Bytes that nobody can tell who hasn't seen them, by a secret (FIPS 180-4, section 6.2).
use Rattle.std.specs.Prelude.{ℕ, List, ◌++◌, codes, length}
use Rattle.std.specs.Int.{w64, to_be_bytes}
use Rattle.sha2.specs.Sha256.{sha256}
use Rattle.sv_model.specs.declared.key.Secret.{Secret}

-- a text after its length
abbrev pub part : List ℕ → List ℕ
part text = to_be_bytes w64 (length text) ++ text

-- what is hashed: a text with which nothing else begins that is hashed here, the label after its length, and the secret, so that
-- two labels have two contents
unfoldable pub token_content : Secret → List ℕ → List ℕ
token_content secret label = (codes "kegbramble token" ++ part label) ++ secret.0

-- the token of a label, by a secret
abbrev pub token_of : Secret → List ℕ → List ℕ
token_of secret label = sha256 (token_content secret label)
