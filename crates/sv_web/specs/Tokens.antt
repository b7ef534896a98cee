-- What a request has of its own, as text.
use Rattle.std.specs.Prelude.{ℕ, List}
use Rattle.hex.specs.Hex.{encode_lower}
use Rattle.sv_session.specs.Edit.{Edit}
use Rattle.sv_session.specs.Token.{token_of}

-- the token of a label in 64 digits of `0-9a-f`
abbrev pub token_text : Edit → List ℕ → List ℕ
token_text e label = encode_lower (token_of e.fresh.1 label)
