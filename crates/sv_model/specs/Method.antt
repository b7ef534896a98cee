-- Methods that change how a response is sent.
use Rattle.std.specs.Prelude.{ℕ, Bool, List, codes}
use Rattle.std.specs.Str.{bytes_eq}

-- the response has no body (RFC 9110, section 9.3.2)
abbrev pub is_head : List ℕ → Bool
is_head method = bytes_eq method (codes "HEAD")
