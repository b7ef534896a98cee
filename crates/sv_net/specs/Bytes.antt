-- What came on a connection, and what was said on it.
use Rattle.std.specs.Prelude.{◌≡◌, ◌++◌, ℕ, List, [], take, Result, Ok, Err}
use Rattle.sv_net.specs.declared.socket.Socket.{Socket}
use Rattle.sv_net.specs.declared.stream.Stream.{Stream}

-- what a call of the kernel has moved of the bytes that it was lent: so many from the front, and none where it has failed
abbrev pub moved : {E : Type 0} → Result ℕ E → List ℕ → List ℕ
moved (Ok count) bytes = take count bytes
moved (Err fault) bytes = []

-- nothing was read of it yet, and nothing was written
pub record IsBlank (stream : Stream) : Type 0 where
  pub came : stream.came.bytes ≡ []
  pub went : stream.went.bytes ≡ []

-- this is left of a text, after what was taken of it
abbrev pub IsLeft : List ℕ → List ℕ → Type 0
IsLeft left text = (taken : List ℕ) × (text ≡ taken ++ left)

-- all that came on a socket, and all that left by it, since it was made
abbrev pub came_of : Socket → List ℕ
came_of socket = socket.stream.came.bytes

abbrev pub went_of : Socket → List ℕ
went_of socket = socket.stream.went.bytes

-- nothing has come on it since, and nothing has left
pub record IsQuiet (was now : Socket) : Type 0 where
  pub came : came_of now ≡ came_of was
  pub went : went_of now ≡ went_of was

-- a front of a text has left, and this is left of it
pub record Leaves (was now : Socket) (text left : List ℕ) : Type 0 where
  pub rest : IsLeft left text
  pub said : went_of now ++ left ≡ went_of was ++ text
  pub came : came_of now ≡ came_of was
