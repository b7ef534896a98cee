-- Who has come.
use Rattle.std.specs.Prelude.{⊤}
use Rattle.sv_net.specs.Bytes.{IsBlank}
use Rattle.sv_net.specs.declared.acceptor.Arrival.{Arrival}
use Rattle.sv_net.specs.declared.acceptor.Arrival.TheVariants.{Somebody, Nobody, NoRoom}

-- nothing has come on a newcomer's connection yet, and nothing has left
abbrev pub IsNew : Arrival → Type 0
IsNew (Somebody socket) = IsBlank socket.stream
IsNew Nobody = ⊤
IsNew NoRoom = ⊤
