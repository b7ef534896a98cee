use Rattle.sv_net.proofs.Prelude.{◌≡◌, went_of}
use Rattle.sv_net.proofs.connections.Connections.read_pieces.Given as goal

-- nothing is said meanwhile
abbrev pub invariant-loop : goal.invariant-loop
invariant-loop l = went_of l.socket ≡ went_of l.initial.socket
