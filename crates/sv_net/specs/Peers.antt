-- Where the nodes of a cluster listen.
use Rattle.std.specs.Prelude.{ℕ, ◌≡◌, List, slice_index_or}
use Rattle.std.specs.declared.net.socket_addr.SocketAddr.{SocketAddr}
use Rattle.std.specs.Net.Addr.{MatchIp, IsLoopbackV4, IsLoopbackV6}
use Rattle.std.specs.Net.Socket.{socket_ip, socket_port}

-- by its number; 0 where there is no such node
abbrev pub port_at : List ℕ → ℕ → ℕ
port_at ports node = slice_index_or ports node 0

-- this port of the loopback address
pub record IsLoopback (port : ℕ) (address : SocketAddr) : Type 0 where
  pub ip : MatchIp (socket_ip address) IsLoopbackV4 IsLoopbackV6
  pub port_is : socket_port address ≡ port
