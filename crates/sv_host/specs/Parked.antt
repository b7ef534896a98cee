-- Clients that wait for their answers, each under the number of its request.
use Rattle.std.specs.Prelude.{ℕ, ◌≤◌, ◌==◌, Bool, nat_lt, length, List, Option, Some, None, position, slice_get, swap_remove, vec_len, vec_capacity}
use Rattle.std.specs.Option.{option_map}
use Rattle.sv_host.specs.declared.parked.ParkedClient.{ParkedClient}
use Rattle.sv_host.specs.declared.parked.ParkedClients.{ParkedClients}

abbrev pub clients_of : ParkedClients → List ParkedClient
clients_of p = p.clients.items

-- it takes memory to keep one more
abbrev pub IsFull : ParkedClients → Type 0
IsFull p = vec_capacity p.clients ≤ vec_len p.clients

-- a request may be waiting at the node
abbrev pub may_wait : ParkedClients → Bool
may_wait p = nat_lt 0 (length (clients_of p))

abbrev pub is_under : ℕ → ParkedClient → Bool
is_under token c = c.token == token

-- where the first of them stands that waits under this number
abbrev pub client_at : List ParkedClient → Option ℕ → Option ParkedClient
client_at cs None = None
client_at cs (Some at) = slice_get cs at

abbrev pub place_under : ℕ → List ParkedClient → Option ℕ
place_under token cs = option_map (λ c. c.place) (client_at cs (position (is_under token) cs))

-- the others: the last one comes to stand where that one stood
abbrev pub others_than : Option ℕ → List ParkedClient → List ParkedClient
others_than None cs = cs
others_than (Some at) cs = swap_remove cs at (record { token = 0; place = 0 })

abbrev pub without : ℕ → List ParkedClient → List ParkedClient
without token cs = others_than (position (is_under token) cs) cs
