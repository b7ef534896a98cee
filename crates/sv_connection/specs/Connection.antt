-- A connection as its callers see it.
use Rattle.std.specs.Prelude.{◌≡◌, ℕ, List, [], Bool, false, Option}
use Rattle.std.specs.Io.KnownBytes.{prepend_known}
use Rattle.sv_connection.specs.declared.connection.Connection.{Connection}
use Rattle.sv_connection.specs.Receive.{Stand, stand}

-- one request is served, and the connection then closes
abbrev pub is_single : Connection → Bool
is_single c = c.single

-- nothing is read or served any more
abbrev pub is_closed : Connection → Bool
is_closed c = c.closed

-- its request is still to be answered
abbrev pub is_waiting : Connection → Bool
is_waiting c = c.waiting

-- its client asked for the close with the request that was taken last
abbrev pub is_leaving : Connection → Bool
is_leaving c = c.leaving

-- the bytes that were read and not yet served
abbrev pub held_by : Connection → List ℕ
held_by c = c.requests.rest

-- it holds no bytes, is open, and waits for nothing
pub record IsFresh (c : Connection) (single : Bool) : Type 0 where
  pub empty : c.requests.rest ≡ []
  pub single_is : is_single c ≡ single
  pub not_closed : is_closed c ≡ false
  pub not_waiting : is_waiting c ≡ false
  pub not_leaving : is_leaving c ≡ false

-- what a call for what has come sees of a connection, and of the bytes that come after those that it holds
abbrev pub stand_of : Connection → Option (List ℕ) → Stand
stand_of c to_come = stand (prepend_known c.requests.rest to_come) c.closed
