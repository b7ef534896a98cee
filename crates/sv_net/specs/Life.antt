-- What has come of a client over its connection's life, as one list of bytes.
use Rattle.std.specs.Prelude.{◌≡◌, ℕ, List, [], ◌∷◌, ◌++◌, Bool}
use Rattle.sv_connection.specs.Connection.{held_by}
use Rattle.sv_connection.specs.Receive.{IsRead}
use Rattle.sv_connection.specs.declared.received.Received.{Received}
use Rattle.sv_connection.specs.declared.received.Received.TheVariants.{Request, Refused, More, Closed}
use Rattle.sv_message.specs.Message.{IsMessage}
use Rattle.sv_message.specs.declared.request.RawRequest.{RawRequest}
use Rattle.sv_model.specs.declared.request.Request.{Request as RequestValue}
use Rattle.sv_net.specs.Hearing.{Hears}
use Rattle.sv_net.specs.declared.client.Client.{Client}

-- a client was heard: this piece came, and that was given
pub data Heed : Type 0 where
  Came : (was next : Client) → (piece : List ℕ) → (given : Received) → Heed

-- what it gave doesn't end the connection
abbrev pub GoesOn : Received → Type 0
GoesOn (Request request) = Unit {0}
GoesOn (Refused fault head_only) = ⊥
GoesOn More = Unit {0}
GoesOn Closed = ⊥

-- one call after the other; an answer between two of them takes nothing of what has come
abbrev pub AreHeard : Client → List Heed → Client → Type 0
AreHeard first [] last = held_by last.connection ≡ held_by first.connection
AreHeard first (Came was next piece given ∷ heeds) last =
    (held_by was.connection ≡ held_by first.connection) × Hears was next piece given × GoesOn given × AreHeard next heeds last

-- all that came, in order
abbrev pub came_in : List Heed → List ℕ
came_in [] = []
came_in (Came was next piece given ∷ heeds) = piece ++ came_in heeds

-- the requests that were given, in order
abbrev pub asked_in : List Heed → List RequestValue
asked_in [] = []
asked_in (Came was next piece (Request request) ∷ heeds) = request ∷ asked_in heeds
asked_in (Came was next piece (Refused fault head_only) ∷ heeds) = asked_in heeds
asked_in (Came was next piece More ∷ heeds) = asked_in heeds
asked_in (Came was next piece Closed ∷ heeds) = asked_in heeds

-- the bytes are the messages of these requests, one after the other, and then the rest
abbrev pub Splits : List ℕ → List RequestValue → List ℕ → Type 0
Splits bytes [] rest = bytes ≡ rest
Splits bytes (request ∷ requests) rest =
    (text : List ℕ) × (next : List ℕ) × (raw : RawRequest) × (single : Bool) × IsMessage text raw × IsRead single raw request × (bytes ≡ text ++ next)
    × Splits next requests rest

-- what came of a client, after what was there, is the messages of the requests that were given and what is kept, however it was cut
abbrev pub KeepsBytes : Type 0
KeepsBytes =
    (first last : Client) (heeds : List Heed) → AreHeard first heeds last
    → Splits (held_by first.connection ++ came_in heeds) (asked_in heeds) (held_by last.connection)
