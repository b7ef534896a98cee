-- What a message leads to, as what is received.
use Rattle.std.proofs.Common.{◌≡◌, ℕ, List, subst, Option, Some, Err, sym}
use Rattle.std.specs.Prelude.{Bool, false}
use Rattle.std.specs.Io.KnownBytes.{Consumes}
use Rattle.sv_message.specs.Message.{IsMessage}
use Rattle.sv_message.specs.Reader.{Gives}
use Rattle.sv_message.specs.declared.fault.ReadFault.{ReadFault}
use Rattle.sv_message.specs.declared.fault.ReadFault.TheVariants.{BadHead, HeadTooLong, BadHost, BadFraming, BodyTooLong, Coding, Expectation, Memory, Closed as ReaderClosed}
use Rattle.sv_message.specs.declared.request.RawRequest.{RawRequest}
use Rattle.sv_connection.specs.declared.outcome.RequestFault.TheVariants.{Read, Target}
use Rattle.sv_connection.specs.declared.received.Received.{Received}
use Rattle.sv_connection.specs.declared.received.Received.TheVariants.{Request as Given, Refused as Met, More, Closed}
use Rattle.sv_connection.specs.Receive.{Stand, IsDirected, IsFound, IsRead, Receives}
use Rattle.sv_connection.specs.Request.{HasTargetFault}

-- where it was taken
pub received : (single : Bool) (old new : Stand) (left : List ℕ) (raw : RawRequest) (text : List ℕ) (r : Received) → old.closed ≡ false → IsMessage text raw → Consumes old.unread (Some left) text
    → new.unread ≡ Some left → IsDirected single raw new.closed r → Receives single old new r
received single old new left raw text (Given request) o m t holds d = (
  o,
  d.0,
  record {
    raw = raw;
    text = text;
    message = m;
    taken = subst (λ (u : Option (List ℕ)). Consumes old.unread u text) (sym holds) t;
    target = d.2.target;
    read = d.2.read;
    method = d.1;
    says = d.2.says;
  },
)
received single old new left raw text (Met (Read fault) head_only) o m t holds d = absurd d
received single old new left raw text (Met (Target fault) head_only) o m t holds d = (
  o,
  d.0,
  record {
    raw = raw;
    text = text;
    message = m;
    taken = subst (λ (u : Option (List ℕ)). Consumes old.unread u text) (sym holds) t;
    has_fault = d.1;
    without_body = d.2;
  },
)
received single old new left raw text More o m t holds d = absurd d
received single old new left raw text Closed o m t holds d = absurd d

-- where its message stands at the front
pub found : (single : Bool) (raw given : RawRequest) (closed : Bool) (r : Received) → given ≡ raw → IsDirected single given closed r → IsFound single raw r
found single raw given closed (Given request) same d = subst (λ (m : RawRequest). IsRead single m request) same d.2
found single raw given closed (Met (Read fault) head_only) same d = absurd d
found single raw given closed (Met (Target fault) head_only) same d = subst (λ (m : RawRequest). HasTargetFault m fault) same d.1
found single raw given closed More same d = absurd d
found single raw given closed Closed same d = absurd d

-- a fault isn't, where a message does
pub not_found : (single : Bool) (raw : RawRequest) (fault : ReadFault) (head_only : Bool) → Gives raw (Err fault) → IsFound single raw (Met (Read fault) head_only)
not_found single raw BadHead head_only g = g
not_found single raw HeadTooLong head_only g = g
not_found single raw BadHost head_only g = g
not_found single raw BadFraming head_only g = g
not_found single raw BodyTooLong head_only g = g
not_found single raw Coding head_only g = g
not_found single raw Expectation head_only g = g
not_found single raw Memory head_only g = g
not_found single raw ReaderClosed head_only g = g
