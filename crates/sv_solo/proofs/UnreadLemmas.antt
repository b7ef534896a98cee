-- What stands at the front of the unread bytes, however many of them are held.
use Rattle.std.proofs.Common.{◌≡◌, ℕ, List, [], ◌++◌, append-nil, append_assoc, ap, sym, ◌∙◌, subst, inl, inr, Option, Some, None, Bool}
use Rattle.std.proofs.KnownBytes.{Keeps-trans}
use Rattle.std.specs.Prelude.{false, true, IfSome}
use Rattle.std.specs.Io.KnownBytes.{Keeps, Consumes, IsAtEnd, prepend_known}
use Rattle.sv_solo.proofs.Prelude.{Request, RequestFault, Read, Target}
use Rattle.sv_message.specs.Fault.{IsFaultAt, HasNoMessage}
use Rattle.sv_message.specs.declared.fault.ReadFault.{ReadFault}
use Rattle.sv_message.specs.declared.fault.ReadFault.TheVariants.{BadHead, HeadTooLong, BadHost, BadFraming, BodyTooLong, Coding, Expectation, Memory, Closed as ReaderClosed}
use Rattle.sv_message.proofs.FaultLemmas.{fault_longer}
use Rattle.sv_connection.specs.declared.received.Received.{Received}
use Rattle.sv_connection.specs.declared.received.Received.TheVariants.{Request as Given, Refused, More, Closed}
use Rattle.sv_connection.specs.Receive.{GivesRequest, IsRefused, Receives, StandsAt, stand}
use Rattle.sv_solo.specs.Reading.{Ends, Hears}

-- ---- bytes that were kept

-- what holds of unread bytes, and if they aren't known, holds of those that they keep
moved : (P : Option (List ℕ) → Type 0) → P None → (v u : Option (List ℕ)) → Keeps v u → P u → P v
moved P none None u kept p = none
moved P none (Some x) None kept p = elim kept [ ]
moved P none (Some x) (Some y) kept p = subst (λ (t : List ℕ). P (Some t)) kept p

stands_behind : (v u : Option (List ℕ)) (f : ReadFault) → Keeps v u → StandsAt u f → StandsAt v f
stands_behind v u BadHead kept k = moved (λ (w : Option (List ℕ)). StandsAt w BadHead) tt v u kept k
stands_behind v u HeadTooLong kept k = moved (λ (w : Option (List ℕ)). StandsAt w HeadTooLong) tt v u kept k
stands_behind v u BadHost kept k = moved (λ (w : Option (List ℕ)). StandsAt w BadHost) tt v u kept k
stands_behind v u BadFraming kept k = moved (λ (w : Option (List ℕ)). StandsAt w BadFraming) tt v u kept k
stands_behind v u BodyTooLong kept k = moved (λ (w : Option (List ℕ)). StandsAt w BodyTooLong) tt v u kept k
stands_behind v u Coding kept k = moved (λ (w : Option (List ℕ)). StandsAt w Coding) tt v u kept k
stands_behind v u Expectation kept k = moved (λ (w : Option (List ℕ)). StandsAt w Expectation) tt v u kept k
stands_behind v u Memory kept k = tt
stands_behind v u ReaderClosed kept k = k

pub request_behind : (single : Bool) (v u n : Option (List ℕ)) (request : Request) → Keeps v u → GivesRequest single u n request → GivesRequest single v n request
request_behind single v u n request kept g = record {
  raw = g.raw;
  text = g.text;
  message = g.message;
  taken = moved (λ (w : Option (List ℕ)). Consumes w n g.text) tt v u kept g.taken;
  target = g.target;
  read = g.read;
  method = g.method;
  says = g.says;
}

pub refused_behind : (v u n : Option (List ℕ)) (fault : RequestFault) (head_only : Bool) → Keeps v u → IsRefused u n fault head_only → IsRefused v n fault head_only
refused_behind v u n (Read fault) head_only kept g = (g.0, stands_behind v u fault kept g.1)
refused_behind v u n (Target fault) head_only kept g = record {
  raw = g.raw;
  text = g.text;
  message = g.message;
  taken = moved (λ (w : Option (List ℕ)). Consumes w n g.text) tt v u kept g.taken;
  has_fault = g.has_fault;
  without_body = g.without_body;
}

pub none_behind : (v u : Option (List ℕ)) → Keeps v u → IfSome u HasNoMessage → IfSome v HasNoMessage
none_behind v u kept none = moved (λ (w : Option (List ℕ)). IfSome w HasNoMessage) tt v u kept none

-- ---- bytes that are still to come after all that have come

fault_front : (all : List ℕ) (later : Option (List ℕ)) (f : ReadFault) → IsFaultAt all f → IfSome (prepend_known all later) (λ xs. IsFaultAt xs f)
fault_front all None f k = tt
fault_front all (Some y) f k = fault_longer all y f k

stands_front : (all : List ℕ) (later : Option (List ℕ)) (f : ReadFault) → StandsAt (Some all) f → StandsAt (prepend_known all later) f
stands_front all later BadHead k = fault_front all later BadHead k
stands_front all later HeadTooLong k = fault_front all later HeadTooLong k
stands_front all later BadHost k = fault_front all later BadHost k
stands_front all later BadFraming k = fault_front all later BadFraming k
stands_front all later BodyTooLong k = fault_front all later BodyTooLong k
stands_front all later Coding k = fault_front all later Coding k
stands_front all later Expectation k = fault_front all later Expectation k
stands_front all later Memory k = tt
stands_front all later ReaderClosed k = k

consumes_front : (all left text : List ℕ) (later : Option (List ℕ)) → all ≡ text ++ (left ++ []) → Consumes (prepend_known all later) (prepend_known left later) text
consumes_front all left text None is = tt
consumes_front all left text (Some y) is = ap (λ (t : List ℕ). t ++ y) (is ∙ ap (λ (t : List ℕ). text ++ t) (append-nil left)) ∙ append_assoc text left y

request_front : (single : Bool) (all left : List ℕ) (later : Option (List ℕ)) (request : Request) → GivesRequest single (Some all) (Some (left ++ [])) request
    → GivesRequest single (prepend_known all later) (prepend_known left later) request
request_front single all left later request g = record {
  raw = g.raw;
  text = g.text;
  message = g.message;
  taken = consumes_front all left g.text later g.taken;
  target = g.target;
  read = g.read;
  method = g.method;
  says = g.says;
}

refused_front : (all left : List ℕ) (later : Option (List ℕ)) (fault : RequestFault) (head_only : Bool) → IsRefused (Some all) (Some (left ++ [])) fault head_only
    → IsRefused (prepend_known all later) (prepend_known left later) fault head_only
refused_front all left later (Read fault) head_only g = (g.0, stands_front all later fault g.1)
refused_front all left later (Target fault) head_only g = record {
  raw = g.raw;
  text = g.text;
  message = g.message;
  taken = consumes_front all left g.text later g.taken;
  has_fault = g.has_fault;
  without_body = g.without_body;
}

keeps_front : (all left : List ℕ) (later : Option (List ℕ)) → Keeps (Some all) (Some (left ++ [])) → Keeps (prepend_known all later) (prepend_known left later)
keeps_front all left None is = tt
keeps_front all left (Some y) is = ap (λ (t : List ℕ). t ++ y) (sym (append-nil left) ∙ is)

-- at the end of the input all that has come is all that is unread
none_front : (all : List ℕ) (later : Option (List ℕ)) → IsAtEnd later → HasNoMessage all → IfSome (prepend_known all later) HasNoMessage
none_front all None ends none = tt
none_front all (Some y) ends none = subst HasNoMessage (sym (ap (λ (t : List ℕ). all ++ t) ends ∙ append-nil all)) none

-- ---- a piece that was read

-- it stands after what was held
joined : (held piece : List ℕ) (ro rn : Option (List ℕ)) → Consumes ro rn piece → Keeps (prepend_known held ro) (prepend_known (held ++ piece) rn)
joined held piece None rn took = tt
joined held piece (Some x) None took = elim took [ ]
joined held piece (Some x) (Some y) took = append_assoc held piece y ∙ ap (λ (t : List ℕ). held ++ t) (sym took)

pub lifted : (single : Bool) (held piece left : List ℕ) (ro rn : Option (List ℕ)) (was now : Bool) (r : Received) → was ≡ false → Consumes ro rn piece
    → Receives single (stand (Some (held ++ piece)) was) (stand (Some (left ++ [])) now) r → Hears single (prepend_known held ro) (prepend_known left rn) now (Some r)
lifted single held piece left ro rn was now (Given request) still_open took k =
    (k.1, request_behind single _ _ _ request (joined held piece ro rn took) (request_front single (held ++ piece) left rn request k.2))
lifted single held piece left ro rn was now (Refused fault head_only) still_open took k =
    (k.1, refused_behind _ _ _ fault head_only (joined held piece ro rn took) (refused_front (held ++ piece) left rn fault head_only k.2))
lifted single held piece left ro rn was now More still_open took k =
    (k.1, Keeps-trans _ _ _ (joined held piece ro rn took) (keeps_front (held ++ piece) left rn k.3))
lifted single held piece left ro rn was now Closed still_open took k = absurd (let e : true ≡ false = sym k.0 ∙ still_open in cc)

pub ended : (single : Bool) (held left : List ℕ) (ro rn : Option (List ℕ)) (was now : Bool) (r : Received) → was ≡ false → Consumes ro rn [] → IsAtEnd rn
    → Ends single (stand (Some (held ++ [])) was) (stand (Some (left ++ [])) now) r → Hears single (prepend_known held ro) (prepend_known left rn) now (Some r)
ended single held left ro rn was now (Given request) still_open took ends k = lifted single held [] left ro rn was now (Given request) still_open took k
ended single held left ro rn was now (Refused fault head_only) still_open took ends k = lifted single held [] left ro rn was now (Refused fault head_only) still_open took k
ended single held left ro rn was now More still_open took ends k = absurd k
ended single held left ro rn was now Closed still_open took ends (inl closed, shut) = absurd (let e : true ≡ false = sym closed ∙ still_open in cc)
ended single held left ro rn was now Closed still_open took ends (inr none, shut) = (shut, none_behind _ _ (joined held [] ro rn took) (none_front (held ++ []) rn ends none))
