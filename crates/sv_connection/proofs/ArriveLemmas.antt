-- What the reader of requests answers is what the bytes bring that came last.
use Rattle.std.proofs.Common.{◌≡◌, ℕ, List, ◌++◌, ap, sym, ◌∙◌, subst, Option, Some, None, Result, Ok, Err}
use Rattle.std.specs.Prelude.{false, true}
use Rattle.sv_message.specs.Stream.{Stream}
use Rattle.sv_message.specs.Fault.{HasNoMessage}
use Rattle.sv_message.specs.declared.request.RawRequest.{RawRequest}
use Rattle.sv_message.specs.Reader.{Reads}
use Rattle.sv_message.specs.declared.fault.ReadFault.{ReadFault}
use Rattle.sv_message.specs.declared.fault.ReadFault.TheVariants.{BadHead, HeadTooLong, BadHost, BadFraming, BodyTooLong, Coding, Expectation, Memory, Closed}
use Rattle.sv_connection.specs.Arrive.{Brings}
use Rattle.sv_connection.specs.Receive.{StandsAt}

-- a fault that the reader finds stands at the front
stands : (old after : Stream) (f : ReadFault) → old.closed ≡ false → Reads old (Err f) after → StandsAt (Some old.rest) f
stands old after BadHead o k = k.1
stands old after HeadTooLong o k = k.1
stands old after BadHost o k = k.1
stands old after BadFraming o k = k.1
stands old after BodyTooLong o k = k.1
stands old after Coding o k = k.1
stands old after Expectation o k = k.1
stands old after Memory o k = tt
stands old after Closed o k = absurd (let e : true ≡ false = sym k.0 ∙ o in cc)

-- what `next` answers after bytes that were put there is what they bring
pub brings : (old fed new : Stream) (piece : List ℕ) (r : Result (Option RawRequest) ReadFault) → old.closed ≡ false → fed ≡ record old { rest = old.rest ++ piece }
    → Reads fed r new → Brings old piece r new
brings old fed new piece (Ok None) o m k =
    let all : fed.rest ≡ old.rest ++ piece = ap (λ (s : Stream). s.rest) m in
    (subst HasNoMessage all k.1, ap (λ (s : Stream). s.rest) k.2 ∙ all, ap (λ (s : Stream). s.closed) k.2 ∙ k.0)
brings old fed new piece (Ok (Some raw)) o m k =
    let all : fed.rest ≡ old.rest ++ piece = ap (λ (s : Stream). s.rest) m in
    (k.text, k.message, sym all ∙ k.taken, k.open_after)
brings old fed new piece (Err f) o m k =
    let all : fed.rest ≡ old.rest ++ piece = ap (λ (s : Stream). s.rest) m in
    let still : fed.closed ≡ false = ap (λ (s : Stream). s.closed) m ∙ o in
    subst (λ (t : List ℕ). StandsAt (Some t) f) all (stands fed new f still k)
