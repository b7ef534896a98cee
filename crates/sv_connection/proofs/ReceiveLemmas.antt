-- What stands at the front of what has come is received.
use Rattle.std.proofs.Common.{◌≡◌, ◌⊎◌, ℕ, List, ◌++◌, Option, Some, None, refl, sym, ◌∙◌, subst, inl, inr}
use Rattle.std.specs.Prelude.{true, false, IfSome}
use Rattle.std.specs.Io.KnownBytes.{Consumes}
use Rattle.sv_message.specs.Fault.{IsFaultAt, HasNoMessage}
use Rattle.sv_message.specs.Calls.{BeginsNoMessage, IsHeadFault, IsOneFault, IsUndecided}
use Rattle.sv_message.specs.Message.{IsMessage}
use Rattle.sv_message.specs.declared.request.RawRequest.{RawRequest}
use Rattle.sv_message.specs.declared.fault.ReadFault.{ReadFault}
use Rattle.sv_message.specs.declared.fault.ReadFault.TheVariants.{BadHead, HeadTooLong, BadHost, BadFraming, BodyTooLong, Coding, Expectation, Memory, Closed as ReaderClosed}
use Rattle.sv_connection.specs.declared.outcome.RequestFault.TheVariants.{Read, Target}
use Rattle.sv_connection.specs.declared.received.Received.TheVariants.{Request, Refused, More, Closed}
use Rattle.sv_connection.specs.Receive.{MeetsFaults, HoldsNoMessage, StandsAt}

-- what was taken is a prefix
split : (s : List ℕ) (left : Option (List ℕ)) (text : List ℕ) → Consumes (Some s) left text → (rest : List ℕ) × (s ≡ text ++ rest)
split s None text h = elim h [ ]
split s (Some rest) text h = (rest, h)

no_request : (s : List ℕ) (u left : Option (List ℕ)) (text : List ℕ) (raw : RawRequest) → u ≡ Some s → BeginsNoMessage s → Consumes u left text → IsMessage text raw → ⊥
no_request s u left text raw is none taken message =
    let cut = split s left text (subst (λ (v : Option (List ℕ)). Consumes v left text) is taken) in
    none text cut.0 raw cut.1 message

-- two faults that stand
two : IsOneFault → (s : List ℕ) (fault given : ReadFault) → IsFaultAt s fault → StandsAt (Some s) given → (given ≡ Memory) ⊎ ((fault ≡ given) ⊎ (IsHeadFault fault × IsHeadFault given))
two one s fault BadHead f k = inr ((one s fault f).1 BadHead k)
two one s fault HeadTooLong f k = inr ((one s fault f).1 HeadTooLong k)
two one s fault BadHost f k = inr ((one s fault f).1 BadHost k)
two one s fault BadFraming f k = inr ((one s fault f).1 BadFraming k)
two one s fault BodyTooLong f k = inr ((one s fault f).1 BodyTooLong k)
two one s fault Coding f k = inr ((one s fault f).1 Coding k)
two one s fault Expectation f k = inr ((one s fault f).1 Expectation k)
two one s fault Memory f k = inl refl
two one s fault ReaderClosed f k = elim k [ ]

pub meets : IsOneFault → IsUndecided → MeetsFaults
meets one undecided single old new s fault (Request request) was_open is f r = absurd (no_request s old.unread new.unread r.2.text r.2.raw is (one s fault f).0 r.2.taken r.2.message)
meets one undecided single old new s fault (Refused (Read given) head_only) was_open is f r = two one s fault given f (subst (λ (v : Option (List ℕ)). StandsAt v given) is r.2.1)
meets one undecided single old new s fault (Refused (Target given) head_only) was_open is f r = absurd (no_request s old.unread new.unread r.2.text r.2.raw is (one s fault f).0 r.2.taken r.2.message)
meets one undecided single old new s fault More was_open is f r = (undecided s (subst (λ (v : Option (List ℕ)). IfSome v HasNoMessage) is r.2)).1 fault f
meets one undecided single old new s fault Closed was_open is f r = absurd (let e : true ≡ false = sym r.0 ∙ was_open in cc)

pub holds : IsUndecided → HoldsNoMessage
holds undecided single old new s is r = (undecided s (subst (λ (v : Option (List ℕ)). IfSome v HasNoMessage) is r.2)).0
