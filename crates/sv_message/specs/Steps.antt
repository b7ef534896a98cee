-- What reading on in a body answers.
use Rattle.std.specs.Prelude.{◌≡◌, ℕ, ◌<◌, ◌≤◌, List, [], Bool, true, false, Option, Some, None, Result, Ok, Err, ⊤}
use Rattle.sv_message.specs.declared.fault.ReadFault.{ReadFault}
use Rattle.sv_message.specs.declared.framing.Framing.{Framing}
use Rattle.sv_message.specs.declared.framing.Framing.TheVariants.{Declared, Chunked}
use Rattle.sv_message.specs.declared.head.Head.{Head}
use Rattle.sv_message.specs.declared.body.Part.{Part}
use Rattle.sv_message.specs.declared.body.Part.TheVariants.{Missing, Line}
use Rattle.sv_message.specs.declared.body.Partial.{Partial}
use Rattle.sv_message.specs.declared.body.Step.{Step}
use Rattle.sv_message.specs.declared.body.Step.TheVariants.{Open, On, Whole}
use Rattle.sv_message.specs.declared.message.Message.{Message}
use Rattle.sv_message.specs.Persistence.{closes}
use Rattle.sv_message.specs.Fault.{IsOpenHead, HasNoMessage}
use Rattle.sv_message.specs.Found.{FindsFault, HasMessage}
use Rattle.sv_message.specs.Partial.{IsPartial, Stands}

-- the message that a request read to its end is
abbrev pub message_of : Partial → Message
message_of partial = record { request = partial.request; len = partial.at }

-- what one step comes to; old is where it began
abbrev pub StepsTo : List ℕ → Partial → Partial → Result Step ReadFault → Type 0
StepsTo rest old new (Ok Open) = IsPartial rest new × HasNoMessage rest
StepsTo rest old new (Ok On) = IsPartial rest new × (old.at < new.at)
StepsTo rest old new (Ok Whole) = HasMessage rest (message_of new)
StepsTo rest old new (Err fault) = IsPartial rest new × FindsFault rest fault

-- what all steps that the bytes allow come to
abbrev pub EndsIn : List ℕ → Partial → Result Bool ReadFault → Type 0
EndsIn rest new (Ok true) = HasMessage rest (message_of new)
EndsIn rest new (Ok false) = IsPartial rest new × HasNoMessage rest
EndsIn rest new (Err fault) = IsPartial rest new × FindsFault rest fault

-- what comes first of a body framed so
abbrev pub first_part : Framing → Part
first_part (Declared n) = Missing n
first_part Chunked = Line

-- the request of a head, with nothing of its body
abbrev pub headed : Head → Framing → Partial
headed head framing = record {
  request = record {
    method = head.method;
    target = head.target;
    fields = head.fields;
    body = [];
    close = closes head.minor head.fields;
  };
  part = first_part framing;
  at = head.len;
}

-- what reading a head comes to
abbrev pub HasStarted : List ℕ → Result (Option Partial) ReadFault → Type 0
HasStarted rest (Ok (Some partial)) = IsPartial rest partial
HasStarted rest (Ok None) = IsOpenHead rest
HasStarted rest (Err fault) = FindsFault rest fault

-- what is in hand after an answer; none waits for bytes only where no head is whole
abbrev pub Leaves : List ℕ → Option Partial → Result (Option Message) ReadFault → Type 0
Leaves rest in_hand (Ok (Some message)) = in_hand ≡ None
Leaves rest None (Ok None) = IsOpenHead rest
Leaves rest (Some partial) (Ok None) = IsPartial rest partial
Leaves rest in_hand (Err fault) = Stands rest in_hand

-- what was read of a request in hand isn't read again: it stays in hand, at its place or after it, until it is given
abbrev pub Resumes : Option Partial → Option Partial → Result (Option Message) ReadFault → Type 0
Resumes None in_hand result = ⊤
Resumes (Some old) (Some new) result = old.at ≤ new.at
Resumes (Some old) None (Ok (Some message)) = old.at ≤ message.len
Resumes (Some old) None (Ok None) = ⊥
Resumes (Some old) None (Err fault) = ⊥
