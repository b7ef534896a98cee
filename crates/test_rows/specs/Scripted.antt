-- What the servlet and the filter of the tests mean.
use Rattle.std.specs.Prelude.{ℕ, ◌==◌, List, Option, Some, None, Result, Ok, Err, codes, if◌then◌else◌}
use Rattle.sv_model.specs.Attributes.{value_of}
use Rattle.sv_servlet.specs.Call.{Asked}
use Rattle.sv_servlet.specs.Filter.{Filters, Verdict, verdict}
use Rattle.sv_servlet.specs.Reply.{status_result, write_result}
use Rattle.sv_servlet.specs.ReplyState.{ReplyState}
use Rattle.sv_servlet.specs.Servlet.{Answer, Lent, answer, lent}
use Rattle.sv_servlet.specs.declared.filter.Before.{Before}
use Rattle.sv_servlet.specs.declared.filter.Before.TheVariants.{Pass, PassWith, Stop, SendError as RefuseBy, Fault as RefuseFor}
use Rattle.sv_servlet.specs.declared.reply.ReplyFault.{ReplyFault}
use Rattle.sv_servlet.specs.declared.servlet.Next.{Next}
use Rattle.sv_servlet.specs.declared.servlet.Next.TheVariants.{Done, Forward, Include, SendError, Fault}
use Rattle.test_rows.specs.declared.scripted.Says.{Says}
use Rattle.test_rows.specs.declared.scripted.Says.TheVariants.{Text, Attribute, Uri}
use Rattle.test_rows.specs.declared.scripted.Then.{Then}
use Rattle.test_rows.specs.declared.scripted.Then.TheVariants.{Ends, Forwards, Includes, Fails, Faults, Carries}

abbrev pub or_dash : Option (List ℕ) → List ℕ
or_dash None = codes "-"
or_dash (Some value) = value

abbrev pub said : Says → Asked → List ℕ
said (Text text) call = text.now
said (Attribute name) call = or_dash (value_of call.attributes name.now)
said Uri call = call.request_uri

abbrev pub resumed : ℕ → List ℕ
resumed number = if number == 7 then codes "7]" else codes "]"

abbrev pub next_of : Then → Next
next_of Ends = Done
next_of (Forwards path) = Forward path.now
next_of (Includes path) = Include path.now 7
next_of (Fails code) = SendError code (codes "why")
next_of (Faults name) = Fault name.now
next_of (Carries value) = Done

abbrev pub before_of : Then → Before
before_of Ends = Pass
before_of (Forwards path) = Stop
before_of (Includes path) = Stop
before_of (Fails code) = RefuseBy code (codes "why")
before_of (Faults name) = RefuseFor name.now
before_of (Carries value) = PassWith (codes "member") value.now

-- the reply takes a call; where it is refused the servlet has no memory left
abbrev pub on_reply : Lent → Result ReplyState ReplyFault → Lent
on_reply l (Ok reply) = lent l.edit reply
on_reply l (Err fault) = l

abbrev pub set : ℕ → Lent → Lent
set status l = on_reply l (status_result l.reply status)

abbrev pub written : List ℕ → Lent → Lent
written text l = on_reply l (write_result l.reply text)

abbrev pub scripted : ℕ → Says → Then → Asked → Lent → Answer
scripted status says what call l =
    if call.resume == 0 then answer (written (said says call) (set status l)) (next_of what) else answer (written (resumed call.resume) l) Done

abbrev pub marking : List ℕ → List ℕ → Then → Filters
marking before after what = record { before = λ call l. verdict (written before l) (before_of what); after = λ call l. written after l }
