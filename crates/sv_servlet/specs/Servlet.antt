-- What a servlet means (Jakarta Servlet 6.0, chapter "The Servlet Interface").
use Rattle.std.specs.Prelude.{◌≡◌, true, Result, Ok, Err}
use Rattle.sv_session.specs.Edit.{Edit, KeepsEdit}
use Rattle.sv_servlet.specs.Call.{Asked}
use Rattle.sv_servlet.specs.ReplyState.{ReplyState}
use Rattle.sv_servlet.specs.declared.servlet.Next.{Next}
use Rattle.sv_servlet.specs.declared.servlet.Phase.{Phase}
use Rattle.sv_servlet.specs.declared.servlet.Phase.TheVariants.{Ready, Failed}
use Rattle.sv_servlet.specs.declared.servlet.InitFault.{InitFault}

-- what is lent to an object: the edit of the session, and the reply
pub record Lent : Type 0 where
  pub edit : Edit
  pub reply : ReplyState

abbrev pub lent : Edit → ReplyState → Lent
lent e r = record { edit = e; reply = r }

-- what an object gives back: what was lent, and what is to follow
pub record Answer : Type 0 where
  pub lent : Lent
  pub next : Next

abbrev pub answer : Lent → Next → Answer
answer l n = record { lent = l; next = n }

-- a servlet's meaning
abbrev pub Serves : Type 0
Serves = Asked → Lent → Answer

-- a call goes on with the edit that was lent, and puts no other in its place
abbrev pub KeepsEdits : Serves → Type 0
KeepsEdits serves = (call : Asked) (l : Lent) → KeepsEdit l.edit (serves call l).lent.edit

-- the reply is held as it was, and while it is, its status and its fields stand still
pub record KeepsReply (old new : ReplyState) : Type 0 where
  pub hold : new.is_held ≡ old.is_held
  pub status : old.is_held ≡ true → new.status ≡ old.status
  pub fields : old.is_held ≡ true → new.fields ≡ old.fields

-- what was lent is gone on with
pub record KeepsLent (old new : Lent) : Type 0 where
  pub edit : KeepsEdit old.edit new.edit
  pub reply : KeepsReply old.reply new.reply

-- a call lets a reply that is held stand still, and neither holds it nor lets it go
abbrev pub KeepsReplies : Serves → Type 0
KeepsReplies serves = (call : Asked) (l : Lent) → KeepsReply l.reply (serves call l).lent.reply

-- where an object stands after its initialisation
abbrev pub phase_after_init : Result (Unit {0}) InitFault → Phase
phase_after_init (Ok _) = Ready
phase_after_init (Err _) = Failed
