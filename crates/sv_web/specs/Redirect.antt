-- A redirect (RFC 9110, section 15.4.4): the address that a client is to ask, and the status that has it ask by GET.
use Rattle.std.specs.Prelude.{ℕ, List, codes, Result, Ok, Err}
use Rattle.sv_model.specs.declared.field.Field.{Field}
use Rattle.sv_servlet.specs.Reply.{field_result, status_result}
use Rattle.sv_servlet.specs.ReplyState.{ReplyState}
use Rattle.sv_servlet.specs.declared.reply.ReplyFault.{ReplyFault}
use Rattle.sv_web.specs.Header.{header}

-- the field `location` (RFC 9110, section 10.2.2)
abbrev pub location : List ℕ → Field
location to = header (codes "location") to

-- the status 303 after a field that was set
abbrev pub see_other : Result ReplyState ReplyFault → Result ReplyState ReplyFault
see_other (Ok r) = status_result r 303
see_other (Err fault) = Err fault

-- what is expected of a redirect to an address; where the field is refused, nothing is set
abbrev pub redirect_result : ReplyState → List ℕ → Result ReplyState ReplyFault
redirect_result r to = see_other (field_result r (location to))
