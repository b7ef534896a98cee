-- What was said of a response, and what closes after it.
use Rattle.std.proofs.Common.{◌≡◌, ℕ, List, [], subst, Option, Some, None, inl, inr, refl, ◌∙◌}
use Rattle.std.specs.Prelude.{Bool, true}
use Rattle.sv_model.specs.declared.response.Response.{Response}
use Rattle.sv_model.specs.Page.{plain_page}
use Rattle.sv_connection.specs.Speak.{IsPage, IsSaid, IsStarved}
use Rattle.sv_connection.specs.declared.outcome.RequestFault.{RequestFault}
use Rattle.sv_connection.specs.declared.outcome.Outcome.{Outcome}
use Rattle.sv_connection.specs.declared.outcome.Outcome.TheVariants.{Refused}

-- what was said of a response was said of an equal one
pub said_same : (made meant : Response) (now : ℕ) (done : Outcome) (wo wn : Option (List ℕ)) (closed : Bool) (outcome : Outcome) → made ≡ meant
    → IsSaid made now done wo wn closed outcome → IsSaid meant now done wo wn closed outcome
said_same made meant now done wo wn closed outcome same said = subst (λ (r : Response). IsSaid r now done wo wn closed outcome) same said

starved_shut : (wo wn : Option (List ℕ)) (closed : Bool) (outcome : Outcome) → IsStarved wo wn closed outcome → closed ≡ true
starved_shut wo wn closed outcome (inl h) = h.2
starved_shut wo wn closed outcome (inr h) = h.1

said_shut : (r : Response) (now : ℕ) (done : Outcome) (wo wn : Option (List ℕ)) (closed : Bool) (outcome : Outcome) → r.close ≡ true → IsSaid r now done wo wn closed outcome → closed ≡ true
said_shut r now done wo wn closed outcome closes (inl (text, is, inl h)) = h.2 ∙ closes
said_shut r now done wo wn closed outcome closes (inl (text, is, inr h)) = h.1
said_shut r now done wo wn closed outcome closes (inr h) = starved_shut wo wn closed outcome h

page_closes : (status : Option ℕ) (head_only : Bool) (now : ℕ) (fault : RequestFault) (wo wn : Option (List ℕ)) (closed : Bool) (outcome : Outcome)
    → IsPage status head_only now fault wo wn closed outcome → closed ≡ true
page_closes (Some status) head_only now fault wo wn closed outcome h =
    said_shut (plain_page status [] head_only true) now (Refused fault) wo wn closed outcome refl h
page_closes None head_only now fault wo wn closed outcome h = starved_shut wo wn closed outcome h

-- after a page the connection is closed
pub page_shut : (status : Option ℕ) (head_only : Bool) (now : ℕ) (fault : RequestFault) (wo wn : Option (List ℕ)) (closed : Bool) (outcome : Outcome)
    → IsPage status head_only now fault wo wn closed outcome → IsPage status head_only now fault wo wn true outcome
page_shut status head_only now fault wo wn closed outcome h =
    subst (λ (b : Bool). IsPage status head_only now fault wo wn b outcome) (page_closes status head_only now fault wo wn closed outcome h) h
