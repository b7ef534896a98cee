-- What a call for a connection leads to, put together.
use Rattle.std.proofs.Common.{◌≡◌, ℕ, List, subst, Option, Result, inl, inr, [], sym, ap, ◌∙◌}
use Rattle.std.specs.Prelude.{Bool, true, false}
use Rattle.sv_solo.proofs.Prelude.{Moment, Request, Response, Input, Ask, Output, StepFault, RequestFault, Read, Target, GivesRequest, IsRefused}
use Rattle.sv_message.specs.declared.request.RawRequest.{RawRequest}
use Rattle.sv_target.specs.declared.target.Target.{Target as TargetValue}
use Rattle.sv_connection.specs.declared.outcome.Outcome.{Outcome}
use Rattle.sv_connection.specs.declared.outcome.Outcome.TheVariants.{Answered}
use Rattle.sv_connection.specs.Request.{request_of}
use Rattle.sv_connection.specs.Speak.{IsLateAnswer, IsPage, IsSaid, IsStarved, status_of}
use Rattle.sv_solo.specs.declared.answer.Manner.{Manner}
use Rattle.sv_solo.specs.declared.served.Served.{Served}
use Rattle.sv_solo.specs.Manner.{manner_of}
use Rattle.sv_solo.specs.Serve.{How, how, is_parked, Sight, verdict, outputs_of, Follows, IsAnswered, IsServed, Faulty}

-- the site was stepped, and what follows was said
pub answered : {S : Type 0} (steps : S → Moment → Input → Result (List Output) StepFault → S → Type 0) (moment : Moment) (token : ℕ) (single : Bool)
    (raw : RawRequest) (target : TargetValue) (request : Request) (manner : Manner) (answer : Result (List Output) StepFault) (so sn : S) (wo wn : Option (List ℕ)) (closed : Bool) (served : Served)
    → request ≡ request_of single raw target → manner ≡ manner_of request moment.now → steps so moment (Ask token request) answer sn
    → served.outputs.items ≡ outputs_of answer → Follows (verdict token manner.head_only manner.close answer) manner.now wo wn closed served.outcome
    → IsAnswered steps (how moment token single) raw target so sn wo wn closed served
answered steps moment token single raw target request manner answer so sn wo wn closed served asked made step listed follows = record {
  answer = answer;
  step = subst (λ (r : Request). steps so moment (Ask token r) answer sn) asked step;
  outputs = listed;
  follows = subst (λ (m : Manner). Follows (verdict token m.head_only m.close answer) m.now wo wn closed served.outcome) (made ∙ ap (λ (r : Request). manner_of r moment.now) asked) follows;
}

module _ {S : Type 0} (steps : S → Moment → Input → Result (List Output) StepFault → S → Type 0) (h : How) (old new : Sight S) (served : Served) where
  -- a request was taken, and the site was asked it
  pub asked : (request : Request) → GivesRequest h.single old.unread new.unread request
      → ((raw : RawRequest) (target : TargetValue) → request ≡ request_of h.single raw target → IsAnswered steps h raw target old.site new.site old.written new.written new.closed served)
      → IsServed steps h old new served
  asked request g made = inr (record {
    raw = g.raw;
    text = g.text;
    message = g.message;
    taken = g.taken;
    directed = inr (record { target = g.target; read = g.read; method = g.method; answered = made g.raw g.target g.says });
  })

  -- a fault was met, and its page was written
  pub refused : (fault : RequestFault) (head_only : Bool) → IsRefused old.unread new.unread fault head_only → new.site ≡ old.site → served.outputs.items ≡ [] → new.closed ≡ true
      → IsPage (status_of fault) head_only h.moment.now fault old.written new.written true served.outcome → IsServed steps h old new served
  refused (Read fault) head_only g site none shut page = inl (record {
    site = site;
    outputs = none;
    closed = shut;
    idle = Faulty fault g.1 (rw (shut, ← g.0) page);
  })
  refused (Target fault) head_only g site none shut page = inr (record {
    raw = g.raw;
    text = g.text;
    message = g.message;
    taken = g.taken;
    directed = inl (record { fault = fault; has_fault = g.has_fault; site = site; outputs = none; closes = shut; page = rw (shut, ← g.without_body) page });
  })

-- the same, if the connection that asks it is single as that was which was given it, and holds as much
pub asked_by : {S : Type 0} (steps : S → Moment → Input → Result (List Output) StepFault → S → Type 0) (moment : Moment) (token : ℕ) (single later : Bool) (old new : Sight S) (left : Option (List ℕ))
    (served : Served) (request : Request) → later ≡ single → new.unread ≡ left → GivesRequest single old.unread left request
    → ((raw : RawRequest) (target : TargetValue) → request ≡ request_of later raw target → IsAnswered steps (how moment token later) raw target old.site new.site old.written new.written new.closed served)
    → IsServed steps (how moment token single) old new served
asked_by steps moment token single later old new left served request same holds g made = asked steps (how moment token single) old new served request
    (subst (λ (u : Option (List ℕ)). GivesRequest single old.unread u request) (sym holds) g)
    (subst (λ (b : Bool). (raw : RawRequest) (target : TargetValue) → request ≡ request_of b raw target → IsAnswered steps (how moment token b) raw target old.site new.site old.written new.written new.closed served) same made)

-- and the fault, if the connection that writes its page holds as much
pub refused_by : {S : Type 0} (steps : S → Moment → Input → Result (List Output) StepFault → S → Type 0) (h : How) (old new : Sight S) (left : Option (List ℕ)) (served : Served) (fault : RequestFault)
    (head_only : Bool) (outcome : Outcome) → new.unread ≡ left → IsRefused old.unread left fault head_only → new.site ≡ old.site → served.outputs.items ≡ [] → new.closed ≡ true
    → served.outcome ≡ outcome → IsPage (status_of fault) head_only h.moment.now fault old.written new.written true outcome → IsServed steps h old new served
refused_by steps h old new left served fault head_only outcome holds g site none shut is page = refused steps h old new served fault head_only
    (subst (λ (u : Option (List ℕ)). IsRefused old.unread u fault head_only) (sym holds) g) site none shut
    (subst (λ (o : Outcome). IsPage (status_of fault) head_only h.moment.now fault old.written new.written true o) (sym is) page)

-- ---- what was written, if nothing is parked

-- what an open connection answers late is what it says
pub said_now : (response : Response) (now : ℕ) (was : Bool) (wo wn : Option (List ℕ)) (closed : Bool) (outcome : Outcome) → was ≡ false
    → IsLateAnswer response now was wo wn closed outcome → IsSaid response now Answered wo wn closed outcome
said_now response now true wo wn closed outcome still_open late = absurd cc
said_now response now false wo wn closed outcome still_open (closes, said, is) = subst (λ (b : Bool). IsSaid response now Answered wo wn b outcome) (sym is) said

pub starved_unparked : (wo wn : Option (List ℕ)) (closed : Bool) (outcome : Outcome) → IsStarved wo wn closed outcome → is_parked outcome ≡ false
starved_unparked wo wn closed outcome (inl h) = ap is_parked h.0
starved_unparked wo wn closed outcome (inr h) = ap is_parked h.0

pub said_unparked : (response : Response) (now : ℕ) (done : Outcome) (wo wn : Option (List ℕ)) (closed : Bool) (outcome : Outcome) → is_parked done ≡ false
    → IsSaid response now done wo wn closed outcome → is_parked outcome ≡ false
said_unparked response now done wo wn closed outcome none (inl (text, is, inl h)) = ap is_parked h.0 ∙ none
said_unparked response now done wo wn closed outcome none (inl (text, is, inr h)) = ap is_parked h.0
said_unparked response now done wo wn closed outcome none (inr h) = starved_unparked wo wn closed outcome h
