-- What was done, step by step: the requests that came, the commits, and what was put out; and what is read off a list of that.
use Rattle.std.specs.Option.{option_to_list}
use Rattle.std.specs.Prelude.{ℕ, ◌+◌, ◌==◌, ◌&&◌, ◌≤◌, Bool, false, cond, Option, Some, None, List, [], ◌∷◌, map, length}
use Rattle.std.specs.List.{flat_map}
use Rattle.sv_model.specs.declared.key.Token.{Token}
use Rattle.sv_model.specs.declared.response.Response.{Response}
use Rattle.sv_model.specs.declared.event.Told.{Told}
use Rattle.sv_model.specs.declared.commit.Commit.{Commit}
use Rattle.sv_model.specs.declared.commit.Commit.TheVariants.{Served, Expired}
use Rattle.sv_model.specs.declared.input.Input.{Input}
use Rattle.sv_model.specs.declared.input.Input.TheVariants.{Ask, Packet as Incoming, Poke, Tick, Move}
use Rattle.sv_model.specs.declared.output.Output.{Output}
use Rattle.sv_model.specs.declared.output.Output.TheVariants.{Answer, Refuse, Send, Moved, MoveRefused}

-- what a step has done: the token of a request that came, the commit with its events, the responses that were put
-- out, and the tokens that were refused
pub record Item : Type 0 where
  pub asked : Option Token
  pub commit : Option Commit
  pub events : List Told
  pub replies : List (Token × Response)
  pub refused : List Token

abbrev pub asked_by : (ℕ → Token) → Input → Option Token
asked_by token (Ask number r) = Some (token number)
asked_by token (Incoming p) = None
asked_by token Poke = None
asked_by token Tick = None
asked_by token (Move k to) = None

abbrev pub reply_in : (ℕ → Token) → Output → Option (Token × Response)
reply_in token (Answer number response) = Some (token number, response)
reply_in token (Refuse number cause) = None
reply_in token (Send p) = None
reply_in token Moved = None
reply_in token (MoveRefused why) = None

abbrev pub refusal_in : (ℕ → Token) → Output → Option Token
refusal_in token (Answer number response) = None
refusal_in token (Refuse number cause) = Some (token number)
refusal_in token (Send p) = None
refusal_in token Moved = None
refusal_in token (MoveRefused why) = None

-- ---- read off a trace

-- the commits, in order
abbrev pub commits_of : List Item → List Commit
commits_of trace = flat_map (λ i. option_to_list i.commit) trace

-- the tokens of the requests that came
abbrev pub asked_of : List Item → List Token
asked_of trace = flat_map (λ i. option_to_list i.asked) trace

-- what listeners were told of the commits; a node of many tells beside it that a session has come or gone
abbrev pub told_of : List Item → List Told
told_of trace = flat_map (λ i. i.events) trace

-- the responses that were put out, each to its token
abbrev pub replies_of : List Item → List (Token × Response)
replies_of trace = flat_map (λ i. i.replies) trace

-- the tokens that were refused
abbrev pub refused_of : List Item → List Token
refused_of trace = flat_map (λ i. i.refused) trace

-- the token of a request that was served
abbrev pub served_by : Commit → List Token
served_by (Served token r now handed fresh) = token ∷ []
served_by (Expired k now) = []

-- the tokens that were served
abbrev pub served_of : List Commit → List Token
served_of commits = flat_map served_by commits

abbrev pub same_token : Token → Token → Bool
same_token a b = (a.number == b.number) && ((a.node == b.node) && (a.boot == b.boot))

-- how often a token is in a list
abbrev pub times : Token → List Token → ℕ
times t [] = 0
times t (u ∷ us) = cond (same_token t u) 1 0 + times t us

abbrev pub is_of : Token → Option Token → Bool
is_of t None = false
is_of t (Some u) = same_token t u

-- how many commits there were when the request of a token came, where so many stand before the trace
abbrev pub arrival_behind : ℕ → List Item → Token → ℕ
arrival_behind before [] t = before
arrival_behind before (i ∷ is) t = cond (is_of t i.asked) before (arrival_behind (before + length (option_to_list i.commit)) is t)

-- each request came under a token of its own
abbrev pub AreDistinct : List Token → Type 0
AreDistinct tokens = (t : Token) → times t tokens ≤ 1

abbrev pub tokens_in : List (Token × Response) → List Token
tokens_in replies = map (λ a. a.0) replies
