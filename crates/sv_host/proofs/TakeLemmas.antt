-- What is given to the node is what has come.
use Rattle.sv_host.proofs.Prelude.{◌≡◌, ◌++◌, ℕ, Bool, false, List, [], Vec, Option, Some, None, Result, Ok, Err, inl, inr, ap, sym, ◌∙◌, subst, true≢false}
use Rattle.sv_host.proofs.Prelude.{IfOk, IfSome, option_map, Global, Came, Peers, Progress, Server, Comes, HearsOn, IsLeftBy, Request, Heard, Open, Socket}
use Rattle.sv_host.proofs.Prelude.{State, came_of, went_of, Finds, HearsAt}
use Rattle.sv_host.specs.declared.serve.Progress.TheVariants as progress
use Rattle.sv_host.specs.Heard.{IsGivenAs, IsOfBytes, input_of}
use Rattle.sv_host.specs.Serve.{Brings, GoesOn, IsHeard, Listens, StaysAt, Takes, came_in, is_more}
use Rattle.sv_model.specs.declared.input.Input.TheVariants as input
use Rattle.sv_net.specs.declared.client.Client.{Client}
use Rattle.sv_net.specs.declared.hearing.Heard.TheVariants as heard
use Rattle.sv_record.specs.declared.frame.Frame.{Frame}

-- what may be given to the node comes
pub brings : (place number : ℕ) (o : Option Came) (p : Progress) → came_in p ≡ o → IfSome o (λ came. Comes place number came) → Brings place number p
brings place number o p is comes = subst (λ (x : Option Came). IfSome x (λ came. Comes place number came)) (sym is) comes

-- what has come of some bytes was heard of a connection
pub heard_of : (peers : Peers) (greets : Bool) (was : State) (piece : List ℕ) (number : ℕ) (p : Progress) → Takes peers greets was piece number p → IsHeard number p
heard_of peers greets was piece number progress.More takes = tt
heard_of peers greets was piece number progress.Done takes = tt
heard_of peers greets was piece number (progress.Came came) takes = record { peers = peers; greets = greets; was = was; piece = piece; of_bytes = takes }

pub all_heard : {F : Type 0} (peers : Peers) (greets : Bool) (was : State) (piece : List ℕ) (number : ℕ) (answer : Result Progress F)
    → IfOk answer (λ p. Takes peers greets was piece number p) → IfOk answer (λ p. IsHeard number p)
all_heard peers greets was piece number (Ok p) takes = heard_of peers greets was piece number p takes
all_heard peers greets was piece number (Err stop) takes = tt

-- nothing is said of a connection that has brought something
pub stays : (greets : Bool) (was : State) (piece : List ℕ) (place : ℕ) (new : Server) (p : Progress) → is_more p ≡ false → StaysAt greets was piece place new p
stays greets was piece place new progress.More is = absurd (true≢false is)
stays greets was piece place new progress.Done is = tt
stays greets was piece place new (progress.Came came) is = tt

given_some : (peers : Peers) (greets : Bool) (was begun : State) (piece : List ℕ) (number : ℕ) (came : Heard) (o : Option Came) → Finds greets was piece begun → HearsAt begun piece came
    → IfSome o (λ c. IsGivenAs peers number came c.input) → IfSome o (λ c. IsOfBytes peers greets was piece number c.input)
given_some peers greets was begun piece number came None found hears given = tt
given_some peers greets was begun piece number came (Some c) found hears given =
    record { begun = begun; found = found; came = came; hears = hears; given_as = given }

taken : (peers : Peers) (greets : Bool) (was begun : State) (piece : List ℕ) (number : ℕ) (came : Heard) (o : Option Came) (p : Progress) → came_in p ≡ o → Finds greets was piece begun → HearsAt begun piece came
    → IfSome o (λ c. IsGivenAs peers number came c.input) → Takes peers greets was piece number p
taken peers greets was begun piece number came o p is found hears given =
    subst (λ (x : Option Came). IfSome x (λ c. IsOfBytes peers greets was piece number c.input)) (sym is) (given_some peers greets was begun piece number came o found hears given)

asks : (peers : Peers) (number : ℕ) (request : Request) (client : Client) (o : Option Came) (whole : Came) → whole.input ≡ input.Ask number request → IfSome o (λ c. c ≡ whole)
    → IfSome o (λ c. IsGivenAs peers number (heard.Request client request) c.input)
asks peers number request client None whole is same = tt
asks peers number request client (Some c) whole is same = ap (λ (x : Came). x.input) same ∙ is

frames : (peers : Peers) (number : ℕ) (frame : Frame) (rest : Vec ℕ Global) (o : Option Came) → option_map (λ (c : Came). c.input) o ≡ input_of peers frame
    → IfSome o (λ c. IsGivenAs peers number (heard.Frame frame rest) c.input)
frames peers number frame rest None is = tt
frames peers number frame rest (Some c) is = sym is

-- a request
pub asked : (peers : Peers) (greets : Bool) (was begun : State) (piece : List ℕ) (number : ℕ) (came : Heard) (request : Request) (client : Client) (o : Option Came) (whole : Came) (p : Progress)
    → came ≡ heard.Request client request → came_in p ≡ o → Finds greets was piece begun → HearsAt begun piece came
    → whole.input ≡ input.Ask number request → IfSome o (λ c. c ≡ whole) → Takes peers greets was piece number p
asked peers greets was begun piece number came request client o whole p is_heard is found hears is_input same =
    taken peers greets was begun piece number came o p is found hears
    (subst (λ (h : Heard). IfSome o (λ c. IsGivenAs peers number h c.input)) (sym is_heard) (asks peers number request client o whole is_input same))

-- a frame
pub framed : (peers : Peers) (greets : Bool) (was begun : State) (piece : List ℕ) (number : ℕ) (came : Heard) (frame : Frame) (rest : Vec ℕ Global) (o : Option Came) (p : Progress)
    → came ≡ heard.Frame frame rest → came_in p ≡ o → Finds greets was piece begun → HearsAt begun piece came
    → option_map (λ (c : Came). c.input) o ≡ input_of peers frame → Takes peers greets was piece number p
framed peers greets was begun piece number came frame rest o p is_heard is found hears inputs =
    taken peers greets was begun piece number came o p is found hears
    (subst (λ (h : Heard). IfSome o (λ c. IsGivenAs peers number h c.input)) (sym is_heard) (frames peers number frame rest o inputs))

-- ---- what was read, and what is still to be heard

pub gives_asked : (peers : Peers) (number : ℕ) (came : Heard) (request : Request) (client : Client) (o : Option Came) (whole : Came) (p : Progress) → came ≡ heard.Request client request → came_in p ≡ o → whole.input ≡ input.Ask number request
    → IfSome o (λ c. c ≡ whole) → IfSome (came_in p) (λ c. IsGivenAs peers number came c.input)
gives_asked peers number came request client o whole p is_heard is is_input same =
    subst (λ (x : Option Came). IfSome x (λ c. IsGivenAs peers number came c.input)) (sym is)
    (subst (λ (h : Heard). IfSome o (λ c. IsGivenAs peers number h c.input)) (sym is_heard) (asks peers number request client o whole is_input same))

pub gives_framed : (peers : Peers) (number : ℕ) (came : Heard) (frame : Frame) (rest : Vec ℕ Global) (o : Option Came) (p : Progress) → came ≡ heard.Frame frame rest → came_in p ≡ o
    → option_map (λ (c : Came). c.input) o ≡ input_of peers frame → IfSome (came_in p) (λ c. IsGivenAs peers number came c.input)
gives_framed peers number came frame rest o p is_heard is inputs =
    subst (λ (x : Option Came). IfSome x (λ c. IsGivenAs peers number came c.input)) (sym is)
    (subst (λ (h : Heard). IfSome o (λ c. IsGivenAs peers number h c.input)) (sym is_heard) (frames peers number frame rest o inputs))

pub left_as : (came known : Heard) (mid socket : Socket) (o : Option Open) → came ≡ known → mid ≡ socket → IfSome o (λ held. IsLeftBy known mid held) → IfSome o (λ held. IsLeftBy came socket held)
left_as came known mid socket o is on left =
    subst (λ (h : Heard). IfSome o (λ held. IsLeftBy h socket held)) (sym is) (subst (λ (s : Socket). IfSome o (λ held. IsLeftBy known s held)) on left)

pub listens : {F : Type 0} (peers : Peers) (greets : Bool) (was read : Open) (piece : List ℕ) (place number : ℕ) (old new : Server) (answer : Result Progress F) → read.state ≡ was.state → came_of read.socket ≡ came_of was.socket ++ piece
    → went_of read.socket ≡ went_of was.socket → IfOk answer (λ p. HearsOn peers greets read piece place number old new p) → IfOk answer (λ p. Listens peers greets was place number old new p)
listens peers greets was read piece place number old new (Ok p) state came went hears =
    record { piece = piece; read = read; state = state; came = came; went = went; heard_as = inl hears }
listens peers greets was read piece place number old new (Err stop) state came went hears = tt

pub served : {F : Type 0} (peers : Peers) (greets : Bool) (was : Open) (place number : ℕ) (old new : Server) (answer : Result Progress F) → IfOk answer (λ p. HearsOn peers greets was [] place number old new p)
    → IfOk answer (λ p. GoesOn peers greets was place number old new p)
served peers greets was place number old new (Ok p) hears = inl hears
served peers greets was place number old new (Err stop) hears = tt

pub read : {F : Type 0} (peers : Peers) (greets : Bool) (was : Open) (place number : ℕ) (old new : Server) (answer : Result Progress F) → IfOk answer (λ p. Listens peers greets was place number old new p)
    → IfOk answer (λ p. GoesOn peers greets was place number old new p)
read peers greets was place number old new (Ok p) listened = inr (inl listened)
read peers greets was place number old new (Err stop) listened = tt
