-- What a story says of its connection.
use Rattle.sv_host.proofs.Prelude.{◌≡◌, ◌≢◌, ◌++◌, ◌∷◌, ℕ, Bool, true, false, true≢false, List, [], inl, inr, refl, ap, sym, ◌∙◌, subst, append-nil, held_by}
use Rattle.sv_host.proofs.Prelude.{Deed, Story, Rests, Hears, Parts, Request, came_of, parts, said_on, turn_of, unread, unsent, Finds, HearsAt, Heard, Open}
use Rattle.sv_host.proofs.Prelude.{State}
use Rattle.std.proofs.lemmas.List.{append_assoc}
use Rattle.sv_host.specs.Serve.{IsBehindFrame}
use Rattle.sv_host.specs.Stories.{AreClients, IsHeardTo, IsHearing, StoriesAreWhole, asked_in, came_in, said_in}
use Rattle.sv_host.specs.Stories.{Says}
use Rattle.sv_net.specs.Hearing.{BeginsBy, HearsClient, HearsFramer, HearsGreeter, HearsPeer}
use Rattle.sv_net.specs.Life.{Splits}
use Rattle.sv_net.specs.declared.client.Client.{Client}
use Rattle.sv_net.specs.declared.hearing.Heard.TheVariants as heard
use Rattle.sv_net.specs.declared.state.State.TheVariants as state
use Rattle.sv_net.specs.declared.state.Turn.TheVariants as turn

-- ---- who is heard

-- has nothing to be told, and hasn't been told all
silent : (s : State) → turn_of s ≢ turn.Socket → unsent s ≡ []
silent state.New r = refl
silent (state.Asking client) r = refl
silent (state.Asked client) r = refl
silent (state.Resting client) r = refl
silent (state.Framing bytes) r = refl
silent (state.Greeting bytes) r = refl
silent (state.Taken peer) r = refl
silent (state.Peer peer) r = refl
silent (state.Waiting client head_only close token is_silent) r = absurd (r refl)
silent state.Ordering r = absurd (r refl)
silent (state.Holding byte) r = absurd (r refl)
silent (state.Saying text next) r = absurd (r refl)
silent (state.Parting bytes) r = absurd (r refl)
silent (state.Calling to frame holder) r = absurd (r refl)

stays_on : (s : State) → turn_of s ≢ turn.Socket → parts s ≡ true → ⊥
stays_on state.New r p = true≢false (sym p)
stays_on (state.Asking client) r p = true≢false (sym p)
stays_on (state.Asked client) r p = true≢false (sym p)
stays_on (state.Resting client) r p = true≢false (sym p)
stays_on (state.Framing bytes) r p = true≢false (sym p)
stays_on (state.Greeting bytes) r p = true≢false (sym p)
stays_on (state.Taken peer) r p = true≢false (sym p)
stays_on (state.Peer peer) r p = true≢false (sym p)
stays_on (state.Waiting client head_only close token is_silent) r p = true≢false (sym p)
stays_on state.Ordering r p = true≢false (sym p)
stays_on (state.Holding byte) r p = true≢false (sym p)
stays_on (state.Saying text next) r p = true≢false (sym p)
stays_on (state.Parting bytes) r p = r refl
stays_on (state.Calling to frame holder) r p = true≢false (sym p)

-- ---- how a piece finds a connection

begun_unread : (greets : Bool) (first : ℕ) (begun : State) → BeginsBy greets first begun → unread begun ≡ []
begun_unread greets first state.New b = absurd b
begun_unread greets first (state.Asking client) b = b.2.1.empty
begun_unread greets first (state.Asked client) b = absurd b
begun_unread greets first (state.Resting client) b = absurd b
begun_unread greets first (state.Framing bytes) b = b.1
begun_unread greets first (state.Greeting bytes) b = b.2
begun_unread greets first (state.Taken peer) b = absurd b
begun_unread greets first (state.Peer peer) b = absurd b
begun_unread greets first (state.Waiting client head_only close token is_silent) b = absurd b
begun_unread greets first state.Ordering b = absurd b
begun_unread greets first (state.Holding byte) b = absurd b
begun_unread greets first (state.Saying text next) b = absurd b
begun_unread greets first (state.Parting bytes) b = absurd b
begun_unread greets first (state.Calling to frame holder) b = absurd b

-- what is still to be heard at the state that it finds, after which nobody is who isn't heard; a newcomer stays one only if nothing came
record IsFound (was begun : State) (piece : List ℕ) : Type 0 where
  unread_is : unread begun ≡ unread was
  heard_on : turn_of begun ≢ turn.Socket
  nothing : begun ≡ state.New → piece ≡ []

begun_reads : (greets : Bool) (first : ℕ) (begun : State) → BeginsBy greets first begun → turn_of begun ≢ turn.Socket
begun_reads greets first state.New b = absurd b
begun_reads greets first (state.Asking client) b = λ is. cc
begun_reads greets first (state.Asked client) b = absurd b
begun_reads greets first (state.Resting client) b = absurd b
begun_reads greets first (state.Framing bytes) b = λ is. cc
begun_reads greets first (state.Greeting bytes) b = λ is. cc
begun_reads greets first (state.Taken peer) b = absurd b
begun_reads greets first (state.Peer peer) b = absurd b
begun_reads greets first (state.Waiting client head_only close token is_silent) b = absurd b
begun_reads greets first state.Ordering b = absurd b
begun_reads greets first (state.Holding byte) b = absurd b
begun_reads greets first (state.Saying text next) b = absurd b
begun_reads greets first (state.Parting bytes) b = absurd b
begun_reads greets first (state.Calling to frame holder) b = absurd b

no_newcomer : (greets : Bool) (first : ℕ) (begun : State) → BeginsBy greets first begun → begun ≡ state.New → ⊥
no_newcomer greets first begun b is = subst (λ s. BeginsBy greets first s) is b

same_found : (was begun : State) (piece : List ℕ) → turn_of was ≢ turn.Socket → (was ≡ state.New → piece ≡ []) → begun ≡ was → IsFound was begun piece
same_found was begun piece r nothing is =
    record { unread_is = ap unread is; heard_on = λ t. r (sym (ap turn_of is) ∙ t); nothing = λ new. nothing (sym is ∙ new) }

found : (greets : Bool) (was begun : State) (piece : List ℕ) → turn_of was ≢ turn.Socket → Finds greets was piece begun → IsFound was begun piece
found greets state.New begun [] r f = same_found state.New begun [] r (λ new. refl) f
found greets state.New begun (first ∷ bytes) r f =
    record {
      unread_is = begun_unread greets first begun f;
      heard_on = begun_reads greets first begun f;
      nothing = λ new. absurd (no_newcomer greets first begun f new);
    }
found greets (state.Asking client) begun piece r f = same_found (state.Asking client) begun piece r (λ new. absurd (let h = new in cc)) f
found greets (state.Asked client) begun piece r f = same_found (state.Asked client) begun piece r (λ new. absurd (let h = new in cc)) f
found greets (state.Resting client) begun piece r f = same_found (state.Resting client) begun piece r (λ new. absurd (let h = new in cc)) f
found greets (state.Framing bytes) begun piece r f = same_found (state.Framing bytes) begun piece r (λ new. absurd (let h = new in cc)) f
found greets (state.Greeting bytes) begun piece r f = same_found (state.Greeting bytes) begun piece r (λ new. absurd (let h = new in cc)) f
found greets (state.Taken peer) begun piece r f = same_found (state.Taken peer) begun piece r (λ new. absurd (let h = new in cc)) f
found greets (state.Peer peer) begun piece r f = same_found (state.Peer peer) begun piece r (λ new. absurd (let h = new in cc)) f
found greets (state.Waiting client head_only close token is_silent) begun piece r f = absurd (r refl)
found greets state.Ordering begun piece r f = absurd (r refl)
found greets (state.Holding byte) begun piece r f = absurd (r refl)
found greets (state.Saying text next) begun piece r f = absurd (r refl)
found greets (state.Parting bytes) begun piece r f = absurd (r refl)
found greets (state.Calling to frame holder) begun piece r f = absurd (r refl)

-- ---- less than a request or a frame

-- all of it is kept
record KeepsAll (bytes : List ℕ) (next : State) : Type 0 where
  nothing_unsent : unsent next ≡ []
  all : unread next ≡ bytes

client_keeps : (c : Client) (piece : List ℕ) (next : State) → HearsClient c piece (heard.More next) → KeepsAll (held_by c.connection ++ piece) next
client_keeps c piece state.New h = absurd h
client_keeps c piece (state.Asking n) h = record { nothing_unsent = refl; all = sym (append-nil (held_by n.connection)) ∙ h.received.3 }
client_keeps c piece (state.Asked n) h = absurd h
client_keeps c piece (state.Resting n) h = record { nothing_unsent = refl; all = sym (append-nil (held_by n.connection)) ∙ h.received.3 }
client_keeps c piece (state.Framing bytes) h = absurd h
client_keeps c piece (state.Greeting bytes) h = absurd h
client_keeps c piece (state.Taken peer) h = absurd h
client_keeps c piece (state.Peer peer) h = absurd h
client_keeps c piece (state.Waiting client head_only close token is_silent) h = absurd h
client_keeps c piece state.Ordering h = absurd h
client_keeps c piece (state.Holding byte) h = absurd h
client_keeps c piece (state.Saying text next) h = absurd h
client_keeps c piece (state.Parting bytes) h = absurd h
client_keeps c piece (state.Calling to frame holder) h = absurd h

framer_keeps : (bytes : List ℕ) (next : State) → HearsFramer bytes (heard.More next) → KeepsAll bytes next
framer_keeps bytes state.New h = absurd h
framer_keeps bytes (state.Asking n) h = absurd h
framer_keeps bytes (state.Asked n) h = absurd h
framer_keeps bytes (state.Resting n) h = absurd h
framer_keeps bytes (state.Framing kept) h = record { nothing_unsent = refl; all = h.1 }
framer_keeps bytes (state.Greeting kept) h = absurd h
framer_keeps bytes (state.Taken peer) h = absurd h
framer_keeps bytes (state.Peer peer) h = absurd h
framer_keeps bytes (state.Waiting client head_only close token is_silent) h = absurd h
framer_keeps bytes state.Ordering h = absurd h
framer_keeps bytes (state.Holding byte) h = absurd h
framer_keeps bytes (state.Saying text next) h = absurd h
framer_keeps bytes (state.Parting left) h = absurd h
framer_keeps bytes (state.Calling to frame holder) h = absurd h

greeter_keeps : (bytes : List ℕ) (next : State) → HearsGreeter bytes (heard.More next) → KeepsAll bytes next
greeter_keeps bytes state.New h = absurd h
greeter_keeps bytes (state.Asking n) h = absurd h
greeter_keeps bytes (state.Asked n) h = absurd h
greeter_keeps bytes (state.Resting n) h = absurd h
greeter_keeps bytes (state.Framing kept) h = absurd h
greeter_keeps bytes (state.Greeting kept) h = record { nothing_unsent = refl; all = h.1 }
greeter_keeps bytes (state.Taken peer) h = absurd h
greeter_keeps bytes (state.Peer peer) h = absurd h
greeter_keeps bytes (state.Waiting client head_only close token is_silent) h = absurd h
greeter_keeps bytes state.Ordering h = absurd h
greeter_keeps bytes (state.Holding byte) h = absurd h
greeter_keeps bytes (state.Saying text next) h = absurd h
greeter_keeps bytes (state.Parting left) h = absurd h
greeter_keeps bytes (state.Calling to frame holder) h = absurd h

peer_keeps : (bytes : List ℕ) (next : State) → HearsPeer bytes (heard.More next) → KeepsAll bytes next
peer_keeps bytes state.New h = absurd h
peer_keeps bytes (state.Asking n) h = absurd h
peer_keeps bytes (state.Asked n) h = absurd h
peer_keeps bytes (state.Resting n) h = absurd h
peer_keeps bytes (state.Framing kept) h = absurd h
peer_keeps bytes (state.Greeting kept) h = absurd h
peer_keeps bytes (state.Taken peer) h = absurd h
peer_keeps bytes (state.Peer peer) h = record { nothing_unsent = refl; all = h.1 }
peer_keeps bytes (state.Waiting client head_only close token is_silent) h = absurd h
peer_keeps bytes state.Ordering h = absurd h
peer_keeps bytes (state.Holding byte) h = absurd h
peer_keeps bytes (state.Saying text next) h = absurd h
peer_keeps bytes (state.Parting left) h = absurd h
peer_keeps bytes (state.Calling to frame holder) h = absurd h

more_is : (a b : State) → heard.More a ≡ heard.More b → a ≡ b
more_is a b is = cc

keeps_new : (piece : List ℕ) (next : State) → piece ≡ [] → next ≡ state.New → KeepsAll piece next
keeps_new piece next nothing is = record { nothing_unsent = ap unsent is; all = ap unread is ∙ sym nothing }

keeps : (begun : State) (piece : List ℕ) (next : State) → turn_of begun ≢ turn.Socket → (begun ≡ state.New → piece ≡ []) → HearsAt begun piece (heard.More next) → KeepsAll (unread begun ++ piece) next
keeps state.New piece next r nothing h = keeps_new piece next (nothing refl) (more_is next state.New h)
keeps (state.Asking c) piece next r nothing h = client_keeps c piece next h
keeps (state.Asked c) piece next r nothing h = client_keeps c piece next h
keeps (state.Resting c) piece next r nothing h = client_keeps c piece next h
keeps (state.Framing bytes) piece next r nothing h = framer_keeps (bytes.items ++ piece) next h
keeps (state.Greeting bytes) piece next r nothing h = greeter_keeps (bytes.items ++ piece) next h
keeps (state.Taken peer) piece next r nothing h = peer_keeps (peer.bytes.items ++ piece) next h.0
keeps (state.Peer peer) piece next r nothing h = peer_keeps (peer.bytes.items ++ piece) next h.0
keeps (state.Waiting client head_only close token is_silent) piece next r nothing h = absurd (r refl)
keeps state.Ordering piece next r nothing h = absurd (r refl)
keeps (state.Holding byte) piece next r nothing h = absurd (r refl)
keeps (state.Saying text after) piece next r nothing h = absurd (r refl)
keeps (state.Parting bytes) piece next r nothing h = absurd (r refl)
keeps (state.Calling to frame holder) piece next r nothing h = absurd (r refl)

-- ---- a request

client_gives : (c next : Client) (piece : List ℕ) (request : Request) → HearsClient c piece (heard.Request next request) → Splits (held_by c.connection ++ piece) (request ∷ []) (held_by next.connection)
client_gives c next piece request h =
    let g = h.received.2 in (
      g.text,
      held_by next.connection,
      g.raw,
      _,
      g.message,
      (record { target = g.target; read = g.read; says = g.says }),
      g.taken ∙ ap (λ xs. g.text ++ xs) (append-nil (held_by next.connection)),
      refl,
    )

no_more : (next : State) (client : Client) (request : Request) → heard.Request client request ≡ heard.More next → ⊥
no_more next client request is = cc

gives : (begun : State) (piece : List ℕ) (client : Client) (request : Request) → HearsAt begun piece (heard.Request client request) → Splits (unread begun ++ piece) (request ∷ []) (held_by client.connection)
gives state.New piece client request h = absurd (no_more state.New client request h)
gives (state.Asking c) piece client request h = client_gives c client piece request h
gives (state.Asked c) piece client request h = client_gives c client piece request h
gives (state.Resting c) piece client request h = client_gives c client piece request h
gives (state.Framing bytes) piece client request h = absurd h
gives (state.Greeting bytes) piece client request h = absurd h
gives (state.Taken peer) piece client request h = absurd h.0
gives (state.Peer peer) piece client request h = absurd h.0
gives (state.Waiting other head_only close token is_silent) piece client request h = absurd (no_more _ client request h)
gives state.Ordering piece client request h = absurd (no_more _ client request h)
gives (state.Holding byte) piece client request h = absurd (no_more _ client request h)
gives (state.Saying text next) piece client request h = absurd (no_more _ client request h)
gives (state.Parting bytes) piece client request h = absurd (no_more _ client request h)
gives (state.Calling to frame holder) piece client request h = absurd (no_more _ client request h)

-- ---- what was said

behind_silent : (rest : List ℕ) (s : State) → IsBehindFrame rest s → unsent s ≡ []
behind_silent rest s (inl is) = is.nothing_unsent
behind_silent rest s (inr is) = is.nothing_unsent

left_silent : (begun : State) (piece : List ℕ) (came : Heard) (now : State) → turn_of begun ≢ turn.Socket → (begun ≡ state.New → piece ≡ []) → HearsAt begun piece came → IsHeardTo came now → unsent now ≡ []
left_silent begun piece (heard.More next) now r nothing h left = ap unsent left ∙ (keeps begun piece next r nothing h).nothing_unsent
left_silent begun piece (heard.Request client request) now r nothing h left = left.nothing_unsent
left_silent begun piece (heard.Frame frame rest) now r nothing h left = behind_silent rest.items now left
left_silent begun piece (heard.Refused client fault head_only) now r nothing h left = left.nothing_unsent
left_silent begun piece (heard.Greeting greeting) now r nothing h left = absurd left
left_silent begun piece heard.Nothing now r nothing h left = absurd left

heard_said : (piece : List ℕ) (came : Heard) (was held : Open) → IsHearing piece came was held → said_on held ≡ said_on was
heard_said piece came was held h =
    let f = found h.greets was.state h.begun piece h.listened h.found in
    λ i. h.nothing_went i ++ (left_silent h.begun piece came held.state f.heard_on f.nothing h.hears h.left ∙ sym (silent was.state h.listened)) i

-- ---- one thing, and what follows it

said_then : (one two three said rest : List ℕ) → two ≡ one ++ said → three ≡ two ++ rest → three ≡ one ++ (said ++ rest)
said_then one two three said rest first next = next ∙ ap (λ xs. xs ++ rest) first ∙ append_assoc one said rest

-- who has been told all has been from then on
parts_on : (deeds : List Deed) (a b : Open) → Story deeds a b → parts a.state ≡ true → parts b.state ≡ true
parts_on [] a b is p = ap (λ (o : Open). parts o.state) is ∙ p
parts_on (Rests ∷ deeds) a b (mid, does, rest) p = parts_on deeds mid b rest (does.parts_on p)
parts_on (Hears piece came ∷ deeds) a b (mid, does, rest) p = absurd (stays_on a.state does.listened p)
parts_on (Says text ∷ deeds) a b (mid, does, rest) p = absurd (true≢false (sym p ∙ does.0.listened))
parts_on (Parts text ∷ deeds) a b (mid, does, rest) p = absurd (true≢false (sym p ∙ does.0.listened))

not_yet : (x y : Bool) → (x ≡ true → y ≡ true) → y ≡ false → x ≡ false
not_yet true y on is = absurd (true≢false (sym (on refl) ∙ is))
not_yet false y on is = refl

all_said : (deeds : List Deed) (a b : Open) → Story deeds a b → said_on b ≡ said_on a ++ said_in deeds
all_said [] a b is = ap said_on is ∙ sym (append-nil (said_on a))
all_said (Rests ∷ deeds) a b (mid, does, rest) = all_said deeds mid b rest ∙ ap (λ xs. xs ++ said_in deeds) does.said
all_said (Hears piece came ∷ deeds) a b (mid, does, rest) = all_said deeds mid b rest ∙ ap (λ xs. xs ++ said_in deeds) (heard_said piece came a mid does)
all_said (Says text ∷ deeds) a b (mid, does, rest) = said_then (said_on a) (said_on mid) (said_on b) text (said_in deeds) does.0.said (all_said deeds mid b rest)
all_said (Parts text ∷ deeds) a b (mid, does, rest) = said_then (said_on a) (said_on mid) (said_on b) text (said_in deeds) does.0.said (all_said deeds mid b rest)

all_came : (deeds : List Deed) (a b : Open) → Story deeds a b → parts b.state ≡ false → came_of b.socket ≡ came_of a.socket ++ came_in deeds
all_came [] a b is p = ap (λ (o : Open). came_of o.socket) is ∙ sym (append-nil (came_of a.socket))
all_came (Rests ∷ deeds) a b (mid, does, rest) p =
    all_came deeds mid b rest p ∙ ap (λ xs. xs ++ came_in deeds) (does.came (not_yet (parts mid.state) (parts b.state) (parts_on deeds mid b rest) p))
all_came (Hears piece came ∷ deeds) a b (mid, does, rest) p =
    said_then (came_of a.socket) (came_of mid.socket) (came_of b.socket) piece (came_in deeds) does.brought (all_came deeds mid b rest p)
all_came (Says text ∷ deeds) a b (mid, does, rest) p = all_came deeds mid b rest p ∙ ap (λ xs. xs ++ came_in deeds) does.0.nothing_came
all_came (Parts text ∷ deeds) a b (mid, does, rest) p = all_came deeds mid b rest p ∙ ap (λ xs. xs ++ came_in deeds) does.0.nothing_came

-- ---- what was asked

splits_as : (one two : List ℕ) (requests : List Request) (rest : List ℕ) → one ≡ two → Splits two requests rest → Splits one requests rest
splits_as one two requests rest is s = subst (λ xs. Splits xs requests rest) (sym is) s

kept_on : (bytes was piece kept later : List ℕ) → was ≡ bytes → kept ≡ was ++ piece → bytes ++ (piece ++ later) ≡ kept ++ later
kept_on bytes was piece kept later same all =
    sym (append_assoc bytes piece later) ∙ ap (λ xs. (xs ++ piece) ++ later) (sym same) ∙ ap (λ xs. xs ++ later) (sym all)

-- one, and then others
given_on : (bytes was piece rest later last : List ℕ) (request : Request) (requests : List Request) → was ≡ bytes → Splits (was ++ piece) (request ∷ []) rest → Splits (rest ++ later) requests last
    → Splits (bytes ++ (piece ++ later)) (request ∷ requests) last
given_on bytes was piece rest later last request requests same (text, next, raw, single, message, read, split, is) others = (
  text,
  next ++ later,
  raw,
  single,
  message,
  read,
  sym (append_assoc bytes piece later) ∙ ap (λ xs. (xs ++ piece) ++ later) (sym same) ∙ ap (λ xs. xs ++ later) split ∙ append_assoc text next later,
  subst (λ xs. Splits (xs ++ later) requests last) (sym is) others,
)

all_asked : (deeds : List Deed) (a b : Open) → Story deeds a b → AreClients deeds → Splits (unread a.state ++ came_in deeds) (asked_in deeds) (unread b.state)
all_asked [] a b is clients = append-nil (unread a.state) ∙ sym (ap (λ (o : Open). unread o.state) is)
all_asked (Rests ∷ deeds) a b (mid, does, rest) clients =
    splits_as (unread a.state ++ came_in deeds) (unread mid.state ++ came_in deeds) (asked_in deeds) (unread b.state) (ap (λ xs. xs ++ came_in deeds) (sym does.unread_is)) (all_asked deeds mid b rest clients)
all_asked (Hears piece (heard.More next) ∷ deeds) a b (mid, does, rest) clients =
    let f = found does.greets a.state does.begun piece does.listened does.found in
    splits_as (unread a.state ++ (piece ++ came_in deeds)) (unread mid.state ++ came_in deeds) (asked_in deeds) (unread b.state)
    (kept_on (unread a.state) (unread does.begun) piece (unread mid.state) (came_in deeds) f.unread_is (ap unread does.left ∙ (keeps does.begun piece next f.heard_on f.nothing does.hears).all))
    (all_asked deeds mid b rest clients.1)
all_asked (Hears piece (heard.Request client request) ∷ deeds) a b (mid, does, rest) clients =
    let f = found does.greets a.state does.begun piece does.listened does.found in
    given_on (unread a.state) (unread does.begun) piece (unread mid.state) (came_in deeds) (unread b.state) request (asked_in deeds) f.unread_is
    (subst (λ xs. Splits (unread does.begun ++ piece) (request ∷ []) xs) (sym does.left.rest_is) (gives does.begun piece client request does.hears)) (all_asked deeds mid b rest clients.1)
all_asked (Hears piece (heard.Frame frame behind) ∷ deeds) a b (mid, does, rest) clients = absurd clients.0
all_asked (Hears piece (heard.Refused client fault head_only) ∷ deeds) a b (mid, does, rest) clients = absurd clients.0
all_asked (Hears piece (heard.Greeting greeting) ∷ deeds) a b (mid, does, rest) clients = absurd clients.0
all_asked (Hears piece heard.Nothing ∷ deeds) a b (mid, does, rest) clients = absurd clients.0
all_asked (Says text ∷ deeds) a b (mid, does, rest) clients =
    splits_as (unread a.state ++ came_in deeds) (unread mid.state ++ came_in deeds) (asked_in deeds) (unread b.state) (ap (λ xs. xs ++ came_in deeds) (sym does.1)) (all_asked deeds mid b rest clients)
all_asked (Parts text ∷ deeds) a b (mid, does, rest) clients = absurd clients

pub stories_are_whole : StoriesAreWhole
stories_are_whole deeds first last story =
    record { said = all_said deeds first last story; came = all_came deeds first last story; asked = all_asked deeds first last story }
