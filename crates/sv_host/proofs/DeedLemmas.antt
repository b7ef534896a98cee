-- What is told on a connection, as what happens on it.
use Rattle.sv_host.proofs.Prelude.{◌≡◌, ◌⊎◌, ◌∷◌, ℕ, Bool, false, List, [], Option, Some, None, inl, inr, refl, ap, sym, ◌∙◌, subst, IfSome, slice_get, AllGoOn}
use Rattle.sv_host.proofs.Prelude.{CarryOn, GoesBack, HasStory, came_of, Continues, GoOnBut, ObeysThere, parts, said_on, unread, elsewhere, held_at, held_in}
use Rattle.sv_host.proofs.Prelude.{places_of, Answers, Tells, Connections, Open, State}
use Rattle.sv_connection.specs.Speak.{memory_lines}
use Rattle.sv_host.specs.Stories.{Says as SaysDeed, Parts as PartsDeed}
use Rattle.sv_host.proofs.StoryLemmas.{all_at, all_places, all_same, back_begins, back_same, carry, has_one, rests}
use Rattle.sv_model.specs.declared.response.Response.{Response}
use Rattle.sv_net.proofs.ContinueLemmas.{saying_unread}
use Rattle.sv_net.specs.Exchange.{Obeys}
use Rattle.sv_net.specs.Places.{TellsAt, manner_at, manner_in, manner_of}
use Rattle.sv_net.specs.Saying.{HearsNext, Says}
use Rattle.sv_net.specs.Sending.{Admits, IsOnItsWay, IsOwn, Sends, SendsBehind}
use Rattle.sv_net.specs.declared.state.Next.{Next}
use Rattle.sv_net.specs.declared.state.Next.TheVariants.{Close, Listen, Part}
use Rattle.sv_net.specs.declared.state.State.TheVariants as state

-- ---- a text

-- what is after it is heard, or the connection closes
said_story : (text : List ℕ) (next : Next) (was held : Open) → parts was.state ≡ false → Says text next (said_on was) (came_of was.socket) held → HearsNext (unread was.state) next → HasStory was held
said_story text Close was held listened says hears =
    has_one (PartsDeed text) was held (record { said = says.said; nothing_came = says.nothing_came; listened = listened }, saying_unread text Close held.state says.stands)
said_story text Part was held listened says hears =
    has_one (PartsDeed text) was held (record { said = says.said; nothing_came = says.nothing_came; listened = listened }, saying_unread text Part held.state says.stands)
said_story text (Listen client) was held listened says hears =
    has_one (SaysDeed text) was held (record { said = says.said; nothing_came = says.nothing_came; listened = listened }, saying_unread text (Listen client) held.state says.stands ∙ hears)

pub tells_story : (response : Response) (now : ℕ) (was held : Open) → parts was.state ≡ false → Tells response now was held → HasStory was held
tells_story response now was held listened t = said_story t.text t.next was held listened t.says t.hears

pub answers_story : (response : Response) (now : ℕ) (was held : Open) → parts was.state ≡ false → Answers response now was held → HasStory was held
answers_story response now was held listened (inl t) = tells_story response now was held listened t
answers_story response now was held listened (inr says) = said_story memory_lines Part was held listened says tt

obeys_story : (byte : ℕ) (was held : Open) → Obeys byte was held → HasStory was held
obeys_story byte was held o =
    has_one (PartsDeed (byte ∷ [])) was held (record { said = o.said; nothing_came = o.nothing_came; listened = ap parts o.ordered }, o.nothing_unread)

-- ---- whoever waits under a number

waits_on : (token : ℕ) (s : State) (m : Bool × Bool) → manner_in token s ≡ Some m → parts s ≡ false
waits_on token state.New m is = refl
waits_on token (state.Asking client) m is = refl
waits_on token (state.Asked client) m is = refl
waits_on token (state.Resting client) m is = refl
waits_on token (state.Framing bytes) m is = refl
waits_on token (state.Greeting bytes) m is = refl
waits_on token (state.Taken peer) m is = refl
waits_on token (state.Peer peer) m is = refl
waits_on token (state.Waiting client head_only close own silent) m is = refl
waits_on token state.Ordering m is = refl
waits_on token (state.Holding byte) m is = refl
waits_on token (state.Saying text next) m is = refl
waits_on token (state.Parting bytes) m is = cc
waits_on token (state.Calling to frame holder) m is = refl

told_held : (told : Open → Open → Type 0) (was : Open) (n : Option Open) → ((held : Open) → told was held → HasStory was held) → IfSome n (λ held. told was held) → IfSome n (GoesBack (Some was))
told_held told was None story is_told = tt
told_held told was (Some held) story is_told = inl (was, refl, story held is_told)

told_there : (told : Bool × Bool → Open → Open → Type 0) (token : ℕ) (x : Option (Option Open)) (manner : Bool × Bool) (n : Option Open) → manner_of token x ≡ Some manner
    → ((was held : Open) → parts was.state ≡ false → told manner was held → HasStory was held) → IfSome (held_in x) (λ was. IfSome n (λ held. told manner was held)) → IfSome n (GoesBack (held_in x))
told_there told token None manner n is story is_told = cc
told_there told token (Some None) manner n is story is_told = cc
told_there told token (Some (Some was)) manner n is story is_told =
    told_held (told manner) was n (λ held. story was held (waits_on token was.state manner is)) is_told

told_in : (told : Bool × Bool → Open → Open → Type 0) (place token : ℕ) (o : Option (Bool × Bool)) (old new : Connections) → manner_at old place token ≡ o → (manner_at old place token ≡ None → new ≡ old)
    → ((manner : Bool × Bool) (was held : Open) → parts was.state ≡ false → told manner was held → HasStory was held)
    → IfSome o (λ manner. IfSome (held_at old place) (λ was. IfSome (held_at new place) (λ held. told manner was held))) → elsewhere place new ≡ elsewhere place old → AllGoOn old new
told_in told place token None old new is nobody story is_told others = all_places old new (ap places_of (nobody is))
told_in told place token (Some manner) old new is nobody story is_told others =
    all_at place old new (told_there told token (slice_get (places_of old) place) manner (held_at new place) is (story manner) is_told) others

-- they are told something, and nobody else is
pub carry_told : (told : Bool × Bool → Open → Open → Type 0) (place token : ℕ) (old new : Connections) → (manner_at old place token ≡ None → new ≡ old)
    → ((manner : Bool × Bool) (was held : Open) → parts was.state ≡ false → told manner was held → HasStory was held) → TellsAt place token told old new → elsewhere place new ≡ elsewhere place old
    → CarryOn old new
carry_told told place token old new nobody story is_told others =
    carry old new (told_in told place token (manner_at old place token) old new refl nobody story is_told others)

-- ---- a command's byte

obeyed_at : (byte p q : ℕ) (old : Connections) (held : Open) → ((was : Open) × (held_at old q ≡ Some was) × Continues was held) ⊎ ((q ≡ p) × ObeysThere byte (held_at old p) held) → GoesBack (held_at old q) held
obeyed_at byte p q old held (inl (was, is, on)) = inl (was, is, rests was held on)
obeyed_at byte p q old held (inr (here, (was, is, obeys))) = inl (was, subst (λ place. held_at old place ≡ Some was) (sym here) is, obeys_story byte was held obeys)

obeyed_in : (byte p q : ℕ) (old : Connections) (n : Option Open) → IfSome n (λ held. ((was : Open) × (held_at old q ≡ Some was) × Continues was held) ⊎ ((q ≡ p) × ObeysThere byte (held_at old p) held))
    → IfSome n (GoesBack (held_at old q))
obeyed_in byte p q old None but = tt
obeyed_in byte p q old (Some held) but = obeyed_at byte p q old held but

pub carry_obeyed : (byte place : ℕ) (old new : Connections) → GoOnBut place (ObeysThere byte (held_at old place)) old new → CarryOn old new
carry_obeyed byte place old new but = carry old new (λ q. obeyed_in byte place q old (held_at new q) (but q))

-- ---- what the node says itself

admitted_at : (P : Open → Type 0) (o : Option Open) (held : Open) → (P held → GoesBack o held) → (o ≡ Some held) ⊎ P held → GoesBack o held
admitted_at P o held begins (inl is) = back_same o held is
admitted_at P o held begins (inr good) = begins good

admitted_in : (P : Open → Type 0) (o n : Option Open) → ((held : Open) → P held → GoesBack o held) → IfSome n (λ held. (o ≡ Some held) ⊎ P held) → IfSome n (GoesBack o)
admitted_in P o None begins came = tt
admitted_in P o (Some held) begins came = admitted_at P o held (begins held) came

pub carry_own : (old new : Connections) → Admits IsOwn old new → CarryOn old new
carry_own old new came =
    carry old new (λ q. admitted_in IsOwn (held_at old q) (held_at new q) (λ held own. back_begins (held_at old q) held (inr (inr own))) (came q))

sends_behind : (to : ℕ) (before text : List ℕ) (old new : Connections) → SendsBehind to before text old new → AllGoOn old new
sends_behind to before text old new (inl s) = all_same old new s.people
sends_behind to before text old new (inr (inl s)) =
    λ q. admitted_in (IsOnItsWay to before text) (held_at old q) (held_at new q)
    (λ held way. back_begins (held_at old q) held (inr (inl (to, way.frame, None, way.calling)))) (s.people q)
sends_behind to before text old new (inr (inr s)) = all_same old new s.people

pub carry_sends : (to : ℕ) (text : List ℕ) (old new : Connections) → Sends to text old new → CarryOn old new
carry_sends to text old new (before, left, sent) = carry old new (sends_behind to before text old new sent)
