-- What is said to a client is the text of a response, and is said once.
use Rattle.sv_net.proofs.Prelude.{◌≡◌, ℕ, Bool, List, [], ◌++◌, Vec, Option, Some, None, inl, inr, refl, ap, sym, ◌∙◌, subst, IfSome, Global, append-nil, Open}
use Rattle.sv_net.proofs.Prelude.{Socket, Next, Close, Listen, Part, State, Leaves, came_of, went_of, said_on, unread, unsent, IsKept, held_in, Follows}
use Rattle.sv_net.proofs.Prelude.{FollowsOn, HearsNext, Says, Tells}
use Rattle.sv_connection.specs.declared.outcome.Outcome.{Outcome}
use Rattle.sv_connection.specs.declared.outcome.Outcome.TheVariants.{Answered}
use Rattle.sv_connection.specs.declared.reply.Naming.{Naming}
use Rattle.sv_connection.specs.Speak.{memory_lines, IsLateAnswer, IsSaid}
use Rattle.sv_message.specs.Response.{IsResponseText}
use Rattle.sv_model.specs.declared.output.Cause.{Cause}
use Rattle.sv_model.specs.declared.response.Response.{Response}
use Rattle.sv_net.specs.declared.state.State.TheVariants as state
use Rattle.sv_net.specs.Places.{manner_in, manner_of}
use Rattle.sv_net.specs.Saying.{Answers, refused_as}
use Rattle.sv_net.proofs.PlaceLemmas.{holds_more}

-- ---- a text

-- nothing is left of a text that was taken whole
pub follows_unsent : (next : Next) (s : State) → Follows next s → unsent s ≡ []
follows_unsent Close s f = absurd f
follows_unsent Part s (bytes, is) = ap unsent is
follows_unsent (Listen client) s (inl is) = ap unsent is
follows_unsent (Listen client) s (inr (rested, is, rests)) = ap unsent is

-- what was said on a connection that is kept
pub said_kept : (was held : Open) → IsKept was held → said_on held ≡ said_on was
said_kept was held kept = (λ i. kept.quiet.went i ++ unsent (kept.state i))

pub follows_kept : (next : Next) (socket : Socket) (was held : Open) → IsKept was held → FollowsOn next socket was → FollowsOn next socket held
follows_kept next socket was held kept f =
    record {
      stands = subst (λ s. Follows next s) (sym kept.state) f.stands;
      quiet = record { came = kept.quiet.came ∙ f.quiet.came; went = kept.quiet.went ∙ f.quiet.went };
    }

-- a connection by that very socket
pub follows_at : (next : Next) (socket : Socket) (held : Open) → held.socket ≡ socket → Follows next held.state → FollowsOn next socket held
follows_at next socket held on f = record { stands = f; quiet = record { came = ap came_of on; went = ap went_of on } }

-- it was taken whole
pub follows_says : (socket mid : Socket) (text left : List ℕ) (next : Next) (held : Open) → Leaves socket mid text left → left ≡ [] → FollowsOn next mid held → Says text next (went_of socket) (came_of socket) held
follows_says socket mid text left next held leaves none f =
    record {
      stands = inr f.stands;
      said = (λ i. f.quiet.went i ++ (follows_unsent next held.state f.stands ∙ sym none) i) ∙ leaves.said;
      nothing_came = f.quiet.came ∙ leaves.came;
    }

-- some of it waits
pub waits_says : (socket mid : Socket) (text : List ℕ) (left : Vec ℕ Global) (next : Next) (was held : Open) → Leaves socket mid text left.items → was.socket ≡ mid → was.state ≡ state.Saying left next → IsKept was held
    → Says text next (went_of socket) (came_of socket) held
waits_says socket mid text left next was held leaves on at kept =
    record {
      stands = inl (left, kept.state ∙ at, leaves.rest);
      said = said_kept was held kept ∙ (λ i. went_of (on i) ++ unsent (at i)) ∙ leaves.said;
      nothing_came = kept.quiet.came ∙ ap came_of on ∙ leaves.came;
    }

-- ---- a response

-- what was written is the text, whole: any other outcome isn't `Answered`
said_text : (response : Response) (now : ℕ) (items : List ℕ) (closed : Bool) → IsSaid response now Answered (Some []) (Some items) closed Answered → IsResponseText response now items
said_text response now items closed (inl (text, is, inl (a, all, b))) = subst (λ (xs : List ℕ). IsResponseText response now xs) (sym all) is
said_text response now items closed (inl (text, is, inr (failed, b, d))) = cc
said_text response now items closed (inr (inl (refused, b, d))) = cc
said_text response now items closed (inr (inr (failed, b, d))) = cc

late_text : (response : Response) (now : ℕ) (items : List ℕ) (was closed : Bool) → IsLateAnswer response now was (Some []) (Some items) closed Answered → IsResponseText response now items
late_text response now items was closed (closes, said, is) = said_text response now items closes said

pub answer_text : (response : Response) (now : ℕ) (before items : List ℕ) (outcome : Outcome) (was closed : Bool) → before ≡ [] → outcome ≡ Answered → IsLateAnswer response now was (Some before) (Some items) closed outcome
    → IsResponseText response now items
answer_text response now before items outcome was closed empty is late =
    let from_nothing = subst (λ (xs : List ℕ). IsLateAnswer response now was (Some xs) (Some items) closed outcome) empty late in
    late_text response now items was closed (subst (λ (o : Outcome). IsLateAnswer response now was (Some []) (Some items) closed o) is from_nothing)

-- nothing is left to be said on a connection that is taken from its place
pub said_before : (one : Open) (socket : Socket) → socket ≡ one.socket → unsent one.state ≡ [] → went_of socket ≡ said_on one
said_before one socket on none = sym (append-nil (went_of socket)) ∙ (λ i. went_of (on i) ++ sym none i)

-- on the connection of one who waits
pub tells_one : (response : Response) (now : ℕ) (one held : Open) (socket : Socket) (rest text : List ℕ) (next : Next) → socket ≡ one.socket → unsent one.state ≡ [] → unread one.state ≡ rest
    → HearsNext rest next → IsResponseText response now text → Says text next (went_of socket) (came_of socket) held → Tells response now one held
tells_one response now one held socket rest text next on none is_rest hears is_text says =
    record {
      text = text;
      next = next;
      is_text = is_text;
      says = subst (λ (came : List ℕ). Says text next (said_on one) came held) (ap came_of on) (subst (λ (xs : List ℕ). Says text next xs (came_of socket) held) (said_before one socket on none) says);
      hears = subst (λ (xs : List ℕ). HearsNext xs next) (sym is_rest) hears;
    }

-- who was told
pub tells_at : {A : Type 0} (P : Open → Open → Type 0) (manner : Option A) (o : Option Open) (one : Open) (held : Option Open) → o ≡ Some one → IfSome held (λ h. P one h) → IfSome manner (λ _. IfSome o (λ was. IfSome held (λ h. P was h)))
tells_at P None o one held is told = tt
tells_at P (Some m) o one held is told = subst (λ x. IfSome x (λ was. IfSome held (λ h. P was h))) (sym is) told

-- the lines that say that memory was refused
pub starves : (one : Open) (o : Option Open) (socket : Socket) (held : Option Open) → o ≡ Some one → socket ≡ one.socket
    → IfSome held (λ h. Says memory_lines Part (went_of socket) (came_of socket) h)
    → IfSome o (λ was. unsent was.state ≡ [] → IfSome held (λ h. Says memory_lines Part (said_on was) (came_of was.socket) h))
starves one o socket held is on said =
    subst (λ x. IfSome x (λ was. unsent was.state ≡ [] → IfSome held (λ h. Says memory_lines Part (said_on was) (came_of was.socket) h))) (sym is)
    (λ none. subst (λ (came : List ℕ). IfSome held (λ h. Says memory_lines Part (said_on one) came h)) (ap came_of on)
    (subst (λ (xs : List ℕ). IfSome held (λ h. Says memory_lines Part xs (came_of socket) h)) (said_before one socket on none) said))

-- ---- a refusal

-- by how who waits wants it
pub refusal_holds : (naming : Naming) (cause : Cause) (now : ℕ) (manner : Bool × Bool) (response : Response) (asked : Option (Bool × Bool)) (o held : Option Open) → asked ≡ Some manner → response ≡ refused_as naming cause manner
    → IfSome asked (λ _. IfSome o (λ was. IfSome held (λ h. Tells response now was h)))
    → IfSome asked (λ m. IfSome o (λ was. IfSome held (λ h. Answers (refused_as naming cause m) now was h)))
refusal_holds naming cause now manner response asked o held is_manner is_response answered =
    subst (λ (x : Option (Bool × Bool)). IfSome x (λ m. IfSome o (λ was. IfSome held (λ h. Answers (refused_as naming cause m) now was h)))) (sym is_manner)
    (subst (λ (r : Response). IfSome o (λ was. IfSome held (λ h. Answers r now was h))) is_response
    (holds_more (λ was. IfSome held (λ h. Tells response now was h)) (λ was. IfSome held (λ h. Answers response now was h))
    (λ was told. holds_more (λ h. Tells response now was h) (λ h. Answers response now was h) (λ h tells. inl tells) held told) o
    (subst (λ (x : Option (Bool × Bool)). IfSome x (λ _. IfSome o (λ was. IfSome held (λ h. Tells response now was h)))) is_manner answered)))

-- who waits is told nothing yet
waits_unsent : (token : ℕ) (s : State) (m : Bool × Bool) → manner_in token s ≡ Some m → unsent s ≡ []
waits_unsent token state.New m is = refl
waits_unsent token (state.Asking client) m is = refl
waits_unsent token (state.Asked client) m is = refl
waits_unsent token (state.Resting client) m is = refl
waits_unsent token (state.Framing bytes) m is = refl
waits_unsent token (state.Greeting bytes) m is = refl
waits_unsent token (state.Taken peer) m is = refl
waits_unsent token (state.Peer peer) m is = refl
waits_unsent token (state.Waiting client head_only close own silent) m is = refl
waits_unsent token state.Ordering m is = refl
waits_unsent token (state.Holding byte) m is = cc
waits_unsent token (state.Saying text next) m is = cc
waits_unsent token (state.Parting bytes) m is = refl
waits_unsent token (state.Calling to frame holder) m is = cc

waiting_unsent : (token : ℕ) (x : Option (Option Open)) (m : Bool × Bool) → manner_of token x ≡ Some m → IfSome (held_in x) (λ was. unsent was.state ≡ [])
waiting_unsent token None m is = tt
waiting_unsent token (Some None) m is = tt
waiting_unsent token (Some (Some was)) m is = waits_unsent token was.state m is

both : {A : Type 0} (P Q : A → Type 0) (o : Option A) → IfSome o P → IfSome o (λ a. P a → Q a) → IfSome o Q
both P Q None p q = tt
both P Q (Some a) p q = q p

-- that memory was refused was said
pub starved_holds : (naming : Naming) (cause : Cause) (now token : ℕ) (x : Option (Option Open)) (manner : Bool × Bool) (held : Option Open) → manner_of token x ≡ Some manner
    → IfSome (held_in x) (λ was. unsent was.state ≡ [] → IfSome held (λ h. Says memory_lines Part (said_on was) (came_of was.socket) h))
    → IfSome (manner_of token x) (λ m. IfSome (held_in x) (λ was. IfSome held (λ h. Answers (refused_as naming cause m) now was h)))
starved_holds naming cause now token x manner held is said =
    subst (λ (o : Option (Bool × Bool)). IfSome o (λ m. IfSome (held_in x) (λ was. IfSome held (λ h. Answers (refused_as naming cause m) now was h)))) (sym is)
    (both (λ was. unsent was.state ≡ []) (λ was. IfSome held (λ h. Answers (refused_as naming cause manner) now was h)) (held_in x) (waiting_unsent token x manner is)
    (holds_more (λ was. unsent was.state ≡ [] → IfSome held (λ h. Says memory_lines Part (said_on was) (came_of was.socket) h))
    (λ was. unsent was.state ≡ [] → IfSome held (λ h. Answers (refused_as naming cause manner) now was h))
    (λ was told none. holds_more (λ h. Says memory_lines Part (said_on was) (came_of was.socket) h) (λ h. Answers (refused_as naming cause manner) now was h) (λ h says. inr says) held (told none)) (held_in x) said))
