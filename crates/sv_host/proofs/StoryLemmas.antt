-- What happens on connections, one thing after the other.
use Rattle.sv_host.proofs.Prelude.{◌≡◌, ◌≢◌, ◌⊎◌, ◌++◌, ◌∷◌, ℕ, Bool, List, [], Option, Some, None, Result, Ok, Err, slice_set, inl, inr, refl, ap, sym, ◌∙◌}
use Rattle.sv_host.proofs.Prelude.{subst, append-nil, IfErr, IfOk, IfSome, slice_get, HearsOn, IsLeftBy, AllGoOn, CarryOn, Deed, GoesBack, HasStory, Story}
use Rattle.sv_host.proofs.Prelude.{Rests, Hears, Parts, Peers, Progress, Server, same_held, came_of, went_of, Continues, parts, turn_of, unsent, Finds, HearsAt}
use Rattle.sv_host.proofs.Prelude.{elsewhere, held_at, held_in, places_of, Connections, Heard, Open, State}
use Rattle.std.specs.Prelude.{OnErr}
use Rattle.sv_host.specs.Serve.{IsToldLast}
use Rattle.sv_host.specs.Stories.{AllGoOnWith, Begins, Does, IsNewcomer}
use Rattle.sv_net.proofs.ContinueLemmas as continue
use Rattle.sv_net.proofs.PlaceLemmas.{taken_held}
use Rattle.sv_net.proofs.SpareLemmas.{apart_same, same_or_apart}
use Rattle.sv_net.specs.Exchange.{AllContinue, GoOnWith}
use Rattle.sv_net.specs.Places.{HasStood}
use Rattle.sv_net.specs.declared.hearing.Heard.TheVariants as heard
use Rattle.sv_net.specs.declared.state.State.TheVariants as state
use Rattle.sv_net.specs.declared.state.Turn.TheVariants as turn

-- ---- one connection

pub story_then : (ds es : List Deed) (a b c : Open) → Story ds a b → Story es b c → Story (ds ++ es) a c
story_then [] es a b c is next = subst (λ x. Story es x c) is next
story_then (d ∷ ds) es a b c (mid, does, rest) next = (mid, does, story_then ds es mid b c rest next)

pub has_same : (o : Open) → HasStory o o
has_same o = ([], refl)

pub has_then : (a b c : Open) → HasStory a b → HasStory b c → HasStory a c
has_then a b c (ds, first) (es, next) = (ds ++ es, story_then ds es a b c first next)

pub has_one : (d : Deed) (a b : Open) → Does d a b → HasStory a b
has_one d a b does = (d ∷ [], (b, does, refl))

pub rests : (a b : Open) → Continues a b → HasStory a b
rests a b on = has_one Rests a b on

-- ---- who stands at a place

goes_on : (before : Option Open) (a b : Open) → GoesBack before a → HasStory a b → GoesBack before b
goes_on before a b (inl (was, is, story)) next = inl (was, is, has_then was a b story next)
goes_on before a b (inr (first, begins, story)) next = inr (first, begins, has_then first a b story next)

back_then : (o m : Option Open) (held : Open) → IfSome m (GoesBack o) → GoesBack m held → GoesBack o held
back_then o m held first (inl (was, is, story)) = goes_on o was held (subst (λ x. IfSome x (GoesBack o)) is first) story
back_then o m held first (inr begun) = inr begun

pub back_same : (o : Option Open) (held : Open) → o ≡ Some held → GoesBack o held
back_same o held is = inl (held, is, has_same held)

pub back_begins : (o : Option Open) (held : Open) → Begins held → GoesBack o held
back_begins o held begins = inr (held, begins, has_same held)

here_still : (o n : Option Open) → n ≡ o → IfSome n (GoesBack o)
here_still o None is = tt
here_still o (Some held) is = back_same o held (sym is)

then_in : (o m n : Option Open) → IfSome m (GoesBack o) → IfSome n (GoesBack m) → IfSome n (GoesBack o)
then_in o m None first next = tt
then_in o m (Some held) first next = back_then o m held first next

-- ---- all of them

pub all_same : (old new : Connections) → ((q : ℕ) → held_at new q ≡ held_at old q) → AllGoOn old new
all_same old new same q = here_still (held_at old q) (held_at new q) (same q)

pub all_places : (old new : Connections) → places_of new ≡ places_of old → AllGoOn old new
all_places old new is = all_same old new (λ q. same_held q old new is)

pub all_then : (old mid new : Connections) → AllGoOn old mid → AllGoOn mid new → AllGoOn old new
all_then old mid new first next q = then_in (held_at old q) (held_at mid q) (held_at new q) (first q) (next q)

continue_in : (o n : Option Open) → IfSome n (λ held. (was : Open) × (o ≡ Some was) × Continues was held) → IfSome n (GoesBack o)
continue_in o None on = tt
continue_in o (Some held) (was, is, on) = inl (was, is, rests was held on)

pub all_continue : (old new : Connections) → AllContinue old new → AllGoOn old new
all_continue old new on q = continue_in (held_at old q) (held_at new q) (on q)

pub all_stood : (place : ℕ) (old new : Connections) → HasStood place old new → elsewhere place new ≡ elsewhere place old → AllGoOn old new
all_stood place old new stood others = all_continue old new (continue.all_stood place old new stood others)

-- one was taken out
pub all_taken : (place : ℕ) (old new : Connections) → places_of new ≡ elsewhere place old → elsewhere place new ≡ elsewhere place old → AllGoOn old new
all_taken place old new is others = all_continue old new (continue.all_but place old new (taken_held place old new is) others)

-- something happened at one place
at_place : (p q : ℕ) (old new : Connections) → IfSome (held_at new p) (GoesBack (held_at old p)) → elsewhere p new ≡ elsewhere p old
    → (p ≡ q) ⊎ ((xs : List (Option Open)) → held_in (slice_get (slice_set xs p None) q) ≡ held_in (slice_get xs q)) → IfSome (held_at new q) (GoesBack (held_at old q))
at_place p q old new there others (inl here) = subst (λ place. IfSome (held_at new place) (GoesBack (held_at old place))) here there
at_place p q old new there others (inr apart) = here_still (held_at old q) (held_at new q) (apart_same p q old new others apart)

pub all_at : (place : ℕ) (old new : Connections) → IfSome (held_at new place) (GoesBack (held_at old place)) → elsewhere place new ≡ elsewhere place old → AllGoOn old new
all_at place old new there others q = at_place place q old new there others (same_or_apart place q)

-- ---- what carries on

pub carry : (old new : Connections) → AllGoOn old new → CarryOn old new
carry old new next first so_far = all_then first old new so_far next

pub carry_places : (old new : Connections) → places_of new ≡ places_of old → CarryOn old new
carry_places old new is = carry old new (all_places old new is)

pub carry_continue : (old new : Connections) → AllContinue old new → CarryOn old new
carry_continue old new on = carry old new (all_continue old new on)

pub carry_stood : (place : ℕ) (old new : Connections) → HasStood place old new → elsewhere place new ≡ elsewhere place old → CarryOn old new
carry_stood place old new stood others = carry old new (all_stood place old new stood others)

pub carry_taken : (place : ℕ) (old new : Connections) → places_of new ≡ elsewhere place old → elsewhere place new ≡ elsewhere place old → CarryOn old new
carry_taken place old new is others = carry old new (all_taken place old new is others)

pub carried : (old new : Connections) → CarryOn old new → AllGoOn old new
carried old new on = on old (all_same old old (λ q. refl))

-- ---- one was lifted

with_in : (p q : ℕ) (one : Open) (o n : Option Open) → IfSome n (GoesBack o) → IfSome n (λ held. GoesBack o held ⊎ ((q ≡ p) × GoesBack (Some one) held))
with_in p q one o None on = tt
with_in p q one o (Some held) on = inl on

pub with_all : (place : ℕ) (one : Open) (old new : Connections) → AllGoOn old new → AllGoOnWith place one old new
with_all place one old new on q = with_in place q one (held_at old q) (held_at new q) (on q)

put_in : (p : ℕ) (one : Open) (o n : Option Open) → IfSome n (GoesBack (Some one)) → IfSome n (λ held. GoesBack o held ⊎ ((p ≡ p) × GoesBack (Some one) held))
put_in p one o None on = tt
put_in p one o (Some held) on = inr (refl, on)

put_at : (p q : ℕ) (one : Open) (old new : Connections) → IfSome (held_at new p) (GoesBack (Some one)) → elsewhere p new ≡ elsewhere p old
    → (p ≡ q) ⊎ ((xs : List (Option Open)) → held_in (slice_get (slice_set xs p None) q) ≡ held_in (slice_get xs q))
    → IfSome (held_at new q) (λ held. GoesBack (held_at old q) held ⊎ ((q ≡ p) × GoesBack (Some one) held))
put_at p q one old new on others (inl here) =
    subst (λ place. IfSome (held_at new place) (λ held. GoesBack (held_at old place) held ⊎ ((place ≡ p) × GoesBack (Some one) held))) here (put_in p one (held_at old p) (held_at new p) on)
put_at p q one old new on others (inr apart) = with_in p q one (held_at old q) (held_at new q) (here_still (held_at old q) (held_at new q) (apart_same p q old new others apart))

pub with_put : (place : ℕ) (one : Open) (old new : Connections) → IfSome (held_at new place) (GoesBack (Some one)) → elsewhere place new ≡ elsewhere place old → AllGoOnWith place one old new
with_put place one old new on others q = put_at place q one old new on others (same_or_apart place q)

with_on : (p q : ℕ) (one : Open) (o n : Option Open) → IfSome n (λ held. ((was : Open) × (o ≡ Some was) × Continues was held) ⊎ ((q ≡ p) × Continues one held))
    → IfSome n (λ held. GoesBack o held ⊎ ((q ≡ p) × GoesBack (Some one) held))
with_on p q one o None on = tt
with_on p q one o (Some held) (inl (was, is, on)) = inl (inl (was, is, rests was held on))
with_on p q one o (Some held) (inr (is, on)) = inr (is, inl (one, refl, rests one held on))

pub with_continue : (place : ℕ) (one : Open) (old new : Connections) → GoOnWith place one old new → AllGoOnWith place one old new
with_continue place one old new on q = with_on place q one (held_at old q) (held_at new q) (on q)

more_in : (p q : ℕ) (one two : Open) (o n : Option Open) → HasStory one two → IfSome n (λ held. GoesBack o held ⊎ ((q ≡ p) × GoesBack (Some two) held))
    → IfSome n (λ held. GoesBack o held ⊎ ((q ≡ p) × GoesBack (Some one) held))
more_in p q one two o None story with = tt
more_in p q one two o (Some held) story (inl back) = inl back
more_in p q one two o (Some held) story (inr (is, back)) = inr (is, back_then (Some one) (Some two) held (inl (one, refl, story)) back)

-- something has happened on it before
pub with_more : (place : ℕ) (one two : Open) (old new : Connections) → HasStory one two → AllGoOnWith place two old new → AllGoOnWith place one old new
with_more place one two old new story with q = more_in place q one two (held_at old q) (held_at new q) story (with q)

behind_at : (p q : ℕ) (one : Open) (o : Option Open) (mid held : Open) → GoesBack o mid ⊎ ((q ≡ p) × GoesBack (Some one) mid) → HasStory mid held → GoesBack o held ⊎ ((q ≡ p) × GoesBack (Some one) held)
behind_at p q one o mid held (inl back) story = inl (goes_on o mid held back story)
behind_at p q one o mid held (inr (is, back)) story = inr (is, goes_on (Some one) mid held back story)

behind_in : (p q : ℕ) (one : Open) (o m n : Option Open) → IfSome m (λ held. GoesBack o held ⊎ ((q ≡ p) × GoesBack (Some one) held)) → IfSome n (GoesBack m)
    → IfSome n (λ held. GoesBack o held ⊎ ((q ≡ p) × GoesBack (Some one) held))
behind_in p q one o m None first next = tt
behind_in p q one o m (Some held) first (inl (mid, is, story)) =
    behind_at p q one o mid held (subst (λ x. IfSome x (λ h. GoesBack o h ⊎ ((q ≡ p) × GoesBack (Some one) h))) is first) story
behind_in p q one o m (Some held) first (inr begun) = inl (inr begun)

-- and then
pub with_then : (place : ℕ) (one : Open) (old mid new : Connections) → AllGoOnWith place one old mid → AllGoOn mid new → AllGoOnWith place one old new
with_then place one old mid new first next q = behind_in place q one (held_at old q) (held_at mid q) (held_at new q) (first q) (next q)

lifted_in : (p q : ℕ) (one : Open) (o m n : Option Open) → (q ≡ p → o ≡ Some one) → IfSome m (GoesBack o) → IfSome n (λ held. GoesBack m held ⊎ ((q ≡ p) × GoesBack (Some one) held)) → IfSome n (GoesBack o)
lifted_in p q one o m None there first with = tt
lifted_in p q one o m (Some held) there first (inl back) = back_then o m held first back
lifted_in p q one o m (Some held) there first (inr (is, back)) = subst (λ x. GoesBack x held) (sym (there is)) back

-- it stood there
pub lifted : (place : ℕ) (one : Open) (old mid new : Connections) → held_at old place ≡ Some one → AllGoOn old mid → AllGoOnWith place one mid new → AllGoOn old new
lifted place one old mid new there first with q =
    lifted_in place q one (held_at old q) (held_at mid q) (held_at new q) (λ is. subst (λ x. held_at old x ≡ Some one) (sym is) there) (first q) (with q)

-- it was taken out
pub carry_lifted : (place : ℕ) (one : Open) (old mid new : Connections) → held_at old place ≡ Some one → places_of mid ≡ elsewhere place old → elsewhere place mid ≡ elsewhere place old
    → (held_at mid place ≡ None → AllGoOnWith place one mid new) → CarryOn old new
carry_lifted place one old mid new there is others with =
    carry old new (lifted place one old mid new there (all_taken place old mid is others) (with (taken_held place old mid is)))

some_is : (a b : Open) → Some a ≡ Some b → a ≡ b
some_is a b is = cc

begun_back : (one held : Open) (o : Option Open) → Begins one → GoesBack (Some one) held → GoesBack o held
begun_back one held o begins (inl (was, is, story)) = inr (one, begins, subst (λ x. HasStory x held) (sym (some_is one was is)) story)
begun_back one held o begins (inr begun) = inr begun

came_in : (p q : ℕ) (one : Open) (o n : Option Open) → Begins one → IfSome n (λ held. GoesBack o held ⊎ ((q ≡ p) × GoesBack (Some one) held)) → IfSome n (GoesBack o)
came_in p q one o None begins with = tt
came_in p q one o (Some held) begins (inl back) = back
came_in p q one o (Some held) begins (inr (is, back)) = begun_back one held o begins back

-- it has just come
pub newly : (place : ℕ) (one : Open) (old new : Connections) → Begins one → AllGoOnWith place one old new → AllGoOn old new
newly place one old new begins with q = came_in place q one (held_at old q) (held_at new q) begins (with q)

-- ---- a piece was heard

told_last : (piece text : List ℕ) (came : Heard) (mid held : Open) → mid.state ≡ state.Ordering → IsToldLast text mid.socket held → Does (Parts text) mid held
told_last piece text came mid held is told = (
  record {
    said = told.said ∙ (λ i. (sym (append-nil (went_of mid.socket)) i) ++ text) ∙ (λ i. (went_of mid.socket ++ unsent (sym is i)) ++ text);
    nothing_came = told.nothing_came;
    listened = ap parts is;
  },
  told.nothing_unread,
)

module _ (greets : Bool) (was read : Open) (piece : List ℕ) (begun : State) (state_is : read.state ≡ was.state) (came_is : came_of read.socket ≡ came_of was.socket ++ piece)
    (went_is : went_of read.socket ≡ went_of was.socket) (found : Finds greets read.state piece begun) (listened : turn_of was.state ≢ turn.Socket) where
  heard_by : (came : Heard) (held : Open) → HearsAt begun piece came → IsLeftBy came read.socket held → HasStory was held
  heard_by (heard.More next) held hears (quiet, is) =
      has_one (Hears piece (heard.More next)) was held
      (record {
        listened = listened;
        greets = greets;
        begun = begun;
        found = subst (λ s. Finds greets s piece begun) state_is found;
        hears = hears;
        brought = quiet.came ∙ came_is;
        nothing_went = quiet.went ∙ went_is;
        left = is;
      })
  heard_by (heard.Request client request) held hears (quiet, is) =
      has_one (Hears piece (heard.Request client request)) was held
      (record {
        listened = listened;
        greets = greets;
        begun = begun;
        found = subst (λ s. Finds greets s piece begun) state_is found;
        hears = hears;
        brought = quiet.came ∙ came_is;
        nothing_went = quiet.went ∙ went_is;
        left = is;
      })
  heard_by (heard.Frame frame rest) held hears (quiet, is) =
      has_one (Hears piece (heard.Frame frame rest)) was held
      (record {
        listened = listened;
        greets = greets;
        begun = begun;
        found = subst (λ s. Finds greets s piece begun) state_is found;
        hears = hears;
        brought = quiet.came ∙ came_is;
        nothing_went = quiet.went ∙ went_is;
        left = is;
      })
  heard_by (heard.Refused client fault head_only) held hears (text, told) =
      let mid = record read { state = state.Ordering } in (
        Hears piece (heard.Refused client fault head_only) ∷ Parts text ∷ [],
        (
          mid,
          record {
            listened = listened;
            greets = greets;
            begun = begun;
            found = subst (λ s. Finds greets s piece begun) state_is found;
            hears = hears;
            brought = came_is;
            nothing_went = went_is;
            left = record { nothing_unsent = refl; rest_is = refl };
          },
          (held, told_last piece text (heard.Refused client fault head_only) mid held refl told, refl),
        ),
      )
  heard_by (heard.Greeting greeting) held hears left = absurd left
  heard_by heard.Nothing held hears left = absurd left

  heard_in : (came : Heard) (o : Option Open) → HearsAt begun piece came → IfSome o (λ held. IsLeftBy came read.socket held) → IfSome o (GoesBack (Some was))
  heard_in came None hears left = tt
  heard_in came (Some held) hears left = inl (was, refl, heard_by came held hears left)

pub hears_on : (peers : Peers) (greets : Bool) (was read : Open) (piece : List ℕ) (place number : ℕ) (old new : Server) (progress : Progress) → read.state ≡ was.state → came_of read.socket ≡ came_of was.socket ++ piece
    → went_of read.socket ≡ went_of was.socket → turn_of was.state ≢ turn.Socket → HearsOn peers greets read piece place number old new progress → held_at old.connections place ≡ None → AllGoOnWith place was old.connections new.connections
hears_on peers greets was read piece place number old new progress state_is came_is went_is listened h none =
    with_put place was old.connections new.connections
    (heard_in greets was read piece h.begun state_is came_is went_is h.found listened h.came (held_at new.connections place) h.hears (h.left none)) h.others

pub reads : (s : State) → turn_of s ≡ turn.Read → turn_of s ≢ turn.Socket
reads s is by = cc

pub serves : (s : State) → turn_of s ≡ turn.Serve → turn_of s ≢ turn.Socket
serves s is by = cc

-- whatever came of it
pub with_answer : {F : Type 0} (peers : Peers) (greets : Bool) (was read : Open) (piece : List ℕ) (place number : ℕ) (old new : Server) (answer : Result Progress F) → read.state ≡ was.state
    → came_of read.socket ≡ came_of was.socket ++ piece → went_of read.socket ≡ went_of was.socket → IfOk answer (λ p. HearsOn peers greets read piece place number old new p)
    → OnErr answer (places_of new.connections ≡ places_of old.connections) → turn_of was.state ≢ turn.Socket → held_at old.connections place ≡ None → AllGoOnWith place was old.connections new.connections
with_answer peers greets was read piece place number old new (Ok p) state_is came_is went_is heard_as same reads none =
    hears_on peers greets was read piece place number old new p state_is came_is went_is reads heard_as none
with_answer peers greets was read piece place number old new (Err stop) state_is came_is went_is heard_as same reads none =
    with_all place was old.connections new.connections (all_places old.connections new.connections same)

-- one that was read of goes on
pub with_read : (was read : Open) (piece : List ℕ) (place : ℕ) (old new : Connections) → read.state ≡ was.state → came_of read.socket ≡ came_of was.socket ++ piece → went_of read.socket ≡ went_of was.socket → piece ≡ []
    → GoOnWith place read old new → AllGoOnWith place was old new
with_read was read piece place old new state_is came_is went_is nothing on =
    with_more place was read old new
    (rests was read
    (continue.continues_quiet was read (record { came = came_is ∙ ap (λ xs. came_of was.socket ++ xs) nothing ∙ append-nil (came_of was.socket); went = went_is }) state_is))
    (with_continue place read old new on)

pub err_more : {T F : Type 0} (P Q : F → Type 0) (answer : Result T F) → ((f : F) → P f → Q f) → IfErr answer P → IfErr answer Q
err_more P Q (Ok value) more p = tt
err_more P Q (Err f) more p = more f p

-- a newcomer was gone on with
pub came_newly : (place : ℕ) (one : Open) (old new : Connections) → IsNewcomer one → held_at old place ≡ None → (turn_of one.state ≢ turn.Socket → held_at old place ≡ None → AllGoOnWith place one old new) → CarryOn old new
came_newly place one old new newcomer none with =
    carry old new (newly place one old new (inl newcomer) (with (reads one.state (ap turn_of newcomer.nothing_yet)) none))
