-- Who goes on.
use Rattle.sv_net.proofs.Prelude.{◌≡◌, ◌⊎◌, ℕ, Bool, true, false, true≢false, List, [], ◌∷◌, ◌++◌, Option, Some, None, slice_set, inl, inr, refl, ap, sym, ◌∙◌}
use Rattle.sv_net.proofs.Prelude.{subst, IfSome, slice_get, Connections, Open, Socket, Next, Close, Listen, Part, State, Leaves, came_of, went_of, AllContinue}
use Rattle.sv_net.proofs.Prelude.{Continues, Obeys, parts, said_on, unread, unsent, HasStood, IsKept, Keeps, elsewhere, held_at, held_in, places_of, Follows}
use Rattle.sv_net.proofs.Prelude.{FollowsOn, Says}
use Rattle.sv_net.specs.declared.state.State.TheVariants as state
use Rattle.sv_net.specs.Bytes.{IsQuiet}
use Rattle.sv_net.specs.Exchange.{GoOnBut, GoOnWith, IsLike, unread_behind}
use Rattle.sv_net.specs.Saying.{IsSaying}
use Rattle.sv_net.proofs.PlaceLemmas.{holds_more, nobody_holds, same_held, set_holds}
use Rattle.sv_net.proofs.SayingLemmas.{follows_unsent, said_before, said_kept}
use Rattle.sv_net.proofs.SpareLemmas.{apart_same, same_or_apart}

-- ---- one connection

not_parting : (a b : Bool) → (a ≡ true → b ≡ true) → b ≡ false → a ≡ false
not_parting true b on is = absurd (true≢false (sym (on refl) ∙ is))
not_parting false b on is = refl

pub continues_same : (o : Open) → Continues o o
continues_same o = record { said = refl; parts_on = λ p. p; came = λ p. refl; unread_is = refl }

pub continues_then : (a b c : Open) → Continues a b → Continues b c → Continues a c
continues_then a b c first next =
    record {
      said = next.said ∙ first.said;
      parts_on = λ p. next.parts_on (first.parts_on p);
      came = λ p. next.came p ∙ first.came (not_parting (parts b.state) (parts c.state) next.parts_on p);
      unread_is = next.unread_is ∙ first.unread_is;
    }

pub continues_kept : (was held : Open) → IsKept was held → Continues was held
continues_kept was held kept =
    record {
      said = said_kept was held kept;
      parts_on = λ p. ap parts kept.state ∙ p;
      came = λ p. kept.quiet.came;
      unread_is = ap unread kept.state;
    }

-- the same state, by a socket on which nothing has happened
pub continues_quiet : (was held : Open) → IsQuiet was.socket held.socket → held.state ≡ was.state → Continues was held
continues_quiet was held quiet state =
    record { said = (λ i. quiet.went i ++ unsent (state i)); parts_on = λ p. ap parts state ∙ p; came = λ p. quiet.came; unread_is = ap unread state }

-- by the same socket, at a state like it
pub continues_like : (was held : Open) → held.socket ≡ was.socket → IsLike was.state held.state → Continues was held
continues_like was held on like =
    record {
      said = (λ i. went_of (on i) ++ like.unsent_is i);
      parts_on = λ p. like.parts_is ∙ p;
      came = λ p. ap came_of on;
      unread_is = like.unread_is;
    }

-- what is still to be heard after a text
follows_unread : (next : Next) (s : State) → Follows next s → unread s ≡ unread_behind next
follows_unread Close s f = absurd f
follows_unread Part s (bytes, is) = ap unread is
follows_unread (Listen client) s (inl is) = ap unread is
follows_unread (Listen client) s (inr (rested, is, rests)) = ap unread is ∙ rests.held

pub continues_following : (was held : Open) (mid : Socket) (text : List ℕ) (left : List ℕ) (next : Next) → unsent was.state ≡ text → unread was.state ≡ unread_behind next → parts was.state ≡ false → Leaves was.socket mid text left → left ≡ []
    → FollowsOn next mid held → Continues was held
continues_following was held mid text left next is_text rest whole leaves none f =
    record {
      said = (λ i. f.quiet.went i ++ (follows_unsent next held.state f.stands ∙ sym none) i) ∙ leaves.said ∙ ap (λ xs. went_of was.socket ++ xs) (sym is_text);
      parts_on = λ p. absurd (true≢false (sym p ∙ whole));
      came = λ p. f.quiet.came ∙ leaves.came;
      unread_is = follows_unread next held.state f.stands ∙ sym rest;
    }

pub saying_unread : (text : List ℕ) (next : Next) (s : State) → IsSaying text next s → unread s ≡ unread_behind next
saying_unread text next s (inl (left, is, rest)) = ap unread is
saying_unread text next s (inr f) = follows_unread next s f

-- a command's byte

pub continues_telling : (was held : Open) (socket : Socket) (byte : ℕ) → was.state ≡ state.Holding byte → socket ≡ was.socket → Says (byte ∷ []) Close (went_of socket) (came_of socket) held → Continues was held
continues_telling was held socket byte is on says =
    record {
      said = says.said ∙ (λ i. went_of (on i) ++ unsent (sym is i));
      parts_on = λ p. absurd (true≢false (sym p ∙ ap parts is));
      came = λ p. says.nothing_came ∙ ap came_of on;
      unread_is = saying_unread (byte ∷ []) Close held.state says.stands ∙ sym (ap unread is);
    }

-- what a client goes on sending after its last answer is forgotten
pub continues_parting : (was held : Open) (bytes left : ℕ) → was.state ≡ state.Parting bytes → held.state ≡ state.Parting left → went_of held.socket ≡ went_of was.socket → Continues was held
continues_parting was held bytes left is now went =
    record {
      said = (λ i. went i ++ (ap unsent now ∙ sym (ap unsent is)) i);
      parts_on = λ p. ap parts now;
      came = λ p. absurd (true≢false (sym (ap parts now) ∙ p));
      unread_is = ap unread now ∙ sym (ap unread is);
    }

-- ---- all of them

here_still : (o n : Option Open) → n ≡ o → IfSome n (λ held. (was : Open) × (o ≡ Some was) × Continues was held)
here_still o None is = tt
here_still o (Some held) is = (held, sym is, continues_same held)

pub all_same : (old new : Connections) → ((q : ℕ) → held_at new q ≡ held_at old q) → AllContinue old new
all_same old new same q = here_still (held_at old q) (held_at new q) (same q)

pub all_places : (old new : Connections) → places_of new ≡ places_of old → AllContinue old new
all_places old new is = all_same old new (λ q. same_held q old new is)

then_in : (o m n : Option Open) → IfSome m (λ held. (was : Open) × (o ≡ Some was) × Continues was held) → IfSome n (λ held. (was : Open) × (m ≡ Some was) × Continues was held)
    → IfSome n (λ held. (was : Open) × (o ≡ Some was) × Continues was held)
then_in o m None first next = tt
then_in o m (Some held) first (mid, is, on) =
    let before = subst (λ x. IfSome x (λ h. (was : Open) × (o ≡ Some was) × Continues was h)) is first in
    (before.0, before.1, continues_then before.0 mid held before.2 on)

pub all_then : (old mid new : Connections) → AllContinue old mid → AllContinue mid new → AllContinue old new
all_then old mid new first next q = then_in (held_at old q) (held_at mid q) (held_at new q) (first q) (next q)

stood_on : (o n : Option Open) → IfSome n (λ held. (was : Open) × (o ≡ Some was) × IsKept was held) → IfSome n (λ held. (was : Open) × (o ≡ Some was) × Continues was held)
stood_on o None stood = tt
stood_on o (Some held) (was, is, kept) = (was, is, continues_kept was held kept)

stood_at : (p q : ℕ) (old new : Connections) → HasStood p old new → elsewhere p new ≡ elsewhere p old
    → (p ≡ q) ⊎ ((xs : List (Option Open)) → held_in (slice_get (slice_set xs p None) q) ≡ held_in (slice_get xs q)) → IfSome (held_at new q) (λ held. (was : Open) × (held_at old q ≡ Some was) × Continues was held)
stood_at p q old new stood others (inl here) =
    subst (λ place. IfSome (held_at new place) (λ held. (was : Open) × (held_at old place ≡ Some was) × Continues was held)) here (stood_on (held_at old p) (held_at new p) stood)
stood_at p q old new stood others (inr apart) = here_still (held_at old q) (held_at new q) (apart_same p q old new others apart)

pub all_stood : (place : ℕ) (old new : Connections) → HasStood place old new → elsewhere place new ≡ elsewhere place old → AllContinue old new
all_stood place old new stood others q = stood_at place q old new stood others (same_or_apart place q)

pub all_but : (place : ℕ) (old new : Connections) → held_at new place ≡ None → elsewhere place new ≡ elsewhere place old → AllContinue old new
all_but place old new none others =
    all_stood place old new (nobody_holds (λ held. (was : Open) × (held_at old place ≡ Some was) × IsKept was held) none) others

-- ---- with one who was taken out

with_in : (p q : ℕ) (P : Open → Type 0) (o n : Option Open) → IfSome n (λ held. (was : Open) × (o ≡ Some was) × Continues was held)
    → IfSome n (λ held. ((was : Open) × (o ≡ Some was) × Continues was held) ⊎ ((q ≡ p) × P held))
with_in p q P o None on = tt
with_in p q P o (Some held) on = inl on

pub with_all : (place : ℕ) (one : Open) (old new : Connections) → AllContinue old new → GoOnWith place one old new
with_all place one old new on q = with_in place q (λ held. Continues one held) (held_at old q) (held_at new q) (on q)

pub but_all : (place : ℕ) (P : Open → Type 0) (old new : Connections) → AllContinue old new → GoOnBut place P old new
but_all place P old new on q = with_in place q P (held_at old q) (held_at new q) (on q)

back_at : (p : ℕ) (P : Open → Type 0) (o n : Option Open) → IfSome n P → IfSome n (λ held. ((was : Open) × (o ≡ Some was) × Continues was held) ⊎ ((p ≡ p) × P held))
back_at p P o None on = tt
back_at p P o (Some held) on = inr (refl, on)

put_at : (p q : ℕ) (P : Open → Type 0) (old new : Connections) → IfSome (held_at new p) P → elsewhere p new ≡ elsewhere p old
    → (p ≡ q) ⊎ ((xs : List (Option Open)) → held_in (slice_get (slice_set xs p None) q) ≡ held_in (slice_get xs q))
    → IfSome (held_at new q) (λ held. ((was : Open) × (held_at old q ≡ Some was) × Continues was held) ⊎ ((q ≡ p) × P held))
put_at p q P old new on others (inl here) =
    subst (λ place. IfSome (held_at new place) (λ held. ((was : Open) × (held_at old place ≡ Some was) × Continues was held) ⊎ ((place ≡ p) × P held))) here
    (back_at p P (held_at old p) (held_at new p) on)
put_at p q P old new on others (inr apart) = with_in p q P (held_at old q) (held_at new q) (here_still (held_at old q) (held_at new q) (apart_same p q old new others apart))

pub with_put : (place : ℕ) (one : Open) (old new : Connections) → IfSome (held_at new place) (λ held. Continues one held) → elsewhere place new ≡ elsewhere place old → GoOnWith place one old new
with_put place one old new on others q = put_at place q (λ held. Continues one held) old new on others (same_or_apart place q)

pub but_put : (place : ℕ) (P : Open → Type 0) (old new : Connections) → IfSome (held_at new place) P → elsewhere place new ≡ elsewhere place old → GoOnBut place P old new
but_put place P old new on others q = put_at place q P old new on others (same_or_apart place q)

pub with_kept : (place : ℕ) (one was : Open) (old new : Connections) → Continues one was → Keeps place was old new → elsewhere place new ≡ elsewhere place old → GoOnWith place one old new
with_kept place one was old new on (inl k) others =
    with_put place one old new
    (subst (λ (xs : List (Option Open)). IfSome (held_in (slice_get xs place)) (λ held. Continues one held)) (sym k.places)
    (set_holds (λ held. Continues one held) (places_of old) place k.held (continues_then one was k.held on (continues_kept was k.held k.kept)))) others
with_kept place one was old new on (inr k) others = with_all place one old new (all_places old new k.places)

more_in : (p q : ℕ) (one was : Open) (o n : Option Open) → Continues one was → IfSome n (λ held. ((w : Open) × (o ≡ Some w) × Continues w held) ⊎ ((q ≡ p) × Continues was held))
    → IfSome n (λ held. ((w : Open) × (o ≡ Some w) × Continues w held) ⊎ ((q ≡ p) × Continues one held))
more_in p q one was o None on with = tt
more_in p q one was o (Some held) on (inl w) = inl w
more_in p q one was o (Some held) on (inr (here, next)) = inr (here, continues_then one was held on next)

pub with_more : (place : ℕ) (one was : Open) (old new : Connections) → Continues one was → GoOnWith place was old new → GoOnWith place one old new
with_more place one was old new on with q = more_in place q one was (held_at old q) (held_at new q) on (with q)

behind_one : (p q : ℕ) (one : Open) (o : Option Open) (mid held : Open) → Continues mid held → ((was : Open) × (o ≡ Some was) × Continues was mid) ⊎ ((q ≡ p) × Continues one mid)
    → ((was : Open) × (o ≡ Some was) × Continues was held) ⊎ ((q ≡ p) × Continues one held)
behind_one p q one o mid held on (inl (was, is, first)) = inl (was, is, continues_then was mid held first on)
behind_one p q one o mid held on (inr (here, first)) = inr (here, continues_then one mid held first on)

behind_in : (p q : ℕ) (one : Open) (o m n : Option Open) → IfSome m (λ held. ((was : Open) × (o ≡ Some was) × Continues was held) ⊎ ((q ≡ p) × Continues one held)) → IfSome n (λ held. (was : Open) × (m ≡ Some was) × Continues was held)
    → IfSome n (λ held. ((was : Open) × (o ≡ Some was) × Continues was held) ⊎ ((q ≡ p) × Continues one held))
behind_in p q one o m None first next = tt
behind_in p q one o m (Some held) first (mid, is, on) =
    behind_one p q one o mid held on (subst (λ x. IfSome x (λ h. ((was : Open) × (o ≡ Some was) × Continues was h) ⊎ ((q ≡ p) × Continues one h))) is first)

pub with_then : (place : ℕ) (one : Open) (old mid new : Connections) → GoOnWith place one old mid → AllContinue mid new → GoOnWith place one old new
with_then place one old mid new first next q = behind_in place q one (held_at old q) (held_at mid q) (held_at new q) (first q) (next q)

some_none : (was : Open) → None ≡ Some was → ⊥
some_none was is = cc

-- nobody has come where nobody stood
pub still_none : (o n : Option Open) → o ≡ None → IfSome n (λ held. (was : Open) × (o ≡ Some was) × Continues was held) → n ≡ None
still_none o None is on = refl
still_none o (Some held) is (was, there, on) = absurd (some_none was (sym is ∙ there))

-- all go on, and then all but one
before_one : (p q : ℕ) (P : Open → Type 0) (o m : Option Open) (held : Open) → IfSome m (λ h. (was : Open) × (o ≡ Some was) × Continues was h) → ((was : Open) × (m ≡ Some was) × Continues was held) ⊎ ((q ≡ p) × P held)
    → ((was : Open) × (o ≡ Some was) × Continues was held) ⊎ ((q ≡ p) × P held)
before_one p q P o m held first (inl next) = inl (then_in o m (Some held) first next)
before_one p q P o m held first (inr here) = inr here

before_in : (p q : ℕ) (P : Open → Type 0) (o m n : Option Open) → IfSome m (λ h. (was : Open) × (o ≡ Some was) × Continues was h) → IfSome n (λ held. ((was : Open) × (m ≡ Some was) × Continues was held) ⊎ ((q ≡ p) × P held))
    → IfSome n (λ held. ((was : Open) × (o ≡ Some was) × Continues was held) ⊎ ((q ≡ p) × P held))
before_in p q P o m None first next = tt
before_in p q P o m (Some held) first next = before_one p q P o m held first next

pub all_but_then : (place : ℕ) (P : Open → Type 0) (old mid new : Connections) → AllContinue old mid → GoOnBut place P mid new → GoOnBut place P old new
all_but_then place P old mid new first next q = before_in place q P (held_at old q) (held_at mid q) (held_at new q) (first q) (next q)

-- whoever stands there, of whom more is so
more_at : (p q : ℕ) (P Q : Open → Type 0) (o : Option Open) (held : Open) → (P held → Q held) → ((was : Open) × (o ≡ Some was) × Continues was held) ⊎ ((q ≡ p) × P held)
    → ((was : Open) × (o ≡ Some was) × Continues was held) ⊎ ((q ≡ p) × Q held)
more_at p q P Q o held more (inl on) = inl on
more_at p q P Q o held more (inr (here, good)) = inr (here, more good)

pub but_more : (place : ℕ) (P Q : Open → Type 0) (old new : Connections) → ((held : Open) → P held → Q held) → GoOnBut place P old new → GoOnBut place Q old new
but_more place P Q old new more but q =
    holds_more (λ held. ((was : Open) × (held_at old q ≡ Some was) × Continues was held) ⊎ ((q ≡ place) × P held)) (λ held. ((was : Open) × (held_at old q ≡ Some was) × Continues was held) ⊎ ((q ≡ place) × Q held))
    (λ held on. more_at place q P Q (held_at old q) held (more held) on) (held_at new q) (but q)

-- a command's byte, said or held
obeys_at : (byte : ℕ) (was held : Open) (socket : Socket) → was.state ≡ state.Ordering → socket ≡ was.socket → said_on held ≡ went_of socket ++ byte ∷ [] → came_of held.socket ≡ came_of socket → unread held.state ≡ [] → Obeys byte was held
obeys_at byte was held socket is on said came nothing =
    record {
      ordered = is;
      said = said ∙ ap (λ xs. xs ++ byte ∷ []) (said_before was socket on (ap unsent is));
      nothing_came = came ∙ ap came_of on;
      nothing_unread = nothing;
    }

pub obeys_saying : (byte : ℕ) (was held : Open) (socket : Socket) → was.state ≡ state.Ordering → socket ≡ was.socket → Says (byte ∷ []) Close (went_of socket) (came_of socket) held → Obeys byte was held
obeys_saying byte was held socket is on says =
    obeys_at byte was held socket is on says.said says.nothing_came (saying_unread (byte ∷ []) Close held.state says.stands)

pub obeys_holding : (byte : ℕ) (was held : Open) (socket : Socket) → was.state ≡ state.Ordering → socket ≡ was.socket → held.socket ≡ socket → held.state ≡ state.Holding byte → Obeys byte was held
obeys_holding byte was held socket is on by holding =
    obeys_at byte was held socket is on (λ i. went_of (by i) ++ unsent (holding i)) (ap came_of by) (ap unread holding)

-- who was taken from a place
taken_one : (p q : ℕ) (P : Open → Type 0) (old mid : Connections) (held : Open) → held_at mid p ≡ None → elsewhere p mid ≡ elsewhere p old
    → (p ≡ q) ⊎ ((xs : List (Option Open)) → held_in (slice_get (slice_set xs p None) q) ≡ held_in (slice_get xs q))
    → ((was : Open) × (held_at mid q ≡ Some was) × Continues was held) ⊎ ((q ≡ p) × P held) → ((was : Open) × (held_at old q ≡ Some was) × Continues was held) ⊎ ((q ≡ p) × P held)
taken_one p q P old mid held none others at (inr here) = inr here
taken_one p q P old mid held none others (inl here) (inl (was, there, on)) =
    absurd (some_none was (sym (subst (λ place. held_at mid place ≡ None) here none) ∙ there))
taken_one p q P old mid held none others (inr apart) (inl (was, there, on)) = inl (was, sym (apart_same p q old mid others apart) ∙ there, on)

pub taken_but : (place : ℕ) (P : Open → Type 0) (old mid new : Connections) → held_at mid place ≡ None → elsewhere place mid ≡ elsewhere place old → GoOnBut place P mid new → GoOnBut place P old new
taken_but place P old mid new none others with q =
    holds_more (λ held. ((was : Open) × (held_at mid q ≡ Some was) × Continues was held) ⊎ ((q ≡ place) × P held)) (λ held. ((was : Open) × (held_at old q ≡ Some was) × Continues was held) ⊎ ((q ≡ place) × P held))
    (λ held on. taken_one place q P old mid held none others (same_or_apart place q) on) (held_at new q) (with q)

-- and goes on there
on_there : (p q : ℕ) (one : Open) (old : Connections) (held : Open) → held_at old p ≡ Some one → ((was : Open) × (held_at old q ≡ Some was) × Continues was held) ⊎ ((q ≡ p) × Continues one held)
    → (was : Open) × (held_at old q ≡ Some was) × Continues was held
on_there p q one old held is (inl on) = on
on_there p q one old held is (inr (here, on)) = (one, subst (λ place. held_at old place ≡ Some one) (sym here) is, on)

pub taken_goes_on : (place : ℕ) (one : Open) (old mid new : Connections) → held_at old place ≡ Some one → held_at mid place ≡ None → elsewhere place mid ≡ elsewhere place old → GoOnWith place one mid new → AllContinue old new
taken_goes_on place one old mid new is none others with q =
    holds_more (λ held. ((was : Open) × (held_at old q ≡ Some was) × Continues was held) ⊎ ((q ≡ place) × Continues one held)) (λ held. (was : Open) × (held_at old q ≡ Some was) × Continues was held)
    (λ held on. on_there place q one old held is on) (held_at new q) (taken_but place (λ held. Continues one held) old mid new none others with q)
