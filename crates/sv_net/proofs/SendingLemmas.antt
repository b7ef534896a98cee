-- What becomes of a text for a node.
use Rattle.sv_net.proofs.Prelude.{◌≡◌, ◌⊎◌, ◌<◌, ℕ, suc, true, List, [], ◌∷◌, ◌++◌, Vec, Option, Some, None, slice_set, length, inl, inr, refl, ap, sym, ◌∙◌}
use Rattle.sv_net.proofs.Prelude.{subst, IfSome, slice_get, Global, append-nil, Connections, Open, Socket, Leaves, went_of, unsent, HasStood, IsKept, Keeps}
use Rattle.sv_net.proofs.Prelude.{elsewhere, held_at, held_in, places_of, with_at, IsOnItsWay, SendsBehind}
use Rattle.std.proofs.Common.{get_or, arith}
use Rattle.std.specs.Prelude.{Contains, position}
use Rattle.std.specs.List.{swap_remove}
use Rattle.std.proofs.lemmas.Bool.{eqb-true}
use Rattle.std.proofs.lemmas.List.Elements.{All-contains_itself}
use Rattle.std.proofs.lemmas.List.Quantifiers.{position-Some}
use Rattle.std.proofs.lemmas.List.Sorted.{All-permutation, IsPermutation-swap_remove}
use Rattle.sv_net.specs.declared.links.Link.{Link}
use Rattle.sv_net.specs.declared.state.State.TheVariants.{Calling}
use Rattle.sv_net.specs.Sending.{Admits, AreAmong, IsLinkTo, SamePeople, Sends, is_to, links_of}
use Rattle.sv_net.proofs.PlaceLemmas.{keep_holds, set_holds}
use Rattle.sv_net.proofs.SpareLemmas.{apart_same, same_or_apart}

-- ---- the links

pub same_among : (old new : List Link) → new ≡ old → AreAmong old new
same_among old new is = subst (λ xs. AreAmong old xs) (sym is) (All-contains_itself old)

-- one of them was taken out
pub among_but : (links : List Link) (at : ℕ) (link : Link) → at < length links → link ≡ get_or links at link → AreAmong links (swap_remove links at link)
among_but links at link within is =
    let all = All-permutation (λ other. Contains links other) links (link ∷ swap_remove links at link) (IsPermutation-swap_remove links at link within is) (All-contains_itself links) in
    λ k d lt. all (suc k) d (omega (arith, lt))

pub found_link : (to at : ℕ) (links : List Link) (link : Link) → position (is_to to) links ≡ Some at → at < length links → link ≡ get_or links at link → (link.node ≡ to) × Contains links link
found_link to at links link found within is = (
  eqb-true link.node to (subst (λ (l : Link). is_to to l ≡ true) (sym is) (position-Some (is_to to) links at link found).1),
  (at, within, sym is),
)

in_old : (old mid : List Link) (link : Link) → AreAmong old mid → Contains mid link → Contains old link
in_old old mid link among (k, lt, is) = subst (λ l. Contains old l) is (among k link lt)

among_then : (old mid new : List Link) → AreAmong old mid → AreAmong mid new → AreAmong old new
among_then old mid new first next = λ k d lt. in_old old mid _ first (next k d lt)

either_then : (old mid : List Link) (one other : Link) → AreAmong old mid → Contains mid other ⊎ (other ≡ one) → Contains old other ⊎ (other ≡ one)
either_then old mid one other among (inl there) = inl (in_old old mid other among there)
either_then old mid one other among (inr is) = inr is

-- ---- who stands where

stays : (P : Open → Type 0) (o n : Option Open) → n ≡ o → IfSome n (λ held. (o ≡ Some held) ⊎ P held)
stays P o None is = tt
stays P o (Some held) is = inl (sym is)

pub nobody_comes : (P : Open → Type 0) (old new : Connections) → SamePeople old new → Admits P old new
nobody_comes P old new same q = stays P (held_at old q) (held_at new q) (same q)

or_more : (P Q : Open → Type 0) (o : Option Open) (held : Open) → (P held → Q held) → (o ≡ Some held) ⊎ P held → (o ≡ Some held) ⊎ Q held
or_more P Q o held more (inl is) = inl is
or_more P Q o held more (inr p) = inr (more p)

moves_on : (P Q : Open → Type 0) (o m n : Option Open) → n ≡ m → ((h : Open) → P h → Q h) → IfSome m (λ h. (o ≡ Some h) ⊎ P h) → IfSome n (λ h. (o ≡ Some h) ⊎ Q h)
moves_on P Q o m None is more came = tt
moves_on P Q o m (Some h) is more came = or_more P Q o h (more h) (subst (λ x. IfSome x (λ h. (o ≡ Some h) ⊎ P h)) (sym is) came)

pub admits_more : (P Q : Open → Type 0) (old new : Connections) → ((h : Open) → P h → Q h) → Admits P old new → Admits Q old new
admits_more P Q old new more came q = moves_on P Q (held_at old q) (held_at new q) (held_at new q) refl more (came q)

-- a newcomer is put to a place
put_at : (P : Open → Type 0) (p q : ℕ) (one : Open) (old mid new : Connections) → P one → SamePeople old mid → places_of new ≡ with_at p one mid → elsewhere p new ≡ elsewhere p mid
    → (p ≡ q) ⊎ ((xs : List (Option Open)) → held_in (slice_get (slice_set xs p None) q) ≡ held_in (slice_get xs q)) → IfSome (held_at new q) (λ held. (held_at old q ≡ Some held) ⊎ P held)
put_at P p q one old mid new good same put others (inl here) =
    subst (λ (xs : List (Option Open)). IfSome (held_in (slice_get xs q)) (λ held. (held_at old q ≡ Some held) ⊎ P held)) (sym put)
    (subst (λ place. IfSome (held_in (slice_get (with_at p one mid) place)) (λ held. (held_at old place ≡ Some held) ⊎ P held)) here
    (set_holds (λ held. (held_at old p ≡ Some held) ⊎ P held) (places_of mid) p one (inr good)))
put_at P p q one old mid new good same put others (inr apart) = stays P (held_at old q) (held_at new q) (apart_same p q mid new others apart ∙ same q)

-- and is kept there
newcomer : (P : Open → Type 0) (o : Option Open) (was : Open) → o ≡ None → (o ≡ Some was) ⊎ P was → P was
newcomer P o was none (inl is) = cc
newcomer P o was none (inr p) = p

keeps_on : (P Q : Open → Type 0) (o m n : Option Open) → o ≡ None → ((was h : Open) → IsKept was h → P was → Q h) → IfSome n (λ h. (was : Open) × (m ≡ Some was) × IsKept was h)
    → IfSome m (λ h. (o ≡ Some h) ⊎ P h) → IfSome n (λ h. (o ≡ Some h) ⊎ Q h)
keeps_on P Q o m None none keeps stood came = tt
keeps_on P Q o m (Some h) none keeps (was, is, kept) came = inr (keeps was h kept (newcomer P o was none (subst (λ x. IfSome x (λ h. (o ≡ Some h) ⊎ P h)) is came)))

kept_at : (P Q : Open → Type 0) (p q : ℕ) (old mid new : Connections) → held_at old p ≡ None → ((was h : Open) → IsKept was h → P was → Q h) → ((h : Open) → P h → Q h) → Admits P old mid → HasStood p mid new → elsewhere p new ≡ elsewhere p mid
    → (p ≡ q) ⊎ ((xs : List (Option Open)) → held_in (slice_get (slice_set xs p None) q) ≡ held_in (slice_get xs q)) → IfSome (held_at new q) (λ held. (held_at old q ≡ Some held) ⊎ Q held)
kept_at P Q p q old mid new none keeps more came stood others (inl here) =
    subst (λ place. IfSome (held_at new place) (λ held. (held_at old place ≡ Some held) ⊎ Q held)) here (keeps_on P Q (held_at old p) (held_at mid p) (held_at new p) none keeps stood (came p))
kept_at P Q p q old mid new none keeps more came stood others (inr apart) =
    moves_on P Q (held_at old q) (held_at mid q) (held_at new q) (apart_same p q mid new others apart) more (came q)

-- and is kept where nobody stood
kept_in : (P : Open → Type 0) (o n : Option Open) → IfSome n P → IfSome n (λ h. (o ≡ Some h) ⊎ P h)
kept_in P o None good = tt
kept_in P o (Some h) good = inr good

keep_at : (P : Open → Type 0) (p q : ℕ) (old mid new : Connections) → SamePeople old mid → IfSome (held_at new p) P → elsewhere p new ≡ elsewhere p mid
    → (p ≡ q) ⊎ ((xs : List (Option Open)) → held_in (slice_get (slice_set xs p None) q) ≡ held_in (slice_get xs q)) → IfSome (held_at new q) (λ held. (held_at old q ≡ Some held) ⊎ P held)
keep_at P p q old mid new same good others (inl here) =
    subst (λ place. IfSome (held_at new place) (λ held. (held_at old place ≡ Some held) ⊎ P held)) here (kept_in P (held_at old p) (held_at new p) good)
keep_at P p q old mid new same good others (inr apart) = stays P (held_at old q) (held_at new q) (apart_same p q mid new others apart ∙ same q)

pub admits_keep : (P : Open → Type 0) (place : ℕ) (was : Open) (old mid new : Connections) → SamePeople old mid → held_at mid place ≡ None → Keeps place was mid new → elsewhere place new ≡ elsewhere place mid
    → ((held : Open) → IsKept was held → P held) → Admits P old new
admits_keep P place was old mid new same none kept others good q =
    keep_at P place q old mid new same (keep_holds P place was mid new kept none good) others (same_or_apart place q)

-- ---- the text

-- what waits of it
pub on_its_way : (to : ℕ) (socket mid : Socket) (text : List ℕ) (left : Vec ℕ Global) (held : Open) → Leaves socket mid text left.items → (held.state ≡ Calling to left None) × (went_of held.socket ≡ went_of mid)
    → IsOnItsWay to (went_of socket) text held
on_its_way to socket mid text left held leaves (calling, went) =
    record { frame = left; calling = calling; said = (λ i. went i ++ unsent (calling i)) ∙ leaves.said }

-- it left whole
pub went_whole : (socket mid : Socket) (text left : List ℕ) → Leaves socket mid text left → left ≡ [] → went_of mid ≡ went_of socket ++ text
went_whole socket mid text left leaves none = sym (append-nil (went_of mid)) ∙ ap (λ xs. went_of mid ++ xs) (sym none) ∙ leaves.said

from_then : (to : ℕ) (before text : List ℕ) (o m n : Option Open) → m ≡ o → IfSome n (λ held. (m ≡ Some held) ⊎ IsOnItsWay to before text held) → IfSome n (λ held. (o ≡ Some held) ⊎ IsOnItsWay to before text held)
from_then to before text o m n is people = subst (λ x. IfSome n (λ held. (x ≡ Some held) ⊎ IsOnItsWay to before text held)) is people

-- fewer links were there when it was sent
pub behind_then : (to : ℕ) (before text : List ℕ) (old mid new : Connections) → AreAmong (links_of old) (links_of mid) → SamePeople old mid → SendsBehind to before text mid new → SendsBehind to before text old new
behind_then to before text old mid new among same (inl s) =
    inl (record {
      link = s.link;
      sent = s.sent;
      links = λ k d lt. either_then (links_of old) (links_of mid) s.link _ among (s.links k d lt);
      people = λ q. s.people q ∙ same q;
    })
behind_then to before text old mid new among same (inr (inl s)) =
    inr (inl (record {
      links = among_then (links_of old) (links_of mid) (links_of new) among s.links;
      people = λ q. from_then to before text (held_at old q) (held_at mid q) (held_at new q) (same q) (s.people q);
    }))
behind_then to before text old mid new among same (inr (inr s)) =
    inr (inr (record { links = among_then (links_of old) (links_of mid) (links_of new) among s.links; people = λ q. s.people q ∙ same q }))

-- ---- a link that was taken out

pub taken_among : (seen links new : List Link) (at : ℕ) (link : Link) → seen ≡ links → at < length seen → link ≡ get_or links at link → new ≡ swap_remove links at link → AreAmong links new
taken_among seen links new at link same within is rest =
    subst (λ xs. AreAmong links xs) (sym rest) (among_but links at link (subst (λ xs. at < length xs) same within) is)

pub taken_link : (to at : ℕ) (seen links : List Link) (link now : Link) → seen ≡ links → Some at ≡ position (is_to to) seen → at < length seen → link ≡ get_or links at link → now.node ≡ link.node
    → went_of now.socket ≡ went_of link.socket → IsLinkTo to links now
taken_link to at seen links link now same found within is node went =
    let there = found_link to at links link (ap (position (is_to to)) (sym same) ∙ sym found) (subst (λ xs. at < length xs) same within) is in
    record { node = node ∙ there.0; left_by = inr (link, there.1, there.0, sym went) }

-- nothing was sent
pub sends_nothing : {to : ℕ} {text : List ℕ} (c : Connections) → Sends to text c c
sends_nothing c = ([], inl refl, inr (inr (record { links = same_among (links_of c) (links_of c) refl; people = λ q. refl })))
