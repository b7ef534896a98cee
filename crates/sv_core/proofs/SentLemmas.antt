-- Of the keys in their order, those whose session was handed over.
use Rattle.sv_core.proofs.Prelude.{◌≡◌, ℕ, Bool, true, false, cond, List, [], ◌∷◌, refl, sym, ap, ◌∙◌, subst, T, nat_lt, put, below_all, by_order, is_eq, is_lt}
use Rattle.sv_core.proofs.Prelude.{Ordering, Less, Equal, Greater, Key, KeyState, key_cmp, Place, Rises, AreWithin, state_at, erase, marked, is_handed_over}
use Rattle.sv_core.proofs.Prelude.{sent_among, keys_total, exact_keys}
use Rattle.sv_core.proofs.OrderLemmas.{first, second, both, less}
use Rattle.sv_core.proofs.PlaceLemmas.{AreSame}

sent_if : (x : Key) (p : Place) (l : List Place) (b : Bool) → T (is_lt (key_cmp x p.0)) → T (below_all key_cmp x l) → T (below_all key_cmp x (cond b (p ∷ l) l))
sent_if x p l true here rest = both _ _ here rest
sent_if x p l false here rest = rest

below_sent : (x : Key) (states : List KeyState) (ps : List Place) → T (below_all key_cmp x ps) → T (below_all key_cmp x (sent_among states ps))
below_sent x states [] above = tt
below_sent x states (p ∷ ps) above =
    sent_if x p (sent_among states ps) (is_handed_over (state_at states p.1)) (first _ _ above) (below_sent x states ps (second _ _ above))

-- the keys that pass rise too
rises_if : (p : Place) (l : List Place) (b : Bool) → T (below_all key_cmp p.0 l) → Rises l → Rises (cond b (p ∷ l) l)
rises_if p l true above rises = both _ _ above rises
rises_if p l false above rises = rises

pub sent_rises : (states : List KeyState) (ps : List Place) → Rises ps → Rises (sent_among states ps)
sent_rises states [] rises = tt
sent_rises states (p ∷ ps) rises = rises_if p (sent_among states ps) (is_handed_over (state_at states p.1)) (below_sent p.0 states ps (first _ _ rises)) (sent_rises states ps (second _ _ rises))

-- a key below all of them
above_marked : (k : Key) (at : ℕ) (b : Bool) (l : List Place) → T (below_all key_cmp k l) → cond b ((k, at) ∷ l) l ≡ marked k at b l
above_marked k at true [] above = refl
above_marked k at false [] above = refl
above_marked k at true (p ∷ ps) above = sym (ap (λ o. by_order o ((k, at) ∷ p ∷ ps) ((p.0, at) ∷ ps) (p ∷ put key_cmp k at ps)) (less _ (first _ _ above)))
above_marked k at false (p ∷ ps) above =
    sym (ap (λ o. cond (is_eq o) ps (p ∷ erase k ps)) (less _ (first _ _ above)) ∙ ap (λ l. p ∷ l) (sym (above_marked k at false ps (second _ _ above))))

same_sent : (k : Key) (old new : List KeyState) (ps : List Place) → T (below_all key_cmp k ps) → AreSame k old new ps → sent_among new ps ≡ sent_among old ps
same_sent k old new [] above same = refl
same_sent k old new (p ∷ ps) above same =
    let rest = same_sent k old new ps (second _ _ above) same.1 in
    λ i. cond (is_handed_over (same.0 (ap is_eq (less _ (first _ _ above))) i)) (p ∷ rest i) (rest i)

low_all : (k x : Key) (ps : List Place) → key_cmp k x ≡ Less → T (below_all key_cmp x ps) → T (below_all key_cmp k ps)
low_all k x [] is above = tt
low_all k x (p ∷ ps) is above =
    both _ _ (subst (λ o. T (is_lt o)) (sym (keys_total.trans k x p.0 is (less _ (first _ _ above)))) tt) (low_all k x ps is (second _ _ above))

equal_marked : (k : Key) (at : ℕ) (p : Place) (l : List Place) (b c : Bool) → key_cmp k p.0 ≡ Equal → T (below_all key_cmp p.0 l) → cond b ((p.0, at) ∷ l) l ≡ marked k at b (cond c (p ∷ l) l)
equal_marked k at p l true true is above = sym (ap (λ o. by_order o ((k, at) ∷ p ∷ l) ((p.0, at) ∷ l) (p ∷ put key_cmp k at l)) is)
equal_marked k at p l false true is above = sym (ap (λ o. cond (is_eq o) l (p ∷ erase k l)) is)
equal_marked k at p l b false is above =
    let one : p.0 ≡ k = sym (exact_keys k p.0 is) in
    ap (λ (q : Key). cond b ((q, at) ∷ l) l) one ∙ above_marked k at b l (subst (λ (q : Key). T (below_all key_cmp q l)) one above)

greater_marked : (k : Key) (at : ℕ) (p : Place) (l : List Place) (b c : Bool) → key_cmp k p.0 ≡ Greater → cond c (p ∷ marked k at b l) (marked k at b l) ≡ marked k at b (cond c (p ∷ l) l)
greater_marked k at p l true true is = sym (ap (λ o. by_order o ((k, at) ∷ p ∷ l) ((p.0, at) ∷ l) (p ∷ put key_cmp k at l)) is)
greater_marked k at p l false true is = sym (ap (λ o. cond (is_eq o) l (p ∷ erase k l)) is)
greater_marked k at p l b false is = refl

sent_by : (k : Key) (at : ℕ) (st : KeyState) (old new : List KeyState) (p : Place) (ps : List Place) (o : Ordering) → key_cmp k p.0 ≡ o → T (below_all key_cmp p.0 ps) → state_at new at ≡ st → AreSame k old new (p ∷ ps)
    → sent_among new (put key_cmp k at ps) ≡ marked k at (is_handed_over st) (sent_among old ps)
    → sent_among new (by_order o ((k, at) ∷ p ∷ ps) ((p.0, at) ∷ ps) (p ∷ put key_cmp k at ps)) ≡ marked k at (is_handed_over st) (sent_among old (p ∷ ps))
sent_by k at st old new p ps Less is above there same rest =
    let all : T (below_all key_cmp k (p ∷ ps)) = both _ _ (subst (λ o. T (is_lt o)) (sym is) tt) (low_all k p.0 ps is above) in
    let one = same_sent k old new (p ∷ ps) all same in
    (λ i. cond (is_handed_over (there i)) ((k, at) ∷ one i) (one i)) ∙ above_marked k at (is_handed_over st) (sent_among old (p ∷ ps)) (below_sent k old (p ∷ ps) all)
sent_by k at st old new p ps Equal is above there same rest =
    let one = same_sent k old new ps (subst (λ (q : Key). T (below_all key_cmp q ps)) (sym (exact_keys k p.0 is)) above) same.1 in
    (λ i. cond (is_handed_over (there i)) ((p.0, at) ∷ one i) (one i)) ∙ equal_marked k at p (sent_among old ps) (is_handed_over st) (is_handed_over (state_at old p.1)) is (below_sent p.0 old ps above)
sent_by k at st old new p ps Greater is above there same rest =
    (λ i. cond (is_handed_over (same.0 (ap is_eq is) i)) (p ∷ rest i) (rest i)) ∙ greater_marked k at p (sent_among old ps) (is_handed_over st) (is_handed_over (state_at old p.1)) is

-- what a walk gives after one state more, or another one
pub sent_put : (k : Key) (at : ℕ) (st : KeyState) (old new : List KeyState) (ps : List Place) → Rises ps → state_at new at ≡ st → AreSame k old new ps → sent_among new (put key_cmp k at ps) ≡ marked k at (is_handed_over st) (sent_among old ps)
sent_put k at st old new [] rises there same = ap (λ (s : KeyState). cond (is_handed_over s) ((k, at) ∷ []) []) there ∙ above_marked k at (is_handed_over st) [] tt
sent_put k at st old new (p ∷ ps) rises there same = sent_by k at st old new p ps (key_cmp k p.0) refl (first _ _ rises) there same (sent_put k at st old new ps (second _ _ rises) there same.1)

within_if : (n : ℕ) (p : Place) (l : List Place) (b : Bool) → T (nat_lt p.1 n) → AreWithin n l → AreWithin n (cond b (p ∷ l) l)
within_if n p l true here rest = both _ _ here rest
within_if n p l false here rest = rest

pub sent_within : (n : ℕ) (states : List KeyState) (ps : List Place) → AreWithin n ps → AreWithin n (sent_among states ps)
sent_within n states [] within = tt
sent_within n states (p ∷ ps) within = within_if n p (sent_among states ps) (is_handed_over (state_at states p.1)) (first _ _ within) (sent_within n states ps (second _ _ within))
