use Rattle.sv_dispatch.proofs.Prelude.{◌≡◌, ℕ, ◌<◌, ◌≤◌, ◌+◌, suc, List, [], ◌∷◌, ◌++◌, length, get_or, drop, arith, sym, ◌∙◌, ap, refl, add-one, drop-cons}
use Rattle.sv_dispatch.proofs.Prelude.{true, false, All, Some, subst, All-pop, drop_all, Serves, Lent, Filters, Row, IsReadyAt, before_at, after_at, Asked}
use Rattle.sv_dispatch.proofs.Prelude.{Before, Pass, Table, Begun, begun, befores, afters, passes, shown_behind, Sight, call_of}
use Rattle.std.proofs.Common.{append_assoc, append-nil}
use Rattle.sv_servlet.specs.Filter.{verdict}

-- the filters before, and then what follows
abbrev pub joined : List ℕ → Begun → Begun
joined ps b = begun (ps ++ b.passed) b.view b.before b.lent

-- the filter at hand passed
pub befores_pass : (gs fs : List (Row Filters)) (ks : List ℕ) (i k d : ℕ) (call : Asked) (s z : Sight) (l m : Lent) (b : Before) (ps qs : List ℕ) (total : Begun) →
    gs ≡ fs → i < length ks → k ≡ get_or ks i d → passes b ≡ true → call ≡ call_of s 0 → z ≡ shown_behind s b → verdict m b ≡ before_at gs k call l → qs ≡ ps ++ k ∷ [] →
    joined ps (befores fs (drop i ks) s l) ≡ total → joined qs (befores fs (drop (i + 1) ks) z m) ≡ total
unfolding befores
befores_pass gs fs ks i k d call s z l m b ps qs total g h e p c w v q t =
    let v' : verdict m b ≡ before_at fs k (call_of s 0) l = v ∙ ap (λ (us : List (Row Filters)). before_at us k call l) g ∙ ap (λ (x : Asked). before_at fs k x l) c in
    rw (q, w, append_assoc, add-one) (rw (drop-cons ks i d h, ← e, ← v', p) at t)

stopped : (fs : List (Row Filters)) (ks : List ℕ) (k : ℕ) (s : Sight) (l m : Lent) (b : Before) (ps : List ℕ) (total : Begun) →
    verdict m b ≡ before_at fs k (call_of s 0) l → passes b ≡ false → joined ps (befores fs (k ∷ ks) s l) ≡ total → begun ps s b m ≡ total
unfolding befores
stopped fs ks k s l m b ps total v p t = rw append-nil at (rw (← v, p) at t)

-- the filter at hand did not
pub befores_stop : (gs fs : List (Row Filters)) (ks : List ℕ) (i k d : ℕ) (call : Asked) (s : Sight) (l m : Lent) (b : Before) (ps : List ℕ) (total : Begun) →
    gs ≡ fs → i < length ks → k ≡ get_or ks i d → passes b ≡ false → call ≡ call_of s 0 → verdict m b ≡ before_at gs k call l →
    joined ps (befores fs (drop i ks) s l) ≡ total → begun ps s b m ≡ total
befores_stop gs fs ks i k d call s l m b ps total g h e p c v t =
    let v' : verdict m b ≡ before_at fs k (call_of s 0) l = v ∙ ap (λ (us : List (Row Filters)). before_at us k call l) g ∙ ap (λ (x : Asked). before_at fs k x l) c in
    stopped fs (drop (suc i) ks) k s l m b ps total v' p (rw (drop-cons ks i d h, ← e) at t)

-- no filter is left
pub befores_end : (fs : List (Row Filters)) (ks : List ℕ) (i : ℕ) (s : Sight) (l : Lent) (ps : List ℕ) (total : Begun) →
    length ks ≤ i → joined ps (befores fs (drop i ks) s l) ≡ total → begun ps s Pass l ≡ total
unfolding befores
befores_end fs ks i s l ps total h t = rw append-nil at (rw (drop_all i ks h) at t)

-- one more filter at the end
pub afters_last : (fs : List (Row Filters)) (ks : List ℕ) (k : ℕ) (call : Asked) (l : Lent) → afters fs (ks ++ k ∷ []) call l ≡ afters fs ks call (after_at fs k call l)
unfolding afters
afters_last fs [] k call l = refl
afters_last fs (j ∷ ks) k call l = ap (after_at fs j call) (afters_last fs ks k call l)

-- the last filter was called
pub afters_pop : (gs fs : List (Row Filters)) (js ks : List ℕ) (k : ℕ) (seen call : Asked) (l m total : Lent) →
    gs ≡ fs → js ≡ ks ++ k ∷ [] → seen ≡ call → m ≡ after_at gs k seen l → afters fs js call l ≡ total → afters fs ks call m ≡ total
afters_pop gs fs js ks k seen call l m total g j s e t =
    ap (afters fs ks call) (e ∙ ap (λ (us : List (Row Filters)). after_at us k seen l) g ∙ ap (λ (x : Asked). after_at fs k x l) s) ∙ (sym (afters_last fs ks k call l) ∙ (ap (λ ns. afters fs ns call l) (sym j) ∙ t))

-- the filters are of the same rows, and the servlets stay
pub filters_kept : (t u : Table) (fs : List (Row Filters)) → t ≡ u → fs ≡ t.filters → (record t { filters = fs }) ≡ u
filters_kept t u fs h e = ap (λ (gs : List (Row Filters)). let v : Table = record t { filters = gs } in v) e ∙ h

pub servlets_kept : (t u : Table) (rs : List (Row Serves)) → t ≡ u → rs ≡ t.servlets → (record t { servlets = rs }) ≡ u
servlets_kept t u rs h e = ap (λ (qs : List (Row Serves)). let v : Table = record t { servlets = qs } in v) e ∙ h

-- the last of a list that is ready, and the rest
pub ready_last : (t u : Table) (js ks : List ℕ) (k : ℕ) → t ≡ u → All (IsReadyAt u.filters) js → js ≡ ks ++ k ∷ [] → IsReadyAt t.filters k
ready_last t u js ks k e a j = subst (λ (v : Table). IsReadyAt v.filters k) (sym e) (All-pop (IsReadyAt u.filters) js ks (Some k) j a).1

pub ready_front : (fs : List (Row Filters)) (js ks : List ℕ) (k : ℕ) → js ≡ ks ++ k ∷ [] → All (IsReadyAt fs) js → All (IsReadyAt fs) ks
ready_front fs js ks k j a = (All-pop (IsReadyAt fs) js ks (Some k) j a).0

-- one of a list that is ready
pub ready_at : (t u : Table) (ks : List ℕ) (i k d : ℕ) → t ≡ u → All (IsReadyAt u.filters) ks → i < length ks → k ≡ get_or ks i d → IsReadyAt t.filters k
ready_at t u ks i k d e a h n = subst (λ (v : Table). IsReadyAt v.filters k) (sym e) (subst (IsReadyAt u.filters) (sym n) (a i d h))

-- no filter is left to be called
pub afters_end : (fs : List (Row Filters)) (js : List ℕ) (call : Asked) (l total : Lent) → js ≡ [] → afters fs js call l ≡ total → l ≡ total
unfolding afters
afters_end fs js call l total e t = rw e at t

pub no_items : (xs : List ℕ) (n : ℕ) → n ≡ length xs → n ≡ 0 → xs ≡ []
no_items [] n l z = refl
no_items (x ∷ xs) n l z = absurd (omega arith)
