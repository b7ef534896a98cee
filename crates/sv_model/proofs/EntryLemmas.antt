-- The entries of what a node knows, in order of the keys: each is what it knows of its key.
use Rattle.std.proofs.Common.{◌≡◌, ℕ, Bool, true, false, cond, Some, List, [], ◌∷◌, refl, sym, ap, ◌∙◌, subst, inl, inr, ⊎_elim}
use Rattle.std.specs.Prelude.{T, ◌&&◌}
use Rattle.std.specs.Cmp.{eq_by_cmp_equiv}
use Rattle.std.specs.FinMap.{empty, get, entries, find, entries_sorted, get-entries, len-entries, len-empty}
use Rattle.std.proofs.lemmas.List.{nil_from_length}
use Rattle.std.specs.FinMap.Entries.{below_all, is_sorted}
use Rattle.std.specs.Ordering.{is_lt, is_eq, ordering_reverse}
use Rattle.std.specs.declared.cmp.Ordering.{Ordering}
use Rattle.std.specs.declared.cmp.Ordering.TheVariants.{Less, Equal, Greater}
use Rattle.std.proofs.lemmas.Bool.{cond_both}
use Rattle.sv_model.proofs.Prelude.{Key, KeyState, key_cmp, Keys, In}
use Rattle.sv_model.specs.Time.{is_over, first_over}
use Rattle.sv_model.proofs.KeyLemmas.{keys_total}

abbrev pub Entry : Type 0
Entry = Key × KeyState

first : (a b : Bool) → T (a && b) → T a
first true b p = tt
first false b p = p

second : (a b : Bool) → T (a && b) → T b
second true b p = p
second false b p = absurd p

less : (o : Ordering) → T (is_lt o) → o ≡ Less
less Less p = refl
less Equal p = absurd p
less Greater p = absurd p

above_each : (x : Key) (es : List Entry) (e : Entry) → T (below_all key_cmp x es) → In e es → key_cmp x e.0 ≡ Less
above_each x [] e above i = absurd i
above_each x (f ∷ es) e above i = ⊎_elim (λ (same : f ≡ e). subst (λ (g : Entry). key_cmp x g.0 ≡ Less) same (less _ (first _ _ above))) (λ (t : In e es). above_each x es e (second _ _ above) t) i

known_by : (es : List Entry) (e : Entry) → T (is_sorted key_cmp es) → In e es → find key_cmp e.0 es ≡ Some e.1
known_by [] e rises i = absurd i
known_by (f ∷ es) e rises i = ⊎_elim
    (λ (same : f ≡ e). subst (λ (g : Entry). find key_cmp g.0 (f ∷ es) ≡ Some g.1) same (ap (λ b. cond b (Some f.1) (find key_cmp f.0 es)) ((eq_by_cmp_equiv keys_total).refl f.0)))
    (λ (t : In e es).
    let low : key_cmp f.0 e.0 ≡ Less = above_each f.0 es e (first _ _ rises) t in
    let high : key_cmp e.0 f.0 ≡ Greater = keys_total.antisymm e.0 f.0 ∙ ap ordering_reverse low in
    ap (λ o. cond (is_eq o) (Some f.1) (find key_cmp e.0 es)) high ∙ known_by es e (second _ _ rises) t)
    i

pub entry_kept : (keys : Keys) (e : Entry) → In e (entries keys) → get keys e.0 ≡ Some e.1
entry_kept keys e i = get-entries keys e.0 ∙ known_by (entries keys) e (entries_sorted keys) i

pub over_in : (now : ℕ) (es : List Entry) (e : Entry) → first_over now es ≡ Some e → In e es × (is_over now e.1 ≡ true)
over_in now [] e is = absurd (cc)
over_in now (f ∷ es) e is = cond_both (is_over now f.1) (Some f) (first_over now es) (λ o. o ≡ Some e → In e (f ∷ es) × (is_over now e.1 ≡ true))
    (λ t s. let k : f ≡ e = cc in (inl k, ap (λ (g : Entry). is_over now g.1) (sym k) ∙ t))
    (λ t s. let r = over_in now es e s in (inr r.0, r.1)) is

pub no_entries : entries {R = key_cmp} (empty {X = KeyState}) ≡ []
no_entries = nil_from_length (entries {R = key_cmp} (empty {X = KeyState})) (sym (len-entries (empty {X = KeyState} {R = key_cmp})) ∙ len-empty key_cmp KeyState)
