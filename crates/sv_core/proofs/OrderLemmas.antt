-- Keys in their order.
use Rattle.sv_core.proofs.Prelude.{◌≡◌, ◌≢◌, Bool, true, false, cond, Some, None, List, [], ◌∷◌, refl, sym, ap, ◌∙◌, ⊎_elim, T, ◌&&◌, find, below_all, is_lt}
use Rattle.sv_core.proofs.Prelude.{is_eq, Ordering, Less, Equal, Greater, Key, key_cmp, same_key, Entry, keys_total, keys_tell}
use Rattle.std.specs.Ordering.{ordering_reverse}

pub first : (a b : Bool) → T (a && b) → T a
first true b p = tt
first false b p = p

pub second : (a b : Bool) → T (a && b) → T b
second true b p = p
second false b p = absurd p

pub both : (a b : Bool) → T a → T b → T (a && b)
both true b p q = q
both false b p q = p

pub less : (o : Ordering) → T (is_lt o) → o ≡ Less
less Less p = refl
less Equal p = absurd p
less Greater p = absurd p

-- ---- two keys

pub reversed : (a b : Key) (o : Ordering) → key_cmp a b ≡ o → key_cmp b a ≡ ordering_reverse o
reversed a b o is = keys_total.antisymm b a ∙ ap ordering_reverse is

pub one_key : (a b : Key) → same_key a b ≡ true → a ≡ b
one_key a b is = ⊎_elim (λ (t : (a ≡ b) × (same_key a b ≡ true)). t.0) (λ (t : (a ≢ b) × (same_key a b ≡ false)). absurd (let no : true ≡ false = sym is ∙ t.1 in cc)) (keys_tell a b)

-- a key below another is below all that are above that one
pub find_low : (k x : Key) (es : List Entry) → key_cmp k x ≡ Less → T (below_all key_cmp x es) → find key_cmp k es ≡ None
find_low k x [] low above = refl
find_low k x (e ∷ es) low above =
    let lower : key_cmp k e.0 ≡ Less = keys_total.trans k x e.0 low (less _ (first _ _ above)) in
    ap (λ o. cond (is_eq o) (Some e.1) (find key_cmp k es)) lower ∙ find_low k x es low (second _ _ above)
