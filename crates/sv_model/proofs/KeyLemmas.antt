-- Keys in their order.
use Rattle.std.proofs.Common.{◌≡◌, ◌≢◌, ◌⊎◌, ℕ, Bool, true, false, refl, sym, ap, ◌∙◌, inl, inr}
use Rattle.std.specs.Ordering.{nat_cmp, is_eq}
use Rattle.std.specs.declared.cmp.Ordering.{Ordering}
use Rattle.std.specs.declared.cmp.Ordering.TheVariants.{Less, Equal, Greater}
use Rattle.std.specs.Cmp.{IsTotalOrder, nat_cmp_total}
use Rattle.std.proofs.lemmas.Cmp.{on_total, then_total, eq_by_cmp_equiv}
use Rattle.std.proofs.lemmas.Map.Lookups.{CmpEqualImpliesEq, exact_pairs, exact_unsigned}
use Rattle.sv_model.proofs.Prelude.{Key, key_cmp, same_key}

pub keys_total : IsTotalOrder key_cmp
keys_total = then_total (on_total (λ (k : Key). k.home) nat_cmp_total) (on_total (λ (k : Key). k.serial) nat_cmp_total)

-- keys that compare alike are one
pub exact_keys : CmpEqualImpliesEq key_cmp
exact_keys a b h = ap (λ (p : ℕ × ℕ). record { home = p.0; serial = p.1 }) (exact_pairs nat_cmp nat_cmp exact_unsigned exact_unsigned (a.home, a.serial) (b.home, b.serial) h)

equal_of : (o : Ordering) → is_eq o ≡ true → o ≡ Equal
equal_of Less h = absurd cc
equal_of Equal h = refl
equal_of Greater h = absurd cc

-- two keys are one or not, and the test tells which
abbrev Tells : Key → Key → Bool → Type 0
Tells a b same = ((a ≡ b) × (same ≡ true)) ⊎ ((a ≢ b) × (same ≡ false))

tells : (a b : Key) (same : Bool) → same_key a b ≡ same → Tells a b same
tells a b true is = inl (exact_keys a b (equal_of (key_cmp a b) is), refl)
tells a b false is = inr ((λ one. let self : same_key a a ≡ true = (eq_by_cmp_equiv keys_total).refl a in absurd (let never : false ≡ true = sym is ∙ ap (same_key a) (sym one) ∙ self in cc)), refl)

pub keys_tell : (a b : Key) → ((a ≡ b) × (same_key a b ≡ true)) ⊎ ((a ≢ b) × (same_key a b ≡ false))
keys_tell a b = tells a b (same_key a b) refl
