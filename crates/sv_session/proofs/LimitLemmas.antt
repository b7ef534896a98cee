-- Attributes that would be too many, or too large in all, once a value is set.
use Rattle.std.proofs.Common.{◌≡◌, ◌∙◌, ℕ, ◌+◌, ◌-◌, ◌<◌, ◌≤◌, true, false, List, length, Some, None, sym, arith}
use Rattle.std.specs.Prelude.{nat_lt, nat_le}
use Rattle.std.proofs.lemmas.Bool.Decides.{nat_tests}
use Rattle.sv_model.specs.Attributes.{Attribute, attributes_size, NamesRise, value_of, with_attribute}
use Rattle.sv_model.specs.declared.session.TheConstants.{ATTRIBUTE_LIMIT, NAME_LIMIT, VALUE_LIMIT, SESSION_LIMIT}
use Rattle.sv_model.proofs.AttributesLemmas.{size_replaced, size_added, size_removed}
use Rattle.sv_session.specs.Calls.{is_too_large}

same_test : (a b c d : ℕ) → (a < b → c < d) → (c < d → a < b) → nat_lt a b ≡ nat_lt c d
same_test a b c d there back = grind (arith, nat_tests)

true_test : (a b : ℕ) → a < b → nat_lt a b ≡ true
true_test a b h = grind (arith, nat_tests)

true_test_le : (a b : ℕ) → a ≤ b → true ≡ nat_le a b
true_test_le a b h = grind (arith, nat_tests)

false_test : (a b : ℕ) → b ≤ a → nat_lt a b ≡ false
false_test a b h = grind (arith, nat_tests)

module _ (es : List Attribute) where
  too_many : ATTRIBUTE_LIMIT < length es → is_too_large es ≡ true
  too_many many = rw (true_test ATTRIBUTE_LIMIT (length es) many)

  by_size : (a b : ℕ) → length es ≤ ATTRIBUTE_LIMIT → (a < b → SESSION_LIMIT < attributes_size es) → (SESSION_LIMIT < attributes_size es → a < b) → nat_lt a b ≡ is_too_large es
  by_size a b few there back = rw (false_test ATTRIBUTE_LIMIT (length es) few) (same_test a b SESSION_LIMIT (attributes_size es) there back)

-- attributes of this number and this size
module _ (es : List Attribute) (n size : ℕ) (count : n ≡ length es) (total : size ≡ attributes_size es) (rise : NamesRise es) (name value : List ℕ) where
  abbrev new : List Attribute
  new = with_attribute es name value

  module _ (was : List ℕ) (found : Some was ≡ value_of es name) where
    pub too_many_replaced : ATTRIBUTE_LIMIT < n → nat_lt ATTRIBUTE_LIMIT n ≡ is_too_large new
    too_many_replaced many =
        let sizes = size_replaced es name value was rise found in
        let more : ATTRIBUTE_LIMIT < length new = omega (arith, sizes.1) in
        true_test ATTRIBUTE_LIMIT n many ∙ sym (too_many new more)

    pub too_large_replaced : n ≤ ATTRIBUTE_LIMIT → length value ≤ VALUE_LIMIT → nat_lt (SESSION_LIMIT - length value) (size - length was) ≡ is_too_large new
    too_large_replaced few short =
        let sizes = size_replaced es name value was rise found in
        let there = size_removed es name was found in
        by_size new (SESSION_LIMIT - length value) (size - length was) (omega (arith, sizes.1)) (λ h. omega (arith, sizes.0, there.0)) (λ h. omega (arith, sizes.0, there.0))

  module _ (absent : None ≡ value_of es name) where
    pub too_many_added : ATTRIBUTE_LIMIT ≤ n → nat_le ATTRIBUTE_LIMIT n ≡ is_too_large new
    too_many_added many =
        let sizes = size_added es name value rise absent in
        let more : ATTRIBUTE_LIMIT < length new = omega (arith, sizes.1) in
        sym (true_test_le ATTRIBUTE_LIMIT n many) ∙ sym (too_many new more)

    pub too_large_added : n < ATTRIBUTE_LIMIT → length name ≤ NAME_LIMIT → length value ≤ VALUE_LIMIT → nat_lt (SESSION_LIMIT - (length name + length value)) size ≡ is_too_large new
    too_large_added few named short =
        let sizes = size_added es name value rise absent in
        by_size new (SESSION_LIMIT - (length name + length value)) size (omega (arith, sizes.1)) (λ h. omega (arith, sizes.0)) (λ h. omega (arith, sizes.0))
