-- What the form of a pattern says of its text, and the texts of a form.
use Rattle.sv_mapping.proofs.Prelude.{◌≡◌, ◌+◌, ◌-◌, ◌<◌, ◌≤◌, ◌&&◌, ◌⊎◌, Bool, true, false, cond, eqb, [], ◌∷◌, ◌++◌, length, get_or, drop, take, refl, sym}
use Rattle.sv_mapping.proofs.Prelude.{ap, ◌∙◌, inl, inr, arith, length-append, codes, and_parts, starts_with, ends_with, bytes_eq, get_or-drop, take_all}
use Rattle.sv_mapping.proofs.Prelude.{take-append-le, bytes_eq-Decides, starts_is, Decides-eqb, Text, form_of, prefix_of, suffix_of, matches, rule_of}
use Rattle.sv_mapping.proofs.Prelude.{PatternForm, Exact, ContextRoot, Prefix, Extension, Default}
use Rattle.std.proofs.lemmas.List.Prefix.{end_rest}
use Rattle.std.proofs.lemmas.Slice.Eq.{ends_is}
use Rattle.sv_mapping.specs.Pattern.{matches_by, rule_of_form}

-- the form, by its four tests in their order
abbrev chosen : Bool → Bool → Bool → Bool → PatternForm
chosen root default prefix extension =
    cond root ContextRoot (cond default Default (cond prefix Prefix (cond extension Extension Exact)))

root_test : (a b c d : Bool) → chosen a b c d ≡ ContextRoot → a ≡ true
root_test true b c d e = refl
root_test false true c d e = cc
root_test false false true d e = cc
root_test false false false true e = cc
root_test false false false false e = cc

default_test : (a b c d : Bool) → chosen a b c d ≡ Default → b ≡ true
default_test true b c d e = cc
default_test false true c d e = refl
default_test false false true d e = cc
default_test false false false true e = cc
default_test false false false false e = cc

prefix_test : (a b c d : Bool) → chosen a b c d ≡ Prefix → c ≡ true
prefix_test true b c d e = cc
prefix_test false true c d e = cc
prefix_test false false true d e = refl
prefix_test false false false true e = cc
prefix_test false false false false e = cc

extension_test : (a b c d : Bool) → chosen a b c d ≡ Extension → d ≡ true
extension_test true b c d e = cc
extension_test false true c d e = cc
extension_test false false true d e = cc
extension_test false false false true e = refl
extension_test false false false false e = cc

some_bytes : (xs : Text) → 0 < length xs → bytes_eq xs [] ≡ false
some_bytes [] h = absurd (omega arith)
some_bytes (x ∷ xs) h = refl

module _ (pattern : Text) where
  pub root_text : form_of pattern ≡ ContextRoot → pattern ≡ []
  unfolding form_of
  root_text e = (bytes_eq-Decides pattern []).0 (root_test _ _ _ _ e)

  pub default_text : form_of pattern ≡ Default → pattern ≡ codes "/"
  unfolding form_of
  default_text e = (bytes_eq-Decides pattern (codes "/")).0 (default_test _ _ _ _ e)

  pub exact_form : 0 < length pattern → bytes_eq pattern (codes "/") ≡ false → (starts_with eqb pattern (codes "/") && ends_with eqb pattern (codes "/*")) ≡ false → starts_with eqb pattern (codes "*.") ≡ false → form_of pattern ≡ Exact
  unfolding form_of
  exact_form some default prefix extension = rw (some_bytes pattern some, default, prefix, extension) refl

  prefix_tests : form_of pattern ≡ Prefix → (starts_with eqb pattern (codes "/") ≡ true) × (ends_with eqb pattern (codes "/*") ≡ true)
  unfolding form_of
  prefix_tests e = and_parts _ _ (prefix_test _ _ _ _ e)

  pub prefix_text : form_of pattern ≡ Prefix → pattern ≡ prefix_of pattern ++ codes "/*"
  prefix_text e = (ends_is Decides-eqb pattern (codes "/*") _ refl).0 (prefix_tests e).1

  pub prefix_slash : form_of pattern ≡ Prefix → pattern ≡ 47 ∷ drop 1 pattern
  prefix_slash e = (starts_is Decides-eqb pattern (codes "/") _ refl).0 (prefix_tests e).0

  pub extension_text : form_of pattern ≡ Extension → pattern ≡ codes "*." ++ suffix_of pattern
  unfolding form_of
  extension_text e = (starts_is Decides-eqb pattern (codes "*.") _ refl).0 (extension_test _ _ _ _ e)

  pub prefix_len : form_of pattern ≡ Prefix → 2 ≤ length pattern
  prefix_len e = omega (arith, length-append (prefix_of pattern) (codes "/*"), ap length (prefix_text e))

  pub prefix_slash_at : form_of pattern ≡ Prefix → get_or pattern (length pattern - 2) 0 ≡ 47
  prefix_slash_at e =
      let back : drop (length pattern - 2) pattern ≡ codes "/*" = end_rest pattern (codes "/*") (prefix_of pattern) (prefix_text e) in
      let at : length pattern - 2 + 0 ≡ length pattern - 2 = omega arith in
      ap (λ n. get_or pattern n 0) (sym at) ∙ sym (get_or-drop (length pattern - 2) pattern 0 0) ∙ ap (λ (t : Text). get_or t 0 0) back

  pub extension_len : form_of pattern ≡ Extension → 2 ≤ length pattern
  extension_len e = omega (arith, ap length (extension_text e))

  pub extension_dot : form_of pattern ≡ Extension → get_or pattern 1 0 ≡ 46
  extension_dot e = ap (λ (t : Text). get_or t 1 0) (extension_text e)

-- the forms of composed texts

nonempty : (xs : Text) → bytes_eq (xs ++ codes "/*") [] ≡ false
nonempty [] = refl
nonempty (x ∷ xs) = refl

pub form_of-prefix : (xs : Text) → form_of (47 ∷ (xs ++ codes "/*")) ≡ Prefix
unfolding form_of
form_of-prefix xs =
    let ends : ends_with eqb (47 ∷ (xs ++ codes "/*")) (codes "/*") ≡ true = (ends_is Decides-eqb (47 ∷ (xs ++ codes "/*")) (codes "/*") _ refl).1 (47 ∷ xs) refl in
    rw (nonempty xs, ends) refl

pub form_of-any : form_of (codes "/*") ≡ Prefix
unfolding form_of
form_of-any = refl

pub form_of-extension : (xs : Text) → form_of (codes "*." ++ xs) ≡ Extension
unfolding form_of
form_of-extension xs = refl

pub form_of-root : form_of [] ≡ ContextRoot
unfolding form_of
form_of-root = refl

pub form_of-default : form_of (codes "/") ≡ Default
unfolding form_of
form_of-default = refl

-- what stands before the `/*`
pub prefix_of-append : (front : Text) → prefix_of (front ++ codes "/*") ≡ front
prefix_of-append front =
    let short : length (front ++ codes "/*") - 2 ≡ length front = omega (arith, length-append front (codes "/*")) in
    ap (λ n. take n (front ++ codes "/*")) short ∙ take-append-le (length front) front (codes "/*") (omega arith) ∙ take_all (length front) front (omega arith)

-- a form of the rule of a number
pub rule_forms : (f : PatternForm) → rule_of_form f ≡ 1 → (f ≡ Exact) ⊎ (f ≡ ContextRoot)
rule_forms Exact e = inl refl
rule_forms ContextRoot e = inr refl
rule_forms Prefix e = absurd (omega arith)
rule_forms Extension e = absurd (omega arith)
rule_forms Default e = absurd (omega arith)

prefix_rule : (f : PatternForm) → rule_of_form f ≡ 2 → f ≡ Prefix
prefix_rule Exact e = absurd (omega arith)
prefix_rule ContextRoot e = absurd (omega arith)
prefix_rule Prefix e = refl
prefix_rule Extension e = absurd (omega arith)
prefix_rule Default e = absurd (omega arith)

extension_rule : (f : PatternForm) → rule_of_form f ≡ 3 → f ≡ Extension
extension_rule Exact e = absurd (omega arith)
extension_rule ContextRoot e = absurd (omega arith)
extension_rule Prefix e = absurd (omega arith)
extension_rule Extension e = refl
extension_rule Default e = absurd (omega arith)

default_rule : (f : PatternForm) → rule_of_form f ≡ 4 → f ≡ Default
default_rule Exact e = absurd (omega arith)
default_rule ContextRoot e = absurd (omega arith)
default_rule Prefix e = absurd (omega arith)
default_rule Extension e = absurd (omega arith)
default_rule Default e = refl

four_rules : (f : PatternForm) → (1 ≤ rule_of_form f) × (rule_of_form f ≤ 4)
four_rules Exact = (omega arith, omega arith)
four_rules ContextRoot = (omega arith, omega arith)
four_rules Prefix = (omega arith, omega arith)
four_rules Extension = (omega arith, omega arith)
four_rules Default = (omega arith, omega arith)

module _ (pattern : Text) where
  pub rule_of-form : (f : PatternForm) → form_of pattern ≡ f → rule_of pattern ≡ rule_of_form f
  unfolding rule_of
  rule_of-form f e = ap rule_of_form e

  pub exact_or_root : rule_of pattern ≡ 1 → (form_of pattern ≡ Exact) ⊎ (form_of pattern ≡ ContextRoot)
  unfolding rule_of
  exact_or_root e = rule_forms (form_of pattern) e

  pub prefix_by_rule : rule_of pattern ≡ 2 → form_of pattern ≡ Prefix
  unfolding rule_of
  prefix_by_rule e = prefix_rule (form_of pattern) e

  pub extension_by_rule : rule_of pattern ≡ 3 → form_of pattern ≡ Extension
  unfolding rule_of
  extension_by_rule e = extension_rule (form_of pattern) e

  pub default_by_rule : rule_of pattern ≡ 4 → form_of pattern ≡ Default
  unfolding rule_of
  default_by_rule e = default_rule (form_of pattern) e

  pub rule_of-bounds : (1 ≤ rule_of pattern) × (rule_of pattern ≤ 4)
  unfolding rule_of
  rule_of-bounds = four_rules (form_of pattern)

  pub matches-form : (path : Text) (f : PatternForm) → form_of pattern ≡ f → matches pattern path ≡ matches_by f pattern path
  unfolding matches
  matches-form path f e = ap (λ g. matches_by g pattern path) e
