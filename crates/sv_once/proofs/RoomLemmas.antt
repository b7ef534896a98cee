-- A session that is given bytes to remember keeps the limits of sessions, and remembers them.
use Rattle.std.proofs.Common.{◌≡◌, refl, sym, ap, ◌∙◌, subst, ℕ, ◌^◌, ◌<◌, ◌≤◌, Bool, true, false, cond, List, [], ◌∷◌, length, Option, Some, None, arith}
use Rattle.std.specs.Prelude.{IfSome, nat_le, unwrap_or}
use Rattle.std.specs.Map.{lookup}
use Rattle.std.specs.Ordering.{is_eq, match_ordering}
use Rattle.std.specs.Str.{bytes_eq}
use Rattle.std.specs.declared.cmp.Ordering.{Ordering}
use Rattle.std.specs.declared.cmp.Ordering.TheVariants.{Less, Equal, Greater}
use Rattle.std.proofs.lemmas.Bool.Decides.{nat_tests}
use Rattle.std.proofs.lemmas.Map.Text.{is_eq-slice_cmp}
use Rattle.std.proofs.lemmas.Slice.Eq.{bytes_eq-Decides}
use Rattle.sv_model.specs.Attributes.{Attribute, attributes_size, name_cmp, value_of, with_attribute, without_attribute}
use Rattle.sv_model.specs.Limits.{IsWithinLimits}
use Rattle.sv_model.specs.declared.session.Session.{Session}
use Rattle.sv_model.specs.declared.session.TheConstants.{ATTRIBUTE_LIMIT, NAME_LIMIT, SESSION_LIMIT, VALUE_LIMIT}
use Rattle.sv_model.proofs.AttributesLemmas.{All-names-with_attribute, All-values-with_attribute, All-without_attribute, Takes, size_with_attribute, without_attribute-takes}
use Rattle.sv_once.specs.Room.{bare, has_room, is_bounded, is_small, memory_name, memory_of, remembering, session_with, with_memory}
use Rattle.sv_once.proofs.PartsLemmas.{both_true}

at_most_from_test : (a b : ℕ) → nat_le a b ≡ true → a ≤ b
at_most_from_test a b is = grind (arith, nat_tests)

-- ---- without what it remembers

fewer : (old new : List Attribute) (found : Option (List ℕ)) → Takes memory_name old new found → (length new ≤ length old) × (attributes_size new ≤ attributes_size old)
fewer old new None takes = subst (λ (l : List Attribute). (length l ≤ length old) × (attributes_size l ≤ attributes_size old)) (sym takes) (omega arith, omega arith)
fewer old new (Some was) takes = (omega (arith, takes.1), omega (arith, takes.0))

pub bare_within : (s : Session) → IsWithinLimits s → IsWithinLimits (bare s)
bare_within s old =
    let less = fewer s.attributes (without_attribute s.attributes memory_name) (value_of s.attributes memory_name) (without_attribute-takes memory_name s.attributes) in
    record {
      context = old.context;
      count = omega (arith, less.0, old.count);
      named = All-without_attribute (λ e. 0 < length e.0) memory_name s.attributes old.named;
      names = All-without_attribute (λ e. length e.0 ≤ NAME_LIMIT) memory_name s.attributes old.names;
      values = All-without_attribute (λ e. length e.1 ≤ VALUE_LIMIT) memory_name s.attributes old.values;
      size = omega (arith, less.1, old.size);
    }

-- ---- with it

name_some : 0 < length memory_name
unfolding memory_name
name_some = omega arith

name_short : length memory_name ≤ NAME_LIMIT
unfolding memory_name
name_short = omega arith

remembering_within : (memory : List ℕ) (s : Session) → length memory ≤ VALUE_LIMIT → is_small (remembering memory s) ≡ true → IsWithinLimits s → IsWithinLimits (remembering memory s)
remembering_within [] s short small old = old
remembering_within (b ∷ bytes) s short small old =
    let new : List Attribute = with_attribute s.attributes memory_name (b ∷ bytes) in
    let both = both_true (nat_le (length new) ATTRIBUTE_LIMIT) (nat_le (attributes_size new) SESSION_LIMIT) small in
    record {
      context = old.context;
      count = at_most_from_test (length new) ATTRIBUTE_LIMIT both.0;
      named = All-names-with_attribute (λ n. 0 < length n) memory_name (b ∷ bytes) s.attributes name_some old.named;
      names = All-names-with_attribute (λ n. length n ≤ NAME_LIMIT) memory_name (b ∷ bytes) s.attributes name_short old.names;
      values = All-values-with_attribute (λ v. length v ≤ VALUE_LIMIT) memory_name (b ∷ bytes) s.attributes short old.values;
      size = at_most_from_test (attributes_size new) SESSION_LIMIT both.1;
    }

room_within : (memory : List ℕ) (s : Session) (b : Bool) → has_room memory s ≡ b → IsWithinLimits s → IfSome (cond b (Some (with_memory memory s)) None) IsWithinLimits
room_within memory s false is old = tt
room_within memory s true is old =
    let whole = both_true (is_bounded memory (bare s)) (is_small (with_memory memory s)) is in
    let short = both_true (nat_le (length memory) VALUE_LIMIT) (nat_le (attributes_size (bare s).attributes) SESSION_LIMIT) whole.0 in
    remembering_within memory (bare s) (at_most_from_test (length memory) VALUE_LIMIT short.0) whole.1 (bare_within s old)

pub session_within : (memory : List ℕ) (s : Session) → IsWithinLimits s → IfSome (session_with memory s) IsWithinLimits
unfolding session_with
session_within memory s old = room_within memory s (has_room memory s) refl old

-- ---- what it remembers then

found_here : (name value : List ℕ) (o : Ordering) (e : Attribute) (es rest : List Attribute) → name_cmp name e.0 ≡ o → value_of rest name ≡ Some value
    → value_of (match_ordering o ((name, value) ∷ e ∷ es) ((e.0, value) ∷ es) (e ∷ rest)) name ≡ Some value
unfolding value_of
found_here name value Less e es rest is found = ap (λ (b : Bool). cond b (Some value) (lookup (bytes_eq name) (e ∷ es))) ((bytes_eq-Decides name name).1 refl)
found_here name value Equal e es rest is found =
    ap (λ (b : Bool). cond b (Some value) (lookup (bytes_eq name) es)) (sym (is_eq-slice_cmp name e.0) ∙ ap is_eq is)
found_here name value Greater e es rest is found =
    ap (λ (b : Bool). cond b (Some e.1) (lookup (bytes_eq name) rest)) (sym (is_eq-slice_cmp name e.0) ∙ ap is_eq is) ∙ found

pub value_of-with_attribute : (name value : List ℕ) (es : List Attribute) → value_of (with_attribute es name value) name ≡ Some value
unfolding with_attribute value_of
value_of-with_attribute name value [] = ap (λ (b : Bool). cond b (Some value) None) ((bytes_eq-Decides name name).1 refl)
value_of-with_attribute name value (e ∷ es) =
    found_here name value (name_cmp name e.0) e es (with_attribute es name value) refl (value_of-with_attribute name value es)

kept_by : (memory : List ℕ) (s : Session) → 0 < length memory → memory_of (remembering memory s) ≡ memory
kept_by [] s some = absurd (omega (arith, some))
kept_by (b ∷ bytes) s some = ap (λ (v : Option (List ℕ)). unwrap_or v []) (value_of-with_attribute memory_name (b ∷ bytes) s.attributes)

kept_if : (memory : List ℕ) (s : Session) (b : Bool) → 0 < length memory → IfSome (cond b (Some (with_memory memory s)) None) (λ t. memory_of t ≡ memory)
kept_if memory s false some = tt
kept_if memory s true some = kept_by memory (bare s) some

-- some bytes that a session is given to remember are what it remembers
pub remembers : (memory : List ℕ) (s : Session) → 0 < length memory → IfSome (session_with memory s) (λ t. memory_of t ≡ memory)
unfolding session_with
remembers memory s some = kept_if memory s (has_room memory s) some

-- ---- the size of attributes with it

pub put_small : (memory name : List ℕ) (s : Session) → is_bounded memory s ≡ true → name ≡ memory_name → attributes_size (with_attribute s.attributes name memory) < 2 ^ 64
put_small memory name s is name_is =
    let both = both_true (nat_le (length memory) VALUE_LIMIT) (nat_le (attributes_size s.attributes) SESSION_LIMIT) is in
    let short : length memory ≤ VALUE_LIMIT = at_most_from_test (length memory) VALUE_LIMIT both.0 in
    let small : attributes_size s.attributes ≤ SESSION_LIMIT = at_most_from_test (attributes_size s.attributes) SESSION_LIMIT both.1 in
    let named : length name ≡ length memory_name = ap (λ (n : List ℕ). length n) name_is in
    omega (arith, short, small, named, name_short, size_with_attribute name memory s.attributes)
