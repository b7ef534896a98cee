-- The laws of each field, by its construction.
use Rattle.std.proofs.Common.{◌≡◌, ℕ, ◌<◌, ◌^◌, ◌+◌, ◌&&◌, Bool, true, false, cond, List, length, Ok, refl, arith, ap, subst, sym, ◌∙◌}
use Rattle.std.specs.Prelude.{ℤ, nat_lt, nat_eq}
use Rattle.std.specs.Int.{w8, w16, w32, w64, to_be_bytes, cast_signed, cast_unsigned}
use Rattle.std.specs.Int.RustNames.{FitsSigned}
use Rattle.std.specs.Str.{is_utf8}
use Rattle.std.proofs.lemmas.Bool.Decides.{nat_tests}
use Rattle.std.proofs.lemmas.Int.{of_z-to_z, to_z-of_z}
use Rattle.std.proofs.Math.Facts.{sfits_to_z, Fits-of_z}
use Rattle.sv_record.proofs.Prelude.{CONTEXT_LIMIT, ATTRIBUTE_LIMIT, Version, One, Two, ◌>>=◌, Reading, number_at, number, raw, pair, such_that, sized, long}
use Rattle.sv_record.proofs.Prelude.{counting, node, key, flag, signed, value_width, Before, at_first, behind, is_below, is_name_length, is_value_length, name}
use Rattle.sv_record.proofs.Prelude.{value, attribute, attributes, context, session}
use Rattle.sv_record.proofs.FormatLaws.{Lawful, Takes, IsWide, wide8, wide16, wide32, wide64, bind_ok, ok_is, number_lawful, raw_lawful, chain_lawful, pair_lawful, seen_as_lawful, such_that_lawful, sized_lawful, counted_lawful}

byte_that : (test : ℕ → Bool) → Lawful (such_that (number w8) test)
byte_that test = such_that_lawful (number w8) test (number_lawful w8 wide8)

pub long_lawful : Lawful long
unfolding long
long_lawful = number_lawful w64 wide64

pub counting_lawful : Lawful counting
unfolding counting
counting_lawful = such_that_lawful long (λ n. nat_lt 0 n) long_lawful

pub node_lawful : Lawful node
unfolding node
node_lawful = byte_that (λ n. nat_lt n 8)

pub key_lawful : Lawful key
unfolding key
key_lawful = seen_as_lawful (pair node counting) (λ p. record { home = p.0; serial = p.1 }) (λ k. (k.home, k.serial)) (pair_lawful node counting node_lawful counting_lawful) (λ a fits. refl) (λ k. refl)

flag_there : (n : ℕ) → (n < 2 ^ 8) × (nat_lt n 2 ≡ true) → cond (nat_eq n 1) 1 0 ≡ n
flag_there n fits = let small : nat_lt n 2 ≡ true = fits.1 in grind (arith, nat_tests)

flag_back : (b : Bool) → nat_eq (cond b 1 0) 1 ≡ b
flag_back true = refl
flag_back false = refl

pub flag_lawful : Lawful flag
unfolding flag
flag_lawful = seen_as_lawful (such_that (number w8) (λ n. nat_lt n 2)) (λ n. nat_eq n 1) (λ b. cond b 1 0) (byte_that (λ n. nat_lt n 2)) flag_there flag_back

abbrev read_as : ℤ → List ℕ → Reading ℤ
read_as z rest = Ok (z, rest)

pub signed_lawful : Lawful signed
unfolding signed
signed_lawful = record {
  takes = λ all x fits e.
      let n = bind_ok (number_at w32 all) (λ n. Ok (cast_signed w32 n.0, n.1)) x e in
      let t = (number_lawful w32 wide32).takes all n.0 fits n.1 in
      let there : cast_unsigned w32 (cast_signed w32 n.0.0) ≡ n.0.0 = of_z-to_z w32 n.0.0 t.1 in
      subst (λ (y : ℤ × List ℕ). Takes all (to_be_bytes w32 (cast_unsigned w32 y.0)) y.1 × FitsSigned w32 y.0) (ok_is (cast_signed w32 n.0.0, n.0.1) x n.2)
      (subst (λ (k : ℕ). Takes all (to_be_bytes w32 k) n.0.1) (sym there) t.0, sfits_to_z {w = w32} {n = n.0.0} (record { fits = t.1 }));
  again = λ z rest fits.
      let back : cast_signed w32 (cast_unsigned w32 z) ≡ z = to_z-of_z w32 z fits in
      let first = (number_lawful w32 wide32).again (cast_unsigned w32 z) rest (Fits-of_z {w = w32} {z = z} fits).fits in
      ap (λ (r : Reading ℕ). r >>= λ n. Ok (cast_signed w32 n.0, n.1)) first ∙ ap (λ (y : ℤ). read_as y rest) back;
}

pub context_lawful : Lawful context
unfolding context
context_lawful = byte_that (λ n. nat_lt n CONTEXT_LIMIT)

value_wide : (v : Version) → IsWide (value_width v)
value_wide One = wide16
value_wide Two = wide32

pub name_lawful : (v : Version) (before : Before) → Lawful (name v before)
unfolding name
name_lawful v before = such_that_lawful (sized w16 (is_name_length v before.total)) (λ text. is_utf8 text && is_below before.last text) (sized_lawful w16 (is_name_length v before.total) wide16)

pub value_lawful : (v : Version) (total : ℕ) → Lawful (value v total)
unfolding value
value_lawful v total = sized_lawful (value_width v) (is_value_length v total) (value_wide v)

pub attribute_lawful : (v : Version) (before : Before) → Lawful (attribute v before)
unfolding attribute
attribute_lawful v before = chain_lawful (name v before) (λ text. value v (before.total + length text)) (name_lawful v before) (λ text. value_lawful v (before.total + length text))

pub attributes_lawful : (v : Version) → Lawful (attributes v)
unfolding attributes
attributes_lawful v = counted_lawful (attribute v) behind (attribute_lawful v) w16 ATTRIBUTE_LIMIT at_first wide16

pub session_lawful : (v : Version) → Lawful (session v)
unfolding session
session_lawful v =
    let fresh = pair flag (attributes v) in
    let interval = pair signed fresh in
    let last = pair long interval in
    let created = pair long last in
    let placed = pair context created in
    seen_as_lawful (pair (raw 16) placed)
    (λ p. record {
      secret = record { 0 = p.0 };
      context = p.1.0;
      created = p.1.1.0;
      last = p.1.1.1.0;
      interval = p.1.1.1.1.0;
      fresh = p.1.1.1.1.1.0;
      attributes = p.1.1.1.1.1.1;
    })
    (λ s. (s.secret.0, (s.context, (s.created, (s.last, (s.interval, (s.fresh, s.attributes)))))))
    (pair_lawful (raw 16) placed (raw_lawful 16)
    (pair_lawful context created context_lawful
    (pair_lawful long last long_lawful
    (pair_lawful long interval long_lawful
    (pair_lawful signed fresh signed_lawful
    (pair_lawful flag (attributes v) flag_lawful (attributes_lawful v)))))))
    (λ a fits. refl {a = a}) (λ s. refl {a = s})
