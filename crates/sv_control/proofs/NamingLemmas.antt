-- A key's text names that key.
use Rattle.std.proofs.Common.{◌≡◌, refl, sym, ap, subst, ◌∙◌, ℕ, suc, ◌+◌, ◌<◌, ◌^◌, cond, not, List, [], ◌∷◌, ◌++◌, length, take, drop, decimal, length-append, arith}
use Rattle.std.specs.Char.{digit_value}
use Rattle.std.specs.List.{position_or_len}
use Rattle.std.specs.Str.Parse.{AllDigits, IsNumeral, digits_value, without_leading_plus}
use Rattle.std.proofs.Math.Seq.{drop-append-add, take-append_seam}
use Rattle.std.proofs.lemmas.Bool.{ne_eqb}
use Rattle.std.proofs.lemmas.Fmt.{decimal_is_IsNumeral}
use Rattle.sv_model.specs.declared.key.Key.{Key}
use Rattle.sv_model.specs.Keys.{IsKey}
use Rattle.sv_control.specs.Naming.{Names, Writes, is_point, key_text}

no_digit : (d c : ℕ) → (digit_value c < 10 → ⊥) → digit_value d < 10 → d ≡ c → ⊥
no_digit d c none small is = none (subst (λ n. digit_value n < 10) is small)

one_more : (n m : ℕ) → n ≡ m → 1 + n ≡ suc m
one_more n m same = omega (arith, same)

-- the point after digits is the first
point_behind : (ds ys : List ℕ) → AllDigits 10 ds → position_or_len is_point (ds ++ 46 ∷ ys) ≡ length ds
point_behind [] ys digits = refl
point_behind (d ∷ ds) ys digits =
    ap (λ b. cond (not b) (1 + position_or_len is_point (ds ++ 46 ∷ ys)) 0) (ne_eqb d 46 (no_digit d 46 (λ small. absurd (omega (arith, small))) digits.0))
    ∙ one_more (position_or_len is_point (ds ++ 46 ∷ ys)) (length ds) (point_behind ds ys digits.1)

-- no plus stands before digits
without_plus : (ds : List ℕ) → AllDigits 10 ds → without_leading_plus ds ≡ ds
without_plus [] digits = refl
without_plus (d ∷ ds) digits = ap (λ b. drop (cond b 1 0) (d ∷ ds)) (ne_eqb d 43 (no_digit d 43 (λ small. absurd (omega (arith, small))) digits.0))

decimal_writes : (n : ℕ) → n < 2 ^ 64 → Writes (decimal n) n
decimal_writes n small =
    let numeral = decimal_is_IsNumeral n small in
    let whole : without_leading_plus (decimal n) ≡ decimal n = without_plus (decimal n) numeral.0.1 in
    record { numeral = subst (IsNumeral 10) (sym whole) numeral.0; value = ap (digits_value 10) whole ∙ numeral.1 }

pub names_itself : (k : Key) → IsKey k → k.serial < 2 ^ 64 → Names (key_text k) k
unfolding key_text
names_itself k is small =
    let home_small : k.home < 2 ^ 64 = omega (arith, is.0) in
    let digits = decimal_is_IsNumeral k.home home_small in
    let at : position_or_len is_point (key_text k) ≡ length (decimal k.home) = point_behind (decimal k.home) (decimal k.serial) digits.0.1 in
    let front : take (position_or_len is_point (key_text k)) (key_text k) ≡ decimal k.home =
    ap (λ n. take n (key_text k)) at ∙ take-append_seam (decimal k.home) (46 ∷ decimal k.serial) in
    let back : drop (position_or_len is_point (key_text k) + 1) (key_text k) ≡ decimal k.serial =
    ap (λ n. drop (n + 1) (key_text k)) at ∙ drop-append-add (decimal k.home) (46 ∷ decimal k.serial) 1 in
    let long : length (key_text k) ≡ length (decimal k.home) + length (46 ∷ decimal k.serial) = length-append (decimal k.home) (46 ∷ decimal k.serial) in
    record {
      pointed = omega (arith, at, long);
      home = subst (λ ds. Writes ds k.home) (sym front) (decimal_writes k.home home_small);
      serial = subst (λ ds. Writes ds k.serial) (sym back) (decimal_writes k.serial small);
      key = is;
      small = small;
    }
