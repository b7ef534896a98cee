-- What lies below a path, and what stands after the last place of a byte.
use Rattle.sv_mapping.proofs.Prelude.{◌≡◌, ◌≢◌, ℕ, Some, None, suc, ◌+◌, ◌-◌, ◌<◌, ◌≤◌, ◌||◌, ◌⊎◌, true, false, not, eqb, List, [], ◌∷◌, ◌++◌, length, get_or}
use Rattle.sv_mapping.proofs.Prelude.{take, drop, refl, sym, ap, subst, ◌∙◌, inl, inr, arith, append_assoc, append-nil, length-append, list_any, take_all}
use Rattle.sv_mapping.proofs.Prelude.{take-append-le, drop_more, false≢true, cases_lt, IsCharBoundary-end, IsCharBoundary-before_ascii, bytes_eq-Decides}
use Rattle.sv_mapping.proofs.Prelude.{starts_is, Decides-eqb, nat_tests, Text, is_at_or_below, stripped}
use Rattle.std.proofs.Common.{Decides}
use Rattle.std.specs.List.{after_last, suffix_len}
use Rattle.std.proofs.lemmas.List.{append_cancel_left, take-append-drop, get_or-append_right}
use Rattle.std.proofs.lemmas.Bool.{cases_eq, eq-eqb, ne_eqb}
use Rattle.std.specs.Str.{IsCharBoundary}
use Rattle.std.proofs.lemmas.List.Sums.{suffix_len_is}
use Rattle.std.proofs.lemmas.List.Folds.{list_any_none, list_any_at}
use Rattle.std.proofs.lemmas.List.Elements.{All-from_get_or}
use Rattle.std.proofs.lemmas.Bool.Decides.{Decides-or, same_from_decides}

-- the path is the front, or goes on after it with a slash
abbrev pub IsAtOrBelow : Text → Text → Type 0
IsAtOrBelow front path = (path ≡ front) ⊎ ((rest : Text) × (path ≡ front ++ (47 ∷ rest)))

pub is_at_or_below-Decides : (front path : Text) → Decides (is_at_or_below front path) (IsAtOrBelow front path)
unfolding is_at_or_below
is_at_or_below-Decides front path =
    let slashed = front ++ (47 ∷ []) in
    let starts = starts_is Decides-eqb path slashed _ refl in
    Decides-or _ _ (bytes_eq-Decides path front) (
      λ t. (drop (length slashed) path, starts.0 t ∙ append_assoc front (47 ∷ []) _),
      λ (rest, e). starts.1 rest (e ∙ sym (append_assoc front (47 ∷ []) rest)),
    )

-- behind the front, the path ends or goes on with a slash
pub is_at_or_below-rest : (front path rest : Text) → path ≡ front ++ rest → is_at_or_below front path ≡ (eqb (length rest) 0 || eqb (get_or rest 0 0) 47)
is_at_or_below-rest front path [] e = (is_at_or_below-Decides front path).1 (inl (e ∙ append-nil front))
is_at_or_below-rest front path (x ∷ xs) e =
    let long : eqb (suc (length xs)) 0 ≡ false = grind (arith, nat_tests) in
    same_from_decides _ (eqb x 47) (is_at_or_below-Decides front path) (
      λ t. inr (xs, e ∙ ap (λ y. front ++ (y ∷ xs)) ((Decides-eqb x 47).0 t)),
      λ below. (Decides-eqb x 47).1 (elim below [
        | inl same ↦ absurd (omega (arith, length-append front (x ∷ xs), ap length (sym e ∙ same)))
        | inr (rest, behind) ↦ cc (append_cancel_left front (x ∷ xs) (47 ∷ rest) (sym e ∙ behind))
      ]),
    )
    ∙ ap (λ b. b || eqb x 47) (sym long)

-- it goes on otherwise than behind the front
pub is_at_or_below-apart : (front path : Text) → ((rest : Text) → path ≢ front ++ rest) → is_at_or_below front path ≡ false
is_at_or_below-apart front path apart =
    same_from_decides _ _ (is_at_or_below-Decides front path) (
      λ t. absurd (false≢true t),
      λ below. elim below [
        | inl same ↦ absurd (apart [] (same ∙ sym (append-nil front)))
        | inr (rest, behind) ↦ absurd (apart (47 ∷ rest) behind)
      ],
    )

-- what is stripped is the front of the text
pub stripped-rest : (front text rest : Text) → stripped front text ≡ Some rest → text ≡ front ++ rest
stripped-rest [] text rest is = cc
stripped-rest (c ∷ front) [] rest is = cc
stripped-rest (c ∷ front) (d ∷ text) rest is =
    elim (cases_eq c d) [
      | inl same ↦ let more = stripped-rest front text rest (rw (eq-eqb c d same) at is) in cc
      | inr other ↦ let none = rw (ne_eqb c d other) at is in cc
    ]

-- and what isn't stripped has another
pub stripped-none : (front text : Text) → stripped front text ≡ None → (rest : Text) → text ≢ front ++ rest
stripped-none [] text none rest is = cc
stripped-none (c ∷ front) [] none rest is = cc
stripped-none (c ∷ front) (d ∷ text) none rest is =
    let same : c ≡ d = cc in
    let more : text ≡ front ++ rest = cc in
    stripped-none front text (rw (eq-eqb c d same) at none) rest more

-- the front, by places of the path
pub record IsFront (front path : Text) : Type 0 where
  pub fits : length front ≤ length path
  pub is : take (length front) path ≡ front
  pub next : length front < length path → get_or path (length front) 0 ≡ 47

front_of : (front path : Text) → IsAtOrBelow front path → IsFront front path
front_of front path (inl same) = record {
  fits = omega (arith, ap length same);
  is = take_all (length front) path (omega (arith, ap length same)) ∙ same;
  next = λ short. absurd (omega (arith, ap length same));
}
front_of front path (inr (rest, behind)) = record {
  fits = omega (arith, ap length behind, length-append front (47 ∷ rest));
  is = ap (take (length front)) behind ∙ take-append-le (length front) front (47 ∷ rest) (omega arith) ∙ take_all (length front) front (omega arith);
  next = λ short. let none : length front - length front ≡ 0 = omega arith in ap (λ t. get_or t (length front) 0) behind ∙ get_or-append_right front (47 ∷ rest) (length front) (length front) 0 refl (omega arith) ∙ ap (λ n. get_or (47 ∷ rest) n 0) none;
}

pub IsFront-from_test : (front path : Text) → is_at_or_below front path ≡ true → IsFront front path
IsFront-from_test front path below = front_of front path ((is_at_or_below-Decides front path).0 below)

pub is_at_or_below-self : (path : Text) → is_at_or_below path path ≡ true
is_at_or_below-self path = (is_at_or_below-Decides path path).1 (inl refl)

-- a path lies below what stands before one of its slashes
pub is_at_or_below-take : (path : Text) (n : ℕ) → n < length path → get_or path n 0 ≡ 47 → is_at_or_below (take n path) path ≡ true
is_at_or_below-take path n short slash =
    let rest = drop (n + 1) path in
    let behind : path ≡ take n path ++ (47 ∷ rest) = sym (take-append-drop n path) ∙ ap (λ t. take n path ++ t) (drop_more path n 0 short ∙ ap (λ c. c ∷ rest) slash) in
    (is_at_or_below-Decides (take n path) path).1 (inr (rest, behind))

-- a path may be cut behind a front
pub IsFront-boundary : (front path : Text) → IsFront front path → IsCharBoundary path (length front)
IsFront-boundary front path f = elim (cases_lt (length front) (length path)) [
  | inl short ↦ IsCharBoundary-before_ascii path (length front) short (omega (arith, f.next short))
  | inr all ↦
      let same : length path ≡ length front = omega (arith, f.fits) in
      subst (λ n. IsCharBoundary path n) same (IsCharBoundary-end path)
]

-- fronts of one length are equal
pub IsFront-unique : (a b path : Text) → IsFront a path → IsFront b path → length a ≡ length b → a ≡ b
IsFront-unique a b path f g e = sym f.is ∙ ap (λ n. take n path) e ∙ g.is

module _ (c : ℕ) (xs : List ℕ) where
  -- the last c stands at k
  pub after_last-at : (k : ℕ) → k < length xs → get_or xs k 0 ≡ c → ((i : ℕ) → k < i → i < length xs → get_or xs i 0 ≢ c) → drop (k + 1) xs ≡ after_last (λ x. eqb x c) xs
  after_last-at k in_range is none_behind =
      let tail : suffix_len (λ x. not (eqb x c)) xs ≡ length xs - (k + 1) = suffix_len_is (λ x. not (eqb x c)) xs (k + 1) 0 (omega arith) (λ i above below. grind (arith, nat_tests, none_behind i (omega arith) below)) (λ _. grind (arith, nat_tests)) in
      let all : k + 1 ≡ length xs - suffix_len (λ x. not (eqb x c)) xs = omega (arith, tail) in
      ap (λ n. drop n xs) all

  -- no c stands anywhere
  pub after_last-none : ((i : ℕ) → i < length xs → get_or xs i 0 ≢ c) → xs ≡ after_last (λ x. eqb x c) xs
  after_last-none none =
      let tail : suffix_len (λ x. not (eqb x c)) xs ≡ length xs - 0 = suffix_len_is (λ x. not (eqb x c)) xs 0 0 (omega arith) (λ i above below. grind (arith, nat_tests, none i below)) (λ l. absurd (omega arith)) in
      let all : 0 ≡ length xs - suffix_len (λ x. not (eqb x c)) xs = omega (arith, tail) in
      ap (λ n. drop n xs) all

  pub list_any-none : ((i : ℕ) → i < length xs → get_or xs i 0 ≢ c) → list_any (λ x. eqb x c) xs ≡ false
  list_any-none none = list_any_none (λ x. eqb x c) xs (All-from_get_or (λ x. eqb x c ≡ false) xs 0 (λ i below. grind (arith, nat_tests, none i below)))

  pub list_any-at : (k : ℕ) → k < length xs → get_or xs k 0 ≡ c → list_any (λ x. eqb x c) xs ≡ true
  list_any-at k in_range is = list_any_at (λ x. eqb x c) xs k 0 in_range (grind (arith, nat_tests))
