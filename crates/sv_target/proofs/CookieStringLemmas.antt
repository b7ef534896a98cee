-- What a client sends of its cookies is read back.
use Rattle.sv_target.proofs.Prelude.{◌≡◌, ℕ, ◌+◌, ◌<◌, Bool, true, false, List, [], ◌∷◌, ◌++◌, length, take, drop, map, refl, ap, ◌∙◌, arith, All, list_any}
use Rattle.sv_target.proofs.Prelude.{onto_first, position_or_len, slice_split, cond-true, or_parts, All-cons, All-nil, All-tail, Cookie, trim, is_equals}
use Rattle.sv_target.proofs.Prelude.{is_pair, is_semicolon, pair_of, pairs_among, pairs_of}
use Rattle.std.proofs.Common.{reverse}
use Rattle.std.proofs.lemmas.Bool.{cond-false}
use Rattle.std.proofs.Math.Seq.{drop-append-add, take-append_seam}
use Rattle.std.proofs.lemmas.List.{reverse-append, reverse-reverse}
use Rattle.std.proofs.lemmas.List.Elements.{All-head}
use Rattle.std.proofs.lemmas.List.Folds.{list_any-append}
use Rattle.std.proofs.lemmas.List.Splits.{length-slice_split, slice_split_at, slice_split_none}
use Rattle.sv_model.specs.Blanks.{is_blank, trim_start}
use Rattle.sv_target.specs.CookieString.{IsSendable, cookie_string, pair_text}

All-from_list_any : (p : ℕ → Bool) (xs : List ℕ) → list_any p xs ≡ false → All (λ x. p x ≡ false) xs
All-from_list_any p [] none = All-nil (λ x. p x ≡ false)
All-from_list_any p (x ∷ xs) none =
    let parts = or_parts (p x) (list_any p xs) none in
    All-cons (λ x. p x ≡ false) x xs parts.0 (All-from_list_any p xs parts.1)

-- a text without blanks stays as it is
trim_start-none : (text : List ℕ) → list_any is_blank text ≡ false → trim_start text ≡ text
trim_start-none [] none = refl
trim_start-none (b ∷ text) none = cond-false _ _ _ (or_parts (is_blank b) (list_any is_blank text) none).0

list_any-reverse : (p : ℕ → Bool) (xs : List ℕ) → list_any p xs ≡ false → list_any p (reverse xs) ≡ false
list_any-reverse p [] none = refl
list_any-reverse p (x ∷ xs) none =
    let parts = or_parts (p x) (list_any p xs) none in
    ap (list_any p) (reverse-append (x ∷ []) xs) ∙ list_any-append p (reverse xs) (x ∷ []) ∙ rw (list_any-reverse p xs parts.1, parts.0) refl

trim-none : (text : List ℕ) → list_any is_blank text ≡ false → trim text ≡ text
unfolding trim
trim-none text none = rw (trim_start-none text none, trim_start-none (reverse text) (list_any-reverse is_blank text none)) (reverse-reverse text)

-- a space before a text is dropped
trim-space : (text : List ℕ) → trim (32 ∷ text) ≡ trim text
unfolding trim
trim-space text = refl

map_trim-onto_first : (parts : List (List ℕ)) → 0 < length parts → map trim (onto_first 32 parts) ≡ map trim parts
map_trim-onto_first [] some = absurd (omega arith)
map_trim-onto_first (part ∷ parts) some = ap (λ text. text ∷ map trim parts) (trim-space part)

map_trim-space : (text : List ℕ) → map trim (slice_split is_semicolon (32 ∷ text)) ≡ map trim (slice_split is_semicolon text)
map_trim-space text = map_trim-onto_first (slice_split is_semicolon text) (omega (arith, length-slice_split is_semicolon text))

-- a pair is cut at the `=` after its name
position_or_len-name : (name value : List ℕ) → list_any is_equals name ≡ false → position_or_len is_equals (name ++ 61 ∷ value) ≡ length name
position_or_len-name [] value none = refl
position_or_len-name (b ∷ name) value none =
    let parts = or_parts (is_equals b) (list_any is_equals name) none in
    rw parts.0 (omega (arith, position_or_len-name name value parts.1))

pair_of-pair_text : (cookie : Cookie) → list_any is_equals cookie.name ≡ false → pair_of (pair_text cookie) ≡ cookie
unfolding pair_of
pair_of-pair_text cookie none =
    let place = position_or_len-name cookie.name cookie.value none in
    let name = ap (λ i. take i (pair_text cookie)) place ∙ take-append_seam cookie.name (61 ∷ cookie.value) in
    let value = ap (λ i. drop (i + 1) (pair_text cookie)) place ∙ drop-append-add cookie.name (61 ∷ cookie.value) 1 in
    λ i. record { name = name i; value = value i }

is_pair-pair_text : (cookie : Cookie) → list_any is_equals cookie.name ≡ false → is_pair (pair_text cookie) ≡ true
unfolding is_pair
is_pair-pair_text cookie none = rw (list_any-append is_equals cookie.name (61 ∷ cookie.value), none) refl

pairs_among-pair : (cookie : Cookie) (parts : List (List ℕ)) → IsSendable cookie → pairs_among (trim (pair_text cookie) ∷ parts) ≡ cookie ∷ pairs_among parts
pairs_among-pair cookie parts sendable =
    let whole = trim-none (pair_text cookie) sendable.blank in
    let pair = is_pair-pair_text cookie sendable.equals in
    ap (λ text. pairs_among (text ∷ parts)) whole
    ∙ ap (map pair_of) (cond-true _ _ _ pair)
    ∙ ap (λ c. c ∷ pairs_among parts) (pair_of-pair_text cookie sendable.equals)

-- the cookies that were sent are those that are read
pub pairs_of-cookie_string : (cookies : List Cookie) → All IsSendable cookies → pairs_of (cookie_string cookies) ≡ cookies
unfolding pairs_of trim is_pair
pairs_of-cookie_string [] sendable = refl
pairs_of-cookie_string (c ∷ []) sendable =
    let its = All-head IsSendable c [] sendable in
    let one = slice_split_none is_semicolon (pair_text c) (All-from_list_any is_semicolon (pair_text c) its.semicolon) in
    ap (λ parts. pairs_among (map trim parts)) one ∙ pairs_among-pair c [] its
pairs_of-cookie_string (c ∷ d ∷ cookies) sendable =
    let its = All-head IsSendable c (d ∷ cookies) sendable in
    let others = pairs_of-cookie_string (d ∷ cookies) (All-tail IsSendable c (d ∷ cookies) sendable) in
    let text = cookie_string (d ∷ cookies) in
    let cut = slice_split_at is_semicolon (pair_text c) 59 (32 ∷ text) (All-from_list_any is_semicolon (pair_text c) its.semicolon) refl in
    ap (λ parts. pairs_among (map trim parts)) cut
    ∙ pairs_among-pair c (map trim (slice_split is_semicolon (32 ∷ text))) its
    ∙ ap (λ parts. c ∷ pairs_among parts) (map_trim-space text)
    ∙ ap (λ pairs. c ∷ pairs) others
