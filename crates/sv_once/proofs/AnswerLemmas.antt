-- An answer that can be kept is read as it was written, and its fields are fields.
use Rattle.std.proofs.Common.{◌≡◌, refl, sym, ap, ◌∙◌, ℕ, zero, suc, ◌-◌, ◌<◌, ◌≤◌, Bool, true, false, cond, ◌&&◌, List, [], ◌∷◌, ◌++◌, length, append_assoc, Option, Some, None, arith}
use Rattle.std.proofs.lemmas.List.{append-nil, length-append}
use Rattle.std.specs.Prelude.{min, nat_lt, nat_le, not}
use Rattle.std.specs.Char.{is_ascii_uppercase, to_ascii_lowercase}
use Rattle.std.specs.List.{flat_map, list_all}
use Rattle.std.proofs.lemmas.Bool.Decides.{nat_tests}
use Rattle.http_header.specs.FieldName.{IsFieldName}
use Rattle.http_header.specs.FieldValue.{IsFieldValue}
use Rattle.http_header.specs.Token.{is_value_byte, lowercase, token_test}
use Rattle.http_header.proofs.TokenLemmas.{AllPass-from_test, IsFieldName-from_test}
use Rattle.sv_model.specs.declared.response.Response.{Response}
use Rattle.sv_once.specs.Answer.{Answer, answer_bytes, answer_in, answer_with, field_at, field_bytes, fields_in, is_answer, is_field, is_kept, is_name, is_name_byte, is_status, kept_answer, past_field, past_fields, shown}
use Rattle.sv_once.specs.Parts.{long_first, long_number, long_part, long_rest, short_first, short_part, short_rest}
use Rattle.sv_once.specs.declared.answer.TheConstants.{ANSWER_LIMIT}
use Rattle.sv_once.proofs.PartsLemmas.{both_true, least, long_first_read, long_rest_read, number_read, short_first_read, short_rest_read}

below_from_test : (a b : ℕ) → nat_lt a b ≡ true → a < b
below_from_test a b is = grind (arith, nat_tests)

at_most_from_test : (a b : ℕ) → nat_le a b ≡ true → a ≤ b
at_most_from_test a b is = grind (arith, nat_tests)

test_at_most : (a b : ℕ) → a ≤ b → nat_le a b ≡ true
test_at_most a b le = grind (arith, nat_tests)

and_true : (a b : Bool) → a ≡ true → b ≡ true → a && b ≡ true
and_true true b is other = other
and_true false b is other = absurd (cc)

-- ---- names and values

lower_byte : (c : ℕ) → not (is_ascii_uppercase c) ≡ true → to_ascii_lowercase c ≡ c
lower_byte c is = grind (arith, nat_tests)

tokens : (name : List ℕ) → list_all is_name_byte name ≡ true → list_all token_test name ≡ true
tokens [] is = refl
tokens (c ∷ cs) is =
    let both = both_true (is_name_byte c) (list_all is_name_byte cs) is in
    let here = both_true (token_test c) (not (is_ascii_uppercase c)) both.0 in
    and_true (token_test c) (list_all token_test cs) here.0 (tokens cs both.1)

lowered : (name : List ℕ) → list_all is_name_byte name ≡ true → lowercase name ≡ name
lowered [] is = refl
lowered (c ∷ cs) is =
    let both = both_true (is_name_byte c) (list_all is_name_byte cs) is in
    let here = both_true (token_test c) (not (is_ascii_uppercase c)) both.0 in
    ap (λ (x : ℕ). x ∷ lowercase cs) (lower_byte c here.1) ∙ ap (λ (xs : List ℕ). c ∷ xs) (lowered cs both.1)

pub name_small : (p : List ℕ × List ℕ) → is_field p ≡ true → length p.0 < 256
name_small p is = below_from_test (length p.0) 256 (both_true _ _ (both_true _ _ is).1).0

pub value_small : (p : List ℕ × List ℕ) → is_field p ≡ true → length p.1 < 65536
value_small p is = below_from_test (length p.1) 65536 (both_true _ _ (both_true _ _ is).1).1

name_tested : (p : List ℕ × List ℕ) → is_field p ≡ true → is_name p.0 ≡ true
name_tested p is = (both_true _ _ (both_true _ _ is).0).0

pub field_name : (p : List ℕ × List ℕ) → is_field p ≡ true → IsFieldName p.0
field_name p is =
    let name = both_true (nat_lt 0 (length p.0)) (list_all is_name_byte p.0) (name_tested p is) in
    let short : length p.0 < 256 = name_small p is in
    IsFieldName-from_test p.0
    (and_true _ _ (and_true _ _ name.0 (tokens p.0 name.1)) (test_at_most (length p.0) 65535 (omega (arith, short))))

pub field_lowered : (p : List ℕ × List ℕ) → is_field p ≡ true → lowercase p.0 ≡ p.0
field_lowered p is = lowered p.0 (both_true _ _ (name_tested p is)).1

pub field_value : (p : List ℕ × List ℕ) → is_field p ≡ true → IsFieldValue p.1
field_value p is = AllPass-from_test is_value_byte p.1 (both_true _ _ (both_true _ _ is).0).1

-- ---- fields as bytes

two_parts : (a b rest : List ℕ) → (a ++ b) ++ rest ≡ a ++ (b ++ rest)
two_parts a b rest = append_assoc a b rest

module _ (p : List ℕ × List ℕ) (rest : List ℕ) (is : is_field p ≡ true) where
  abbrev value_on : List ℕ
  value_on = long_part p.1 ++ rest

  as_parts : field_bytes p ++ rest ≡ short_part p.0 ++ value_on
  as_parts = two_parts (short_part p.0) (long_part p.1) rest

  more_fields : (n : ℕ) → fields_in (suc n) (field_bytes p ++ rest) ≡ p ∷ fields_in n rest
  unfolding fields_in
  more_fields n = rw (
    as_parts,
    short_first_read p.0 value_on (name_small p is),
    short_rest_read p.0 value_on (name_small p is),
    long_first_read p.1 rest (value_small p is),
    long_rest_read p.1 rest (value_small p is),
  ) refl

  past_more : (n : ℕ) → past_fields (suc n) (field_bytes p ++ rest) ≡ past_fields n rest
  unfolding past_fields
  past_more n = rw (as_parts, short_rest_read p.0 value_on (name_small p is), long_rest_read p.1 rest (value_small p is)) refl

fields_read : (ps : List (List ℕ × List ℕ)) (body : List ℕ) → list_all is_field ps ≡ true → fields_in (length ps) (flat_map field_bytes ps ++ body) ≡ ps
unfolding fields_in
fields_read [] body is = refl
fields_read (p ∷ ps) body is =
    let both = both_true (is_field p) (list_all is_field ps) is in
    ap (fields_in (length (p ∷ ps))) (append_assoc (field_bytes p) (flat_map field_bytes ps) body)
    ∙ more_fields p (flat_map field_bytes ps ++ body) both.0 (length ps)
    ∙ ap (λ (qs : List (List ℕ × List ℕ)). p ∷ qs) (fields_read ps body both.1)

fields_past : (ps : List (List ℕ × List ℕ)) (body : List ℕ) → list_all is_field ps ≡ true → past_fields (length ps) (flat_map field_bytes ps ++ body) ≡ body
unfolding past_fields
fields_past [] body is = refl
fields_past (p ∷ ps) body is =
    let both = both_true (is_field p) (list_all is_field ps) is in
    ap (past_fields (length (p ∷ ps))) (append_assoc (field_bytes p) (flat_map field_bytes ps) body)
    ∙ past_more p (flat_map field_bytes ps ++ body) both.0 (length ps)
    ∙ fields_past ps body both.1

-- ---- an answer as bytes

answered : (a : Answer) → is_answer a.status a.fields ≡ true → answer_with a.status a.fields a.body ≡ Some a
answered a is = ap (λ (b : Bool). let x : Option Answer = cond b (Some a) None in x) is

module _ (a : Answer) (is : is_answer a.status a.fields ≡ true) (few : length a.fields < 256) where
  abbrev rest : List ℕ
  rest = flat_map field_bytes a.fields ++ a.body

  status_small : a.status < 65536
  status_small =
      let status = both_true (nat_le 100 a.status) (nat_le a.status 999) (both_true (is_status a.status) (list_all is_field a.fields) is).0 in
      let most : a.status ≤ 999 = at_most_from_test a.status 999 status.1 in
      omega (arith, most)

  all_fields : list_all is_field a.fields ≡ true
  all_fields = (both_true (is_status a.status) (list_all is_field a.fields) is).1

  answer_read : answer_in (answer_bytes a) ≡ Some a
  unfolding answer_in answer_bytes
  answer_read =
      ap (λ (n : ℕ). answer_with n (fields_in (min 255 (length a.fields)) rest) (past_fields (min 255 (length a.fields)) rest)) (number_read a.status status_small)
      ∙ ap (λ (n : ℕ). answer_with a.status (fields_in n rest) (past_fields n rest)) (least (length a.fields) few)
      ∙ ap (λ (fs : List (List ℕ × List ℕ)). answer_with a.status fs (past_fields (length a.fields) rest)) (fields_read a.fields a.body all_fields)
      ∙ ap (λ (b : List ℕ). answer_with a.status a.fields b) (fields_past a.fields a.body all_fields)
      ∙ answered a is

kept_is : (r : Response) → is_kept (shown r) ≡ true → kept_answer r ≡ answer_bytes (shown r)
unfolding kept_answer
kept_is r is = ap (λ (b : Bool). cond b (answer_bytes (shown r)) []) is

pub kept_read : (r : Response) → is_kept (shown r) ≡ true → answer_in (kept_answer r) ≡ Some (shown r)
kept_read r is =
    let whole = both_true (is_answer (shown r).status (shown r).fields && nat_lt (length (shown r).fields) 256) (nat_le (length (answer_bytes (shown r))) ANSWER_LIMIT) is in
    let parts = both_true (is_answer (shown r).status (shown r).fields) (nat_lt (length (shown r).fields) 256) whole.0 in
    ap answer_in (kept_is r is) ∙ answer_read (shown r) parts.0 (below_from_test (length (shown r).fields) 256 parts.1)

-- ---- one field more

pub fields_step : (n : ℕ) (bytes : List ℕ) → 0 < n → fields_in n bytes ≡ field_at bytes ∷ fields_in (n - 1) (past_field bytes)
unfolding fields_in
fields_step zero bytes some = absurd (omega (arith, some))
fields_step (suc n) bytes some =
    let less : n ≡ suc n - 1 = omega arith in
    ap (λ (m : ℕ). field_at bytes ∷ fields_in m (past_field bytes)) less

pub past_step : (n : ℕ) (bytes : List ℕ) → 0 < n → past_fields n bytes ≡ past_fields (n - 1) (past_field bytes)
unfolding past_fields
past_step zero bytes some = absurd (omega (arith, some))
past_step (suc n) bytes some =
    let less : n ≡ suc n - 1 = omega arith in
    ap (λ (m : ℕ). past_fields m (past_field bytes)) less

pub no_fields : (bytes : List ℕ) → fields_in 0 bytes ≡ []
unfolding fields_in
no_fields bytes = refl

pub past_none : (bytes : List ℕ) → past_fields 0 bytes ≡ bytes
unfolding past_fields
past_none bytes = refl

-- ---- what is kept of an answer

kept_if : (b : Bool) (bytes : List ℕ) → (b ≡ true → length bytes ≤ ANSWER_LIMIT) → length (cond b bytes []) ≤ ANSWER_LIMIT
kept_if true bytes small = small refl
kept_if false bytes small = omega arith

pub kept_small : (r : Response) → length (kept_answer r) ≤ ANSWER_LIMIT
unfolding kept_answer
kept_small r =
    kept_if (is_kept (shown r)) (answer_bytes (shown r)) (λ is.
    at_most_from_test (length (answer_bytes (shown r))) ANSWER_LIMIT
    (both_true (is_answer (shown r).status (shown r).fields && nat_lt (length (shown r).fields) 256) (nat_le (length (answer_bytes (shown r))) ANSWER_LIMIT) is).1)

pub no_answer : answer_in [] ≡ None
unfolding answer_in
no_answer = refl

pub kept_none : (r : Response) → is_kept (shown r) ≡ false → answer_in (kept_answer r) ≡ None
unfolding kept_answer
kept_none r is = ap (λ (b : Bool). answer_in (cond b (answer_bytes (shown r)) [])) is ∙ no_answer

pub not_an_answer : (r : Response) → (is_answer (shown r).status (shown r).fields && nat_lt (length (shown r).fields) 256) ≡ false → kept_answer r ≡ []
unfolding kept_answer
not_an_answer r is =
    ap (λ (b : Bool). cond (b && nat_le (length (answer_bytes (shown r))) ANSWER_LIMIT) (answer_bytes (shown r)) []) is

body_within : (a : Answer) → length a.body ≤ length (answer_bytes a)
unfolding answer_bytes
body_within a = omega (arith, length-append ((long_number a.status ++ length a.fields ∷ []) ++ flat_map field_bytes a.fields) a.body)

too_long : (limit n : ℕ) → limit < n → nat_le n limit ≡ false
too_long limit n less = grind (arith, nat_tests)

never_both : (b : Bool) → (b && false) ≡ false
never_both true = refl
never_both false = refl

pub long_body : (r : Response) → ANSWER_LIMIT < length r.body → kept_answer r ≡ []
unfolding kept_answer
long_body r less =
    let front : Bool = is_answer (shown r).status (shown r).fields && nat_lt (length (shown r).fields) 256 in
    let body : length r.body ≤ length (answer_bytes (shown r)) = body_within (shown r) in
    let more : ANSWER_LIMIT < length (answer_bytes (shown r)) = omega (arith, less, body) in
    ap (λ (b : Bool). cond (front && b) (answer_bytes (shown r)) []) (too_long ANSWER_LIMIT (length (answer_bytes (shown r))) more)
    ∙ ap (λ (b : Bool). cond b (answer_bytes (shown r)) []) (never_both front)

-- ---- a loop over fields

pub one_more : (done : List (List ℕ × List ℕ)) (n : ℕ) (rest mid more name value : List ℕ) → 0 < n → name ≡ short_first rest → mid ≡ short_rest rest → value ≡ long_first mid
    → more ≡ long_rest mid → (done ++ (name, value) ∷ []) ++ fields_in (n - 1) more ≡ done ++ fields_in n rest
one_more done n rest mid more name value some name_is mid_is value_is more_is =
    let step : fields_in n rest ≡ field_at rest ∷ fields_in (n - 1) (past_field rest) = fields_step n rest some in
    let its : value ≡ long_first (short_rest rest) = value_is ∙ ap long_first mid_is in
    let on : more ≡ long_rest (short_rest rest) = more_is ∙ ap long_rest mid_is in
    append_assoc done ((name, value) ∷ []) (fields_in (n - 1) more)
    ∙ ap (λ (x : List ℕ). done ++ (x, value) ∷ fields_in (n - 1) more) name_is
    ∙ ap (λ (x : List ℕ). done ++ (short_first rest, x) ∷ fields_in (n - 1) more) its
    ∙ ap (λ (x : List ℕ). done ++ (short_first rest, long_first (short_rest rest)) ∷ fields_in (n - 1) x) on
    ∙ ap (λ (x : List (List ℕ × List ℕ)). done ++ x) (sym step)

pub past_one : (n : ℕ) (rest mid more : List ℕ) → 0 < n → mid ≡ short_rest rest → more ≡ long_rest mid → past_fields (n - 1) more ≡ past_fields n rest
past_one n rest mid more some mid_is more_is =
    ap (past_fields (n - 1)) (more_is ∙ ap long_rest mid_is) ∙ sym (past_step n rest some)

pub none_more : (done : List (List ℕ × List ℕ)) (n : ℕ) (rest : List ℕ) → n ≡ 0 → done ++ fields_in n rest ≡ done
none_more done n rest none = ap (λ (m : ℕ). done ++ fields_in m rest) none ∙ ap (λ (x : List (List ℕ × List ℕ)). done ++ x) (no_fields rest) ∙ append-nil done

pub none_past : (n : ℕ) (rest : List ℕ) → n ≡ 0 → past_fields n rest ≡ rest
none_past n rest none = ap (λ (m : ℕ). past_fields m rest) none ∙ past_none rest
