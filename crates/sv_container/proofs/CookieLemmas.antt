-- The cookie of a session can be the value of a field.
use Rattle.sv_container.proofs.Prelude.{◌≡◌, ℕ, ◌<◌, Bool, true, false, Option, Some, None, List, [], ◌∷◌, ◌++◌, refl, arith, nat_tests, All-append}
use Rattle.sv_container.proofs.Prelude.{IsFieldValue, Key, Secret, is_sendable}
use Rattle.std.specs.Prelude.{codes}
use Rattle.std.specs.Int.{bytes_high_first}
use Rattle.std.proofs.lemmas.List.Elements.{All-weaker}
use Rattle.hex.specs.Hex.{IsBytes, encode_lower, is_hex_digit}
use Rattle.hex.proofs.HexLemmas.{decode_of-encode_lower, decode_of-ok}
use Rattle.http_header.specs.Token.{is_value_byte}
use Rattle.http_header.proofs.TokenLemmas.{AllPass-from_test}
use Rattle.sv_mapping.specs.Pattern.{is_printed}
use Rattle.sv_target.proofs.ByteLemmas.{IsBytes-cons, IsBytes-bytes_high_first}
use Rattle.sv_target.specs.SessionCookie.{cookie_text, session_bytes}
use Rattle.sv_config.specs.declared.cookie.SameSite.{SameSite}
use Rattle.sv_config.specs.declared.cookie.SameSite.TheVariants.{Strict, Lax, None as AnySite}
use Rattle.sv_container.specs.SetCookie.{cookie_path, cookie_value, same_site_text, secure_text}
use Rattle.sv_container.specs.declared.set_cookie.SessionCookie.{SessionCookie}

digit_fits : (c : ℕ) → is_hex_digit c ≡ true → is_value_byte c ≡ true
digit_fits c digit = grind (arith, nat_tests)

printed_fits : (c : ℕ) → is_printed c ≡ true → is_value_byte c ≡ true
printed_fits c printed = grind (arith, nat_tests)

IsBytes-session : (context : ℕ) (named : Key × Secret) → context < 256 → named.0.home < 256 → IsBytes named.1.0 → IsBytes (session_bytes context named.0 named.1)
IsBytes-session context named number home secret =
    let id = bytes_high_first 8 named.0.serial ++ named.1.0 in
    IsBytes-cons context (named.0.home ∷ id) number (IsBytes-cons named.0.home id home (IsBytes-bytes_high_first 8 named.0.serial named.1.0 secret))

text_fits : (context : ℕ) (named : Key × Secret) → IsBytes (session_bytes context named.0 named.1) → IsFieldValue (cookie_text context named.0 named.1)
unfolding cookie_text
text_fits context named bytes =
    let spelled = session_bytes context named.0 named.1 in
    let digits = decode_of-ok (encode_lower spelled) spelled (decode_of-encode_lower spelled bytes) in
    All-weaker (λ c. is_hex_digit c ≡ true) (λ c. is_value_byte c ≡ true) digit_fits (encode_lower spelled) digits.1

path_fits : (path : List ℕ) → is_sendable path ≡ true → IsFieldValue (cookie_path path)
path_fits [] sendable = AllPass-from_test is_value_byte (codes "/") refl
path_fits (c ∷ cs) sendable =
    All-weaker (λ c. is_printed c ≡ true) (λ c. is_value_byte c ≡ true) printed_fits (c ∷ cs) (AllPass-from_test is_printed (c ∷ cs) sendable)

name_fits : (name : List ℕ) → is_sendable name ≡ true → IsFieldValue name
name_fits name sendable =
    All-weaker (λ c. is_printed c ≡ true) (λ c. is_value_byte c ≡ true) printed_fits name (AllPass-from_test is_printed name sendable)

secure_fits : (secure : Bool) → IsFieldValue (secure_text secure)
secure_fits true = AllPass-from_test is_value_byte (secure_text true) refl
secure_fits false = AllPass-from_test is_value_byte (secure_text false) refl

same_site_fits : (same_site : Option SameSite) → IsFieldValue (same_site_text same_site)
same_site_fits None = AllPass-from_test is_value_byte (same_site_text None) refl
same_site_fits (Some Strict) = AllPass-from_test is_value_byte (same_site_text (Some Strict)) refl
same_site_fits (Some Lax) = AllPass-from_test is_value_byte (same_site_text (Some Lax)) refl
same_site_fits (Some AnySite) = AllPass-from_test is_value_byte (same_site_text (Some AnySite)) refl

-- whatever session it names, and whichever context
pub cookie_fits : (cookie : SessionCookie) (context : ℕ) (path : List ℕ) (named : Key × Secret) → context < 256 → is_sendable cookie.name ≡ true → is_sendable path ≡ true
    → named.0.home < 256 → IsBytes named.1.0 → IsFieldValue (cookie_value cookie context path named)
cookie_fits cookie context path named number name sendable home secret =
    let fits : ℕ → Type 0 = λ c. is_value_byte c ≡ true in
    let is = codes "=" in
    let text = cookie_text context named.0 named.1 in
    let first = (cookie.name ++ is) ++ text in
    let middle = codes "; Path=" in
    let back = codes "; HttpOnly" in
    let first_fits =
    All-append fits (cookie.name ++ is) text (All-append fits cookie.name is (name_fits cookie.name name) (AllPass-from_test is_value_byte is refl))
    (text_fits context named (IsBytes-session context named number home secret)) in
    let to_path = All-append fits (first ++ middle) (cookie_path path) (All-append fits first middle first_fits (AllPass-from_test is_value_byte middle refl)) (path_fits path sendable) in
    let to_back = All-append fits ((first ++ middle) ++ cookie_path path) back to_path (AllPass-from_test is_value_byte back refl) in
    let to_secure = All-append fits (((first ++ middle) ++ cookie_path path) ++ back) (secure_text cookie.secure) to_back (secure_fits cookie.secure) in
    All-append fits ((((first ++ middle) ++ cookie_path path) ++ back) ++ secure_text cookie.secure) (same_site_text cookie.same_site) to_secure (same_site_fits cookie.same_site)
