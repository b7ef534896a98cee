-- What a session's cookie spells is read back.
use Rattle.sv_target.proofs.Prelude.{◌≡◌, ℕ, ◌<◌, true, Option, Some, None, List, [], ◌∷◌, ◌++◌, length, slice_index, refl, ap, ◌∙◌, arith, slice_get}
use Rattle.sv_target.proofs.Prelude.{cons_option, filter_map, w64, bytes_high_first, from_be_bytes, cond-true, nat_tests, take_all, IsBytes, encode_lower}
use Rattle.sv_target.proofs.Prelude.{lower_digits, Key, Secret, Cookie, bytes_eq-Decides, IsCookieOf, IsNameable, cookie_text, names_session, key_of}
use Rattle.sv_target.proofs.Prelude.{session_of_cookie, session_of_bytes, secret_of, session_bytes, session_cookie, spelled_bytes}
use Rattle.std.proofs.Common.{slice_range}
use Rattle.std.proofs.lemmas.Nat.{from_be_bytes-to_be_bytes_8}
use Rattle.hex.proofs.HexLemmas.{length-encode_with}
use Rattle.sv_target.proofs.ByteLemmas.{IsBytes-bytes_high_first, IsBytes-cons, IsBytes-from_All}
use Rattle.sv_target.proofs.DigitLemmas.{bytes_of-encode_lower}

-- 26 bytes are read back from their digits
pub spelled_bytes-encode_lower : (bytes : List ℕ) → length bytes ≡ 26 → IsBytes bytes → spelled_bytes (encode_lower bytes) ≡ Some bytes
unfolding spelled_bytes
spelled_bytes-encode_lower bytes len fit =
    let digits : length (encode_lower bytes) ≡ 52 = omega (arith, length-encode_with lower_digits bytes, len) in
    rw digits (bytes_of-encode_lower bytes fit)

IsBytes-session_bytes : (context : ℕ) (key : Key) (secret : Secret) → IsNameable context key secret → IsBytes (session_bytes context key secret)
IsBytes-session_bytes context key secret nameable =
    let number = bytes_high_first 8 key.serial ++ secret.0 in
    IsBytes-cons context (key.home ∷ number) nameable.context_fits
    (IsBytes-cons key.home number (omega arith)
    (IsBytes-bytes_high_first 8 key.serial secret.0 (IsBytes-from_All secret.0 nameable.secret_fits)))

-- bytes in which such a key and a secret stand name that session
named_when : (context : ℕ) (key : Key) (secret : Secret) (bytes : List ℕ) → slice_index bytes 0 ≡ context → slice_index bytes 1 ≡ key.home
    → from_be_bytes w64 (slice_range bytes 2 10) ≡ key.serial → slice_range bytes 10 26 ≡ secret.0 → key.home < 8 → 0 < key.serial
    → session_of_bytes context bytes ≡ Some (key, secret)
unfolding session_of_bytes
named_when context key secret bytes of_context home serial is_secret low above =
    let its_key : key_of bytes ≡ key = λ i. record { home = home i; serial = serial i } in
    let its_secret : secret_of bytes ≡ secret = λ i. record { 0 = is_secret i } in
    let passes : names_session context bytes ≡ true = grind (arith, nat_tests) in
    cond-true _ _ _ passes ∙ ap (λ (n : Key × Secret). Some n) (λ i. (its_key i, its_secret i))

-- what the bytes of a session name is that session
session_of_bytes-session_bytes : (context : ℕ) (key : Key) (secret : Secret) → IsNameable context key secret
    → session_of_bytes context (session_bytes context key secret) ≡ Some (key, secret)
session_of_bytes-session_bytes context key secret nameable =
    named_when context key secret (session_bytes context key secret) refl refl
    (from_be_bytes-to_be_bytes_8 key.serial nameable.serial_fits)
    (take_all 16 secret.0 (omega arith)) nameable.home nameable.serial

-- a session's cookie names it
pub session_of_cookie-session : (name : List ℕ) (context : ℕ) (key : Key) (secret : Secret) (cookie : Cookie) → IsNameable context key secret
    → IsCookieOf name context key secret cookie → session_of_cookie name context cookie ≡ Some (key, secret)
unfolding session_of_cookie cookie_text
session_of_cookie-session name context key secret cookie nameable is_its =
    let bytes = session_bytes context key secret in
    let spelled = spelled_bytes-encode_lower bytes (omega arith) (IsBytes-session_bytes context key secret nameable) in
    rw (is_its.0, is_its.1, spelled, (bytes_eq-Decides name name).1 refl) (session_of_bytes-session_bytes context key secret nameable)

-- where none before it names a session, the first that is named is the one that it names
behind_none : {Y : Type 0} (o : Option Y) (front whole : List Y) (y : Y) → slice_get (cons_option o front) 0 ≡ None
    → (slice_get front 0 ≡ None → slice_get whole 0 ≡ Some y) → slice_get (cons_option o whole) 0 ≡ Some y
behind_none None front whole y none first = first none
behind_none (Some z) front whole y none first = cc none

first_named : {X Y : Type 0} (names : X → Option Y) (before after : List X) (x : X) (y : Y) → slice_get (filter_map names before) 0 ≡ None → names x ≡ Some y
    → slice_get (filter_map names (before ++ x ∷ after)) 0 ≡ Some y
first_named names [] after x y none named = rw named refl
first_named names (b ∷ before) after x y none named =
    behind_none (names b) (filter_map names before) (filter_map names (before ++ x ∷ after)) y none
    (λ others. first_named names before after x y others named)

pub session_cookie-session : (name : List ℕ) (context : ℕ) (key : Key) (secret : Secret) (before after : List Cookie) (cookie : Cookie) → IsNameable context key secret
    → IsCookieOf name context key secret cookie → session_cookie name before context ≡ None → session_cookie name (before ++ cookie ∷ after) context ≡ Some (key, secret)
unfolding session_cookie
session_cookie-session name context key secret before after cookie nameable is_its none =
    first_named (session_of_cookie name context) before after cookie (key, secret) none (session_of_cookie-session name context key secret cookie nameable is_its)
