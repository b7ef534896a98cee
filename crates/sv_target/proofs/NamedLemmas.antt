-- The session that is read is one that can be named, and what was read is its cookie.
use Rattle.sv_target.proofs.Prelude.{◌≡◌, ℕ, suc, ◌<◌, ◌^◌, ◌==◌, Bool, true, false, cond, Option, Some, None, List, [], ◌∷◌, ◌++◌, length, take, drop}
use Rattle.sv_target.proofs.Prelude.{slice_index, refl, sym, ap, ◌∙◌, arith, bytes_eq, slice_get, cons_option, filter_map, option_and_then, w64, from_be_bytes}
use Rattle.sv_target.proofs.Prelude.{and_parts, eqb-true, nat_tests, take_all, bytes_eq-Decides, cond_some, option_and_then_some, IsBytes, encode_lower, Key}
use Rattle.sv_target.proofs.Prelude.{Secret, Cookie, bytes_of, spelled_bytes, IsCookieOf, IsNameable, cookie_text, names_session, key_of, session_of_cookie}
use Rattle.sv_target.proofs.Prelude.{session_of_bytes, secret_of, session_bytes, session_cookie}
use Rattle.std.specs.Prelude.{Any, IfSome}
use Rattle.std.proofs.lemmas.List.{length-drop, length-take, take-append-drop}
use Rattle.std.proofs.lemmas.Nat.{be_bytes_8}
use Rattle.sv_target.proofs.ByteLemmas.{All-from_bytes, IsBytes-drop, IsBytes-take}
use Rattle.sv_target.proofs.DigitLemmas.{Spells, Spells-bytes_of}

if_true : {Y : Type 0} (b : Bool) (o : Option Y) (y : Y) → cond b o None ≡ Some y → (b ≡ true) × (o ≡ Some y)
if_true true o y some = (refl, some)
if_true false o y some = cc some

-- what a value spells is 26 bytes
Spells-spelled_bytes : (value bytes : List ℕ) → spelled_bytes value ≡ Some bytes → Spells value bytes × (length bytes ≡ 26)
unfolding spelled_bytes
Spells-spelled_bytes value bytes spelled =
    let parts = if_true (length value == 52) (bytes_of value) bytes spelled in
    let spells = Spells-bytes_of value bytes parts.1 in
    let digits = eqb-true (length value) 52 parts.0 in
    (spells, omega (arith, digits, spells.len))

-- 26 bytes are those of the session that they name
session_bytes-of : (bytes : List ℕ) → length bytes ≡ 26 → IsBytes bytes → session_bytes (slice_index bytes 0) (key_of bytes) (secret_of bytes) ≡ bytes
session_bytes-of [] len fit = absurd (omega arith)
session_bytes-of (a ∷ []) len fit = absurd (omega arith)
session_bytes-of (a ∷ b ∷ rest) len fit =
    let behind : IsBytes rest = λ i. fit (suc (suc i)) in
    let eight : length (take 8 rest) ≡ 8 = omega (arith, length-take 8 rest) in
    let serial = be_bytes_8 (take 8 rest) (from_be_bytes w64 (take 8 rest)) eight (IsBytes-take 8 rest behind) refl in
    let secret = take_all 16 (drop 8 rest) (omega (arith, length-drop 8 rest)) in
    ap (λ t. a ∷ b ∷ (t ++ take 16 (drop 8 rest))) serial ∙ ap (λ t. a ∷ b ∷ (take 8 rest ++ t)) secret ∙ ap (λ t. a ∷ b ∷ t) (take-append-drop 8 rest)

from_be_bytes-lt : (bytes : List ℕ) → IsBytes bytes → from_be_bytes w64 bytes < 2 ^ 64
from_be_bytes-lt bytes fit = omega (arith, fit 0, fit 1, fit 2, fit 3, fit 4, fit 5, fit 6, fit 7)

IsNameable-of : (bytes : List ℕ) → length bytes ≡ 26 → IsBytes bytes → (key_of bytes).home < 8 → 0 < (key_of bytes).serial
    → IsNameable (slice_index bytes 0) (key_of bytes) (secret_of bytes)
IsNameable-of bytes len fit home serial =
    let last = drop 10 bytes in
    record {
      context_fits = fit 0;
      home = home;
      serial = serial;
      serial_fits = from_be_bytes-lt (take 8 (drop 2 bytes)) (IsBytes-take 8 (drop 2 bytes) (IsBytes-drop 2 bytes fit));
      secret_len = omega (arith, length-take 16 last, length-drop 10 bytes);
      secret_fits = All-from_bytes (take 16 last) (IsBytes-take 16 last (IsBytes-drop 10 bytes fit));
    }

-- what bytes name
record Names (context : ℕ) (bytes : List ℕ) (key : Key) (secret : Secret) : Type 0 where
  context_is : slice_index bytes 0 ≡ context
  home : (key_of bytes).home < 8
  serial : 0 < (key_of bytes).serial
  key_is : key_of bytes ≡ key
  secret_is : secret_of bytes ≡ secret

Names-session_of_bytes : (context : ℕ) (bytes : List ℕ) (key : Key) (secret : Secret) → session_of_bytes context bytes ≡ Some (key, secret) → Names context bytes key secret
unfolding session_of_bytes
Names-session_of_bytes context bytes key secret named =
    let parts = cond_some (names_session context bytes) _ _ named in
    let tests = and_parts _ _ parts.0 in
    let first = and_parts _ _ tests.0 in
    record {
      context_is = eqb-true _ _ first.0;
      home = grind (arith, nat_tests, first.1);
      serial = grind (arith, nat_tests, tests.1);
      key_is = ap (λ (p : Key × Secret). p.0) parts.1;
      secret_is = ap (λ (p : Key × Secret). p.1) parts.1;
    }

nameable_of : (context : ℕ) (value bytes : List ℕ) (key : Key) (secret : Secret) → Spells value bytes → length bytes ≡ 26 → Names context bytes key secret
    → IsNameable context key secret × (value ≡ cookie_text context key secret)
unfolding cookie_text
nameable_of context value bytes key secret spells len names =
    rw (← names.context_is, ← names.key_is, ← names.secret_is) (
      IsNameable-of bytes len spells.fit names.home names.serial,
      sym (ap encode_lower (session_bytes-of bytes len spells.fit) ∙ spells.text_is),
    )

pub IsCookieOf-session_of_cookie : (name : List ℕ) (context : ℕ) (cookie : Cookie) (key : Key) (secret : Secret) → session_of_cookie name context cookie ≡ Some (key, secret)
    → IsNameable context key secret × IsCookieOf name context key secret cookie
unfolding session_of_cookie
IsCookieOf-session_of_cookie name context cookie key secret named =
    let parts = if_true (bytes_eq cookie.name name) (option_and_then (session_of_bytes context) (spelled_bytes cookie.value)) (key, secret) named in
    option_and_then_some (session_of_bytes context) (spelled_bytes cookie.value) (key, secret) parts.1
    (λ bytes spelled by_bytes.
    let spells = Spells-spelled_bytes cookie.value bytes spelled in
    let its = nameable_of context cookie.value bytes key secret spells.0 spells.1 (Names-session_of_bytes context bytes key secret by_bytes) in
    (its.0, ((bytes_eq-Decides cookie.name name).0 parts.0, its.1)))

-- the first that is named is named by one of the list
Any-by_first : {X Y : Type 0} (names : X → Option Y) (x : X) (xs : List X) (y : Y) (o : Option Y) → names x ≡ o
    → slice_get (cons_option o (filter_map names xs)) 0 ≡ Some y → (slice_get (filter_map names xs) 0 ≡ Some y → Any (λ x. names x ≡ Some y) xs)
    → Any (λ x. names x ≡ Some y) (x ∷ xs)
Any-by_first names x xs y None is first others = let later = others first in (suc later.0, later.1, omega (arith, later.2), later.3, later.4)
Any-by_first names x xs y (Some z) is first others = (0, x, omega arith, refl, is ∙ first)

Any-first : {X Y : Type 0} (names : X → Option Y) (xs : List X) (y : Y) → slice_get (filter_map names xs) 0 ≡ Some y → Any (λ x. names x ≡ Some y) xs
Any-first names [] y first = cc first
Any-first names (x ∷ xs) y first = Any-by_first names x xs y (names x) refl first (Any-first names xs y)

pub IsCookieOf-session_cookie : (name : List ℕ) (context : ℕ) (key : Key) (secret : Secret) (cookies : List Cookie) → session_cookie name cookies context ≡ Some (key, secret)
    → IsNameable context key secret × Any (IsCookieOf name context key secret) cookies
unfolding session_cookie
IsCookieOf-session_cookie name context key secret cookies read =
    let some = Any-first (session_of_cookie name context) cookies (key, secret) read in
    let its = IsCookieOf-session_of_cookie name context some.1 key secret some.4 in
    (its.0, (some.0, some.1, some.2, some.3, its.1))

-- a key that is read is one that a node can make
IfSome-read : (name : List ℕ) (cookies : List Cookie) (context : ℕ) (o : Option (Key × Secret)) → session_cookie name cookies context ≡ o → IfSome o (λ n. (n.0.home < 8) × (0 < n.0.serial))
IfSome-read name cookies context None read = tt
IfSome-read name cookies context (Some n) read =
    let its = IsCookieOf-session_cookie name context n.0 n.1 cookies read in
    (its.0.home, its.0.serial)

pub IfSome-session_cookie : (name : List ℕ) (cookies : List Cookie) (context : ℕ) → IfSome (session_cookie name cookies context) (λ n. (n.0.home < 8) × (0 < n.0.serial))
IfSome-session_cookie name cookies context = IfSome-read name cookies context (session_cookie name cookies context) refl
