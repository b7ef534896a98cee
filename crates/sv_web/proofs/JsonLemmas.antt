-- The value that a text is.
use Rattle.std.proofs.Common.{◌≡◌, refl, sym, ap, ◌∙◌, Bool, true, false, cond, ℕ, List, Option, Some, None}
use Rattle.std.specs.Str.{IsUtf8, is_utf8}
use Rattle.std.proofs.lemmas.Str.{IsUtf8-from_is_utf8, is_utf8-from_IsUtf8}
use Rattle.serde_json.specs.Data.{Data}
use Rattle.serde_json.specs.Read.{read}
use Rattle.sv_web.specs.Json.{value_in}

pub some_value : (text : List ℕ) (d : Data) → IsUtf8 text → read text ≡ Some d → Some d ≡ value_in text
unfolding value_in
some_value text d utf8 is = sym (ap (λ (b : Bool). cond b (read text) None) (is_utf8-from_IsUtf8 text utf8) ∙ is)

by_test : (b : Bool) (text : List ℕ) → b ≡ is_utf8 text → (IsUtf8 text → read text ≡ None) → None ≡ cond b (read text) None
by_test true text is none = sym (none (IsUtf8-from_is_utf8 text (sym is)))
by_test false text is none = refl

pub no_value : (text : List ℕ) → (IsUtf8 text → read text ≡ None) → None ≡ value_in text
unfolding value_in
no_value text none = by_test (is_utf8 text) text refl none
