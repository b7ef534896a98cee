-- Texts by their references.
use Rattle.std.proofs.Common.{◌≡◌, refl, sym, ap, ◌∙◌, subst, ℕ, Bool, true, false, cond, List, [], ◌∷◌, ◌++◌, codes}
use Rattle.std.specs.Prelude.{◌==◌, not}
use Rattle.std.specs.List.{list_all}
use Rattle.std.proofs.lemmas.Bool.{and_from, eqb-true, or_from}
use Rattle.std.proofs.lemmas.List.Folds.{list_all-append}
use Rattle.sv_web.specs.Html.{Reads, Nothing, Plain, Less, Greater, Ampersand, Quote, Apostrophe, escaped, escaped_byte, is_harmless, is_special}

-- a byte, by what the tests of it answer
shown_by : (lt gt amp quote apostrophe : Bool) → ℕ → List ℕ
shown_by lt gt amp quote apostrophe c =
    cond lt (codes "&lt;") (cond gt (codes "&gt;") (cond amp (codes "&amp;") (cond quote (codes "&quot;") (cond apostrophe (codes "&#39;") (c ∷ [])))))

no_test : (c : ℕ) → c == 60 ≡ false → c == 62 ≡ false → c == 38 ≡ false → c == 34 ≡ false → c == 39 ≡ false → is_special c ≡ false
no_test c lt gt amp quote apostrophe = or_from _ _ (or_from _ _ (or_from _ _ (or_from _ _ lt gt) amp) quote) apostrophe

no_harm : (c : ℕ) → c == 60 ≡ false → c == 62 ≡ false → c == 34 ≡ false → c == 39 ≡ false → is_harmless c ≡ true
no_harm c lt gt quote apostrophe = ap not (or_from _ _ (or_from _ _ (or_from _ _ lt gt) quote) apostrophe)

harmless_by : (lt gt amp quote apostrophe : Bool) (c : ℕ) → c == 60 ≡ lt → c == 62 ≡ gt → c == 38 ≡ amp → c == 34 ≡ quote → c == 39 ≡ apostrophe
    → list_all is_harmless (shown_by lt gt amp quote apostrophe c) ≡ true
unfolding shown_by
harmless_by true gt amp quote apostrophe c a b d e f = refl
harmless_by false true amp quote apostrophe c a b d e f = refl
harmless_by false false true quote apostrophe c a b d e f = refl
harmless_by false false false true apostrophe c a b d e f = refl
harmless_by false false false false true c a b d e f = refl
harmless_by false false false false false c a b d e f = and_from _ _ (no_harm c a b e f) refl

harmless_byte : (c : ℕ) → list_all is_harmless (escaped_byte c) ≡ true
unfolding shown_by
harmless_byte c = harmless_by (c == 60) (c == 62) (c == 38) (c == 34) (c == 39) c refl refl refl refl refl

-- no markup is left
pub harmless : (text : List ℕ) → list_all is_harmless (escaped text) ≡ true
unfolding escaped
harmless [] = refl
harmless (c ∷ cs) = list_all-append is_harmless (escaped_byte c) (escaped cs) ∙ and_from _ _ (harmless_byte c) (harmless cs)

reads_by : (lt gt amp quote apostrophe : Bool) (c : ℕ) (html text : List ℕ) → c == 60 ≡ lt → c == 62 ≡ gt → c == 38 ≡ amp → c == 34 ≡ quote → c == 39 ≡ apostrophe
    → Reads html text → Reads (shown_by lt gt amp quote apostrophe c ++ html) (c ∷ text)
unfolding shown_by
reads_by true gt amp quote apostrophe c html text a b d e f rest = subst (λ k. Reads (codes "&lt;" ++ html) (k ∷ text)) (sym (eqb-true c 60 a)) (Less html text rest)
reads_by false true amp quote apostrophe c html text a b d e f rest = subst (λ k. Reads (codes "&gt;" ++ html) (k ∷ text)) (sym (eqb-true c 62 b)) (Greater html text rest)
reads_by false false true quote apostrophe c html text a b d e f rest = subst (λ k. Reads (codes "&amp;" ++ html) (k ∷ text)) (sym (eqb-true c 38 d)) (Ampersand html text rest)
reads_by false false false true apostrophe c html text a b d e f rest = subst (λ k. Reads (codes "&quot;" ++ html) (k ∷ text)) (sym (eqb-true c 34 e)) (Quote html text rest)
reads_by false false false false true c html text a b d e f rest = subst (λ k. Reads (codes "&#39;" ++ html) (k ∷ text)) (sym (eqb-true c 39 f)) (Apostrophe html text rest)
reads_by false false false false false c html text a b d e f rest = Plain c html text (no_test c a b d e f) rest

reads_byte : (c : ℕ) (html text : List ℕ) → Reads html text → Reads (escaped_byte c ++ html) (c ∷ text)
unfolding shown_by
reads_byte c html text rest = reads_by (c == 60) (c == 62) (c == 38) (c == 34) (c == 39) c html text refl refl refl refl refl rest

-- what stands there is read as the text
pub reads : (text : List ℕ) → Reads (escaped text) text
unfolding escaped
reads [] = Nothing
reads (c ∷ cs) = reads_byte c (escaped cs) cs (reads cs)
