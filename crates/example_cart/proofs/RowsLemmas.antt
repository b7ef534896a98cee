-- Articles and their rows, side by side.
use Rattle.std.proofs.Common.{◌≡◌, ◌⊎◌, refl, sym, ap, ◌∙◌, inl, inr, ℕ, zero, suc, ◌+◌, ◌<◌, ◌≤◌, List, [], ◌∷◌, ◌++◌, length, drop, get_or, min, arith, append_assoc}
use Rattle.std.specs.List.{sum_by, zip}
use Rattle.std.proofs.Math.ListN.{drop_of_length-le}
use Rattle.std.proofs.Math.Seq.{drop-cons}
use Rattle.std.proofs.lemmas.Bool.{cases_lt}
use Rattle.std.proofs.lemmas.List.{append-nil}
use Rattle.example_cart.specs.declared.article.Article.{Article}
use Rattle.example_cart.specs.Cart.{cost}
use Rattle.example_cart.specs.Pages.{Sheet, row_html, rows_html}

zip_with_none : (articles : List Article) → zip {X = ℕ} articles [] ≡ []
zip_with_none [] = refl
zip_with_none (a ∷ more) = refl

html_of_none : (sheet : Sheet) (n : ℕ) (articles : List Article) → rows_html sheet n articles [] ≡ []
html_of_none sheet n [] = refl
html_of_none sheet n (a ∷ more) = refl

-- where the articles or the rows have ended, nothing is left
pub zip_ends : (articles : List Article) (rows : List ℕ) (i : ℕ) → (length articles ≤ i) ⊎ (length rows ≤ i) → zip (drop i articles) (drop i rows) ≡ []
zip_ends articles rows i (inl over) = ap (λ a. zip a (drop i rows)) (drop_of_length-le articles over)
zip_ends articles rows i (inr over) = ap (λ r. zip (drop i articles) r) (drop_of_length-le rows over) ∙ zip_with_none (drop i articles)

pub html_ends : (sheet : Sheet) (articles : List Article) (rows : List ℕ) (i : ℕ) → (length articles ≤ i) ⊎ (length rows ≤ i) → rows_html sheet i (drop i articles) (drop i rows) ≡ []
html_ends sheet articles rows i (inl over) = ap (λ a. rows_html sheet i a (drop i rows)) (drop_of_length-le articles over)
html_ends sheet articles rows i (inr over) = ap (λ r. rows_html sheet i (drop i articles) r) (drop_of_length-le rows over) ∙ html_of_none sheet i (drop i articles)

cons_at : {A : Type 0} (xs : List A) (i : ℕ) (x : A) → i < length xs → x ≡ get_or xs i x → drop i xs ≡ x ∷ drop (i + 1) xs
cons_at xs i x within is =
    let next : suc i ≡ i + 1 = omega arith in
    drop-cons xs i x within ∙ ap (λ y. y ∷ drop (suc i) xs) (sym is) ∙ ap (λ n. x ∷ drop n xs) next

-- the next article's entry
pub next_html : (sheet : Sheet) (articles : List Article) (rows : List ℕ) (i : ℕ) (article : Article) (row : ℕ) → i < length articles → i < length rows
    → article ≡ get_or articles i article → row ≡ get_or rows i row
    → rows_html sheet i (drop i articles) (drop i rows) ≡ row_html sheet i article row ++ rows_html sheet (i + 1) (drop (i + 1) articles) (drop (i + 1) rows)
next_html sheet articles rows i article row in_articles in_rows article_is row_is =
    ap (λ a. rows_html sheet i a (drop i rows)) (cons_at articles i article in_articles article_is)
    ∙ ap (λ r. rows_html sheet i (article ∷ drop (i + 1) articles) r) (cons_at rows i row in_rows row_is)

-- one entry more on the page
pub one_more : (page new entry rest all so : List ℕ) → new ≡ page ++ entry → so ≡ entry ++ rest → page ++ so ≡ all → new ++ rest ≡ all
one_more page new entry rest all so is next so_far =
    ap (λ n. n ++ rest) is ∙ append_assoc page entry rest ∙ ap (λ r. page ++ r) (sym next) ∙ so_far

-- all of them
pub all_done : (page rest all : List ℕ) → rest ≡ [] → page ++ rest ≡ all → page ≡ all
all_done page rest all none so_far = sym (append-nil page) ∙ ap (λ r. page ++ r) (sym none) ∙ so_far

-- one of two has ended
pub one_has_ended : (m n i : ℕ) → min m n ≤ i → (m ≤ i) ⊎ (n ≤ i)
one_has_ended m n i over = elim (cases_lt m n) [ inl below ↦ inl (omega arith) | inr above ↦ inr (omega arith) ]

pub total_ends : (articles : List Article) (rows : List ℕ) (i so_far : ℕ) → (length articles ≤ i) ⊎ (length rows ≤ i)
    → so_far + sum_by cost (zip (drop i articles) (drop i rows)) ≡ sum_by cost (zip articles rows) → so_far ≡ sum_by cost (zip articles rows)
total_ends articles rows i so_far over sum =
    let none : sum_by cost (zip (drop i articles) (drop i rows)) ≡ 0 = ap (sum_by cost) (zip_ends articles rows i over) in
    omega (arith, none, sum)

-- what stands at a place hangs on no default
pub any_default : {A : Type 0} (xs : List A) (i : ℕ) (d e : A) → i < length xs → get_or xs i d ≡ get_or xs i e
any_default [] i d e within = absurd (omega arith)
any_default (x ∷ xs) zero d e within = refl
any_default (x ∷ xs) (suc i) d e within = any_default xs i d e (omega arith)
