-- Pages that grow at their end.
use Rattle.std.proofs.Common.{◌≡◌, ap, ◌∙◌, ℕ, List, [], ◌++◌, append_assoc}

pub then_2 : (p0 p1 p2 a b : List ℕ) → p1 ≡ p0 ++ a → p2 ≡ p1 ++ b → p2 ≡ p0 ++ (a ++ b)
then_2 p0 p1 p2 a b first second = second ∙ ap (λ p. p ++ b) first ∙ append_assoc p0 a b

pub then_3 : (p0 p1 p2 p3 a b c : List ℕ) → p1 ≡ p0 ++ a → p2 ≡ p1 ++ b → p3 ≡ p2 ++ c → p3 ≡ p0 ++ (a ++ b ++ c)
then_3 p0 p1 p2 p3 a b c h1 h2 h3 = then_2 p0 p2 p3 (a ++ b) c (then_2 p0 p1 p2 a b h1 h2) h3

pub then_4 : (p0 p1 p2 p3 p4 a b c d : List ℕ) → p1 ≡ p0 ++ a → p2 ≡ p1 ++ b → p3 ≡ p2 ++ c → p4 ≡ p3 ++ d → p4 ≡ p0 ++ (a ++ b ++ c ++ d)
then_4 p0 p1 p2 p3 p4 a b c d h1 h2 h3 h4 = then_2 p0 p3 p4 (a ++ b ++ c) d (then_3 p0 p1 p2 p3 a b c h1 h2 h3) h4

pub then_5 : (p0 p1 p2 p3 p4 p5 a b c d e : List ℕ) → p1 ≡ p0 ++ a → p2 ≡ p1 ++ b → p3 ≡ p2 ++ c → p4 ≡ p3 ++ d → p5 ≡ p4 ++ e → p5 ≡ p0 ++ (a ++ b ++ c ++ d ++ e)
then_5 p0 p1 p2 p3 p4 p5 a b c d e h1 h2 h3 h4 h5 = then_2 p0 p4 p5 (a ++ b ++ c ++ d) e (then_4 p0 p1 p2 p3 p4 a b c d h1 h2 h3 h4) h5

pub then_6 : (p0 p1 p2 p3 p4 p5 p6 a b c d e f : List ℕ) → p1 ≡ p0 ++ a → p2 ≡ p1 ++ b → p3 ≡ p2 ++ c → p4 ≡ p3 ++ d → p5 ≡ p4 ++ e → p6 ≡ p5 ++ f → p6 ≡ p0 ++ (a ++ b ++ c ++ d ++ e ++ f)
then_6 p0 p1 p2 p3 p4 p5 p6 a b c d e f h1 h2 h3 h4 h5 h6 = then_2 p0 p5 p6 (a ++ b ++ c ++ d ++ e) f (then_5 p0 p1 p2 p3 p4 p5 a b c d e h1 h2 h3 h4 h5) h6

pub page_3 : (p0 p1 p2 p3 a b c : List ℕ) → p0 ≡ [] → p1 ≡ p0 ++ a → p2 ≡ p1 ++ b → p3 ≡ p2 ++ c → p3 ≡ a ++ b ++ c
page_3 p0 p1 p2 p3 a b c new h1 h2 h3 = then_3 p0 p1 p2 p3 a b c h1 h2 h3 ∙ ap (λ p. p ++ (a ++ b ++ c)) new

pub page_5 : (p0 p1 p2 p3 p4 p5 a b c d e : List ℕ) → p0 ≡ [] → p1 ≡ p0 ++ a → p2 ≡ p1 ++ b → p3 ≡ p2 ++ c → p4 ≡ p3 ++ d → p5 ≡ p4 ++ e → p5 ≡ a ++ b ++ c ++ d ++ e
page_5 p0 p1 p2 p3 p4 p5 a b c d e new h1 h2 h3 h4 h5 = then_5 p0 p1 p2 p3 p4 p5 a b c d e h1 h2 h3 h4 h5 ∙ ap (λ p. p ++ (a ++ b ++ c ++ d ++ e)) new
