-- One text after another.
use Rattle.std.proofs.Common.{◌≡◌, ℕ, List, ◌++◌, ap, ◌∙◌}
use Rattle.std.proofs.lemmas.List.{append_assoc}

behind : (old mid new a b : List ℕ) → mid ≡ old ++ a → new ≡ mid ++ b → new ≡ old ++ (a ++ b)
behind old mid new a b first second = second ∙ ap (λ (l : List ℕ). l ++ b) first ∙ append_assoc old a b

pub three : (old o1 o2 o3 a b c : List ℕ) → o1 ≡ old ++ a → o2 ≡ o1 ++ b → o3 ≡ o2 ++ c → o3 ≡ old ++ (a ++ (b ++ c))
three old o1 o2 o3 a b c e1 e2 e3 = behind old o1 o3 a (b ++ c) e1 (behind o1 o2 o3 b c e2 e3)

pub five : (old o1 o2 o3 o4 o5 a b c d e : List ℕ) → o1 ≡ old ++ a → o2 ≡ o1 ++ b → o3 ≡ o2 ++ c → o4 ≡ o3 ++ d → o5 ≡ o4 ++ e
    → o5 ≡ old ++ (a ++ b ++ c ++ d ++ e)
five old o1 o2 o3 o4 o5 a b c d e e1 e2 e3 e4 e5 =
    behind old o4 o5 (a ++ b ++ c ++ d) e (
    behind old o3 o4 (a ++ b ++ c) d (
    behind old o2 o3 (a ++ b) c (
    behind old o1 o2 a b e1 e2) e3) e4) e5
