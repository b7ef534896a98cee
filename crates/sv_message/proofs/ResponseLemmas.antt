-- One text after another.
use Rattle.sv_message.proofs.Prelude.{◌≡◌, ◌≤◌, ℕ, List, ◌++◌, length, take, refl, sym, ap, ◌∙◌, arith, append_assoc, length-append, take-take, Result, Ok, Err}
use Rattle.sv_message.proofs.Prelude.{flat_map, field_line}
use Rattle.std.proofs.lemmas.List.{take_at}
use Rattle.std.specs.Prelude.{OnErr}
use Rattle.sv_model.specs.declared.response.Response.{Response}
use Rattle.sv_message.specs.Response.{status_line, length_line, close_line, crlf, head_with}

behind : (old mid new a b : List ℕ) → mid ≡ old ++ a → new ≡ mid ++ b → new ≡ old ++ (a ++ b)
behind old mid new a b first second = second ∙ ap (λ (l : List ℕ). l ++ b) first ∙ append_assoc old a b

-- a head, line by line
pub head_text : (r : Response) (date old o1 o2 o3 o4 o5 new : List ℕ)
    → o1 ≡ old ++ status_line r.status → o2 ≡ o1 ++ date → o3 ≡ o2 ++ flat_map field_line r.fields → o4 ≡ o3 ++ length_line r → o5 ≡ o4 ++ close_line r
    → new ≡ o5 ++ crlf → new ≡ old ++ head_with r date
head_text r date old o1 o2 o3 o4 o5 new e1 e2 e3 e4 e5 e6 =
    behind old o5 new _ crlf (
    behind old o4 o5 _ (close_line r) (
    behind old o3 o4 _ (length_line r) (
    behind old o2 o3 _ (flat_map field_line r.fields) (
    behind old o1 o2 (status_line r.status) date e1 e2) e3) e4) e5) e6

-- what a text was added to is kept
pub kept_in : (old mid new a : List ℕ) → mid ≡ old ++ a → take (length mid) new ≡ mid → take (length old) new ≡ old
kept_in old mid new a text kept =
    let longer : length old ≤ length mid = omega (arith, ap (λ (l : List ℕ). length l) text, length-append old a) in
    sym (take-take (length old) (length mid) new longer) ∙ ap (take (length old)) (kept ∙ text) ∙ take_at old a (length old) refl

-- and what stood in front of it
pub head_kept : (r : Response) (date old o1 o2 o3 o4 o5 new : List ℕ)
    → o1 ≡ old ++ status_line r.status → o2 ≡ o1 ++ date → o3 ≡ o2 ++ flat_map field_line r.fields → o4 ≡ o3 ++ length_line r → o5 ≡ o4 ++ close_line r
    → take (length o5) new ≡ o5 → take (length old) new ≡ old
head_kept r date old o1 o2 o3 o4 o5 new e1 e2 e3 e4 e5 kept =
    kept_in old o1 new (status_line r.status) e1 (
    kept_in o1 o2 new date e2 (
    kept_in o2 o3 new (flat_map field_line r.fields) e3 (
    kept_in o3 o4 new (length_line r) e4 (
    kept_in o4 o5 new (close_line r) e5 kept))))

-- what holds anyway holds on an error
pub on_err : {A E : Type 0} (r : Result A E) (P : Type 0) → P → OnErr r P
on_err (Ok x) P p = tt
on_err (Err e) P p = p
