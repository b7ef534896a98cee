-- What a writer has put after the bytes that were there.
use Rattle.std.specs.Prelude.{OnErr}
use Rattle.std.proofs.Common.{◌≡◌, ◌≤◌, ℕ, Result, Ok, Err, List, [], ◌∷◌, ◌++◌, length, take, refl, sym, ap, ◌∙◌, append_assoc, arith}
use Rattle.std.proofs.lemmas.List.{take_at, length-append, take-take}
use Rattle.std.specs.Int.{w16, to_be_bytes}
use Rattle.std.specs.List.{flat_map}
use Rattle.sv_record.proofs.Prelude.{Two, texts, Session, long, signed, flag, Attribute, Before, at_first, behind, name, value, attribute, attributes, context}
use Rattle.sv_record.proofs.Prelude.{session}

-- one text after the other
pub then_text : (old mid new a rest : List ℕ) → mid ≡ old ++ a → new ≡ mid ++ rest → new ≡ old ++ (a ++ rest)
then_text old mid new a rest first second = second ∙ ap (λ (l : List ℕ). l ++ rest) first ∙ append_assoc old a rest

-- an attribute's text, which is the same after whatever stands before it
abbrev pub attribute_text : Attribute → List ℕ
attribute_text a = (attribute Two at_first).text a

texts_are : (before : Before) (xs : List Attribute) → texts (attribute Two) behind before xs ≡ flat_map attribute_text xs
unfolding attribute name value
texts_are before [] = refl
texts_are before (x ∷ xs) = ap (λ (l : List ℕ). attribute_text x ++ l) (texts_are (behind before x) xs)

pub attributes_text : (xs : List Attribute) → (attributes Two).text xs ≡ to_be_bytes w16 (length xs) ++ flat_map attribute_text xs
unfolding attributes
attributes_text xs = ap (λ (l : List ℕ). to_be_bytes w16 (length xs) ++ l) (texts_are at_first xs)

-- a session's fields one by one
pub session_text : (s : Session) (old o1 o2 o3 o4 o5 o6 new : List ℕ)
    → o1 ≡ old ++ s.secret.0 → o2 ≡ o1 ++ context.text s.context → o3 ≡ o2 ++ long.text s.created → o4 ≡ o3 ++ long.text s.last → o5 ≡ o4 ++ signed.text s.interval → o6 ≡ o5 ++ flag.text s.fresh
    → new ≡ o6 ++ (attributes Two).text s.attributes → new ≡ old ++ (session Two).text s
unfolding session
session_text s old o1 o2 o3 o4 o5 o6 new e1 e2 e3 e4 e5 e6 e7 =
    then_text old o1 new s.secret.0 _ e1 (
    then_text o1 o2 new (context.text s.context) _ e2 (
    then_text o2 o3 new (long.text s.created) _ e3 (
    then_text o3 o4 new (long.text s.last) _ e4 (
    then_text o4 o5 new (signed.text s.interval) _ e5 (
    then_text o5 o6 new (flag.text s.fresh) _ e6 e7)))))

-- what stood in front of one text still stands there
pub front_kept : (old mid new a : List ℕ) → mid ≡ old ++ a → take (length mid) new ≡ mid → take (length old) new ≡ old
front_kept old mid new a text kept =
    let longer : length old ≤ length mid = omega (arith, ap (λ (l : List ℕ). length l) text, length-append old a) in
    sym (take-take (length old) (length mid) new longer) ∙ ap (take (length old)) (kept ∙ text) ∙ take_at old a (length old) refl

-- and what stood in front of a session's fields
pub session_kept : (s : Session) (old o1 o2 o3 o4 o5 o6 new : List ℕ)
    → o1 ≡ old ++ s.secret.0 → o2 ≡ o1 ++ context.text s.context → o3 ≡ o2 ++ long.text s.created → o4 ≡ o3 ++ long.text s.last → o5 ≡ o4 ++ signed.text s.interval → o6 ≡ o5 ++ flag.text s.fresh
    → take (length o6) new ≡ o6 → take (length old) new ≡ old
session_kept s old o1 o2 o3 o4 o5 o6 new e1 e2 e3 e4 e5 e6 kept =
    front_kept old o1 new (s.secret.0) e1 (
    front_kept o1 o2 new (context.text s.context) e2 (
    front_kept o2 o3 new (long.text s.created) e3 (
    front_kept o3 o4 new (long.text s.last) e4 (
    front_kept o4 o5 new (signed.text s.interval) e5 (
    front_kept o5 o6 new (flag.text s.fresh) e6 kept)))))

pub on_err : {T E P : Type 0} (result : Result T E) → P → OnErr result P
on_err (Ok x) p = tt
on_err (Err e) p = p
