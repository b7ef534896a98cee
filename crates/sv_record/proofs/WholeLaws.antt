-- All of the bytes: the version, a value, and nothing after.
use Rattle.std.proofs.Common.{◌≡◌, inl, inr, ℕ, eqb, cond, List, [], ◌∷◌, ◌++◌, length, take, Result, Ok, Err, refl, sym, ap, subst, ◌∙◌, lit<}
use Rattle.std.specs.Int.{w8, to_be_bytes}
use Rattle.std.proofs.lemmas.Bool.{eqb-true}
use Rattle.std.proofs.lemmas.List.{append-nil, nil_from_length}
use Rattle.sv_record.proofs.Prelude.{RecordFault, BadVersion, BadField, Version, One, Two, ◌>>=◌, Reading, IsBytes, Gives, number_at, ended, Format}
use Rattle.std.specs.Prelude.{◌↔◌, IfOk}
use Rattle.sv_record.specs.Version.{byte_of, version_at, IsSpelled, spelled, fits, whole}
use Rattle.sv_record.proofs.FormatLaws.{AreBytes, are_bytes, bind_ok, held_ok, chosen, ok_is, Takes, Lawful, number_lawful, wide8}

pub ended_ok : {A : Type 0} (x : A × List ℕ) (a : A) → ended x ≡ Ok a → (x.0 ≡ a) × (x.1 ≡ [])
ended_ok x a e =
    let h = held_ok (eqb (length x.1) 0) BadField (Ok x.0) a e in
    (ok_is x.0 a h.1, nil_from_length x.1 (eqb-true (length x.1) 0 h.0))

-- a version, and the bytes after it
abbrev version_is : Version → List ℕ → Reading Version
version_is v rest = Ok (v, rest)

-- the version that a byte names
abbrev named_by : ℕ × List ℕ → Reading Version
named_by n = cond (eqb n.0 1) (version_is One n.1) (cond (eqb n.0 2) (version_is Two n.1) (Err BadVersion))

byte_text : (v : Version) → to_be_bytes w8 (byte_of v) ≡ byte_of v ∷ []
byte_text One = refl
byte_text Two = refl

byte_takes : (bytes rest : List ℕ) (n : ℕ) (v : Version) (x : Version × List ℕ) → Takes bytes (to_be_bytes w8 n) rest → n ≡ byte_of v → version_is v rest ≡ Ok x → Takes bytes (byte_of x.0 ∷ []) x.1
byte_takes bytes rest n v x t is e =
    let named : Takes bytes (to_be_bytes w8 (byte_of v)) rest = subst (λ (k : ℕ). Takes bytes (to_be_bytes w8 k) rest) is t in
    let text : Takes bytes (byte_of v ∷ []) rest = subst (λ (l : List ℕ). Takes bytes l rest) (byte_text v) named in
    subst (λ (y : Version × List ℕ). Takes bytes (byte_of y.0 ∷ []) y.1) (ok_is (v, rest) x e) text

version_takes : (bytes : List ℕ) (x : Version × List ℕ) → AreBytes bytes → version_at bytes ≡ Ok x → Takes bytes (byte_of x.0 ∷ []) x.1
unfolding version_at
version_takes bytes x all e =
    let n = bind_ok (number_at w8 bytes) named_by x e in
    let t = (number_lawful w8 wide8).takes bytes n.0 all n.1 in
    elim (chosen (eqb n.0.0 1) (version_is One n.0.1) (cond (eqb n.0.0 2) (version_is Two n.0.1) (Err BadVersion)) (Ok x) n.2) [
      | inl one ↦ byte_takes bytes n.0.1 n.0.0 One x t.0 (eqb-true n.0.0 1 one.0) one.1
      | inr other ↦
          let two = held_ok (eqb n.0.0 2) BadVersion (version_is Two n.0.1) x other.1 in
          byte_takes bytes n.0.1 n.0.0 Two x t.0 (eqb-true n.0.0 2 two.0) two.1
    ]

version_again : (v : Version) (rest : List ℕ) → version_at (byte_of v ∷ rest) ≡ Ok (v, rest)
unfolding version_at
version_again One rest =
    let first : number_at w8 (1 ∷ rest) ≡ Ok (1, rest) = (number_lawful w8 wide8).again 1 rest (lit< tt) in
    ap (λ (r : Reading ℕ). r >>= λ n. named_by n) first
version_again Two rest =
    let first : number_at w8 (2 ∷ rest) ≡ Ok (2, rest) = (number_lawful w8 wide8).again 2 rest (lit< tt) in
    ap (λ (r : Reading ℕ). r >>= λ n. named_by n) first

-- two versions of one byte are one
one_version : (v w : Version) → byte_of v ≡ byte_of w → v ≡ w
one_version One One e = refl
one_version One Two e = absurd cc
one_version Two One e = absurd cc
one_version Two Two e = refl

module _ {A : Type 0} (format : Version → Format A) (lawful : (v : Version) → Lawful (format v)) where
  -- bytes are a spelling of a value
  abbrev Spells : List ℕ → A → Type 0
  Spells = IsSpelled (fits format) (spelled format)

  pub whole_takes : (bytes : List ℕ) (a : A) → AreBytes bytes → whole format bytes ≡ Ok a → Spells bytes a
  whole_takes bytes a all e =
      let v = bind_ok (version_at bytes) (λ v. (format v.0).read v.1 >>= ended) a e in
      let t = version_takes bytes v.0 all v.1 in
      let x = bind_ok ((format v.0.0).read v.0.1) ended a v.2 in
      let u = (lawful v.0.0).takes v.0.1 x.0 t.rest_fits x.1 in
      let z = ended_ok x.0 a x.2 in
      let text : v.0.1 ≡ (format v.0.0).text x.0.0 = u.0.parts ∙ ap (λ (l : List ℕ). (format v.0.0).text x.0.0 ++ l) z.1 ∙ append-nil ((format v.0.0).text x.0.0) in
      let is : bytes ≡ spelled format v.0.0 x.0.0 = t.parts ∙ ap (λ (l : List ℕ). byte_of v.0.0 ∷ l) text in
      let made : Spells bytes x.0.0 = record { version = v.0.0; has = u.1; is = is } in
      subst (λ (b : A). Spells bytes b) z.0 made

  pub whole_again : (v : Version) (a : A) → fits format v a → whole format (spelled format v a) ≡ Ok a
  whole_again v a has =
      let read : (format v).read ((format v).text a) ≡ Ok (a, []) = ap (format v).read (sym (append-nil ((format v).text a))) ∙ (lawful v).again a [] has in
      ap (λ (r : Reading Version). r >>= λ v. (format v.0).read v.1 >>= ended) (version_again v ((format v).text a))
      ∙ ap (λ (r : Reading A). r >>= ended) read

  pub whole_gives : (bytes : List ℕ) (a : A) → Spells bytes a → whole format bytes ≡ Ok a
  whole_gives bytes a spells = ap (whole format) spells.is ∙ whole_again spells.version a spells.has

  -- what a function gave
  pub whole_found : (bytes : List ℕ) (result : Result A RecordFault) → AreBytes bytes → Gives (λ a. a) result (whole format bytes) → IfOk result (λ a. Spells bytes a)
  whole_found bytes (Ok a) all gives = whole_takes bytes a all gives
  whole_found bytes (Err fault) all gives = tt

  pub whole_spelled : (bytes : List ℕ) (a : A) → IsBytes bytes → (whole format bytes ≡ Ok a) ↔ Spells bytes a
  whole_spelled bytes a all = (λ e. whole_takes bytes a (are_bytes bytes all) e, λ spells. whole_gives bytes a spells)

  -- two values of one spelling are one
  pub one_value : (bytes : List ℕ) (a b : A) → Spells bytes a → Spells bytes b → a ≡ b
  one_value bytes a b first second = ok_is a b (sym (whole_gives bytes a first) ∙ whole_gives bytes b second)

  -- two spellings of a value that name one version are one
  pub one_spelling : (x y : List ℕ) (a : A) → Spells x a → Spells y a → take 1 x ≡ take 1 y → x ≡ y
  one_spelling x y a first second same =
      let heads : byte_of first.version ∷ [] ≡ byte_of second.version ∷ [] = sym (ap (take 1) first.is) ∙ same ∙ ap (take 1) second.is in
      let bytes : byte_of first.version ≡ byte_of second.version = cc in
      first.is ∙ ap (λ (v : Version). spelled format v a) (one_version first.version second.version bytes) ∙ sym second.is
