-- Formats, and the ways to make one of others.
use Rattle.std.specs.Prelude.{◌≡◌, ◌<◌, ◌^◌, ◌*◌, ℕ, zero, suc, Bool, true, false, List, ◌++◌, [], ◌∷◌, length, Ok, Err, nat_lt, ◌==◌, if◌then◌else◌}
use Rattle.std.specs.Int.{Width, w8, byte_len, to_be_bytes}
use Rattle.sv_record.specs.declared.fault.RecordFault.{RecordFault}
use Rattle.sv_record.specs.declared.fault.RecordFault.TheVariants.{BadField}
use Rattle.sv_record.specs.Reading.{◌>>=◌, Reading, number_at, bytes_at}

-- how a value is spelled, which values have a spelling, and what reading gives
pub record Format (A : Type 0) : Type 1 where
  pub text : A → List ℕ
  pub Fits : A → Type 0
  pub read : List ℕ → Reading A

-- a big-endian number of some bytes
abbrev pub number : Width → Format ℕ
number w = record { text = to_be_bytes w; Fits = λ n. n < 2 ^ (8 * byte_len w); read = number_at w }

-- so many bytes
abbrev pub raw : ℕ → Format (List ℕ)
raw n = record { text = λ bytes. bytes; Fits = λ bytes. length bytes ≡ n; read = bytes_at n }

-- no bytes at all
abbrev pub nothing : Format (Unit {0})
nothing = record { text = λ _. []; Fits = λ _. Unit {0}; read = λ bytes. Ok (tt, bytes) }

-- one after the other, where the second may depend on the first
abbrev pub chain : {A B : Type 0} → Format A → (A → Format B) → Format (A × B)
chain f g = record {
  text = λ x. f.text x.0 ++ (g x.0).text x.1;
  Fits = λ x. f.Fits x.0 × (g x.0).Fits x.1;
  read = λ bytes. f.read bytes >>= λ a. (g a.0).read a.1 >>= λ b. Ok ((a.0, b.0), b.1);
}

-- one after the other
abbrev pub pair : {A B : Type 0} → Format A → Format B → Format (A × B)
pair f g = chain f (λ _. g)

-- the values that pass a test, which is made when the last byte was read
abbrev pub such_that : {A : Type 0} → Format A → (A → Bool) → Format A
such_that f test = record {
  text = f.text;
  Fits = λ a. f.Fits a × (test a ≡ true);
  read = λ bytes. f.read bytes >>= λ a. if test a.0 then Ok a else Err BadField;
}

-- the same as another type
abbrev pub seen_as : {A B : Type 0} → Format A → (A → B) → (B → A) → Format B
seen_as f to from = record {
  text = λ b. f.text (from b);
  Fits = λ b. f.Fits (from b);
  read = λ bytes. f.read bytes >>= λ a. Ok (to a.0, a.1);
}

-- a length that passes a test, and so many bytes
abbrev pub sized : Width → (ℕ → Bool) → Format (List ℕ)
sized w test = record {
  text = λ bytes. to_be_bytes w (length bytes) ++ bytes;
  Fits = λ bytes. (length bytes < 2 ^ (8 * byte_len w)) × (test (length bytes) ≡ true);
  read = λ bytes. number_at w bytes >>= λ n. if test n.0 then bytes_at n.0 n.1 else Err BadField;
}

module _ {S A : Type 0} (item : S → Format A) (next : S → A → S) where
  -- items, each in the state that those before it leave
  abbrev pub texts : S → List A → List ℕ
  texts s [] = []
  texts s (x ∷ xs) = (item s).text x ++ texts (next s x) xs

  -- each fits in its state
  abbrev pub FitAll : S → List A → Type 0
  FitAll s [] = Unit {0}
  FitAll s (x ∷ xs) = (item s).Fits x × FitAll (next s x) xs

  -- so many of them
  abbrev pub reads : ℕ → S → List ℕ → Reading (List A)
  reads zero s bytes = Ok ([], bytes)
  reads (suc n) s bytes = (item s).read bytes >>= λ a. reads n (next s a.0) a.1 >>= λ b. Ok (a.0 ∷ b.0, b.1)

-- a count of at most `most`, and so many items
abbrev pub counted : {S A : Type 0} → Width → ℕ → S → (S → Format A) → (S → A → S) → Format (List A)
counted w most s item next = record {
  text = λ xs. to_be_bytes w (length xs) ++ texts item next s xs;
  Fits = λ xs. (length xs < 2 ^ (8 * byte_len w)) × (nat_lt most (length xs) ≡ false) × FitAll item next s xs;
  read = λ bytes. number_at w bytes >>= λ n. if nat_lt most n.0 then Err BadField else reads item next n.0 s n.1;
}

-- how a value of a kind is read from what is after the kind
abbrev pub ByKind : Type 0 → Type 0
ByKind A = ℕ → List ℕ → Reading A

-- of this kind are the values that `to` makes of what has this format; the others stand further on
abbrev pub kind_at : {A B : Type 0} → ℕ → Format B → (B → A) → ByKind A → ByKind A
kind_at k f to others kind bytes = if kind == k then (f.read bytes >>= λ b. Ok (to b.0, b.1)) else others kind bytes

-- of no kind that is left
abbrev pub no_kind : {A : Type 0} → RecordFault → ByKind A
no_kind fault kind bytes = Err fault

-- a byte for the kind, and what values of that kind have after it
abbrev pub tagged : {A : Type 0} → (A → ℕ) → (A → List ℕ) → (A → Type 0) → ByKind A → Format A
tagged kind_of fields Fits by_kind = record {
  text = λ a. kind_of a ∷ fields a;
  Fits = Fits;
  read = λ bytes. number_at w8 bytes >>= λ kind. by_kind kind.0 kind.1;
}
