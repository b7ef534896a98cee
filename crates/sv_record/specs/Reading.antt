-- Reading: a value and the bytes after it, or the first trouble in the order of the bytes.
use Rattle.std.specs.Prelude.{◌≡◌, ◌<◌, ◌^◌, ℕ, ◌==◌, List, length, take, drop, Result, Ok, Err, All, nat_lt, if◌then◌else◌}
use Rattle.std.specs.Int.{Width, byte_len, from_be_bytes}
use Rattle.sv_record.specs.declared.fault.RecordFault.{RecordFault}
use Rattle.sv_record.specs.declared.fault.RecordFault.TheVariants.{Truncated, BadVersion, Foreign, BadField, Memory}

-- what reading gives: a value and the bytes after it
abbrev pub Reading : Type 0 → Type 0
Reading A = Result (A × List ℕ) RecordFault

infixl 10 ◌>>=◌
abbrev pub ◌>>=◌ : {A B : Type 0} → Result A RecordFault → (A → Result B RecordFault) → Result B RecordFault
(Ok x) >>= f = f x
(Err fault) >>= f = Err fault

-- a fault is that of the reading, but for want of memory, of which nothing is said
abbrev pub Fails : {Y : Type 0} → RecordFault → Result Y RecordFault → Type 0
Fails Memory read = Unit {0}
Fails Truncated read = read ≡ Err Truncated
Fails BadVersion read = read ≡ Err BadVersion
Fails Foreign read = read ≡ Err Foreign
Fails BadField read = read ≡ Err BadField

-- what a function returned, seen by `view`, is what the reading gives, unless memory ran out
abbrev pub Gives : {X Y : Type 0} → (X → Y) → Result X RecordFault → Result Y RecordFault → Type 0
Gives view (Ok x) read = read ≡ Ok (view x)
Gives view (Err fault) read = Fails fault read

-- each number is one of a byte
abbrev pub IsBytes : List ℕ → Type 0
IsBytes bytes = All (λ byte. byte < 2 ^ 8) bytes

-- a big-endian number
abbrev pub number_at : Width → List ℕ → Reading ℕ
number_at w bytes =
    if nat_lt (length bytes) (byte_len w) then Err Truncated
    else Ok (from_be_bytes w (take (byte_len w) bytes), drop (byte_len w) bytes)

-- so many bytes
abbrev pub bytes_at : ℕ → List ℕ → Reading (List ℕ)
bytes_at n bytes = if nat_lt (length bytes) n then Err Truncated else Ok (take n bytes, drop n bytes)

-- nothing is left behind
abbrev pub ended : {A : Type 0} → A × List ℕ → Result A RecordFault
ended read = if length read.1 == 0 then Ok read.0 else Err BadField
