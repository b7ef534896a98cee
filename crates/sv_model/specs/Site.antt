-- What a step answers.
use Rattle.std.specs.Prelude.{Result, Ok, Err}

-- an answer with the list that it holds, in place of the vector
abbrev pub with_list : {V L E : Type 0} → (V → L) → Result V E → Result L E
with_list f (Ok v) = Ok (f v)
with_list f (Err e) = Err e
