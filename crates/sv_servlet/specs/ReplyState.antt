-- A reply as contracts see it.
use Rattle.std.specs.Prelude.{ℕ, ◌≤◌, Bool, List, length}
use Rattle.sv_model.specs.declared.field.Field.{Field}

pub record ReplyState : Type 0 where
  pub status : ℕ
  pub fields : List Field
  pub body : List ℕ
  -- inside an include: the status and the fields stand still
  pub is_held : Bool

-- at most 64 fields, and 262,144 bytes of a body
pub record IsWithin (fields : List Field) (body : List ℕ) : Type 0 where
  pub few : length fields ≤ 64
  pub short : length body ≤ 262_144
