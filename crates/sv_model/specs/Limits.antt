-- The limits of a session, and that an engine keeps within them.
use Rattle.std.specs.Prelude.{ℕ, ◌<◌, ◌≤◌, length, All, Option, IfSome, ⊤}
use Rattle.sv_model.specs.Attributes.{attributes_size}
use Rattle.sv_model.specs.declared.key.Key.{Key}
use Rattle.sv_model.specs.declared.key.Secret.{Secret}
use Rattle.sv_model.specs.declared.request.Request.{Request}
use Rattle.sv_model.specs.declared.session.Session.{Session}
use Rattle.sv_model.specs.declared.session.TheConstants.{CONTEXT_LIMIT, ATTRIBUTE_LIMIT, NAME_LIMIT, VALUE_LIMIT, SESSION_LIMIT}
use Rattle.sv_model.specs.declared.outcome.Fate.{Fate}
use Rattle.sv_model.specs.declared.outcome.Fate.TheVariants.{Untouched, Kept, Ended as FateEnded}
use Rattle.sv_model.specs.declared.outcome.Birth.{Birth}
use Rattle.sv_model.specs.declared.outcome.Birth.TheVariants.{Absent, Alive, Ended as BirthEnded}
use Rattle.sv_model.specs.Engine.{EngineMeaning}
use Rattle.sv_model.specs.Keys.{IsKey}

-- the bytes of a session's names and values
abbrev pub session_size : Session → ℕ
session_size s = attributes_size s.attributes

-- what a journal can hold and a packet can carry
pub record IsWithinLimits (s : Session) : Type 0 where
  pub context : s.context < CONTEXT_LIMIT
  pub count : length s.attributes ≤ ATTRIBUTE_LIMIT
  pub named : All (λ e. 0 < length e.0) s.attributes
  pub names : All (λ e. length e.0 ≤ NAME_LIMIT) s.attributes
  pub values : All (λ e. length e.1 ≤ VALUE_LIMIT) s.attributes
  pub size : session_size s ≤ SESSION_LIMIT

-- ---- of an engine

-- the session that a fate keeps is within the limits
abbrev pub KeepsWithin : Fate → Type 0
KeepsWithin Untouched = ⊤
KeepsWithin (Kept s) = IsWithinLimits s
KeepsWithin FateEnded = ⊤

-- the session that a birth brings is within the limits
abbrev pub BringsWithin : Birth → Type 0
BringsWithin Absent = ⊤
BringsWithin (Alive s) = IsWithinLimits s
BringsWithin BirthEnded = ⊤

-- handed a session within the limits, or none, it answers such sessions
abbrev pub KeepsLimits : EngineMeaning → Type 0
KeepsLimits m = (r : Request) (held : Option (Key × Session)) (now : ℕ) (fresh : Key × Secret) → IfSome held (λ h. IsWithinLimits h.1)
    → KeepsWithin (m.serve r held now fresh).fate × BringsWithin (m.serve r held now fresh).birth

-- a key that is named has a home that can be a node, and a serial that can be handed out
abbrev pub NamesKeys : EngineMeaning → Type 0
NamesKeys m = (r : Request) → IfSome (m.names r) (λ n. IsKey n.0)
