-- What a filter means (Jakarta Servlet 6.0, chapter "Filtering").
use Rattle.sv_session.specs.Edit.{KeepsEdit}
use Rattle.sv_servlet.specs.Call.{Asked}
use Rattle.sv_servlet.specs.Servlet.{Lent, KeepsLent}
use Rattle.sv_servlet.specs.declared.filter.Before.{Before}

-- what `before` gives back: what was lent, and what it says
pub record Verdict : Type 0 where
  pub lent : Lent
  pub before : Before

abbrev pub verdict : Lent → Before → Verdict
verdict l b = record { lent = l; before = b }

-- a filter's meaning
pub record Filters : Type 0 where
  pub before : Asked → Lent → Verdict
  pub after : Asked → Lent → Lent

-- both calls go on with what was lent
pub record FilterKeeps (f : Filters) : Type 0 where
  pub before : (call : Asked) (l : Lent) → KeepsLent l (f.before call l).lent
  pub after : (call : Asked) (l : Lent) → KeepsLent l (f.after call l)
