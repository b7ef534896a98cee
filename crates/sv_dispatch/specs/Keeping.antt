-- What a dispatch leaves of what it was lent, where each object goes on with what it is lent.
use Rattle.std.specs.Prelude.{◌≡◌, ℕ, Bool, true, All}
use Rattle.sv_mapping.specs.declared.dispatcher.Dispatcher.{Dispatcher}
use Rattle.sv_mapping.specs.declared.dispatcher.Dispatcher.TheVariants.{Request, Forward, Include, Error}
use Rattle.sv_servlet.specs.Call.{Asked}
use Rattle.sv_servlet.specs.Filter.{FilterKeeps}
use Rattle.sv_servlet.specs.Servlet.{KeepsLent, Lent, Serves}
use Rattle.sv_dispatch.specs.Dispatching.{Table, dispatched}
use Rattle.sv_dispatch.specs.Sight.{Sight}
use Rattle.sv_dispatch.specs.declared.visit.Ask.{Ask}

-- a servlet goes on with what it is lent
abbrev pub ServletKeeps : Serves → Type 0
ServletKeeps serves = (call : Asked) (l : Lent) → KeepsLent l (serves call l).lent

-- each object does
pub record TableKeeps (t : Table) : Type 0 where
  pub servlets : All (λ r. ServletKeeps r.meaning) t.servlets
  pub filters : All (λ r. FilterKeeps r.meaning) t.filters

abbrev pub includes_by : Dispatcher → Sight → Bool
includes_by Request s = s.is_included
includes_by Forward s = s.is_included
includes_by Include s = true
includes_by Error s = s.is_included

-- the dispatch that is asked for is an include, or lies below one
abbrev pub is_below_include : Ask → Bool
is_below_include a = includes_by a.dispatcher a.view

-- A dispatch goes on with the edit and the reply, where the reply is held exactly below an include: below one its status
-- and its fields stand still.
abbrev pub dispatch_keeps : Type 0
dispatch_keeps =
    (t : Table) (depth : ℕ) (a : Ask) (left : ℕ) (l : Lent) → TableKeeps t → l.reply.is_held ≡ is_below_include a
    → KeepsLent l (dispatched t depth a left l).lent
