-- What contracts know of a stage.
use Rattle.std.specs.Prelude.{◌≡◌, All, true}
use Rattle.sv_servlet.specs.Servlet.{Lent, lent}
use Rattle.sv_servlet.specs.declared.servlet.Phase.TheVariants.{Ready}
use Rattle.sv_dispatch.specs.Dispatching.{Table}
use Rattle.sv_dispatch.specs.Rows.{IsReadyAt, Row, rows}
use Rattle.sv_dispatch.specs.declared.stage.Stage.{Stage}
use Rattle.sv_servlet.specs.declared.servlet.Servlet as servlet_trait
use Rattle.sv_servlet.specs.declared.filter.Filter as filter_trait

-- its objects and what leads to them, by the ghost members of the two traits
abbrev pub table_of : {S F : Type 0} → servlet_trait.Ghosts S → filter_trait.Ghosts F → Stage S F → Table
table_of servlet filter s = record {
  servlets = rows servlet.serves servlet.servlet_phase s.servlets.items;
  filters = rows filter.filtering filter.filter_phase s.filters.items;
  patterns = s.patterns;
  chains = s.chains.items;
  pages = s.pages.items;
}

-- what is lent
abbrev pub lent_of : {S F : Type 0} → Stage S F → Lent
lent_of s = lent s.edit s.reply

-- an object that is marked as ready is
abbrev pub IsMarked : {M : Type 0} → Row M → Type 0
IsMarked r = r.is_ready ≡ true → r.phase ≡ Ready

-- the servlets' marks are true, and each filter that a mapping names may be called
pub record IsSound (t : Table) : Type 0 where
  pub servlets : All IsMarked t.servlets
  pub filters : All (λ m. IsReadyAt t.filters m.filter) t.chains
