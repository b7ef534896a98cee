-- The catalogue.
use Rattle.std.specs.Prelude.{ℕ, List, None}
use Rattle.sv_servlet.specs.Call.{Asked}
use Rattle.sv_servlet.specs.declared.servlet.Next.{Next}
use Rattle.sv_web.specs.Page.{sent}
use Rattle.sv_web.specs.Work.{Looking, Work}
use Rattle.example_cart.specs.declared.article.Article.{Article}
use Rattle.example_servlets.specs.Basket.{offers_of}
use Rattle.example_servlets.specs.Visits.{begun}

abbrev pub shown : List Article → List ℕ → ℕ → Work Next
shown articles base node = Looking (λ e. sent (offers_of articles base node None e))

-- it is shown, in a session that is made where there was none
abbrev pub catalogue : List Article → ℕ → Asked → Work Next
catalogue articles node call = begun node (shown articles call.context_path node)
