-- What is sent as it stands: the look of the pages, and the mark of the shop.
use Rattle.std.specs.Prelude.{ℕ, List, codes}
use Rattle.sv_servlet.specs.Call.{Asked}
use Rattle.sv_servlet.specs.declared.servlet.Next.{Next}
use Rattle.sv_servlet.specs.declared.servlet.Next.TheVariants.{Done}
use Rattle.sv_web.specs.Steps.{set_header, written}
use Rattle.sv_web.specs.Work.{Work}
use Rattle.example_servlets.specs.declared.still.Kind.{Kind}
use Rattle.example_servlets.specs.declared.still.Kind.TheVariants.{Css, Svg}

abbrev pub media_type : Kind → List ℕ
media_type Css = codes "text/css"
media_type Svg = codes "image/svg+xml"

-- the text
abbrev pub still : Kind → List ℕ → Asked → Work Next
still kind text call = set_header (codes "content-type") (media_type kind) (written text Done)
