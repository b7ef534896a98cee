-- Lists that are sent.
use Rattle.std.specs.Prelude.{ℕ, ◌==◌, List, [], ◌∷◌, ◌++◌, codes, Option, Some, None, if◌then◌else◌}
use Rattle.std.specs.List.{flat_map}
use Rattle.sv_session.specs.Edit.{Edit}
use Rattle.sv_servlet.specs.Call.{Asked}
use Rattle.sv_servlet.specs.declared.servlet.Next.{Next}
use Rattle.sv_servlet.specs.declared.servlet.Next.TheVariants.{Done, SendError}
use Rattle.sv_web.specs.Csrf.{csrf_token}
use Rattle.sv_web.specs.Html.{escaped}
use Rattle.sv_web.specs.Multipart.{PartOf, part}
use Rattle.sv_web.specs.Page.{sent}
use Rattle.sv_web.specs.Steps.{redirect, set_attribute}
use Rattle.sv_web.specs.Work.{Ends, Looking, Work}
use Rattle.club_site.specs.Frame.{around, begun}
use Rattle.club_site.specs.Kept.{flash, seen}
use Rattle.club_site.specs.Language.{say}
use Rattle.club_site.specs.declared.upload.TheConstants.{TABLE}
use Rattle.club_site.specs.declared.language.TheConstants.{UPLOAD, UPLOAD_DE}

-- a comma begins the next cell, and a line end the next row
abbrev pub byte_html : ℕ → List ℕ
byte_html c = if c == 44 then codes "<td>" else if c == 10 then codes "<tr><td>" else escaped (c ∷ [])

-- the page, with what is said and the token of its form
abbrev pub page : Asked → List ℕ → List ℕ → Edit → List ℕ
page call said token e =
    ((begun call (codes "upload") said ++ around (say call UPLOAD.now UPLOAD_DE.now) token TABLE.now)
    ++ flat_map byte_html (seen e (codes "list"))) ++ codes "</table>"

abbrev pub shown : Asked → Work Next
shown call = flash (λ said. csrf_token (λ token. Looking (λ e. sent (page call said token e))))

-- a list is kept, and the next page says so
unfoldable pub keeping : Asked → List ℕ → Work Next
keeping call list = set_attribute (codes "list") list (set_attribute (codes "flash") (say call (codes "Your list has arrived.") (codes "Ihre Liste ist da.")) (redirect (codes "upload") (Ends Done)))

abbrev pub taken_of : Asked → Option PartOf → Work Next
taken_of call None = Ends (SendError 400 (codes "This form has no file."))
taken_of call (Some p) = keeping call p.content

abbrev pub taken : Asked → Work Next
taken call = taken_of call (part call (codes "file"))
