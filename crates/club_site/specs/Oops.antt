-- The page of an error.
use Rattle.std.specs.Prelude.{ℕ, List, ◌++◌, codes, unwrap_or}
use Rattle.sv_model.specs.Attributes.{value_of}
use Rattle.sv_servlet.specs.Call.{Asked}
use Rattle.sv_servlet.specs.declared.servlet.Next.{Next}
use Rattle.sv_web.specs.Page.{sent}
use Rattle.sv_web.specs.Work.{Work}
use Rattle.club_site.specs.Frame.{around, begun}

-- a request attribute, or another text where there is none
abbrev pub told : Asked → List ℕ → List ℕ → List ℕ
told call name other = unwrap_or (value_of call.attributes name) other

abbrev pub page : Asked → List ℕ → List ℕ → List ℕ
page call code said = begun call (codes "courts") said ++ around (codes "</p><h1>") code (codes "</h1>")

-- a status, and what is said of it
unfoldable pub shown : Asked → List ℕ → List ℕ → Work Next
shown call code said = sent (page call code said)

abbrev pub oops : Asked → Work Next
oops call = shown call (told call (codes "jakarta.servlet.error.status_code") (codes "500")) (told call (codes "jakarta.servlet.error.message") (codes ""))
