-- The page of errors.
use Rattle.std.specs.Prelude.{ℕ, List, [], ◌∷◌, codes, unwrap_or}
use Rattle.std.specs.List.{concat}
use Rattle.sv_model.specs.Attributes.{value_of}
use Rattle.sv_servlet.specs.Call.{Asked}
use Rattle.sv_servlet.specs.declared.servlet.Next.{Next}
use Rattle.sv_web.specs.Html.{escaped}
use Rattle.sv_web.specs.Page.{sent}
use Rattle.sv_web.specs.Work.{Work}

-- what is said of an error
unfoldable pub page_of : List ℕ → List ℕ
page_of message = concat (codes "<!DOCTYPE html><title>Booking</title><p>" ∷ escaped message ∷ [])

abbrev pub oops : Asked → Work Next
oops call = sent (page_of (unwrap_or (value_of call.attributes (codes "jakarta.servlet.error.message")) (codes "")))
