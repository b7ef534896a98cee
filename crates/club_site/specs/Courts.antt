-- The page of the courts.
use Rattle.std.specs.Prelude.{ℕ, List, [], ◌∷◌, ◌++◌, codes, decimal, Option, unwrap_or}
use Rattle.std.specs.List.{concat, flat_map}
use Rattle.sv_session.specs.Edit.{Edit}
use Rattle.sv_servlet.specs.Call.{Asked}
use Rattle.sv_servlet.specs.declared.servlet.Next.{Next}
use Rattle.sv_servlet.specs.declared.servlet.Next.TheVariants.{Done}
use Rattle.sv_web.specs.Csrf.{csrf_token}
use Rattle.sv_web.specs.Numeral.{number_in}
use Rattle.sv_web.specs.Page.{sent}
use Rattle.sv_web.specs.Steps.{redirect, set_attribute}
use Rattle.sv_web.specs.Work.{Ends, Looking, Work}
use Rattle.club_site.specs.Frame.{around, begun}
use Rattle.club_site.specs.Kept.{flash, seen}
use Rattle.club_site.specs.Language.{say, text}
use Rattle.club_site.specs.Slots.{booking, place_of}
use Rattle.club_site.specs.declared.courts.TheConstants.{ROWS}
use Rattle.club_site.specs.declared.language.TheConstants.{BOOKED, BOOKED_DE, COURTS, COURTS_DE}

abbrev pub slot_html : ℕ → List ℕ
slot_html slot =
    concat (codes "<li>" ∷ decimal (place_of slot).0 ∷ codes ", " ∷ []) ++ concat (decimal (place_of slot).1 ∷ codes ":00" ∷ [])

-- slots and the end of their list after what is there of a page
unfoldable pub with_slots : List ℕ → List ℕ → List ℕ
with_slots page slots = (page ++ flat_map slot_html slots) ++ codes "</ul>"

-- the page, with what is said and the token of its forms
abbrev pub page : Asked → List ℕ → List ℕ → Edit → List ℕ
page call said token e =
    with_slots (begun call (codes "courts") said ++ around (say call COURTS.now COURTS_DE.now) token ROWS.now) (seen e (codes "slots"))

abbrev pub courts : Asked → Work Next
courts call = flash (λ said. csrf_token (λ token. Looking (λ e. sent (page call said token e))))

-- a number that a form has, or 0
abbrev pub number_of : Asked → List ℕ → ℕ
number_of call name = unwrap_or (number_in 64 (text call name)) 0

-- the next page says why nothing was booked, or that it was
abbrev pub led_back : Asked → Option (List ℕ) → Work Next
led_back call fault = set_attribute (codes "flash") (unwrap_or fault (say call BOOKED.now BOOKED_DE.now)) (redirect (codes "courts") (Ends Done))

abbrev pub taken : Asked → Work Next
taken call = booking call (number_of call (codes "court")) (number_of call (codes "hour")) (led_back call)
