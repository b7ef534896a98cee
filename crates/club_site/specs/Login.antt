-- Logging in and out.
use Rattle.std.specs.Prelude.{ℕ, Bool, false, List, ◌++◌, bytes_eq, codes, drop, length, nat_lt, take, unwrap_or, if◌then◌else◌}
use Rattle.hex.specs.Hex.{encode_lower}
use Rattle.sha2.specs.Sha256.{sha256}
use Rattle.sv_servlet.specs.Call.{Asked}
use Rattle.sv_servlet.specs.declared.servlet.Next.{Next}
use Rattle.sv_servlet.specs.declared.servlet.Next.TheVariants.{Done}
use Rattle.sv_web.specs.Csrf.{csrf_token}
use Rattle.sv_web.specs.Page.{sent}
use Rattle.sv_web.specs.Place.{sent_to}
use Rattle.sv_web.specs.Request.{setting}
use Rattle.sv_web.specs.Steps.{change_id, create, invalidate, redirect, set_attribute, set_status}
use Rattle.sv_web.specs.Work.{Ends, Work}
use Rattle.club_site.specs.Frame.{around, begun}
use Rattle.club_site.specs.Language.{next_of, say, text}
use Rattle.club_site.specs.declared.login.TheConstants.{TOKEN}
use Rattle.club_site.specs.declared.language.TheConstants.{LOGIN, LOGIN_DE}

-- what is kept of a member is eight bytes of salt, and the digits of the sum of salt and password
unfoldable pub is_password : List ℕ → List ℕ → Bool
is_password kept password =
    if nat_lt (length kept) 8 then false else bytes_eq (drop 8 kept) (encode_lower (sha256 (take 8 kept ++ password)))

-- the form, which takes with it to which page it leads
abbrev pub form : Asked → List ℕ → List ℕ → List ℕ
form call said token =
    (begun call (codes "login") said ++ around (say call LOGIN.now LOGIN_DE.now) (text call (codes "next")) TOKEN.now)
    ++ around (codes "") token (codes "\"></form>")

abbrev pub shown : Asked → List ℕ → Work Next
shown call said = csrf_token (λ token. sent (form call said token))

-- the form, in a session that is made where there is none
abbrev pub asked : Asked → Work Next
asked call = create (shown call (codes ""))

-- the name is kept under another id, and the client goes on to the page
abbrev pub entered : Asked → List ℕ → Work Next
entered call name = change_id (set_attribute (codes "name") name (sent_to call (next_of call)))

-- the setting of the name
abbrev pub kept_of : Asked → List ℕ
kept_of call = unwrap_or (setting call.settings (text call (codes "name"))) (codes "")

abbrev pub taken : Asked → Work Next
taken call =
    if is_password (kept_of call) (text call (codes "password")) then entered call (text call (codes "name"))
    else set_status 403 (shown call (say call (codes "Please try again.") (codes "Bitte noch einmal.")))

-- the session ends
abbrev pub left : Asked → Work Next
left call = invalidate (redirect (codes "login") (Ends Done))
