-- The languages of the pages.
use Rattle.std.specs.Prelude.{ℕ, true, false, List, bytes_eq, codes, Some, None, unwrap_or, if◌then◌else◌}
use Rattle.sv_servlet.specs.Call.{Asked}
use Rattle.sv_servlet.specs.declared.servlet.Next.{Next}
use Rattle.sv_web.specs.Place.{is_own_path, sent_to}
use Rattle.sv_web.specs.Request.{cookie, parameter}
use Rattle.sv_web.specs.SentCookie.{SentCookie}
use Rattle.sv_web.specs.Steps.{set_cookie}
use Rattle.sv_web.specs.Work.{Work}

-- the text in the language of a request: German where its cookie `lang` is `de`, else English
unfoldable pub say : Asked → List ℕ → List ℕ → List ℕ
say call english german = if bytes_eq (unwrap_or (cookie call.cookies (codes "lang")) (codes "")) (codes "de") then german else english

-- the value of the first parameter of a name, or an empty text
abbrev pub text : Asked → List ℕ → List ℕ
text call name = unwrap_or (parameter call.params name) (codes "")

abbrev pub own_or_courts : List ℕ → List ℕ
own_or_courts path = if is_own_path path then path else codes "/courts"

-- the page of the club that a request names, or that of the courts
abbrev pub next_of : Asked → List ℕ
next_of call = own_or_courts (text call (codes "next"))

abbrev pub code_of : List ℕ → List ℕ
code_of to = if bytes_eq to (codes "de") then codes "de" else codes "en"

-- the cookie of the language that is asked for, which is kept for a year
abbrev pub choice_of : Asked → SentCookie
choice_of call =
    record {
      name = codes "lang";
      value = code_of (text call (codes "to"));
      path = Some call.context_path;
      max_age = Some 31536000;
      is_secure = false;
      is_http_only = true;
      same_site = None;
    }

-- the language is kept, and the client goes on to the page
abbrev pub chosen : Asked → Work Next
chosen call = set_cookie (choice_of call) (sent_to call (next_of call))
