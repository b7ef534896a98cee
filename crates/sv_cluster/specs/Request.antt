-- The request for a path (RFC 9112, section 3), with the cookie of a session (RFC 6265, section 4.2.1).
use Rattle.std.specs.Prelude.{ℕ, List, [], ◌++◌, codes, Option, Some, None}
use Rattle.sv_target.specs.SessionCookie.{cookie_text}
use Rattle.sv_client.specs.declared.session.Session.{Session}

-- carriage return and line feed
abbrev pub line_end : List ℕ
line_end = codes "\r\n"

abbrev pub cookie_field : Session → List ℕ
cookie_field s = codes "Cookie: JSESSIONID=" ++ cookie_text s.context s.key s.secret ++ line_end

abbrev pub cookie_fields : Option Session → List ℕ
cookie_fields None = []
cookie_fields (Some s) = cookie_field s

-- a GET without a body
unfoldable pub request_text : List ℕ → Option Session → List ℕ
request_text path session =
    codes "GET " ++ path ++ codes " HTTP/1.1\r\nHost: localhost\r\n" ++ cookie_fields session ++ line_end
