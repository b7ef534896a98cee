use Rattle.sv_target.proofs.Prelude.{◌≡◌, drop, filter_map, session_of_cookie}
use Rattle.sv_target.proofs.jsessionid.session_cookie.Given as goal

abbrev pub invariant-loop-cookie : goal.invariant-loop-cookie
invariant-loop-cookie l = filter_map (session_of_cookie l.name l.context) l.cookies ≡ filter_map (session_of_cookie l.name l.context) (drop l.cookie-index l.cookies)
