use Rattle.sv_target.proofs.NamedLemmas.{IsCookieOf-session_cookie}
use Rattle.sv_target.proofs.laws.read_is_written.Goals as goal

pub returns : goal.returns
returns c = IsCookieOf-session_cookie
