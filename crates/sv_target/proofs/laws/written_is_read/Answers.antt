use Rattle.sv_target.proofs.SessionCookieLemmas.{session_cookie-session}
use Rattle.sv_target.proofs.laws.written_is_read.Goals as goal

pub returns : goal.returns
returns c = session_cookie-session
