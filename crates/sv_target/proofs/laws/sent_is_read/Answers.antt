use Rattle.sv_target.proofs.CookieStringLemmas.{pairs_of-cookie_string}
use Rattle.sv_target.proofs.laws.sent_is_read.Goals as goal

pub returns : goal.returns
returns c = pairs_of-cookie_string
