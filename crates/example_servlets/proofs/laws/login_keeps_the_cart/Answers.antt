use Rattle.example_servlets.proofs.LoginLemmas.{follows, goes_on}
use Rattle.example_servlets.proofs.laws.login_keeps_the_cart.Goals as goal

pub returns-clause-session : goal.returns-clause-session
returns-clause-session c = goes_on

pub returns-clause-work : goal.returns-clause-work
returns-clause-work c = follows
