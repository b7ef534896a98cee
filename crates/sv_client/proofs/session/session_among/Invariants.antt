use Rattle.sv_client.specs.Session.{NamesNone}
use Rattle.sv_client.proofs.session.session_among.Given as goal

abbrev pub invariant-loop-context : goal.invariant-loop-context
invariant-loop-context l = NamesNone l.context l.cookies
