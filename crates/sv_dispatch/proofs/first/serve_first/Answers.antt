use Rattle.sv_dispatch.proofs.Prelude.{refl}
use Rattle.sv_dispatch.proofs.ChainLemmas.{servlets_kept}
use Rattle.sv_dispatch.proofs.FirstLemmas.{serves_first}
use Rattle.sv_dispatch.proofs.RunLemmas.{one_less, serve_none, stays_open}
use Rattle.sv_dispatch.proofs.first.serve_first.Goals as goal

pub returns-then-left-eq0-clause-outcome : goal.returns-then-left-eq0-clause-outcome
returns-then-left-eq0-clause-outcome g c = serve_none _ 15 _ _ _ c.if-left-eq0.true

pub follow_first-requires-clause-held : goal.follow_first-requires-clause-held
follow_first-requires-clause-held g c = stays_open _ _ c.args.held (servlets_kept _ _ _ refl c.service_at.ensures.same) c.requires.held

pub returns-clause-outcome : goal.returns-clause-outcome
returns-clause-outcome g c =
    serves_first c.follow_first.result _ _ c.args.held _ _ _ _ _ _ _ c.follow_first.ensures.outcome (servlets_kept _ _ _ refl c.service_at.ensures.same) (one_less _ c.if-left-eq0.false) c.in_ok-next.ensures.answer c.call.ensures
