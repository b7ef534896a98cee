use Rattle.sv_dispatch.proofs.Prelude.{refl}
use Rattle.sv_dispatch.proofs.ChainLemmas.{servlets_kept}
use Rattle.sv_dispatch.proofs.RunLemmas.{one_less, serve_none, serves, stays_mode, stays_open}
use Rattle.sv_dispatch.proofs.steps.serve.Goals as goal

pub returns-then-left-eq0-clause-current : goal.returns-then-left-eq0-clause-current
returns-then-left-eq0-clause-current g c e = serve_none _ e _ _ _ c.if-left-eq0.true

pub follow-requires : goal.follow-requires
follow-requires g c = stays_open _ _ c.args.held (servlets_kept _ _ _ refl c.service_at.ensures.same) c.requires

pub returns-clause-held : goal.returns-clause-held
returns-clause-held g c = stays_mode c.follow.result _ _ (servlets_kept _ _ _ refl c.service_at.ensures.same) c.follow.ensures.held

pub returns-clause-current : goal.returns-clause-current
returns-clause-current g c =
    serves c.follow.result _ _ c.args.held _ _ _ _ _ _ _ c.follow.ensures.current (servlets_kept _ _ _ refl c.service_at.ensures.same) (one_less _ c.if-left-eq0.false) c.in_ok-next.ensures.answer c.call.ensures
