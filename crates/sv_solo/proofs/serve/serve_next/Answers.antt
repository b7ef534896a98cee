use Rattle.std.proofs.Common.{ap, refl, List, ℕ}
use Rattle.std.specs.Io.KnownBytes.{prepend_known}
use Rattle.sv_solo.proofs.Prelude.{held_by, is_single, how}
use Rattle.sv_solo.proofs.ServeLemmas.{asked_by, refused_by}
use Rattle.sv_solo.proofs.serve.serve_next.Goals as goal

pub returns-in-Request-clause-served : goal.returns-in-Request-clause-served
returns-in-Request-clause-served g c =
    let left = g.R.Read.remaining c.arrive.new.reader in
    asked_by g.S.Site.steps c.args.moment c.args.token (is_single c.args.connection.now) (is_single c.arrive.new.connection) _ _ (prepend_known (held_by c.arrive.new.connection) left) c.ask.result c.in-Request.request
    c.arrive.ensures.single (ap (λ (xs : List ℕ). prepend_known xs left) c.ask.ensures.stays.held) c.in-Request.ensures.arrived.1 c.ask.ensures.answered

pub returns-in-Refused-clause-served : goal.returns-in-Refused-clause-served
returns-in-Refused-clause-served g c =
    let left = g.R.Read.remaining c.arrive.new.reader in
    refused_by g.S.Site.steps (how c.args.moment c.args.token (is_single c.args.connection.now)) _ _ (prepend_known (held_by c.arrive.new.connection) left) c.unserved-in-Refused.result c.in-Refused.fault
    c.in-Refused.head_only c.refuse-outcome.result (ap (λ (xs : List ℕ). prepend_known xs left) c.refuse-outcome.ensures.held) c.in-Refused.ensures.arrived.1 refl c.unserved-in-Refused.ensures.outputs
    c.refuse-outcome.ensures.closed c.unserved-in-Refused.ensures.outcome c.refuse-outcome.ensures.page
