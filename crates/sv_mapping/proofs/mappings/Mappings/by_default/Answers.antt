use Rattle.sv_mapping.proofs.Prelude.{sym}
use Rattle.sv_mapping.proofs.MatchLemmas.{default_missing, default_found}
use Rattle.sv_mapping.proofs.mappings.Mappings.by_default.Goals as goal

pub returns-in_err-servlet : goal.returns-in_err-servlet
returns-in_err-servlet c =
    rw c.from_residual.ensures (default_missing c.args.self.now c.args.path.now (sym c.in_err-servlet.ensures))

pub returns : goal.returns
returns c =
    rw c.whole.ensures (default_found c.args.self.now c.args.path.now c.in_ok-servlet.servlet (sym c.in_ok-servlet.ensures))
