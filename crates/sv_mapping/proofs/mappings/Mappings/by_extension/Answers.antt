use Rattle.sv_mapping.proofs.Prelude.{sym}
use Rattle.sv_mapping.proofs.MatchLemmas.{extension_none, extension_missing, extension_found}
use Rattle.sv_mapping.proofs.mappings.Mappings.by_extension.Goals as goal

pub returns-in_err-extension : goal.returns-in_err-extension
returns-in_err-extension c =
    rw c.from_residual.ensures (extension_none c.args.self.now c.args.path.now (sym c.in_err-extension.ensures))

pub returns-in_err-servlet : goal.returns-in_err-servlet
returns-in_err-servlet c =
    rw c.from_residual-in_err-servlet.ensures
    (extension_missing c.args.self.now c.args.path.now c.in_ok-extension.extension.now (sym c.in_ok-extension.ensures) (sym c.in_err-servlet.ensures))

pub returns : goal.returns
returns c =
    rw c.whole.ensures
    (extension_found c.args.self.now c.args.path.now c.in_ok-extension.extension.now c.in_ok-servlet.servlet (sym c.in_ok-extension.ensures) (sym c.in_ok-servlet.ensures))
