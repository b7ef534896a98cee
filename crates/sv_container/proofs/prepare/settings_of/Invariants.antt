use Rattle.sv_container.proofs.Prelude.{◌≡◌, map, take}
use Rattle.sv_container.specs.Deployment as spec
use Rattle.sv_container.proofs.prepare.settings_of.Given as goal

abbrev pub invariant-loop-setting : goal.invariant-loop-setting
invariant-loop-setting l = l.copies.items ≡ map spec.setting_of (take l.setting-index l.settings)
