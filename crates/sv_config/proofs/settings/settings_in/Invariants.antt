use Rattle.sv_config.proofs.Prelude.{◌≡◌, ◌++◌, map, table_view, members_view}
use Rattle.sv_config.specs.Values as spec
use Rattle.sv_config.proofs.settings.settings_in.Given as goal

abbrev pub invariant-loop-name : goal.invariant-loop-name
invariant-loop-name l =
    map spec.setting_data l.settings.items ++ spec.settings_in (members_view l.name-iterator) ≡ spec.settings_in (table_view l.table)
