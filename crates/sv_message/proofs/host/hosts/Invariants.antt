use Rattle.sv_message.proofs.Prelude.{◌≡◌, ◌≤◌, take, count_by, list_any}
use Rattle.sv_message.specs.Host.{is_bad_host, is_host}
use Rattle.sv_message.proofs.host.hosts.Given as goal

abbrev pub invariant-loop-field : goal.invariant-loop-field
invariant-loop-field l = (l.count ≡ count_by is_host (take l.field-index l.fields)) × (l.count ≤ l.field-index)
    × (l.is_bad ≡ list_any is_bad_host (take l.field-index l.fields))
