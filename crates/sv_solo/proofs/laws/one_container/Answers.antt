use Rattle.std.proofs.Common.{[]}
use Rattle.sv_solo.proofs.Prelude.{alone, node_of, trace_of}
use Rattle.sv_solo.proofs.TraceLemmas.{all_runs, one_container}
use Rattle.sv_solo.proofs.laws.one_container.Goals as goal

pub returns : goal.returns
returns c m untouched can first end calls h = one_container m (trace_of m alone (node_of []) calls) end.node (all_runs m untouched can first end calls h)
