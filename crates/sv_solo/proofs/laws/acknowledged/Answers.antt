use Rattle.std.proofs.Common.{[]}
use Rattle.sv_solo.proofs.Prelude.{alone, node_of, trace_of}
use Rattle.sv_solo.proofs.TraceLemmas.{all_runs, acknowledged, served_once}
use Rattle.sv_solo.proofs.laws.acknowledged.Goals as goal

pub returns-clause-each : goal.returns-clause-each
returns-clause-each c m untouched can first end calls h = acknowledged m (trace_of m alone (node_of []) calls) end.node (all_runs m untouched can first end calls h)

pub returns-clause-once : goal.returns-clause-once
returns-clause-once c = served_once
